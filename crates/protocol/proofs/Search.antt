-- The arbitration's search: the first number of a range, or in circle order, that passes a test.
use Prim.Native.Nat.{ℕ, suc, ◌+◌, ◌-◌, ◌≤◌, ◌<◌}
use mathlib.Core.Path.{◌≡◌, refl, sym, ap, ◌∙◌, subst}
use mathlib.Core.Bool.{Bool, cond, true, false, false≢true}
use mathlib.Core.List.{List, [], ◌∷◌, ◌++◌}
use mathlib.Core.Logic.{◌⊎◌, ◌≢◌, inl, inr}
use mathlib.Core.Option.{Option, some, none}
use native.Mathlib.Omega.{arith}
use borrow.Author.Tests.{ltb-true, ltb-false}
use lib.Dec.{ltb}
use lib.ListN.{length}
use Rattle.protocol.specs.Parts.{Tile}
use Rattle.protocol.specs.Home.{range}
use Rattle.protocol.specs.Bench.{tile_at, circle, first_of, eligible}
use Rattle.protocol.proofs.Tests.{by_test, there}

pub split : (a b : ℕ) → (a < b) ⊎ (b ≤ a)
split a b = go (ltb a b) refl
  where
    go : (e : Bool) → ltb a b ≡ e → (a < b) ⊎ (b ≤ a)
    go true e = inl (ltb-true a b e)
    go false e = inr (ltb-false a b e)

some_none : {A B : Type 0} {a : A} → some a ≡ none → B
some_none e = let z : ◌≡◌ {A = ℕ} 0 1 = cc in absurd (omega arith)

-- what is found passes the test
pub first_passes : (f : ℕ → Bool) (xs : List ℕ) (t : ℕ) → first_of f xs ≡ some t → f t ≡ true
unfolding first_of
first_passes f [] t e = some_none (sym e)
first_passes f (x ∷ xs) t e =
    let later = first_passes f xs t in
    by_test (λ (o : Option ℕ). o ≡ some t → f t ≡ true) (f x) _ _ (λ q z. let w : x ≡ t = cc in subst (λ (y : ℕ). f y ≡ true) w q) (λ q. later) e

-- The first that passes the test f, among i, i + 1, .. of which there are n, where t passes: t is not passed.
abbrev pub First : ℕ → ℕ → ℕ → Option ℕ → Type 0
First t i n none = (t < i) ⊎ (i + n ≤ t)
First t i n (some u) = (i ≤ u) × (u < i + n) × ((t < i) ⊎ (u ≤ t))

pub first_range : (f : ℕ → Bool) (t : ℕ) → f t ≡ true → (n i : ℕ) → First t i n (first_of f (range i n))
unfolding first_of range
first_range f t ft ℕ.zero i = go (split t i)
  where
    go : (t < i) ⊎ (i ≤ t) → (t < i) ⊎ (i + 0 ≤ t)
    go (inl h) = inl h
    go (inr h) = inr (omega arith)
first_range f t ft (suc n) i = go (f i) refl (first_range f t ft n (suc i))
  where
    later : f i ≡ false → (t < suc i) → t < i
    later e h = let d : t ≢ i = λ q. false≢true (sym e ∙ (ap f (sym q) ∙ ft)) in omega arith

    shift : f i ≡ false → (o : Option ℕ) → First t (suc i) n o → First t i (suc n) o
    shift e none (inl h) = inl (later e h)
    shift e none (inr h) = inr (omega arith)
    shift e (some u) h = (omega (arith, h.0), omega (arith, h.1), side h.2)
      where
        side : (t < suc i) ⊎ (u ≤ t) → (t < i) ⊎ (u ≤ t)
        side (inl g) = inl (later e g)
        side (inr g) = inr g

    go : (e : Bool) → f i ≡ e → First t (suc i) n (first_of f (range (suc i) n)) → First t i (suc n) (cond e (some i) (first_of f (range (suc i) n)))
    go true e h = (omega arith, omega arith, split t i)
    go false e h = shift e (first_of f (range (suc i) n)) h

unfoldable pub pick : Option ℕ → Option ℕ → Option ℕ
pick none o = o
pick (some u) o = some u

pub first_append : (f : ℕ → Bool) (xs ys : List ℕ) → first_of f (xs ++ ys) ≡ pick (first_of f xs) (first_of f ys)
unfolding first_of pick
first_append f [] ys = refl
first_append f (x ∷ xs) ys = go (f x) (first_append f xs ys)
  where
    go : (e : Bool) → first_of f (xs ++ ys) ≡ pick (first_of f xs) (first_of f ys) → cond e (some x) (first_of f (xs ++ ys)) ≡ pick (cond e (some x) (first_of f xs)) (first_of f ys)
    go true h = refl
    go false h = h

-- the search goes on from the tile after the last taken, and then from 0
pub circle_first : (f : ℕ → Bool) (l n : ℕ) → first_of f (circle l n) ≡ pick (first_of f (range (suc l) (n - suc l))) (first_of f (range 0 (suc l)))
unfolding circle
circle_first f l n = first_append f (range (suc l) (n - suc l)) (range 0 (suc l))

-- where nothing is found, nothing passes
none_passes : (f : ℕ → Bool) (i n t : ℕ) → first_of f (range i n) ≡ none → i ≤ t → t < i + n → f t ≡ false
none_passes f i n t e a b = go (f t) refl
  where
    out : First t i n none → ⊥
    out (inl h) = omega arith
    out (inr h) = omega arith

    go : (x : Bool) → f t ≡ x → f t ≡ false
    go true q = absurd (out (subst (First t i n) e (first_range f t q n i)))
    go false q = q

pub range_none : (f : ℕ → Bool) (n t : ℕ) → first_of f (range 0 n) ≡ none → t < n → f t ≡ false
range_none f n t e lt = none_passes f 0 n t e (omega arith) (omega arith)

pub circle_none : (f : ℕ → Bool) (l n t : ℕ) → first_of f (circle l n) ≡ none → t < n → f t ≡ false
unfolding pick
circle_none f l n t e lt = go (first_of f (range (suc l) (n - suc l))) refl (sym (circle_first f l n) ∙ e) (split l t)
  where
    go : (o : Option ℕ) → first_of f (range (suc l) (n - suc l)) ≡ o → pick o (first_of f (range 0 (suc l))) ≡ none → (l < t) ⊎ (t ≤ l) → f t ≡ false
    go (some u) q z s = some_none z
    go none q z (inl h) = none_passes f (suc l) (n - suc l) t q (omega arith) (omega arith)
    go none q z (inr h) = range_none f (suc l) t z (omega arith)

-- a tile that can be taken is one of the bench
pub eligible_below : (mark : Bool) (ts : List Tile) (t : ℕ) → eligible mark (tile_at ts t) ≡ true → t < length ts
unfolding eligible
eligible_below mark ts t = there (eligible mark) ts t refl
