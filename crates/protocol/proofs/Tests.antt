-- Tests decided: what holds of `cond`, of one number and of the others, of tiles that are there and of those that are not.
use Prim.Native.Nat.{ℕ, ◌<◌}
use mathlib.Core.Path.{◌≡◌, refl, sym, subst, ◌∙◌}
use mathlib.Core.Bool.{Bool, true, false, cond}
use mathlib.Core.List.{List}
use lib.Dec.{T, eqb, ltb}
use lib.ListN.{length, get_or-eq_default}
use borrow.Author.Tests.{eqb-true, eqb-false, eq-eqb, ltb-true, ltb-false}
use Rattle.protocol.specs.Parts.{Tile}
use Rattle.protocol.specs.Bench.{fresh_tile, tile_at}

pub false_true : false ≡ true → {A : Type 0} → A
false_true e = absurd (subst T (sym e) tt)

pub clash : {A : Type 0} {b : Bool} → b ≡ true → b ≡ false → A
clash t f = false_true (sym f ∙ t)

-- what holds of both sides of a test, and of the side that it takes
pub by_test : {A : Type 0} (P : A → Type 0) (b : Bool) (x y : A) → (b ≡ true → P x) → (b ≡ false → P y) → P (cond b x y)
by_test P true x y p q = p refl
by_test P false x y p q = q refl

pub if_true : {A : Type 0} (P : A → Type 0) {b : Bool} (x y : A) → b ≡ true → P x → P (cond b x y)
if_true P x y e p = subst (λ (z : Bool). P (cond z x y)) (sym e) p

pub if_false : {A : Type 0} (P : A → Type 0) {b : Bool} (x y : A) → b ≡ false → P y → P (cond b x y)
if_false P x y e p = subst (λ (z : Bool). P (cond z x y)) (sym e) p

pub eqb_same : (t : ℕ) → eqb t t ≡ true
eqb_same t = eq-eqb t t refl

-- ---- one number or the others

pub at_or_not : (P : ℕ → Type 0) (t u : ℕ) → P t → ((t ≡ u → ⊥) → P u) → P u
at_or_not P t u here other = go (eqb t u) refl
  where
    go : (b : Bool) → eqb t u ≡ b → P u
    go true e = subst P (eqb-true t u e) here
    go false e = other (eqb-false t u e)

-- ---- tiles that are there

-- what holds of a fresh tile and of every tile below the count holds everywhere
pub everywhere : (P : ℕ → Tile → Type 0) (ts : List Tile) → ((t : ℕ) → P t fresh_tile) → ((t : ℕ) → t < length ts → P t (tile_at ts t)) → (t : ℕ) → P t (tile_at ts t)
everywhere P ts p f t = go (ltb t (length ts)) refl
  where
    go : (b : Bool) → ltb t (length ts) ≡ b → P t (tile_at ts t)
    go true e = f t (ltb-true t (length ts) e)
    go false e = subst (P t) (sym (get_or-eq_default ts fresh_tile (ltb-false t (length ts) e))) (p t)

-- a tile that passes a test which a fresh one fails is there
pub there : (f : Tile → Bool) (ts : List Tile) (t : ℕ) → f fresh_tile ≡ false → f (tile_at ts t) ≡ true → t < length ts
there f ts t e = everywhere (λ (u : ℕ) (x : Tile). f x ≡ true → u < length ts) ts (λ u q. clash q e) (λ u lu q. lu) t
