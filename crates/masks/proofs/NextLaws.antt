-- The next tile of a mask is at its trailing zeros; and what lies before it is not in the mask. Assumes nothing.
use Prim.Native.Nat.{ℕ, zero, suc, ◌+◌, ◌-◌, ◌/◌, ◌%◌, ◌^◌, ◌≤◌, ◌<◌}
use mathlib.Core.Path.{◌≡◌, refl, sym, ap, ◌∙◌, subst}
use mathlib.Core.Bool.{Bool, true, false, cond}
use native.Mathlib.Omega.{arith}
use native.Mathlib.Numerals.{add-one}
use lib.Dec.{eqb, ltb}
use borrow.Author.Tests.{ltb-true, ltb-false}
use native.Mathlib.Nat.{div-eq_of_lt, lt_of_lt_of_le}
use lib.Pow.{pow_mono, shr-shr, shr_lt}
use lib.Count.{count_trailing_zeros, under}
use Rattle.masks.specs.Mask.{has}
use Rattle.masks.specs.Next.{first_in, next}

up_one : (m i : ℕ) → m / 2 ^ suc i ≡ m / 2 ^ i / 2
up_one m i = ap (λ (k : ℕ). m / 2 ^ k) (sym (add-one i)) ∙ sym (shr-shr m i 1)

none_in : (n i m : ℕ) → m / 2 ^ i ≡ 0 → first_in m i n ≡ 64
unfolding first_in has
none_in zero i m e = refl
none_in (suc n) i m e = rw e (none_in n (suc i) m (up_one m i ∙ ap (λ (x : ℕ). x / 2) e))

some_in : (n i m k : ℕ) → n ≤ k → 0 < m / 2 ^ i → m / 2 ^ i < 2 ^ n → first_in m i n ≡ i + count_trailing_zeros k (m / 2 ^ i)
unfolding first_in has count_trailing_zeros
some_in zero i m k h p b = absurd (omega arith)
some_in (suc n) i m zero h p b = absurd (omega arith)
some_in (suc n) i m (suc k) h p b =
    let half : m / 2 ^ i / 2 < 2 ^ n = shr_lt n 1 (subst (λ (x : ℕ). m / 2 ^ i < 2 ^ x) (sym (add-one n)) b) in
    go (m / 2 ^ i % 2) refl (λ q. some_in n (suc i) m k (omega arith) (subst (λ (x : ℕ). 0 < x) (sym (up_one m i)) q) (subst (λ (x : ℕ). x < 2 ^ n) (sym (up_one m i)) half))
  where
    go : (r : ℕ) → m / 2 ^ i % 2 ≡ r → (0 < m / 2 ^ i / 2 → first_in m (suc i) n ≡ suc i + count_trailing_zeros k (m / 2 ^ suc i)) → cond (eqb r 1) i (first_in m (suc i) n) ≡ i + under r (count_trailing_zeros k (m / 2 ^ i / 2))
    go zero e ih = ih (omega arith) ∙ ap (λ (x : ℕ). suc i + count_trailing_zeros k x) (up_one m i) ∙ omega arith
    go (suc zero) e ih = omega arith
    go (suc (suc r)) e ih = absurd (omega arith)

-- the code's two answers
module _ (m from up : ℕ) (e : up ≡ m / 2 ^ from) where
  pub next_none : up ≡ 0 → 64 ≡ next m from
  unfolding next
  next_none z = sym (none_in (64 - from) from m (sym e ∙ z))

  module _ (fits : m < 2 ^ 64) (some : up ≡ 0 → ⊥) where
    pub from_small : from < 64
    from_small = go (ltb from 64) refl
      where
        go : (b : Bool) → ltb from 64 ≡ b → from < 64
        go true h = ltb-true from 64 h
        go false h = absurd (some (e ∙ div-eq_of_lt (lt_of_lt_of_le fits (pow_mono (ltb-false from 64 h)))))

    pub next_some : from + count_trailing_zeros 64 up ≡ next m from
    unfolding next
    next_some =
        let s : from < 64 = from_small in
        let k : 64 - from + from ≡ 64 = omega arith in
        let b : m / 2 ^ from < 2 ^ (64 - from) = shr_lt (64 - from) from (subst (λ (x : ℕ). m < 2 ^ x) (sym k) fits) in
        let p : 0 < m / 2 ^ from = subst (λ (x : ℕ). 0 < x) e (omega arith) in
        ap (λ (x : ℕ). from + count_trailing_zeros 64 x) e ∙ sym (some_in (64 - from) from m 64 (omega arith) p b)

-- what the next tile is
in_it : (n i m : ℕ) → first_in m i n < 64 → has m (first_in m i n) ≡ true
unfolding first_in
in_it zero i m h = absurd (omega arith)
in_it (suc n) i m h = go (has m i) refl h (in_it n (suc i) m)
  where
    go : (b : Bool) → has m i ≡ b → cond b i (first_in m (suc i) n) < 64 → (first_in m (suc i) n < 64 → has m (first_in m (suc i) n) ≡ true) → has m (cond b i (first_in m (suc i) n)) ≡ true
    go true e h ih = e
    go false e h ih = ih h

pub next_in : (m i : ℕ) → next m i < 64 → has m (next m i) ≡ true
unfolding next
next_in m i h = in_it (64 - i) i m h

-- A walk over n tiles from tile i on, F, that passes over the tiles that are not in the mask, is the walk from the next tile on.
skips : {X : Type 0} (F : ℕ → ℕ → X) (m n : ℕ) → n ≤ 64 → ((i k : ℕ) → has m i ≡ false → F i (suc k) ≡ F (suc i) k) → ((i j : ℕ) → F i 0 ≡ F j 0) → (c i : ℕ) → i + c ≡ 64 → F i (n - i) ≡ F (first_in m i c) (n - first_in m i c)
unfolding first_in
skips F m n s step done zero i h = let e : i ≡ 64 = omega arith in ap (λ (x : ℕ). F x (n - x)) e
skips F m n s step done (suc c) i h = go (has m i) refl (skips F m n s step done c (suc i) (omega arith))
  where
    one : has m i ≡ false → (b : Bool) → ltb i n ≡ b → F i (n - i) ≡ F (suc i) (n - suc i)
    one e true t =
        let q : i < n = ltb-true i n t in
        let k : n - i ≡ suc (n - suc i) = omega arith in
        ap (F i) k ∙ step i (n - suc i) e
    one e false t =
        let q : n ≤ i = ltb-false i n t in
        let a : n - i ≡ 0 = omega arith in
        let b : n - suc i ≡ 0 = omega arith in
        ap (F i) a ∙ done i (suc i) ∙ sym (ap (F (suc i)) b)

    go : (b : Bool) → has m i ≡ b → F (suc i) (n - suc i) ≡ F (first_in m (suc i) c) (n - first_in m (suc i) c) → F i (n - i) ≡ F (cond b i (first_in m (suc i) c)) (n - cond b i (first_in m (suc i) c))
    go true e ih = refl
    go false e ih = one e (ltb i n) refl ∙ ih

pub skip_to_next : {X : Type 0} (F : ℕ → ℕ → X) (m n : ℕ) → n ≤ 64 → ((i k : ℕ) → has m i ≡ false → F i (suc k) ≡ F (suc i) k) → ((i j : ℕ) → F i 0 ≡ F j 0) → (i : ℕ) → i ≤ 64 → F i (n - i) ≡ F (next m i) (n - next m i)
unfolding next
skip_to_next F m n s step done i h = skips F m n s step done (64 - i) i (omega arith)
