-- Numbers or-ed together, and tests of numbers in other words. Assumes nothing.
use Prim.Native.Nat.{ℕ, ◌%◌, ◌≤◌, ◌<◌}
use mathlib.Core.Path.{◌≡◌, refl, sym}
use mathlib.Core.Bool.{Bool, true, false, not, ◌&&◌}
use native.Mathlib.Omega.{arith}
use native.Mathlib.Nat.{mod-lt, mod-eq_of_lt}
use lib.Dec.{eqb, ltb, leb}
use lib.Bits.{bit_or, or_add_and, and_le_l, and_le_r}
use borrow.Author.Tests.{eqb-true, eqb-false, ltb-true, ltb-false, lt-leb, eq-eqb, ne_eqb}
use Rattle.layout.specs.Encode.{flag}
use Rattle.layout.specs.Decode.{is_set}

pub flip : (a b : ℕ) → eqb a b ≡ eqb b a
flip a b = go (eqb b a) refl
  where
    go : (e : Bool) → eqb b a ≡ e → eqb a b ≡ e
    go true p = eq-eqb a b (sym (eqb-true b a p))
    go false p = ne_eqb a b (λ (e : a ≡ b). eqb-false b a p (sym e))

pub zero_left : (a : ℕ) → eqb 0 a ≡ eqb a 0
zero_left = flip 0

pub one_left : (a : ℕ) → eqb 1 a ≡ eqb a 1
one_left = flip 1

pub ne_left : (a b : ℕ) → (a ≡ b → ⊥) → eqb b a ≡ false
ne_left a b h = ne_eqb b a (λ e. h (sym e))

-- numbers or-ed are 0 exactly if each is 0
pub or_none : (a b : ℕ) → bit_or a b ≡ 0 → (a ≡ 0) × (b ≡ 0)
or_none a b z =
    let s = or_add_and a b in
    let u = and_le_l a b in
    let v = and_le_r a b in
    (omega arith, omega arith)

pub or_clear : (a b : ℕ) → eqb (bit_or a b) 0 ≡ (eqb a 0 && eqb b 0)
or_clear a b = go (eqb (bit_or a b) 0) refl
  where
    go : (e : Bool) → eqb (bit_or a b) 0 ≡ e → e ≡ (eqb a 0 && eqb b 0)
    go true p =
        let q = or_none a b (eqb-true (bit_or a b) 0 p) in
        sym (rw (q.0, q.1))
    go false p = other (eqb a 0) refl (eqb b 0) refl
      where
        other : (s : Bool) → eqb a 0 ≡ s → (t : Bool) → eqb b 0 ≡ t → false ≡ (s && t)
        other true q true r =
            let x : a ≡ 0 = eqb-true a 0 q in
            let y : b ≡ 0 = eqb-true b 0 r in
            let z : bit_or a b ≡ 0 = rw (x, y) in
            absurd (eqb-false (bit_or a b) 0 p z)
        other true q false r = refl
        other false q t r = refl

-- a number is its remainder exactly if it is below
pub mod_below : (x n : ℕ) → 0 < n → eqb (x % n) x ≡ ltb x n
mod_below x n h = go (ltb x n) refl
  where
    go : (e : Bool) → ltb x n ≡ e → eqb (x % n) x ≡ e
    go true p = eq-eqb (x % n) x (mod-eq_of_lt (ltb-true x n p))
    go false p =
        let m : x % n < n = mod-lt x h in
        let g : n ≤ x = ltb-false x n p in
        ne_eqb (x % n) x (λ (e : x % n ≡ x). omega (arith, m, g, e))

pub equal_self : (a : ℕ) → eqb a a ≡ true
equal_self a = eq-eqb a a refl

-- a flag is 0 or 1
pub flag_below : (x : ℕ) → leb x 1 ≡ eqb (flag (is_set x)) x
unfolding flag is_set
flag_below x = go (eqb x 0) refl (eqb x 1) refl
  where
    go : (a : Bool) → eqb x 0 ≡ a → (b : Bool) → eqb x 1 ≡ b → leb x 1 ≡ eqb (flag (not (eqb x 0))) x
    go true p b q = simp (eqb-true x 0 p)
    go false p true q = simp (eqb-true x 1 q)
    go false p false q =
        let n0 : x ≡ 0 → ⊥ = eqb-false x 0 p in
        let n1 : x ≡ 1 → ⊥ = eqb-false x 1 q in
        rw (p, ne_left x 1 n1, lt-leb x 1 (omega arith))

-- numbers that have to be 0
pub ruleset none = (or_clear, zero_left)
