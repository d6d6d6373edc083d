-- Sets of tiles as numbers: what is in after a tile was added or taken out, and bounds. Each law is one of the field of width 1
-- at the tile's place. Assumes nothing.
use mathlib.Core.Path.{◌≡◌, refl, sym, ap, ap₂, ◌∙◌, subst}
use mathlib.Core.Bool.{Bool, true, false, cond, ◌||◌}
use Prim.Native.Nat.{ℕ, zero, suc, ◌+◌, ◌-◌, ◌*◌, ◌%◌, ◌^◌, ◌≤◌, ◌<◌}
use native.Mathlib.Nat.{div-eq_of_lt, le_refl, lt_of_lt_of_le, lt_of_le_of_lt, one-mul, zero-mul, sub-zero, mod-one, mod-eq_of_lt}
use native.Mathlib.Numerals.{one-add}
use native.Mathlib.Omega.{arith}
use lib.Dec.{T, leb, eqb, lit<}
use lib.Pow.{pow_mono, high_ones, mod-pow-add}
use lib.Bits.{bit_and, bit_or, and_high, or_add_and}
use borrow.Author.Tests.{eqb-true, eqb-false, leb-true, leb-false, le-leb, lt-ltb, le-ltb}
use Rattle.bits.specs.Field.{cut, put}
use Rattle.masks.specs.Mask.{has, add, del, add64}
use Rattle.bits.proofs.WordLaws.{one_shl}
use Rattle.bits.proofs.FieldLaws.{cut_lt, cut_put, cut_put_other, put_lt, put_cut, apart}

has_cut : (m t : ℕ) → has m t ≡ eqb (cut m t 1) 1
unfolding has
has_cut m t = refl

put_one : (m t : ℕ) → put m t 1 1 ≡ put m t 1 0 + 2 ^ t
unfolding put
put_one m t = omega arith

bit : (m t : ℕ) → (b : Bool) → has m t ≡ b → cut m t 1 ≡ cond b 1 0
unfolding has
bit m t true e = eqb-true (cut m t 1) 1 e
bit m t false e =
    let h : cut m t 1 < 2 = cut_lt m t 1 in
    let n : cut m t 1 ≡ 1 → ⊥ = eqb-false (cut m t 1) 1 e in
    omega arith

pub add_put : (m t : ℕ) → add m t ≡ put m t 1 1
unfolding add
add_put m t = go (has m t) refl
  where
    go : (b : Bool) → has m t ≡ b → cond b m (m + 2 ^ t) ≡ put m t 1 1
    go true e = sym (put_cut m t 1) ∙ ap (put m t 1) (bit m t true e)
    go false e = ap (λ (x : ℕ). x + 2 ^ t) (sym (put_cut m t 1) ∙ ap (put m t 1) (bit m t false e)) ∙ sym (put_one m t)

pub del_put : (m t : ℕ) → del m t ≡ put m t 1 0
unfolding del
del_put m t = go (has m t) refl
  where
    go : (b : Bool) → has m t ≡ b → cond b (m - 2 ^ t) m ≡ put m t 1 0
    go true e =
        let q : m ≡ put m t 1 0 + 2 ^ t = sym (put_cut m t 1) ∙ ap (put m t 1) (bit m t true e) ∙ put_one m t in
        omega arith
    go false e = sym (put_cut m t 1) ∙ ap (put m t 1) (bit m t false e)

other : (t u : ℕ) → (t ≡ u → ⊥) → apart t 1 u 1 ≡ true
other t u n = go (leb (t + 1) u) refl
  where
    go : (b : Bool) → leb (t + 1) u ≡ b → (b || leb (u + 1) t) ≡ true
    go true e = refl
    go false e =
        let h : u < t + 1 = leb-false (t + 1) u e in
        le-leb (u + 1) t (omega arith)

pub has_add : (m t : ℕ) → has (add m t) t ≡ true
has_add m t = has_cut (add m t) t ∙ ap (λ (x : ℕ). eqb (cut x t 1) 1) (add_put m t) ∙ ap (λ (x : ℕ). eqb x 1) (cut_put m t 1 1)

pub has_add_other : (m t u : ℕ) → (t ≡ u → ⊥) → has (add m t) u ≡ has m u
has_add_other m t u n =
    has_cut (add m t) u
    ∙ ap (λ (x : ℕ). eqb (cut x u 1) 1) (add_put m t)
    ∙ ap (λ (x : ℕ). eqb x 1) (cut_put_other m t 1 1 u 1 (other t u n))
    ∙ sym (has_cut m u)

pub has_del : (m t : ℕ) → has (del m t) t ≡ false
has_del m t = has_cut (del m t) t ∙ ap (λ (x : ℕ). eqb (cut x t 1) 1) (del_put m t) ∙ ap (λ (x : ℕ). eqb x 1) (cut_put m t 1 0)

pub has_del_other : (m t u : ℕ) → (t ≡ u → ⊥) → has (del m t) u ≡ has m u
has_del_other m t u n =
    has_cut (del m t) u
    ∙ ap (λ (x : ℕ). eqb (cut x u 1) 1) (del_put m t)
    ∙ ap (λ (x : ℕ). eqb x 1) (cut_put_other m t 1 0 u 1 (other t u n))
    ∙ sym (has_cut m u)

-- nobody is in the mask 0, and nobody at or above n in a mask below 2 ^ n
pub has_above : (n m t : ℕ) → m < 2 ^ n → n ≤ t → has m t ≡ false
has_above n m t h l =
    has_cut m t
    ∙ ap (λ (x : ℕ). eqb (x % 2 ^ 1) 1) (div-eq_of_lt {n = m} {m = 2 ^ t} (lt_of_lt_of_le h (pow_mono l)))

pub has_none : (t : ℕ) → has 0 t ≡ false
has_none t = has_above 0 0 t (lit< tt) (omega arith)

pub has_lt : (n m t : ℕ) → m < 2 ^ n → has m t ≡ true → t < n
has_lt n m t h e = go (leb n t) refl
  where
    go : (b : Bool) → leb n t ≡ b → t < n
    go true q = let z : ◌≡◌ {A = Bool} true false = sym e ∙ has_above n m t h (leb-true n t q) in absurd (subst T z tt)
    go false q = leb-false n t q

pub add_lt : (n m t : ℕ) → m < 2 ^ n → t < n → add m t < 2 ^ n
add_lt n m t h l = subst (λ (x : ℕ). x < 2 ^ n) (sym (add_put m t)) (put_lt n m t 1 1 h (omega arith))

pub del_le : (m t : ℕ) → del m t ≤ m
unfolding del
del_le m t = go (has m t)
  where
    go : (b : Bool) → cond b (m - 2 ^ t) m ≤ m
    go true = omega arith
    go false = le_refl m

pub del_lt : (n m t : ℕ) → m < 2 ^ n → del m t < 2 ^ n
del_lt n m t h = lt_of_le_of_lt (del_le m t) h

-- two masks below 2 ^ n with the same tiles below n are one mask
low_ext : (n a b : ℕ) → ((t : ℕ) → t < n → has a t ≡ has b t) → a % 2 ^ n ≡ b % 2 ^ n
low_ext zero a b f = mod-one a ∙ sym (mod-one b)
low_ext (suc n) a b f =
    let digit : cut a n 1 ≡ cut b n 1 = bit a n (has a n) refl ∙ ap (λ (h : Bool). cond h 1 0) (f n (le_refl (suc n))) ∙ sym (bit b n (has b n) refl) in
    let rest : a % 2 ^ n ≡ b % 2 ^ n = low_ext n a b (λ t h. f t (omega arith)) in
    ap (λ (x : ℕ). a % 2 ^ x) (sym (one-add n))
    ∙ mod-pow-add a 1 n
    ∙ ap₂ (λ (x y : ℕ). x * 2 ^ n + y) digit rest
    ∙ sym (mod-pow-add b 1 n)
    ∙ ap (λ (x : ℕ). b % 2 ^ x) (one-add n)

pub ext : (n a b : ℕ) → a < 2 ^ n → b < 2 ^ n → ((t : ℕ) → t < n → has a t ≡ has b t) → a ≡ b
ext n a b ha hb f = sym (mod-eq_of_lt ha) ∙ low_ext n a b f ∙ mod-eq_of_lt hb

-- ---- the code's way: `m & (1 << t)` is the bit where it stands

and_bit : (m t : ℕ) → t < 64 → bit_and m (1 * 2 ^ t % 2 ^ 64) ≡ cut m t 1 * 2 ^ t
and_bit m t h =
    ap (bit_and m)
    (one_shl t h ∙ sym (high_ones 1 t ∙ one-mul (2 ^ t)))
    ∙ and_high m 1 t

pub add_word : (m t : ℕ) → t < 64 → bit_or m (1 * 2 ^ t % 2 ^ 64) ≡ add64 m t
unfolding add
add_word m t h = rw (lt-ltb t 64 h) (go (has m t) refl)
  where
    both : {x : ℕ} → cut m t 1 * 2 ^ t ≡ x → bit_or m (1 * 2 ^ t % 2 ^ 64) + x ≡ m + 2 ^ t
    both e =
        ap (λ (y : ℕ). bit_or m (1 * 2 ^ t % 2 ^ 64) + y) (sym (and_bit m t h ∙ e))
        ∙ or_add_and m (1 * 2 ^ t % 2 ^ 64)
        ∙ ap (λ (y : ℕ). m + y) (one_shl t h)

    go : (b : Bool) → has m t ≡ b → bit_or m (1 * 2 ^ t % 2 ^ 64) ≡ cond b m (m + 2 ^ t)
    go true e = omega (arith, both (ap (λ (x : ℕ). x * 2 ^ t) (bit m t true e) ∙ one-mul (2 ^ t)))
    go false e = omega (arith, both (ap (λ (x : ℕ). x * 2 ^ t) (bit m t false e) ∙ zero-mul (2 ^ t)))

pub add_none : (m t : ℕ) → 64 ≤ t → m ≡ add64 m t
add_none m t h = rw (le-ltb t 64 h)

pub del_word : (m t : ℕ) → t < 64 → m - bit_and m (1 * 2 ^ t % 2 ^ 64) ≡ del m t
unfolding del
del_word m t h = go (has m t) refl
  where
    go : (b : Bool) → has m t ≡ b → m - bit_and m (1 * 2 ^ t % 2 ^ 64) ≡ cond b (m - 2 ^ t) m
    go true e = ap (λ (x : ℕ). m - x) (and_bit m t h ∙ ap (λ (x : ℕ). x * 2 ^ t) (bit m t true e) ∙ one-mul (2 ^ t))
    go false e = ap (λ (x : ℕ). m - x) (and_bit m t h ∙ ap (λ (x : ℕ). x * 2 ^ t) (bit m t false e) ∙ zero-mul (2 ^ t)) ∙ sub-zero m

pub del_none : (m t : ℕ) → m < 2 ^ 64 → 64 ≤ t → m ≡ del m t
unfolding del
del_none m t h l = rw (has_above 64 m t h l)
