-- Shifts and masks of 64 bits as powers of two, at the shifts that a word has and past its end. Assumes nothing.
use mathlib.Core.Path.{◌≡◌, sym, ap, ◌∙◌, subst}
use Prim.Native.Nat.{ℕ, ◌-◌, ◌*◌, ◌/◌, ◌%◌, ◌^◌, ◌≤◌, ◌<◌}
use native.Mathlib.Nat.{lt_of_lt_of_le, div-eq_of_lt, mod-eq_of_lt, one-mul, mul_assoc, mul-mod_left, sub-add_cancel}
use native.Mathlib.Omega.{arith}
use lib.Dec.{lit<}
use lib.Bits.{bit_and, and_mask}
use lib.Pow.{pow_pos, pow_mono, pow-add, shl_exact}

pub below_pow : {w : ℕ} (n : ℕ) → w < 2 ^ 64 → 64 ≤ n → w < 2 ^ n
below_pow n h l = lt_of_lt_of_le h (pow_mono l)

pub shr_past : {w : ℕ} (n : ℕ) → w < 2 ^ 64 → 64 ≤ n → 0 ≡ w / 2 ^ n
shr_past n h l = sym (div-eq_of_lt (below_pow n h l))

pub low_past : {w : ℕ} (n : ℕ) → w < 2 ^ 64 → 64 ≤ n → w ≡ w % 2 ^ n
low_past n h l = sym (mod-eq_of_lt (below_pow n h l))

pub shl_past : (w n : ℕ) → 64 ≤ n → 0 ≡ w * 2 ^ n % 2 ^ 64
shl_past w n l =
    sym
    (ap (λ (x : ℕ). w * 2 ^ x % 2 ^ 64) (sym (sub-add_cancel l))
    ∙ ap (λ (x : ℕ). w * x % 2 ^ 64) (pow-add 2 (n - 64) 64)
    ∙ ap (λ (x : ℕ). x % 2 ^ 64) (sym (mul_assoc w (2 ^ (n - 64)) (2 ^ 64)))
    ∙ mul-mod_left (w * 2 ^ (n - 64)) (2 ^ 64))

-- `1 << n`
pub one_shl : (n : ℕ) → n < 64 → 1 * 2 ^ n % 2 ^ 64 ≡ 2 ^ n
one_shl n h = shl_exact {a = 1} 1 n 64 (lit< tt) (omega arith) ∙ one-mul (2 ^ n)

-- `w & ((1 << n) - 1)`
pub and_ones : (w n : ℕ) → n < 64 → bit_and w (1 * 2 ^ n % 2 ^ 64 - 1) ≡ w % 2 ^ n
and_ones w n h = ap (λ (x : ℕ). bit_and w (x - 1)) (one_shl n h) ∙ and_mask w n

pub one_shl_pos : (n : ℕ) → n < 64 → 1 ≤ 1 * 2 ^ n % 2 ^ 64
one_shl_pos n h = subst (λ (x : ℕ). 1 ≤ x) (sym (one_shl n h)) (pow_pos n)
