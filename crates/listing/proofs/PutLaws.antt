-- Digits put from the last to the first: what is left to write, written over what stands there now, is the whole written over the buffer as
-- it was. Assumes nothing.
use Prim.Native.Nat.{ℕ, suc, ◌+◌, ◌-◌, ◌*◌, ◌/◌, ◌%◌, ◌≤◌, ◌<◌}
use mathlib.Core.Path.{◌≡◌, refl, ap, sym, ◌∙◌, subst}
use mathlib.Core.Bool.{Bool, true}
use mathlib.Core.List.{List, [], ◌∷◌, ◌++◌}
use native.Mathlib.Omega.{arith}
use lib.Dec.{leb}
use lib.ListN.{length, set, length-set}
use borrow.Author.Tests.{lt-ltb}
use Rattle.lists.specs.Over.{over, Put, Placed}
use Rattle.lists.proofs.OverLaws.{over_nil, over_one, over_last, has_room_lem, with_room}
use Rattle.listing.specs.Digits.{digit_byte, digits, decimal}
use Rattle.listing.proofs.DigitLaws.{length_digits, one_digit, decimal_digits}

pub digits_turn : (l m : List ℕ) (at base left rest d : ℕ) → 0 < left → at + left ≤ length l → d ≡ digit_byte (rest % base) → over l at (digits base left rest) ≡ m →
    over (set l (at + (left - 1)) d) at (digits base (left - 1) (rest / base)) ≡ m
unfolding digits
digits_turn l m at base left rest d h k e f = go left h k f
  where
    go : (left : ℕ) → 0 < left → at + left ≤ length l → over l at (digits base left rest) ≡ m → over (set l (at + (left - 1)) d) at (digits base (left - 1) (rest / base)) ≡ m
    go ℕ.zero h k f = absurd (omega arith)
    go (suc n) h k f =
        let s : suc n - 1 ≡ n = omega arith in
        let xs : List ℕ = digits base n (rest / base) in
        rw s (ap (λ (j : ℕ). over (set l (at + j) d) at xs) (sym (length_digits base n (rest / base)))
        ∙ over_last l at xs d (omega (arith, length_digits base n (rest / base)))
        ∙ ap (λ (x : ℕ). over l at (xs ++ (x ∷ []))) e ∙ f)

pub digits_put : (l m : List ℕ) (at base count n left rest : ℕ) → left ≤ 0 → over l at (digits base left rest) ≡ over m at (digits base count n) → Put m l at (at + count) (digits base count n)
unfolding digits
digits_put l m at base count n left rest h e =
    let s : left ≡ 0 = omega arith in
    let f : over l at (digits base 0 rest) ≡ over m at (digits base count n) = rw s at e in
    record { place = omega (arith, length_digits base count n); buffer = sym (over_nil l at) ∙ f }

-- a decimal digit
pub ten_digit : (d : ℕ) → d < 10 → 48 + d ≡ digit_byte d
unfolding digit_byte
ten_digit d h = sym (rw (lt-ltb d 10 h))

-- two of them at a time
pub tens_turn : (l m : List ℕ) (at left rest : ℕ) → 1 < left → at + left ≤ length l → over l at (digits 10 left rest) ≡ m →
    over (set (set l (at + (left - 1)) (48 + rest % 100 % 10)) (at + (left - 1 - 1)) (48 + rest % 100 / 10)) at (digits 10 (left - 1 - 1) (rest / 100)) ≡ m
tens_turn l m at left rest h k e =
    let low : 48 + rest % 100 % 10 ≡ digit_byte (rest % 10) = ap (λ (d : ℕ). 48 + d) (omega arith) ∙ ten_digit (rest % 10) (omega arith) in
    let high : 48 + rest % 100 / 10 ≡ digit_byte (rest / 10 % 10) = ap (λ (d : ℕ). 48 + d) (omega arith) ∙ ten_digit (rest / 10 % 10) (omega arith) in
    let s : rest / 10 / 10 ≡ rest / 100 = omega arith in
    let l' : List ℕ = set l (at + (left - 1)) (48 + rest % 100 % 10) in
    let one : over l' at (digits 10 (left - 1) (rest / 10)) ≡ m = digits_turn l m at 10 left rest _ (omega arith) k low e in
    let long : length l' ≡ length l = length-set l (at + (left - 1)) _ in
    rw (← s) (digits_turn l' m at 10 (left - 1) (rest / 10) _ (omega arith) (omega (arith, long)) high one)

-- the last one of an odd number
pub tens_last : (l m : List ℕ) (at count n left rest : ℕ) → 0 < left → left ≤ 1 → at + left ≤ length l → over l at (digits 10 left rest) ≡ over m at (digits 10 count n) →
    Put m (set l (at + (left - 1)) (48 + rest % 10)) at (at + count) (digits 10 count n)
tens_last l m at count n left rest h u k e =
    digits_put _ m at 10 count n (left - 1) (rest / 10) (omega arith) (digits_turn l _ at 10 left rest _ h k (ten_digit (rest % 10) (omega arith)) e)

-- two at a time, behind r digits
pub pair_turn : (l m : List ℕ) (at r p rest : ℕ) → 0 < p → at + (r + 2 * p) ≤ length l → over l at (digits 10 (r + 2 * p) rest) ≡ m →
    over (set (set l (at + r + 2 * (p - 1) + 1) (48 + rest % 100 % 10)) (at + r + 2 * (p - 1)) (48 + rest % 100 / 10)) at (digits 10 (r + 2 * (p - 1)) (rest / 100)) ≡ m
pair_turn l m at r p rest h k e =
    let a : at + r + 2 * (p - 1) + 1 ≡ at + (r + 2 * p - 1) = omega arith in
    let b : at + r + 2 * (p - 1) ≡ at + (r + 2 * p - 1 - 1) = omega arith in
    let c : r + 2 * (p - 1) ≡ r + 2 * p - 1 - 1 = omega arith in
    rw (a, b, c) (tens_turn l m at (r + 2 * p) rest (omega arith) k e)

pub pairs_last : (l m : List ℕ) (at count n r p rest : ℕ) → p ≤ 0 → 0 < r → r ≤ 1 → at + r ≤ length l → over l at (digits 10 (r + 2 * p) rest) ≡ over m at (digits 10 count n) →
    Put m (set l at (48 + rest % 10)) at (at + count) (digits 10 count n)
pairs_last l m at count n r p rest h z u k e =
    let s : at + (r + 2 * p - 1) ≡ at = omega arith in
    rw s at (tens_last l m at count n (r + 2 * p) rest (omega arith) (omega arith) (omega arith) e)

-- a number in decimal is that many last digits, or one digit
pub number_put : (l m : List ℕ) (at next n w : ℕ) → w ≡ length (decimal n) → Put l m at next (digits 10 w n) → Put l m at next (decimal n)
number_put l m at next n w e p = subst (λ (vs : List ℕ). Put l m at next vs) (ap (λ (k : ℕ). digits 10 k n) e ∙ decimal_digits 20 n) p

pub one_put : (l : List ℕ) (at n : ℕ) → n < 10 → at < length l → Put l (set l at (48 + n)) at (at + 1) (decimal n)
one_put l at n u h =
    let d : decimal n ≡ (48 + n) ∷ [] = one_digit 19 n u ∙ ap (λ (b : ℕ). b ∷ []) (sym (ten_digit n u)) in
    rw d (record { place = refl; buffer = over_one l at (48 + n) h })

pub one_wide : (n w : ℕ) → n < 10 → w ≡ length (decimal n) → w ≡ 1
one_wide n w u e = e ∙ ap length (one_digit 19 n u)

-- ---- a line put where there is room for it
pub line_fits : {b : Bool} (l m : List ℕ) (i j n : ℕ) (vs : List ℕ) → n ≡ length vs → b ≡ leb (i + n) (length l) → b ≡ true → (i + n ≤ length l → Put l m i j vs) → Placed l m i j vs
line_fits l m i j n vs s e t p = with_room l m i j n vs s e t (p (has_room_lem (length l) i n e t))
