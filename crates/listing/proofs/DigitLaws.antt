-- Digits of numbers, how many there are, and how many of a decimal, four at a time. Assumes nothing.
use Prim.Native.Nat.{ℕ, suc, ◌+◌, ◌*◌, ◌/◌, ◌%◌, ◌^◌, ◌≤◌, ◌<◌}
use mathlib.Core.Path.{◌≡◌, refl, ap, sym, ◌∙◌}
use mathlib.Core.Bool.{Bool, cond, true, false}
use mathlib.Core.List.{List, [], ◌∷◌, ◌++◌}
use native.Mathlib.Omega.{arith}
use native.Mathlib.Nat.{pow-suc, div-lt_iff_lt-mul, le_trans, pow-le-pow_right}
use native.Mathlib.Numerals.{add-one}
use lib.Dec.{ltb, lit<}
use lib.ListN.{length, get_or, length-append}
use borrow.Author.Count.{below_none, below_more}
use borrow.Author.Tests.{lt-ltb, le-ltb, ltb-true, ltb-false}
use Rattle.listing.specs.Digits.{digit_byte, digits, decimal_from, decimal, number_then}

-- the digits, one by one
pub digit_table : (d : ℕ) → d < 16 → get_or (48 ∷ 49 ∷ 50 ∷ 51 ∷ 52 ∷ 53 ∷ 54 ∷ 55 ∷ 56 ∷ 57 ∷ 65 ∷ 66 ∷ 67 ∷ 68 ∷ 69 ∷ 70 ∷ []) d 0 ≡ digit_byte d
unfolding digit_byte
digit_table = below_more _ 15 (below_more _ 14 (below_more _ 13 (below_more _ 12 (below_more _ 11 (below_more _ 10 (below_more _ 9 (below_more _ 8 (below_more _ 7 (below_more _ 6 (below_more _ 5 (below_more _ 4 (below_more _ 3 (below_more _ 2 (below_more _ 1 (below_more _ 0 (below_none _) refl) refl) refl) refl) refl) refl) refl) refl) refl) refl) refl) refl) refl) refl) refl) refl

pub length_digits : (b k n : ℕ) → length (digits b k n) ≡ k
unfolding digits
length_digits b ℕ.zero n = refl
length_digits b (suc k) n = length-append (digits b k (n / b)) (digit_byte (n % b) ∷ []) ∙ rw (length_digits b k (n / b), add-one)

-- a number and the byte behind it
pub then_length : (n e : ℕ) → length (number_then n e) ≡ length (decimal n) + 1
then_length n e = length-append (decimal n) (e ∷ [])

-- a number of one digit, and of more
pub one_digit : (f n : ℕ) → n < 10 → decimal_from (suc f) n ≡ digit_byte n ∷ []
unfolding decimal_from
one_digit f n h = rw (lt-ltb n 10 h)

pub more_digits : (f n : ℕ) → 10 ≤ n → decimal_from (suc f) n ≡ decimal_from f (n / 10) ++ (digit_byte (n % 10) ∷ [])
unfolding decimal_from
more_digits f n h = rw (le-ltb n 10 h)

-- at most f digits
pub decimal_le : (f n : ℕ) → length (decimal_from f n) ≤ f
unfolding decimal_from
decimal_le ℕ.zero n = omega arith
decimal_le (suc f) n = go (ltb n 10) (decimal_le f (n / 10))
  where
    go : (t : Bool) → length (decimal_from f (n / 10)) ≤ f → length (cond t (digit_byte n ∷ []) (decimal_from f (n / 10) ++ (digit_byte (n % 10) ∷ []))) ≤ suc f
    go true h = omega arith
    go false h = omega (arith, length-append (decimal_from f (n / 10)) (digit_byte (n % 10) ∷ []))

-- the last digit is counted apart
pub one_more : (f n : ℕ) → 10 ≤ n → length (decimal_from (suc f) n) ≡ 1 + length (decimal_from f (n / 10))
one_more f n h = ap length (more_digits f n h) ∙ length-append (decimal_from f (n / 10)) (digit_byte (n % 10) ∷ []) ∙ omega arith

-- a decimal is that many last digits
pub decimal_digits : (f n : ℕ) → digits 10 (length (decimal_from f n)) n ≡ decimal_from f n
unfolding decimal_from digits
decimal_digits ℕ.zero n = refl
decimal_digits (suc f) n = go (decimal_digits f (n / 10)) (ltb n 10) refl
  where
    go : digits 10 (length (decimal_from f (n / 10))) (n / 10) ≡ decimal_from f (n / 10) → (b : Bool) → ltb n 10 ≡ b → digits 10 (length (decimal_from (suc f) n)) n ≡ decimal_from (suc f) n
    go ih true e =
        let s : n % 10 ≡ n = omega (arith, ltb-true n 10 e) in
        rw (one_digit f n (ltb-true n 10 e)) (ap (λ (d : ℕ). digit_byte d ∷ []) s)
    go ih false e =
        rw (more_digits f n (ltb-false n 10 e), length-append (decimal_from f (n / 10)) (digit_byte (n % 10) ∷ []), add-one)
        (ap (λ (l : List ℕ). l ++ (digit_byte (n % 10) ∷ [])) ih)

upper : (k n : ℕ) → 10 ^ suc k ≤ n → 10 ^ k ≤ n / 10
upper k n l = omega (arith, rw pow-suc at l)

lower : (k n : ℕ) → n < 10 ^ suc k → n / 10 < 10 ^ k
lower k n l = (div-lt_iff_lt-mul {k = 10} {x = n} {y = 10 ^ k} (lit< tt)).1 (rw pow-suc at l)

-- between two powers of ten, as many digits as the greater one's exponent
width : (k f n : ℕ) → 10 ^ k ≤ n → n < 10 ^ suc k → k < f → length (decimal_from f n) ≡ suc k
width k ℕ.zero n h u l = absurd (omega arith)
width ℕ.zero (suc f) n h u l = ap length (one_digit f n u)
width (suc k) (suc f) n h u l =
    let t : 10 ≤ n = le_trans (pow-le-pow_right {n = 10} (lit< tt) {i = 1} {j = suc k} (omega arith)) h in
    let w : length (decimal_from f (n / 10)) ≡ suc k = width k f (n / 10) (upper k n h) (lower (suc k) n u) (omega arith) in
    one_more f n t ∙ omega (arith, w)

-- the digits of a number whose greatest power of ten is known
pub by_power : (n k : ℕ) → 10 ^ k ≤ n → n < 10 * 10 ^ k → k < 20 → k + 1 ≡ length (decimal n)
by_power n k h u l = omega (arith, width k 20 n h (rw pow-suc (omega arith)) l)

pub below_ten : (n : ℕ) → n < 10 → 1 ≡ length (decimal n)
below_ten n h = sym (ap length (one_digit 19 n h))

pub decimal_most : (n : ℕ) → length (decimal n) ≤ 20
decimal_most n = decimal_le 20 n
