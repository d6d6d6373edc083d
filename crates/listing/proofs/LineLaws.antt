-- How long each line is, and lines put together of their parts. Assumes nothing.
use Prim.Native.Nat.{ℕ, ◌+◌, ◌*◌, ◌/◌, ◌≤◌, ◌<◌}
use mathlib.Core.Path.{◌≡◌, refl, ap, sym, ◌∙◌}
use mathlib.Core.List.{List, [], ◌∷◌, ◌++◌}
use native.Mathlib.Omega.{arith}
use native.Mathlib.Numerals.{add-one}
use lib.ListN.{length, get_or, drop, length-append, drop_of_length-le}
use lib.Seq.{drop-cons}
use Rattle.lists.specs.Over.{over, Put, Placed}
use Rattle.lists.proofs.OverLaws.{over_nil, over_over, does_not_fit, join, four_put}
use Rattle.listing.specs.Digits.{ascii, hex12, decimal, number_then}
use Rattle.listing.specs.Lines.{bench_line, call_line, flit_text, flits_text, message_line, end_line, refused_line}
use Rattle.listing.proofs.DigitLaws.{length_digits, then_length}

-- ---- the first line
pub bench_length : (tiles address w : ℕ) → w ≡ length (decimal tiles) → w + 20 ≡ length (bench_line tiles address)
unfolding bench_line
bench_length tiles address w e =
    omega (arith, length-append (number_then tiles 32) (hex12 address ++ (10 ∷ [])), length-append (hex12 address) (10 ∷ []), length_digits 16 12 address, then_length tiles 32)

pub bench_put : (l m n : List ℕ) (i j k tiles address : ℕ) → i ≤ length l → Put l m i j (ascii "bench " ++ number_then tiles 32) → Put m n j k (hex12 address ++ (10 ∷ []))
    → Put l n i k (bench_line tiles address)
unfolding bench_line
bench_put l m n i j k tiles address h p q = four_put l m n i j k (ascii "bench ") (number_then tiles 32) (hex12 address) (10 ∷ []) h p q

-- ---- a call's line
pub call_length : (number refusal kind value a b c d : ℕ) → a ≡ length (decimal number) → b ≡ length (decimal refusal) → c ≡ length (decimal kind) → d ≡ length (decimal value) →
    a + b + c + d + 4 ≡ length (call_line number refusal kind value)
unfolding call_line
call_length number refusal kind value a b c d p q r s =
    sym (simp length-append (omega (arith, then_length number 32, then_length refusal 32, then_length kind 32, then_length value 10)))

pub call_put : (l l₁ l₂ l₃ m : List ℕ) (i p₁ p₂ p₃ k number refusal kind value : ℕ) → i ≤ length l → p₁ ≤ length l₁ → p₂ ≤ length l₂ → Put l l₁ i p₁ (number_then number 32) →
    Put l₁ l₂ p₁ p₂ (number_then refusal 32) → Put l₂ l₃ p₂ p₃ (number_then kind 32) → Put l₃ m p₃ k (number_then value 10) → Put l m i k (call_line number refusal kind value)
unfolding call_line
call_put l l₁ l₂ l₃ m i p₁ p₂ p₃ k number refusal kind value h h₁ h₂ p q r s =
    join l l₁ m i p₁ k _ _ h p (join l₁ l₂ m p₁ p₂ k _ _ h₁ q (join l₂ l₃ m p₂ p₃ k _ _ h₂ r s))

-- ---- a message's line
pub length_flits : (fs : List ℕ) → length (flits_text fs) ≡ 17 * length fs
unfolding flits_text
length_flits [] = refl
length_flits (f ∷ fs) = length-append (flit_text f) (flits_text fs) ∙ omega (arith, length_digits 16 16 f, length_flits fs)

pub flits_turn : (l l' m fs : List ℕ) (p q i : ℕ) → i < length fs → p ≤ length l → Put l l' p q (flit_text (get_or fs i 0)) → over l p (flits_text (drop i fs)) ≡ m → over l' q (flits_text (drop (i + 1) fs)) ≡ m
unfolding flits_text
flits_turn l l' m fs p q i h k u e =
    rw u.buffer
    (over_over l p q (flit_text (get_or fs i 0)) (flits_text (drop (i + 1) fs)) k u.place
    ∙ ap (over l p) (ap (λ (r : ℕ). flit_text (get_or fs i 0) ++ flits_text (drop r fs)) (add-one i) ∙ sym (ap flits_text (drop-cons fs i 0 h))) ∙ e)

pub flits_put : (l m fs : List ℕ) (at p i : ℕ) → i ≤ length fs → length fs ≤ i → p ≡ at + 17 * i → over l p (flits_text (drop i fs)) ≡ over m at (flits_text fs) → Put m l at p (flits_text fs)
unfolding flits_text
flits_put l m fs at p i g h s e =
    record { place = omega (arith, length_flits fs); buffer = sym (over_nil l p) ∙ ap (λ (r : List ℕ). over l p (flits_text r)) (sym (drop_of_length-le fs {i = i} h)) ∙ e }

pub message_length : (fs : List ℕ) → length fs * 17 + 2 ≡ length (message_line fs)
unfolding message_line
message_length fs = omega (arith, length-append (flits_text fs) (10 ∷ []), length_flits fs)

-- more flits than a seventeenth of the buffer never fit
pub too_many : (l fs : List ℕ) (i : ℕ) → length l / 17 < length fs → Placed l l i (length l + 1) (message_line fs)
too_many l fs i h = does_not_fit l i (message_line fs) (omega (arith, message_length fs))

-- ---- the last line
pub end_length : (calls w : ℕ) → w ≡ length (decimal calls) → w + 5 ≡ length (end_line calls)
unfolding end_line
end_length calls w e = omega (arith, then_length calls 10)

-- ---- the line of a refused job
pub refused_length : (number offset a b : ℕ) → a ≡ length (decimal number) → b ≡ length (decimal offset) → a + b + 17 ≡ length (refused_line number offset)
unfolding refused_line
refused_length number offset a b p q =
    omega (arith, length-append (number_then number 32) (ascii "at " ++ number_then offset 10), then_length number 32, then_length offset 10)

pub refused_put : (l m n : List ℕ) (i j k number offset : ℕ) → i ≤ length l → Put l m i j (ascii "job refused " ++ number_then number 32)
    → Put m n j k (ascii "at " ++ number_then offset 10) → Put l n i k (refused_line number offset)
unfolding refused_line
refused_put l m n i j k number offset h p q = four_put l m n i j k (ascii "job refused ") (number_then number 32) (ascii "at ") (number_then offset 10) h p q
