-- Fields as words and back. Assumes nothing.
use Prim.Native.Nat.{ℕ, suc, ◌+◌, ◌≤◌}
use mathlib.Core.Path.{◌≡◌, refl, sym, ap}
use mathlib.Core.List.{List, ◌∷◌}
use native.Mathlib.Omega.{arith}
use lib.ListN.{length, get_or, drop, drop_of_length-le}
use lib.Seq.{drop-cons}
use Rattle.layout.proofs.Over.{reads}
use Rattle.flits.specs.Words.{Header}
use Rattle.c_answers.specs.Words.{field_words}
use Rattle.c_arguments.specs.Arguments.{fields_from}

-- the fields that a read reports are those fields again, and the words that a write was given are those words again
pub fields_again : (h : Header) → fields_from (field_words h) ≡ h
fields_again h = refl

all_read : (n : ℕ) (l : List ℕ) (j : ℕ) → j + n ≡ length l → drop j l ≡ reads n l j
all_read ℕ.zero l j e = let h : length l ≤ j = omega arith in drop_of_length-le l h
all_read (suc n) l j e = rw (drop-cons l j 0 (omega arith)) (ap (λ (r : List ℕ). get_or l j 0 ∷ r) (all_read n l (suc j) (omega arith)))

pub words_again : (l : List ℕ) → length l ≡ 18 → field_words (fields_from l) ≡ l
words_again l e = sym (all_read 18 l 0 (omega arith))
