-- Words or-ed together, lists compared, and a row that stands in a list. Assumes nothing.
use Prim.Native.Nat.{ℕ, ◌+◌, ◌/◌, ◌≤◌}
use mathlib.Core.Path.{◌≡◌, refl, ap, ◌∙◌}
use mathlib.Core.Bool.{true, and-true, and_assoc}
use mathlib.Core.List.{List, [], ◌∷◌}
use native.Mathlib.Omega.{arith}
use lib.Dec.{eqb}
use lib.ListN.{length, get_or, take, drop, length-drop}
use lib.Seq.{get_or-drop, drop-drop, take-take, take_all}
use lib.Bits.{bit_or}
use borrow.Author.Tests.{eq-eqb}
use Rattle.std.specs.List.{fold}
use Rattle.std.specs.Simd.{first_chunks}
use Rattle.std.proofs.lemmas.List.{get_or-take, drop-take}
use Rattle.layout.proofs.Over.{first_eight}
use Rattle.layout.specs.Blocks.{row_at}
use Rattle.layout.specs.Encode.{zeros}
use Rattle.layout.specs.Canonical.{same}
use Rattle.well_formed.proofs.NumberLaws.{zero_left, or_clear}

pub same_self : (xs : List ℕ) → same xs xs ≡ true
unfolding same
same_self [] = refl
same_self (x ∷ xs) = rw (eq-eqb x x refl, same_self xs)

-- the last eight of twelve words are 0 exactly if their or is
pub or_data : (l : List ℕ) → 12 ≤ length l → eqb (fold bit_or 0 (take 8 (drop 4 l))) 0 ≡ same zeros (row_at l 0).words
unfolding same row_at
or_data l h =
    let n : 8 ≤ length (drop 4 l) = simp length-drop (omega arith) in
    rw (first_eight (drop 4 l) n) (simp (or_clear, zero_left, and_assoc, and-true))

-- the twelve words from a place on are the row there
words_there : (d : List ℕ) → take 8 (drop 4 (take 12 d)) ≡ take 8 (drop 4 d)
words_there d = ap (take 8) (drop-take 4 8 d) ∙ take-take 8 8 (drop 4 d) (omega arith)

pub row_there : (l r : List ℕ) (at : ℕ) → r ≡ take 12 (drop at l) → row_at r 0 ≡ row_at l at
unfolding row_at
row_there l r at e =
    let d = drop at l in
    let first : at + 0 ≡ at = omega arith in
    rw e (simp (
      get_or-take 12 d 0 0 (omega arith),
      get_or-take 12 d 1 0 (omega arith),
      get_or-take 12 d 2 0 (omega arith),
      get_or-take 12 d 3 0 (omega arith),
      words_there d,
      get_or-drop,
      drop-drop,
      first,
    ))

-- and the only one in a list of twelve
pub row_only : (l : List ℕ) (rows : List (List ℕ)) → length l ≡ 12 → rows ≡ first_chunks 12 (length l / 12) l → get_or rows 0 [] ≡ l
row_only l rows n e = rw (e, n) (take_all 12 l (omega arith))
