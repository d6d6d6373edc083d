-- The table by type number is 01's lines: one equation that antt computes over all 32 numbers, and one law that makes of it the rule at
-- each entry. Assumes nothing.
use mathlib.Core.Path.{◌≡◌, refl, sym, ap, ◌∙◌}
use mathlib.Core.Bool.{Bool, true, false, ◌&&◌}
use mathlib.Core.List.{List, [], ◌∷◌}
use Prim.Native.Nat.{ℕ, zero, suc, ◌+◌, ◌≤◌, ◌<◌}
use native.Mathlib.Nat.{add-zero, add-suc, suc-add, zero-add, le_of_suc-le-suc, not-suc-le-zero}
use native.Mathlib.Omega.{arith}
use lib.Dec.{T, ltb, ltb→lt}
use lib.ListN.{get_or}
use borrow.Author.Tests.{ne_eqb}
use Rattle.flit_rules.specs.declared.TypeRow.{TypeRow}
use Rattle.flit_rules.proofs.Tests.{and_left, and_right}
use Rattle.flit_rules.specs.Table.{TableLine, table_lines, is_one_of, find_row, row_of, absent_row}
use Rattle.flit_rules.specs.Columns.{row_of_entry}

-- f at i, i + 1, .. for n numbers
abbrev from : (ℕ → TypeRow) → ℕ → ℕ → List TypeRow
from f i zero = []
from f i (suc n) = f i ∷ from f (suc i) n

get_d_from : (f : ℕ → TypeRow) (n i k : ℕ) (d : TypeRow) → k < n → get_or (from f i n) k d ≡ f (i + k)
get_d_from f zero i k d h = absurd (not-suc-le-zero h)
get_d_from f (suc n) i zero d h = ap f (sym (add-zero i))
get_d_from f (suc n) i (suc k) d h = get_d_from f n (suc i) k d (le_of_suc-le-suc h) ∙ ap f (suc-add i k ∙ sym (add-suc i k))

-- two functions that agree on a list of numbers agree on each
at : (f g : ℕ → TypeRow) (n : ℕ) → from f 0 n ≡ from g 0 n → (k : ℕ) → k < n → f k ≡ g k
at f g n e k h =
    ap f (sym (zero-add k))
    ∙ sym (get_d_from f n 0 k absent_row h)
    ∙ ap (λ (rows : List TypeRow). get_or rows k absent_row) e
    ∙ get_d_from g n 0 k absent_row h
    ∙ ap g (zero-add k)

-- the entries of 0 to 31, as the code has them
abbrev pub table : List ℕ
table =
    0
    ∷ 0
    ∷ 0x1122070000000000
    ∷ 0
    ∷ 0
    ∷ 0
    ∷ 0
    ∷ 0
    ∷ 0
    ∷ 0
    ∷ 0
    ∷ 0
    ∷ 0x31aa770010000000
    ∷ 0x1122000010000000
    ∷ 0
    ∷ 0
    ∷ 0x212200f010000000
    ∷ 0x212200f010000000
    ∷ 0x212200f010000000
    ∷ 0x2122770010000000
    ∷ 0x21aa770010000000
    ∷ 0x3008000001011001
    ∷ 0x3008000001000001
    ∷ 0x3000000001000001
    ∷ 0x3088000000000000
    ∷ 0x3000000000000000
    ∷ 0
    ∷ 0
    ∷ 0x2000000001003130
    ∷ 0x2088000001113130
    ∷ 0
    ∷ 0x1122070100000000
    ∷ []

unfoldable row_in : ℕ → TypeRow
row_in k = row_of_entry (get_or table k 0)

all_entries : from row_in 0 32 ≡ from row_of 0 32
unfolding row_of row_of_entry row_in
all_entries = refl

-- a type t with the number k has the row that the entry at k says
pub entry : (k t : ℕ) → T (ltb k 32) → t ≡ k → row_of_entry (get_or table k 0) ≡ row_of t
unfolding row_in
entry k t b e = at row_in row_of 32 all_entries k (ltb→lt k 32 b) ∙ ap row_of (sym e)

-- no type from 32 on is in the table: a test over its types
small : List ℕ → Bool
small [] = true
small (k ∷ ks) = ltb k 32 && small ks

smalls : List TableLine → Bool
smalls [] = true
smalls (l ∷ ls) = small l.types && smalls ls

no_member : (t : ℕ) → 32 ≤ t → (ks : List ℕ) → T (small ks) → is_one_of t ks ≡ false
unfolding small
no_member t h [] p = refl
no_member t h (k ∷ ks) p =
    let l : k < 32 = ltb→lt k 32 (and_left (ltb k 32) (small ks) p) in
    rw (ne_eqb t k (λ e. omega arith)) (no_member t h ks (and_right (ltb k 32) (small ks) p))

no_row : (t : ℕ) → 32 ≤ t → (ls : List TableLine) → T (smalls ls) → find_row t ls ≡ absent_row
unfolding smalls
no_row t h [] p = refl
no_row t h (l ∷ ls) p =
    rw (no_member t h l.types (and_left (small l.types) (smalls ls) p))
    (no_row t h ls (and_right (small l.types) (smalls ls) p))

pub past : (t : ℕ) → 32 ≤ t → row_of t ≡ absent_row
unfolding row_of smalls small
past t h = no_row t h table_lines tt
