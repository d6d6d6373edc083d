-- What holds of every row of the table. Assumes nothing.
use mathlib.Core.Path.{◌≡◌}
use mathlib.Core.Bool.{Bool, true, false, cond, ◌||◌, ◌&&◌, not}
use mathlib.Core.List.{List, [], ◌∷◌}
use Prim.Native.Nat.{ℕ, ◌+◌}
use lib.Dec.{T, eqb}
use borrow.Author.Tests.{eqb-true}
use mathlib.Core.Logic.{◌⊎◌, inl, inr, ⊎_elim}
use Rattle.flit_rules.specs.declared.TypeRow.{TypeRow}
use Rattle.flit_rules.proofs.Tests.{is_true, and_left, and_right, or_cases}
use Rattle.flit_rules.specs.Table.{TableLine, table_lines, is_one_of, find_row, row_of, absent_row, header_extra}
use Rattle.flit_rules.specs.Rules.{in_table, length_allowed}

-- what a test says of each line's row, and of the absent one, holds of the row of any type
unfoldable pub every : (TypeRow → Bool) → List TableLine → Bool
every p [] = true
every p (l ∷ ls) = p l.row && every p ls

found : (p : TypeRow → Bool) (t : ℕ) (ls : List TableLine) → T (every p ls) → T (p absent_row) → T (p (find_row t ls))
unfolding every
found p t [] e a = a
found p t (l ∷ ls) e a = pick (is_one_of t l.types) (and_left (p l.row) (every p ls) e) (found p t ls (and_right (p l.row) (every p ls) e) a)
  where
    pick : (b : Bool) → T (p l.row) → T (p (find_row t ls)) → T (p (cond b l.row (find_row t ls)))
    pick true x y = x
    pick false x y = y

pub row_holds : (p : TypeRow → Bool) → T (every p table_lines) → T (p absent_row) → (t : ℕ) → T (p (row_of t))
unfolding row_of
row_holds p e a t = found p t table_lines e a

-- the lengths of a row are those of its header flits, with eight words of data or none
lengths : TypeRow → Bool
lengths row = not (in_table row) || (eqb row.short (header_extra row) || eqb row.short (header_extra row + 8)) && (eqb row.long (header_extra row) || eqb row.long (header_extra row + 8))

either : (a b e : ℕ) → (eqb a b || eqb a e) ≡ true → (a ≡ b) ⊎ (a ≡ e)
either a b e h =
    ⊎_elim (λ (p : eqb a b ≡ true). inl (eqb-true a b p)) (λ (p : eqb a e ≡ true). inr (eqb-true a e p)) (or_cases (eqb a b) (eqb a e) h)

fits_row : (r : TypeRow) (n : ℕ) → T (eqb n (header_extra r) || eqb n (header_extra r + 8)) → (n ≡ header_extra r) ⊎ (n ≡ header_extra r + 8)
fits_row r n p = either n (header_extra r) (header_extra r + 8) (is_true (eqb n (header_extra r) || eqb n (header_extra r + 8)) p)

row_fits : (r : TypeRow) (n : ℕ) → T (lengths r) → in_table r ≡ true → length_allowed r n ≡ true → (n ≡ header_extra r) ⊎ (n ≡ header_extra r + 8)
unfolding lengths
row_fits r n p k l =
    let short = eqb r.short (header_extra r) || eqb r.short (header_extra r + 8) in
    let long = eqb r.long (header_extra r) || eqb r.long (header_extra r + 8) in
    let both : T (short && long) = rw k at p in
    ⊎_elim
    (λ (e : n ≡ r.short). rw e (fits_row r r.short (and_left short long both)))
    (λ (e : n ≡ r.long). rw e (fits_row r r.long (and_right short long both)))
    (either n r.short r.long l)

pub row_lengths : (t n : ℕ) → in_table (row_of t) ≡ true → length_allowed (row_of t) n ≡ true → (n ≡ header_extra (row_of t)) ⊎ (n ≡ header_extra (row_of t) + 8)
unfolding row_of lengths every
row_lengths t n = row_fits (find_row t table_lines) n (found lengths t table_lines tt tt)
