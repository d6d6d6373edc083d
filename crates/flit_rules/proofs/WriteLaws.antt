-- Lists as the writers leave them: parts put back, and the room test. Assumes nothing.
use mathlib.Core.Path.{◌≡◌, refl, sym, ap, ◌∙◌}
use mathlib.Core.Bool.{Bool, true, false, cond}
use mathlib.Core.List.{List, ◌++◌, append-nil}
use Prim.Native.Nat.{ℕ, ◌+◌, ◌-◌, ◌≤◌}
use native.Mathlib.Nat.{le_of_eq}
use native.Mathlib.Omega.{arith}
use lib.ListN.{length, take, drop, length-append, length-drop, drop_of_length-le}
use lib.Seq.{drop-drop}
use borrow.Author.Tests.{leb-true, ne_eqb}
use borrow.Rule.Slice.PartMut.{put_mid}
use Rattle.lists.specs.Over.{over}
use Rattle.flit_rules.specs.Writing.{header_flits, write_refusals, write_refusal, flits_of, written_of, buffer_of}
use Rattle.flit_rules.specs.Reading.{lowest}
use Rattle.flit_rules.proofs.ReadLaws.{holds, rest_part}
use Rattle.flit_rules.specs.declared.TypeRow.{TypeRow}
use Rattle.flit_rules.specs.Table.{row_of, header_extra}
use Rattle.flit_rules.specs.declared.Header.{Header}

-- ---- a part that starts at a place, put back into the whole

pub piece_back : (b ys : List ℕ) (at : ℕ) → put_mid at (length b - at) b ys ≡ take at b ++ ys
piece_back b ys at =
    ap (λ (r : List ℕ). take at b ++ (ys ++ r)) (drop_of_length-le (drop at b) (le_of_eq (length-drop at b)))
    ∙ ap (λ (r : List ℕ). take at b ++ r) (append-nil ys)

-- words written at the front of the part from `at` on are written over the whole
pub piece_over : (b fs : List ℕ) (at n : ℕ) → n ≡ length fs → {m : List ℕ} → m ≡ fs ++ drop n (take (length b - at) (drop at b))
    → put_mid at (length b - at) b m ≡ over b at fs
unfolding over
piece_over b fs at n e {m} p =
    piece_back b m at
    ∙ ap (λ (r : List ℕ). take at b ++ r)
    (p
    ∙ ap (λ (r : List ℕ). fs ++ drop n r) (rest_part b at)
    ∙ ap (λ (r : List ℕ). fs ++ r) (drop-drop n at b ∙ ap (λ (k : ℕ). drop (at + k) b) e))

pub header_length : (t : Bool) (h : Header) (n : ℕ) → length (header_flits t h n) ≡ cond t 2 0 + 1
header_length true h n = refl
header_length false h n = refl

-- ---- what is written: so many flits, and it fits

pub flits_length : (h : Header) (ws : List ℕ) → length (flits_of h ws) ≡ header_extra (row_of h.opcode) + length ws + 1
unfolding flits_of
flits_length h ws = simp (length-append, header_length) (omega arith)

pub write_fits : (h : Header) (count room at : ℕ) → write_refusal h count room at ≡ 0 → at + (header_extra (row_of h.opcode) + count + 1) ≤ room
unfolding write_refusal
write_fits h count room at e =
    leb-true (at + (header_extra (row_of h.opcode) + count + 1)) room (holds (write_refusals (row_of h.opcode) h count room at) tt e 4)

-- ---- the public write, by the refusal number

module _ (h : Header) (ws b : List ℕ) (at : ℕ) {row : TypeRow} {n : ℕ} (r : row ≡ row_of h.opcode) (e : n ≡ lowest (write_refusals row h (length ws) (length b) at)) where
  number : n ≡ write_refusal h (length ws) (length b) at
  unfolding write_refusal
  number = e ∙ ap (λ (k : TypeRow). lowest (write_refusals k h (length ws) (length b) at)) r

  pub write_refused_lem : (n ≡ 0 → ⊥) → (record { refusal = n; flits = 0 } ≡ written_of h (length ws) (length b) at) × (b ≡ buffer_of h ws b at)
  unfolding written_of buffer_of
  write_refused_lem z = (rw (← number, ne_eqb n 0 z), rw (← number, ne_eqb n 0 z))

  pub write_done : (x : ℕ) → n ≡ 0 → x ≡ cond row.three 2 0 → {m : List ℕ}
      → m ≡ (header_flits row.three h (x + length ws) ++ ws) ++ drop (cond row.three 2 0 + 1 + length ws) (take (length b - at) (drop at b))
      → (record { refusal = 0; flits = x + length ws + 1 } ≡ written_of h (length ws) (length b) at) × (put_mid at (length b - at) b m ≡ buffer_of h ws b at)
  unfolding written_of buffer_of flits_of
  write_done x z y {m} p =
      let fs : List ℕ = header_flits row.three h (x + length ws) ++ ws in
      let long : cond row.three 2 0 + 1 + length ws ≡ length fs =
      sym (length-append (header_flits row.three h (x + length ws)) ws ∙ ap (λ (k : ℕ). k + length ws) (header_length row.three h (x + length ws))) in (
        rw (← number, z, y, r),
        rw (← number, z)
            (piece_over b fs at (cond row.three 2 0 + 1 + length ws) long p ∙ ap (over b at) (rw (y, r))),
      )
