-- The statements of specs/RoundTrips. That a refusal gives nothing is `read_refused_lem` and `data_refused` of ReadLaws. Assumes nothing.
use mathlib.Core.Path.{◌≡◌, refl, sym, ap, ap₂, ◌∙◌}
use mathlib.Core.Logic.{◌⊎◌, ⊎_elim}
use mathlib.Core.Bool.{Bool, true, false, cond}
use mathlib.Core.List.{List, [], ◌∷◌, ◌++◌, append_assoc}
use Prim.Native.Nat.{ℕ, suc, ◌+◌, ◌-◌, ◌<◌, ◌^◌}
use native.Mathlib.Nat.{not-suc-le-zero, le_of_suc-le-suc}
use native.Mathlib.Omega.{arith}
use lib.Dec.{ltb, lit<}
use lib.ListN.{length, get_or, take, drop, length-append, get_or-append}
use lib.Seq.{take-add, take_at, drop_at}
use borrow.Author.Tests.{lt-ltb, le-ltb, ltb-true, ltb-false}
use Rattle.flit_rules.specs.declared.Header.{Header}
use Rattle.flit_rules.specs.declared.TypeRow.{TypeRow}
use Rattle.flit_rules.specs.Words.{length_of, opcode_of, header_of_flits, flit1_of, flit2_of, flit3_of}
use Rattle.flit_rules.specs.Table.{row_of, header_extra}
use Rattle.flit_rules.proofs.TableLaws.{row_lengths}
use Rattle.flit_rules.proofs.HeaderLaws.{HeaderFits, header_flits_lem, length_flits, opcode_flits, flit1_header, flit2_header, flit3_header}
use Rattle.flit_rules.proofs.RuleLaws.{reserved_zero, header_fits, flit2_none, flit3_none, written_clear}
use Rattle.flit_rules.specs.Reading.{lowest, front_flit1, front_row, front_flit2, front_flit3, front_header, read_refusal, read_accepted, read_of, data_of}
use Rattle.flit_rules.specs.Writing.{write_refusals, write_refusal, header_flits, flits_of}
use Rattle.flit_rules.specs.RoundTrips.{ReadWriteStatement, RewriteStatement, WriteReadStatement, WriteDataStatement}
use Rattle.flit_rules.specs.Reading as R
use Rattle.flit_rules.proofs.ReadLaws.{holds, extra_le, Accepted, accepted_keeps, read_accepted_lem, data_accepted, data_length}
use Rattle.flit_rules.proofs.WriteLaws.{header_length, flits_length}

-- the first flits of a list
take_one : (s : List ℕ) → 0 < length s → take 1 s ≡ get_or s 0 0 ∷ []
take_one [] h = absurd (not-suc-le-zero h)
take_one (a ∷ s) h = refl

take_three : (s : List ℕ) → 2 < length s → take 3 s ≡ get_or s 0 0 ∷ get_or s 1 0 ∷ get_or s 2 0 ∷ []
take_three [] h = absurd (not-suc-le-zero h)
take_three (a ∷ []) h = absurd (not-suc-le-zero (le_of_suc-le-suc h))
take_three (a ∷ b ∷ []) h = absurd (not-suc-le-zero (le_of_suc-le-suc (le_of_suc-le-suc h)))
take_three (a ∷ b ∷ c ∷ s) h = refl

-- ---- read, then written

-- a word, or 0 in its place
cond_lt : (b : Bool) (w : ℕ) → w < 2 ^ 64 → cond b w 0 < 2 ^ 64
cond_lt true w h = h
cond_lt false w h = lit< tt

module _ (s : List ℕ) (e : read_refusal s ≡ 0) (word : (k : ℕ) → get_or s k 0 < 2 ^ 64) where
  keeps : Accepted s
  keeps = accepted_keeps s e

  flit1_again : flit1_of (front_header s) (length_of (front_flit1 s)) ≡ front_flit1 s
  flit1_again = flit1_header (front_flit1 s) (front_flit2 s) (front_flit3 s) (word 0)

  flit2_again : flit2_of (front_header s) ≡ front_flit2 s
  flit2_again =
      flit2_header (front_flit1 s) (front_flit2 s) (front_flit3 s) (cond_lt (front_row s).three (get_or s 1 0) (word 1))
      (reserved_zero (front_row s) (front_flit1 s) (front_flit2 s) (front_flit3 s) keeps.clear).0

  flit3_again : flit3_of (front_header s) ≡ front_flit3 s
  flit3_again =
      flit3_header (front_flit1 s) (front_flit2 s) (front_flit3 s) (cond_lt (front_row s).three (get_or s 2 0) (word 2))
      (reserved_zero (front_row s) (front_flit1 s) (front_flit2 s) (front_flit3 s) keeps.clear).1

  extra_lt : header_extra (front_row s) < length s
  extra_lt =
      ⊎_elim
      (λ (l : length_of (front_flit1 s) ≡ header_extra (front_row s)). omega (arith, keeps.whole))
      (λ (l : length_of (front_flit1 s) ≡ header_extra (front_row s) + 8). omega (arith, keeps.whole))
      keeps.sizes

  header_again : header_flits (front_row s).three (front_header s) (length_of (front_flit1 s)) ≡ take (header_extra (front_row s) + 1) s
  header_again =
      rw (flit1_again, flit2_again, flit3_again) (go (front_row s).three refl extra_lt)
    where
      go : (b : Bool) → (front_row s).three ≡ b → cond b 2 0 < length s
          → front_flit1 s ∷ cond b (cond b (get_or s 1 0) 0 ∷ cond b (get_or s 2 0) 0 ∷ []) [] ≡ take (cond b 2 0 + 1) s
      go true q l = sym (take_three s l)
      go false q l = sym (take_one s l)

  flits_again : flits_of (front_header s) (data_of s) ≡ take (length_of (front_flit1 s) + 1) s
  unfolding flits_of header_of_flits
  flits_again =
      rw (data_length s e)
      (ap₂ (λ (x y : List ℕ). x ++ y) header_again (data_accepted s e)
      ∙ sym (take-add (header_extra (front_row s) + 1) (length_of (front_flit1 s) - header_extra (front_row s)) s)
      ∙ ap (λ (k : ℕ). take k s) (joined (front_row s) keeps.sizes))
    where
      joined : (r : TypeRow) → (length_of (front_flit1 s) ≡ header_extra r) ⊎ (length_of (front_flit1 s) ≡ header_extra r + 8)
          → header_extra r + 1 + (length_of (front_flit1 s) - header_extra r) ≡ length_of (front_flit1 s) + 1
      joined r =
          ⊎_elim
          (λ (l : length_of (front_flit1 s) ≡ header_extra r). omega arith)
          (λ (l : length_of (front_flit1 s) ≡ header_extra r + 8). omega arith)

pub read_write : ReadWriteStatement
read_write s e word = rw (read_accepted_lem s e) (flits_again s e word)

-- whether there is data, on reading and on writing
with_data : (x c : ℕ) → ltb x (x + c) ≡ ltb 0 c
with_data x c = go (ltb 0 c) refl
  where
    go : (b : Bool) → ltb 0 c ≡ b → ltb x (x + c) ≡ b
    go true q = lt-ltb x (x + c) (omega (arith, ltb-true 0 c q))
    go false q = le-ltb x (x + c) (omega (arith, ltb-false 0 c q))

pub rewrite : RewriteStatement
unfolding write_refusal header_of_flits
rewrite s e room at =
    let a = accepted_keeps s e in
    let w : ltb 0 (length (data_of s)) ≡ ltb (header_extra (front_row s)) (length_of (front_flit1 s)) =
    sym (with_data (header_extra (front_row s)) (length (data_of s))) ∙ ap (ltb (header_extra (front_row s))) (data_length s e) in
    rw (read_accepted_lem s e, w, data_length s e, a.in_table_lem, a.long, a.ports, a.fields)

-- ---- written, then read

-- a header flit behind the first of what was written, which a type with one header flit has not
behind_first : (b : Bool) (f : ℕ) (hs ws rest : List ℕ) (k : ℕ) → k < length hs → (b ≡ false → get_or hs k 0 ≡ 0)
    → cond b (get_or ((f ∷ cond b hs [] ++ ws) ++ rest) (suc k) 0) 0 ≡ get_or hs k 0
behind_first true f hs ws rest k l z =
    get_or-append (hs ++ ws) rest 0 k (rw (length-append hs ws) (omega arith)) ∙ get_or-append hs ws 0 k l
behind_first false f hs ws rest k l z = sym (z refl)

module _ (h : Header) (ws rest : List ℕ) (room at : ℕ) (e : write_refusal h (length ws) room at ≡ 0) where
  row : TypeRow
  row = row_of h.opcode

  n : ℕ
  n = header_extra (row_of h.opcode) + length ws

  written : List ℕ
  written = flits_of h ws ++ rest

  tests : (k : ℕ) → Rattle.flit_rules.proofs.ReadLaws.test (write_refusals (row_of h.opcode) h (length ws) room at) k ≡ true
  unfolding write_refusal
  tests = holds (write_refusals (row_of h.opcode) h (length ws) room at) tt e

  small : n < 2 ^ 8
  unfolding n
  small =
      ⊎_elim
      (λ (l : header_extra (row_of h.opcode) + length ws ≡ header_extra (row_of h.opcode)). omega (arith, extra_le (row_of h.opcode).three))
      (λ (l : header_extra (row_of h.opcode) + length ws ≡ header_extra (row_of h.opcode) + 8). omega (arith, extra_le (row_of h.opcode).three))
      (row_lengths h.opcode (header_extra (row_of h.opcode) + length ws) (tests 0) (tests 1))

  fit : HeaderFits h
  fit = header_fits h (ltb 0 (length ws)) (tests 0) (tests 2) (tests 3)

  front1 : front_flit1 written ≡ flit1_of h n
  unfolding written flits_of n
  front1 = refl

  front_row_lem : front_row written ≡ row
  unfolding row
  front_row_lem = ap (λ (f : ℕ). row_of (opcode_of f)) front1 ∙ ap row_of (opcode_flits h n fit.opcode)

  front2 : front_flit2 written ≡ flit2_of h
  unfolding written flits_of row
  front2 =
      ap (λ (r : TypeRow). cond r.three (get_or written 1 0) 0) front_row_lem
      ∙ behind_first row.three (flit1_of h n) (flit2_of h ∷ flit3_of h ∷ []) ws rest 0 (lit< tt) (flit2_none h (ltb 0 (length ws)) (tests 3))

  front3 : front_flit3 written ≡ flit3_of h
  unfolding written flits_of row
  front3 =
      ap (λ (r : TypeRow). cond r.three (get_or written 2 0) 0) front_row_lem
      ∙ behind_first row.three (flit1_of h n) (flit2_of h ∷ flit3_of h ∷ []) ws rest 1 (lit< tt) (flit3_none h (ltb 0 (length ws)) (tests 3))

  front_header_lem : front_header written ≡ h
  front_header_lem = (λ i. header_of_flits (front1 i) (front2 i) (front3 i)) ∙ header_flits_lem h n fit

  front_length : length_of (front_flit1 written) ≡ n
  front_length = ap length_of front1 ∙ length_flits h n small

  whole : n < length written
  unfolding written n
  whole = rw (length-append (flits_of h ws) rest, flits_length h ws) (omega arith)

  zero_tests : lowest (R.read_refusals row h (length written) (flit1_of h n) (flit2_of h) (flit3_of h)) ≡ 0
  unfolding row n
  zero_tests =
      rw (
        lt-ltb 0 (length written) (omega (arith, whole)),
        tests 0,
        length_flits h n small,
        tests 1,
        lt-ltb n (length written) whole,
        tests 2,
        written_clear h (ltb 0 (length ws)) (tests 3) n,
        with_data (header_extra (row_of h.opcode)) (length ws),
        tests 3,
      )

  written_accepted : read_refusal written ≡ 0
  unfolding read_refusal
  written_accepted =
      (λ i. lowest (R.read_refusals (front_row_lem i) (front_header_lem i) (length written) (front1 i) (front2 i) (front3 i))) ∙ zero_tests

  read_again : read_of (flits_of h ws ++ rest) ≡ read_accepted h (header_extra (row_of h.opcode) + length ws + 1) (header_extra (row_of h.opcode) + 1)
  unfolding written row n
  read_again =
      read_accepted_lem written written_accepted
      ∙ (λ i. read_accepted (front_header_lem i) (front_length i + 1) (header_extra (front_row_lem i) + 1))

  data_again : data_of (flits_of h ws ++ rest) ≡ ws
  unfolding written row n flits_of
  data_again =
      data_accepted written written_accepted
      ∙ (λ i. take (front_length i - header_extra (front_row_lem i)) (drop (header_extra (front_row_lem i) + 1) written))
      ∙ behind (header_flits (row_of h.opcode).three h (header_extra (row_of h.opcode) + length ws)) (header_extra (row_of h.opcode))
      (header_length (row_of h.opcode).three h (header_extra (row_of h.opcode) + length ws))
    where
      behind : (fs : List ℕ) (x : ℕ) → length fs ≡ x + 1 → take (x + length ws - x) (drop (x + 1) ((fs ++ ws) ++ rest)) ≡ ws
      behind fs x l =
          ap₂ (λ (k : ℕ) (r : List ℕ). take k r) (less x (length ws))
          (ap (drop (x + 1)) (append_assoc fs ws rest) ∙ drop_at fs (ws ++ rest) (x + 1) l)
          ∙ take_at ws rest (length ws) refl
        where
          less : (a b : ℕ) → a + b - a ≡ b
          less a b = omega arith

pub write_read : WriteReadStatement
write_read = read_again

pub write_data : WriteDataStatement
write_data = data_again
