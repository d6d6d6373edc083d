-- What an accepted front message keeps, and that a refused one gives nothing. Assumes nothing.
use mathlib.Core.Path.{◌≡◌, refl, sym, ap, subst}
use mathlib.Core.Logic.{◌⊎◌, ⊎_elim}
use mathlib.Core.Bool.{Bool, true, false, cond, ◌&&◌}
use mathlib.Core.List.{List, [], ◌∷◌}
use Prim.Native.Nat.{ℕ, zero, suc, ◌+◌, ◌-◌, ◌≤◌, ◌<◌}
use native.Mathlib.Nat.{le_refl, le_of_eq}
use native.Mathlib.Omega.{arith}
use lib.Dec.{T, ltb, eqb}
use lib.ListN.{length, take, drop, length-take, length-drop}
use lib.Seq.{take_all}
use borrow.Author.Tests.{ltb-true, eqb-true, eqb-false, ne_eqb, eq-eqb}
use Rattle.numbers.specs.declared.refusals.Refusal.{Refusal}
use Rattle.numbers.specs.Refusals.{refusal_number}
use Rattle.flit_rules.specs.Words.{length_of}
use Rattle.flit_rules.specs.Table.{header_extra}
use Rattle.flit_rules.specs.Rules.{in_table, length_allowed, ports_listed, reserved_clear, fields_allowed}
use Rattle.flit_rules.proofs.Tests.{and_left, and_right}
use Rattle.flit_rules.proofs.TableLaws.{row_lengths}
use Rattle.flit_rules.specs.Reading.{ReadAnswer, lowest, read_refusals, front_flit1, front_row, front_flit2, front_flit3, front_header, read_refusal, read_accepted, read_refused, read_of, data_of}

-- ---- the lowest number is 0 exactly where every test holds

abbrev pub test : List (ℕ × Bool) → ℕ → Bool
test [] k = true
test (t ∷ ts) zero = t.1
test (t ∷ ts) (suc k) = test ts k

-- every number is one: 0 says that all tests hold
abbrev pub numbered : List (ℕ × Bool) → Bool
numbered [] = true
numbered (t ∷ ts) = ltb 0 t.0 && numbered ts

step : (n : ℕ) (b : Bool) (m : ℕ) → T (ltb 0 n) → cond b m n ≡ 0 → (b ≡ true) × (m ≡ 0)
step n true m p e = (refl, e)
step n false m p e = let h : 0 < n = lib.Dec.ltb→lt 0 n p in absurd (omega arith)

pub holds : (ts : List (ℕ × Bool)) → T (numbered ts) → lowest ts ≡ 0 → (k : ℕ) → test ts k ≡ true
holds [] p e k = refl
holds (t ∷ ts) p e zero = (step t.0 t.1 (lowest ts) (and_left (ltb 0 t.0) (numbered ts) p) e).0
holds (t ∷ ts) p e (suc k) =
    holds ts (and_right (ltb 0 t.0) (numbered ts) p) (step t.0 t.1 (lowest ts) (and_left (ltb 0 t.0) (numbered ts) p) e).1 k

-- ---- reading

pub record Accepted (s : List ℕ) : Type 0 where
  pub some : 0 < length s
  pub in_table_lem : in_table (front_row s) ≡ true
  pub long : length_allowed (front_row s) (length_of (front_flit1 s)) ≡ true
  pub whole : length_of (front_flit1 s) < length s
  pub ports : ports_listed (front_row s) (front_header s) ≡ true
  pub clear : reserved_clear (front_row s) (front_flit1 s) (front_flit2 s) (front_flit3 s) ≡ true
  pub fields : fields_allowed (front_row s) (ltb (header_extra (front_row s)) (length_of (front_flit1 s))) (front_header s) ≡ true
  -- the length is that of the header flits, with eight words of data or none
  pub sizes : (length_of (front_flit1 s) ≡ header_extra (front_row s)) ⊎ (length_of (front_flit1 s) ≡ header_extra (front_row s) + 8)

pub accepted_keeps : (s : List ℕ) → read_refusal s ≡ 0 → Accepted s
unfolding read_refusal
accepted_keeps s e =
    let h = holds (read_refusals (front_row s) (front_header s) (length s) (front_flit1 s) (front_flit2 s) (front_flit3 s)) tt e in
    record {
      some = ltb-true 0 (length s) (h 0);
      in_table_lem = h 1;
      long = h 2;
      whole = ltb-true (length_of (front_flit1 s)) (length s) (h 3);
      ports = h 4;
      clear = h 5;
      fields = h 6;
      sizes = row_lengths _ (length_of (front_flit1 s)) (h 1) (h 2);
    }

-- the answer by the refusal number
pub read_accepted_lem : (s : List ℕ) → read_refusal s ≡ 0 → read_of s ≡ read_accepted (front_header s) (length_of (front_flit1 s) + 1) (header_extra (front_row s) + 1)
unfolding read_of
read_accepted_lem s e = rw (eq-eqb (read_refusal s) 0 e)

-- a refusal gives no fields, no count and no data
pub read_refused_lem : (s : List ℕ) → (read_refusal s ≡ 0 → ⊥) → read_of s ≡ read_refused (read_refusal s)
unfolding read_of
read_refused_lem s e = rw (ne_eqb (read_refusal s) 0 e)

pub data_refused : (s : List ℕ) → (read_refusal s ≡ 0 → ⊥) → data_of s ≡ []
unfolding data_of
data_refused s e = rw (read_refused_lem s e)

pub read_cases : (P : ReadAnswer → Type 0) (s : List ℕ)
    → (read_refusal s ≡ 0 → P (read_accepted (front_header s) (length_of (front_flit1 s) + 1) (header_extra (front_row s) + 1)))
    → ((read_refusal s ≡ 0 → ⊥) → P (read_refused (read_refusal s)))
    → P (read_of s)
read_cases P s yes' no' = go (eqb (read_refusal s) 0) refl
  where
    go : (b : Bool) → eqb (read_refusal s) 0 ≡ b → P (read_of s)
    go true e = let z = eqb-true (read_refusal s) 0 e in subst P (sym (read_accepted_lem s z)) (yes' z)
    go false e = let z = eqb-false (read_refusal s) 0 e in subst P (sym (read_refused_lem s z)) (no' z)

pub refusal_of : (s : List ℕ) → (read_of s).refusal ≡ read_refusal s
refusal_of s = read_cases (λ r. r.refusal ≡ read_refusal s) s (λ e. sym e) (λ e. refl)

pub start_le_used : (s : List ℕ) → (read_of s).start ≤ (read_of s).used
start_le_used s =
    read_cases (λ r. r.start ≤ r.used) s
    (λ e. ⊎_elim (λ (l : length_of (front_flit1 s) ≡ header_extra (front_row s)). omega arith) (λ (l : length_of (front_flit1 s) ≡ header_extra (front_row s) + 8). omega arith) (accepted_keeps s e).sizes)
    (λ e. le_refl 0)

pub used_le : (s : List ℕ) → (read_of s).used ≤ length s
used_le s = read_cases (λ r. r.used ≤ length s) s (λ e. let w = (accepted_keeps s e).whole in omega arith) (λ e. omega arith)

shift : (a b : ℕ) → (a + 1) - (b + 1) ≡ a - b
shift a b = omega arith

-- the data of an accepted message: the flits behind the header flits
pub data_accepted : (s : List ℕ) → read_refusal s ≡ 0 → data_of s ≡ take (length_of (front_flit1 s) - header_extra (front_row s)) (drop (header_extra (front_row s) + 1) s)
unfolding data_of
data_accepted s e =
    rw (read_accepted_lem s e)
    (ap (λ (n : ℕ). take n (drop (header_extra (front_row s) + 1) s)) (shift (length_of (front_flit1 s)) (header_extra (front_row s))))

-- eight words, or none
pub data_length : (s : List ℕ) → read_refusal s ≡ 0 → header_extra (front_row s) + length (data_of s) ≡ length_of (front_flit1 s)
data_length s e =
    let a = accepted_keeps s e in
    let w = a.whole in
    rw (data_accepted s e)
    (simp (length-take, length-drop)
    (⊎_elim (λ (l : length_of (front_flit1 s) ≡ header_extra (front_row s)). omega arith) (λ (l : length_of (front_flit1 s) ≡ header_extra (front_row s) + 8). omega arith) a.sizes))

pub extra_le : (b : Bool) → cond b 2 0 ≤ 2
extra_le true = le_refl 2
extra_le false = omega arith

-- from a place on: the whole rest, and nothing past the end
pub rest_part : (s : List ℕ) (at : ℕ) → take (length s - at) (drop at s) ≡ drop at s
rest_part s at = take_all (length s - at) (drop at s) (le_of_eq (length-drop at s))

-- an accepted message uses a flit at least
pub used_pos : (s : List ℕ) → read_refusal s ≡ 0 → 0 < (read_of s).used
used_pos s e = subst (λ (r : ReadAnswer). 0 < r.used) (sym (read_accepted_lem s e)) (omega arith)

-- a refusal of the code is a refusal: no number is 0
pub refused_lem : (r : Refusal) → refusal_number r ≡ 0 → ⊥
refused_lem r e = grind (arith)
