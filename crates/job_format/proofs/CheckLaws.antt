-- Checking the fields of a job one after the other. Assumes nothing.
use Prim.Native.Nat.{ℕ, suc, ◌+◌, ◌-◌, ◌≤◌, ◌<◌}
use mathlib.Core.Path.{◌≡◌, refl, ap, sym, ◌∙◌}
use mathlib.Core.Bool.{Bool, cond, true, false}
use mathlib.Core.List.{List}
use native.Mathlib.Omega.{arith}
use lib.Dec.{eqb, ltb, leb}
use lib.ListN.{length}
use borrow.Author.Tests.{lt-ltb, le-ltb, eq-eqb, ne_eqb, leb-true}
use Rattle.numbers.specs.declared.refusals.Refusal.{Refusal}
use Rattle.numbers.specs.Refusals.{refusal_number}
use Rattle.job_format.specs.Bytes.{tag_at, length_at, next_at}
use Rattle.job_format.specs.Fields.{is_tag, value_length, tag_in_place, good_value, first_failed, field_refusal}
use Rattle.job_format.specs.Check.{Checked, job_refused, check_end, check_fields}

-- all six tests of a field hold
pub record Passed (head tag len whole place value : Bool) : Type 0 where
  pub head_holds : head ≡ true
  pub tag_holds : tag ≡ true
  pub len_holds : len ≡ true
  pub whole_holds : whole ≡ true
  pub place_holds : place ≡ true
  pub value_holds : value ≡ true

pub all_passed : (a b c d e f : Bool) → first_failed a b c d e f ≡ 0 → Passed a b c d e f
unfolding first_failed
all_passed true true true true true true h = record { head_holds = refl; tag_holds = refl; len_holds = refl; whole_holds = refl; place_holds = refl; value_holds = refl }
all_passed true true true true true false h = absurd (omega arith)
all_passed true true true true false f h = absurd (omega arith)
all_passed true true true false e f h = absurd (omega arith)
all_passed true true false d e f h = absurd (omega arith)
all_passed true false c d e f h = absurd (omega arith)
all_passed false b c d e f h = absurd (omega arith)

-- what holds of a field that is not refused
abbrev pub FieldPassed : List ℕ → ℕ → ℕ → Type 0
FieldPassed job at k =
    Passed
    (leb (at + 3) (length job))
    (is_tag (tag_at job at))
    (eqb (length_at job at) (value_length (tag_at job at)))
    (leb (next_at job at) (length job))
    (tag_in_place k (tag_at job at))
    (good_value job at)

pub passed : (job : List ℕ) (at k : ℕ) → field_refusal job at k ≡ 0 → FieldPassed job at k
unfolding field_refusal
passed job at k h = all_passed _ _ _ _ _ _ h

pub next_within : (job : List ℕ) (at k : ℕ) → field_refusal job at k ≡ 0 → next_at job at ≤ length job
next_within job at k h = leb-true _ _ (passed job at k h).whole_holds

-- enough turns are enough
pub turns : (n m : ℕ) (job : List ℕ) (at k : ℕ) → length job ≤ n + at → length job ≤ m + at → check_fields n job at k ≡ check_fields m job at k
unfolding check_fields
turns ℕ.zero ℕ.zero job at k h l = refl
turns ℕ.zero (suc m) job at k h l = rw (le-ltb at (length job) (omega arith))
turns (suc n) ℕ.zero job at k h l = rw (le-ltb at (length job) (omega arith))
turns (suc n) (suc m) job at k h l =
    ap (λ (r : Checked). cond (ltb at (length job)) (cond (eqb (field_refusal job at k) 0) r (job_refused (field_refusal job at k) at)) (check_end at k))
    (turns n m job (next_at job at) (k + 1) (omega arith) (omega arith))

-- at the end
pub fields_end : (n : ℕ) (job : List ℕ) (at k : ℕ) → length job ≤ at → check_fields n job at k ≡ check_end at k
unfolding check_fields
fields_end ℕ.zero job at k h = refl
fields_end (suc n) job at k h = rw (le-ltb at (length job) h)

-- one field more
one_turn : (n : ℕ) (job : List ℕ) (at k : ℕ) → at < length job → check_fields (suc n) job at k ≡ cond (eqb (field_refusal job at k) 0) (check_fields n job (next_at job at) (k + 1)) (job_refused (field_refusal job at k) at)
unfolding check_fields
one_turn n job at k h = rw (lt-ltb at (length job) h)

pub fields_step : (n : ℕ) (job : List ℕ) (at k : ℕ) → at < length job → length job ≤ n + at → check_fields n job at k ≡ cond (eqb (field_refusal job at k) 0) (check_fields (length job - next_at job at) job (next_at job at) (k + 1)) (job_refused (field_refusal job at k) at)
fields_step n job at k h l =
    turns n (suc (length job)) job at k l (omega arith) ∙ one_turn (length job) job at k h
    ∙ ap (λ (r : Checked). cond (eqb (field_refusal job at k) 0) r (job_refused (field_refusal job at k) at))
    (turns (length job) (length job - next_at job at) job (next_at job at) (k + 1) (omega arith) (omega arith))

pub field_refused : (job : List ℕ) (at k number : ℕ) → at < length job → number ≡ field_refusal job at k → (number ≡ 0 → ⊥) → check_fields (length job - at) job at k ≡ job_refused number at
field_refused job at k number h e ne = fields_step (length job - at) job at k h (omega arith) ∙ rw (← e, ne_eqb number 0 ne)

pub field_passed : (job : List ℕ) (at k number : ℕ) → at < length job → number ≡ field_refusal job at k → number ≡ 0 → check_fields (length job - at) job at k ≡ check_fields (length job - next_at job at) job (next_at job at) (k + 1)
field_passed job at k number h e z = fields_step (length job - at) job at k h (omega arith) ∙ rw (eq-eqb (field_refusal job at k) 0 (sym e ∙ z))

-- a turn of the loop: the place stays within the job, and what is left to check gives the same answer
pub turn : (job : List ℕ) (total : Checked) (at k number next : ℕ) → at < length job → k ≤ at → total ≡ check_fields (length job - at) job at k →
    number ≡ field_refusal job at k → number ≡ 0 → next ≡ next_at job at →
    (next ≤ length job) × (k + 1 ≤ next) × (total ≡ check_fields (length job - next) job next (k + 1))
turn job total at k number next h l e f z s =
    rw s (next_within job at k (sym f ∙ z), omega arith, e ∙ field_passed job at k number h f z)

-- a field is refused by a number that is not 0
pub refused_lem : (r : Refusal) → refusal_number r ≡ 0 → ⊥
refused_lem r e = grind arith
