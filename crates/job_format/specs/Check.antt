-- The check of a whole job (01, 'Jobs'), field after field.
use Rattle.std.specs.Prelude.{ℕ, suc, ◌+◌, cond, List, eqb, ltb, length, Result, Ok, Err}
use Rattle.numbers.specs.Limits.{most_job_bytes}
use Rattle.numbers.specs.Refusals.{no_refusal, job_place_refusal, job_too_long_refusal, refusal_number}
use Rattle.job_format.specs.Places.{header_fields}
use Rattle.job_format.specs.Bytes.{next_at}
use Rattle.job_format.specs.Fields.{field_refusal}
use Rattle.job_format.specs.declared.check.JobFault.{JobFault}

-- what a check answers: refusal 0 accepts the job, any other number is 01's, of the field at the offset
pub record Checked : Type 0 where
  pub refusal : ℕ
  pub offset : ℕ

abbrev pub job_refused : ℕ → ℕ → Checked
job_refused number at = record { refusal = number; offset = at }

abbrev pub job_accepted : Checked
job_accepted = job_refused no_refusal 0

-- what the code answers, in those numbers
abbrev pub told_checked : Result Unit JobFault → Checked
told_checked (Ok u) = job_accepted
told_checked (Err f) = job_refused (refusal_number f.refusal) f.offset

-- the job ends at a place, `before` fields standing before it: a missing header field is placed at the job's end
unfoldable pub check_end : ℕ → ℕ → Checked
check_end at before = cond (ltb before header_fields) (job_refused job_place_refusal at) job_accepted

-- the fields from a place on, `before` fields standing before it; the first number is at least as many as there can be
unfoldable pub check_fields : ℕ → List ℕ → ℕ → ℕ → Checked
check_fields ℕ.zero job at before = check_end at before
check_fields (suc n) job at before =
    cond (ltb at (length job))
    (cond (eqb (field_refusal job at before) no_refusal) (check_fields n job (next_at job at) (before + 1)) (job_refused (field_refusal job at before) at))
    (check_end at before)

-- the whole job
unfoldable pub check_job : List ℕ → Checked
check_job job = cond (ltb most_job_bytes (length job)) (job_refused job_too_long_refusal most_job_bytes) (check_fields (length job) job 0 0)
