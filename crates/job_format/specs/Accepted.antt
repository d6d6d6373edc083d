-- What holds of an accepted job: the statement. Its proof is proofs/AcceptedLaws.
use Rattle.std.specs.Prelude.{ℕ, ◌+◌, ◌%◌, ◌≤◌, ◌<◌, ◌≡◌, List, [], ◌∷◌, length}
use Rattle.numbers.specs.Limits.{most_tiles, line_bytes, most_job_bytes}
use Rattle.numbers.specs.Tags.{tag_load, tag_home_eviction}
use Rattle.job_format.specs.Places.{head_bytes, header_bytes}
use Rattle.job_format.specs.Fields.{value_length}
use Rattle.job_format.specs.Check.{job_accepted, check_job}
use Rattle.job_format.specs.Job.{CallNumbers, tile_count_of, line_address_of, calls_from, calls_of, job_call_at, call_numbers_of}

-- From a place, call after call gives these calls and ends exactly at the job's end. Each has a call's tag and is as long as that says.
pub data CallsToEnd (job : List ℕ) : ℕ → List CallNumbers → Type 0 where
  none : CallsToEnd job (length job) []
  one : {at : ℕ} {calls : List CallNumbers} → at < length job
      → tag_load ≤ (job_call_at job at).tag → (job_call_at job at).tag ≤ tag_home_eviction
      → (job_call_at job at).next ≡ at + head_bytes + value_length (job_call_at job at).tag → (job_call_at job at).next ≤ length job
      → CallsToEnd job (job_call_at job at).next calls → CallsToEnd job at (call_numbers_of (job_call_at job at) ∷ calls)

pub record AcceptedJob (job : List ℕ) : Type 0 where
  pub short : length job ≤ most_job_bytes
  pub header : header_bytes ≤ length job
  pub some_tiles : 1 ≤ tile_count_of job
  pub tiles_fit : tile_count_of job ≤ most_tiles
  pub aligned : line_address_of job % line_bytes ≡ 0
  pub calls_to_end : CallsToEnd job header_bytes (calls_of job)

abbrev pub AcceptedStatement : Type 0
AcceptedStatement = (job : List ℕ) → check_job job ≡ job_accepted → AcceptedJob job

-- the calls from any place of any job on: as many as there are bytes are enough
abbrev pub calls_at : List ℕ → ℕ → List CallNumbers
calls_at job at = calls_from (length job) job at
