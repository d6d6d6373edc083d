-- A job's call in lent bytes.
use Rattle.std.specs.Prelude.{ℕ, List}
use Rattle.protocol.specs.Parts.{Call}
use Rattle.job_format.specs.Job.{job_call_at, call_numbers_of}
use Rattle.job_rules.specs.Calls.{bench_call}

-- the bench's call that stands at a place of a job
abbrev pub call_in : List ℕ → ℕ → Call
call_in job at = bench_call (call_numbers_of (job_call_at job at))
