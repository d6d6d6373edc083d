-- The listing of a whole job, as it is walked: the statement. Its proof is proofs/Listing.antt.
use Rattle.std.specs.Prelude.{ℕ, suc, ◌+◌, ◌≡◌, cond, List, [], ◌∷◌, ◌++◌, ltb, length}
use Rattle.calls.specs.Calls.{after_call, start_on, words_started}
use Rattle.listing.specs.Lines.{bench_line, end_line}
use Rattle.job_format.specs.Check.{check_job, job_accepted}
use Rattle.job_format.specs.Places.{header_bytes}
use Rattle.job_format.specs.Job.{tile_count_of, line_address_of, memory_words_of, job_call_at, call_numbers_of}
use Rattle.job_rules.specs.Calls.{bench_call}
use Rattle.job_rules.specs.Listing.{call_lines, listing_of}

-- Call after call, read at a place of the job, made on the words l that the last one left: its lines, and the next place's. n calls were
-- made before; f is at least as many as there can be.
unfoldable pub walk_lines : ℕ → List ℕ → ℕ → ℕ → ℕ → List ℕ → List (List ℕ)
walk_lines ℕ.zero job line n at l = end_line n ∷ []
walk_lines (suc f) job line n at l =
    cond (ltb at (length job))
    (call_lines line (n + 1) (bench_call (call_numbers_of (job_call_at job at))) l ++ walk_lines f job line (n + 1) (job_call_at job at).next (after_call (bench_call (call_numbers_of (job_call_at job at))) l))
    (end_line n ∷ [])

-- Of an accepted job: the first line, then what this walk gives on the words that the start left, are the listing of the calls that the job
-- holds.
abbrev pub ListingStatement : Type 0
ListingStatement =
    (job l : List ℕ) → check_job job ≡ job_accepted
    → bench_line (tile_count_of job) (line_address_of job)
    ∷ walk_lines (length job) job (line_address_of job) 0 header_bytes (words_started l (tile_count_of job) (start_on l (tile_count_of job) (memory_words_of job))) ≡ listing_of job l
