-- What is proved of all pieces of a run, one after the other: the statements. Their proofs are proofs/Run.antt.
use Rattle.std.specs.Prelude.{ℕ, suc, ◌≤◌, ◌≡◌, Bool, false, cond, List, ◌++◌, map, eqb, length, drop}
use Rattle.numbers.specs.Limits.{most_tiles}
use Rattle.numbers.specs.Refusals.{no_refusal}
use Rattle.protocol.specs.Bench.{fresh}
use Rattle.protocol.specs.Runs.{rules, runs}
use Rattle.layout.specs.Encode.{encode}
use Rattle.layout.specs.Blocks.{bench_words}
use Rattle.listing.specs.Lines.{refused_line}
use Rattle.job_format.specs.Check.{check_job, job_accepted}
use Rattle.job_format.specs.Job.{tile_count_of, memory_words_of, calls_of}
use Rattle.job_rules.specs.Calls.{bench_call}
use Rattle.job_theorems.specs.Rules.{rule_listing, Bytes}
use Rattle.job_rules.specs.RunStates.{Left, run_of}
use Rattle.job_rules.specs.Room.{bytes_of, most_call_bytes}
use Rattle.job_rules.specs.Pieces.{first_piece, next_piece, words_printed}

-- all that was put, and whether there is more
pub record Printed : Type 0 where
  pub bytes : List ℕ
  pub going : Bool

unfoldable pub printed_after : List ℕ → Printed → Printed
printed_after bs x = record { bytes = bs ++ x.bytes; going = x.going }

-- A piece, and as long as there is more the next one, made of what the last one answered and of the words that it left: at most f more.
unfoldable pub printed_from : ℕ → List ℕ → ℕ → Left → Printed
printed_from ℕ.zero job len x = record { bytes = x.bytes; going = x.going }
printed_from (suc f) job len x =
    cond x.going (printed_after x.bytes (printed_from f job len (next_piece job len (run_of 0 x) x.words))) (record { bytes = x.bytes; going = false })

-- the first piece and at most f more, of a run on the words l with a buffer of len bytes
unfoldable pub printed : ℕ → List ℕ → ℕ → List ℕ → Printed
printed f job len l = printed_from f job len (first_piece job len l)

-- all of it, and no more
abbrev pub all_of : List ℕ → Printed
all_of bs = record { bytes = bs; going = false }

-- An accepted job, in words that are enough for its tiles and a buffer of at least 12,180 bytes: the pieces are all bytes of the listing
-- by 01's rules, and end after no more pieces than the job has bytes.
abbrev pub AcceptedRunStatement : Type 0
AcceptedRunStatement =
    (job l : List ℕ) (len : ℕ) → Bytes job → check_job job ≡ job_accepted → bench_words (tile_count_of job) ≤ length l → most_call_bytes ≤ len → printed (length job) job len l ≡ all_of (bytes_of (rule_listing job))

-- A refused job: the first piece is the line of its refusal, and there is no other.
abbrev pub RefusedRunStatement : Type 0
RefusedRunStatement =
    (job l : List ℕ) (len f : ℕ) → ((check_job job).refusal ≡ no_refusal → ⊥) → most_call_bytes ≤ len → printed f job len l ≡ all_of (refused_line (check_job job).refusal (check_job job).offset)

-- what 01 says that is printed of a byte string
unfoldable pub printout : List ℕ → List ℕ
printout job = cond (eqb (check_job job).refusal no_refusal) (bytes_of (rule_listing job)) (refused_line (check_job job).refusal (check_job job).offset)

-- Every byte string, in words that are enough for 64 tiles.
abbrev pub RunStatement : Type 0
RunStatement = (job l : List ℕ) (len : ℕ) → Bytes job → bench_words most_tiles ≤ length l → most_call_bytes ≤ len → printed (length job) job len l ≡ all_of (printout job)

-- The words that the whole run of an accepted job leaves: the bench after all of its calls, by 01's rules, and what stood behind it.
abbrev pub WordsStatement : Type 0
WordsStatement =
    (job l : List ℕ) (len : ℕ) → check_job job ≡ job_accepted → bench_words (tile_count_of job) ≤ length l → most_call_bytes ≤ len
    → words_printed job len l ≡ encode (runs rules (map bench_call (calls_of job)) (fresh (tile_count_of job) (memory_words_of job))) ++ drop (bench_words (tile_count_of job)) l
