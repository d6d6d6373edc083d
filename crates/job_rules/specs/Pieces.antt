-- A job's run in pieces: how much of its listing (01, 'Jobs') each piece puts into a lent buffer, from the buffer's start on.
use Rattle.std.specs.Prelude.{ℕ, suc, ◌+◌, ◌-◌, true, cond, List, [], ◌++◌, eqb, ltb, leb, length, Option, Some, None}
use Rattle.numbers.specs.Refusals.{no_refusal}
use Rattle.calls.specs.Calls.{after_call, start_on, words_started}
use Rattle.listing.specs.Lines.{bench_line, end_line, refused_line}
use Rattle.job_format.specs.Bytes.{next_at}
use Rattle.job_format.specs.Check.{check_job}
use Rattle.job_format.specs.Places.{header_bytes}
use Rattle.job_format.specs.Job.{tile_count_of, line_address_of, memory_words_of, call_numbers_at}
use Rattle.job_rules.specs.Calls.{bench_call}
use Rattle.job_rules.specs.Listing.{call_lines}
use Rattle.job_rules.specs.Room.{bytes_of, most_call_bytes}
use Rattle.job_rules.specs.declared.states.Rest.{Rest}
use Rattle.job_rules.specs.declared.states.Run.{Run}
use Rattle.job_rules.specs.RunStates.{Left, ended, rest_to_resume, run_of}

-- the bytes bs, then what x puts
unfoldable pub preceded : List ℕ → Left → Left
preceded bs x = record { bytes = bs ++ x.bytes; going = x.going; at = x.at; calls = x.calls; words = x.words }

-- nothing more for now
abbrev pub paused : ℕ → ℕ → List ℕ → Left
paused n at l = record { bytes = []; going = true; at = at; calls = n; words = l }

-- the bytes of the call at a place of the job, with n calls before it, and the words after it
abbrev pub bytes_of_call : List ℕ → ℕ → ℕ → ℕ → List ℕ → List ℕ
bytes_of_call job line n at l = bytes_of (call_lines line (n + 1) (bench_call (call_numbers_at job at)) l)

abbrev pub words_after_call : List ℕ → ℕ → List ℕ → List ℕ
words_after_call job at l = after_call (bench_call (call_numbers_at job at)) l

-- Call after call from a place of the job on, with n calls before it and p bytes put: as long as p is not above the limit, the next call's
-- lines, and at the job's end the last line. f is more than the calls that there can be.
unfoldable pub piece_from : ℕ → List ℕ → ℕ → ℕ → ℕ → ℕ → ℕ → List ℕ → Left
piece_from ℕ.zero job line limit p n at l = paused n at l
piece_from (suc f) job line limit p n at l =
    cond (leb p limit)
    (cond (ltb at (length job))
    (preceded (bytes_of_call job line n at l) (piece_from f job line limit (p + length (bytes_of_call job line n at l)) (n + 1) (next_at job at) (words_after_call job at l)))
    (ended (end_line n) l))
    (paused n at l)

-- the same, in a buffer of len bytes
abbrev pub piece_in : List ℕ → ℕ → ℕ → ℕ → ℕ → List ℕ → Left
piece_in job len p n at l = piece_from (suc (length job)) job (line_address_of job) (len - most_call_bytes) p n at l

-- The first piece. A refused job: its only line. An accepted one: a fresh bench in the words, the first line, and calls.
unfoldable pub accepted_piece : List ℕ → ℕ → List ℕ → Left
accepted_piece job len l =
    preceded (bench_line (tile_count_of job) (line_address_of job))
    (piece_in job len (length (bench_line (tile_count_of job) (line_address_of job))) 0 header_bytes (words_started l (tile_count_of job) (start_on l (tile_count_of job) (memory_words_of job))))

unfoldable pub first_piece : List ℕ → ℕ → List ℕ → Left
first_piece job len l =
    cond (ltb len most_call_bytes) (ended [] l)
    (cond (eqb (check_job job).refusal no_refusal) (accepted_piece job len l) (ended (refused_line (check_job job).refusal (check_job job).offset) l))

-- what is left of a job gives a piece
abbrev pub piece_of : List ℕ → ℕ → Option Rest → List ℕ → Left
piece_of job len None l = ended [] l
piece_of job len (Some r) l = piece_in job len 0 r.calls r.at l

-- The next piece of a run that goes on. A run whose calls are not fewer than the bytes before its place is none.
unfoldable pub next_piece : List ℕ → ℕ → Run → List ℕ → Left
next_piece job len r l = cond (ltb len most_call_bytes) (ended [] l) (piece_of job len (rest_to_resume r) l)

-- one call
abbrev pub call_left : List ℕ → ℕ → ℕ → ℕ → List ℕ → Left
call_left job line n at l = record { bytes = bytes_of_call job line n at l; going = true; at = next_at job at; calls = n + 1; words = words_after_call job at l }

-- The last of a piece and the next ones, each made of what the one before it answered and of the words that it left, at most f more; and the
-- words that the whole run leaves with a buffer of len bytes.
unfoldable pub last_from : ℕ → List ℕ → ℕ → Left → Left
last_from ℕ.zero job len x = x
last_from (suc f) job len x = cond x.going (last_from f job len (next_piece job len (run_of 0 x) x.words)) x

unfoldable pub words_printed : List ℕ → ℕ → List ℕ → List ℕ
words_printed job len l = (last_from (suc (length job)) job len (first_piece job len l)).words
