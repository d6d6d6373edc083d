-- The listing of a job (01, 'Jobs'), line by line: the first line, the lines of each call's answer, the last line.
use Rattle.std.specs.Prelude.{ℕ, ◌+◌, List, [], ◌∷◌, ◌++◌, map}
use Rattle.protocol.specs.Parts.{Call}
use Rattle.calls.specs.Calls.{answer_to, after_call, start_on, words_started}
use Rattle.listing.specs.Lines.{bench_line, end_line}
use Rattle.job_format.specs.Job.{tile_count_of, line_address_of, memory_words_of, calls_of}
use Rattle.job_rules.specs.Calls.{bench_call}
use Rattle.job_rules.specs.AnswerLines.{answer_lines}

-- the call c, number n, made on the words l
unfoldable pub call_lines : ℕ → ℕ → Call → List ℕ → List (List ℕ)
call_lines line n c l = answer_lines line n (answer_to c l) (after_call c l)

-- calls on the words l, n calls made before them, and the last line
unfoldable pub lines_from : ℕ → ℕ → List Call → List ℕ → List (List ℕ)
lines_from line n [] l = end_line n ∷ []
lines_from line n (c ∷ cs) l = call_lines line (n + 1) c l ++ lines_from line (n + 1) cs (after_call c l)

-- a whole accepted job, run on the fresh bench of its header in the words l
unfoldable pub listing_of : List ℕ → List ℕ → List (List ℕ)
listing_of job l =
    bench_line (tile_count_of job) (line_address_of job)
    ∷ lines_from (line_address_of job) 0 (map bench_call (calls_of job)) (words_started l (tile_count_of job) (start_on l (tile_count_of job) (memory_words_of job)))
