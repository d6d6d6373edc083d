-- The listing of a job by 01's rules alone: its calls as steps of a fresh bench, each with the messages that the step sends.
use Rattle.std.specs.Prelude.{ℕ, ◌+◌, ◌≤◌, ◌<◌, ◌≡◌, List, [], ◌∷◌, ◌++◌, map, length, get_or}
use Rattle.protocol.specs.Parts.{Message, Bench, Call, Result, refused, accepted}
use Rattle.protocol.specs.Bench.{fresh, step}
use Rattle.protocol.specs.Runs.{after}
use Rattle.numbers.specs.Kinds.{kind_other}
use Rattle.numbers.specs.Refusals.{no_refusal}
use Rattle.layout.specs.Blocks.{bench_words}
use Rattle.messages.specs.Rows.{numbers_of_message}
use Rattle.message_flits.specs.Fields.{message_fields, message_data}
use Rattle.flits.specs.Writing.{flits_of}
use Rattle.listing.specs.Lines.{bench_line, call_line, message_line, end_line}
use Rattle.job_format.specs.Bytes.{byte_values}
use Rattle.job_format.specs.Check.{check_job, job_accepted}
use Rattle.job_format.specs.Job.{tile_count_of, line_address_of, memory_words_of, calls_of}
use Rattle.job_rules.specs.Calls.{bench_call}
use Rattle.job_rules.specs.Listing.{listing_of}

-- the flits of a message of the line with this address (01, 'Flits of a bench')
unfoldable pub message_flits : ℕ → Message → List ℕ
message_flits line m = flits_of (message_fields line (numbers_of_message m).queue (numbers_of_message m).tile (numbers_of_message m).row) (message_data (numbers_of_message m).row)

-- one line for each message, in the order of sending
unfoldable pub message_lines : ℕ → List Message → List (List ℕ)
message_lines line [] = []
message_lines line (m ∷ ms) = message_line (message_flits line m) ∷ message_lines line ms

-- call number n: a refusal has kind and value 0 and sends nothing
unfoldable pub result_lines : ℕ → ℕ → Result Bench → List (List ℕ)
result_lines line n (refused r) = call_line n r kind_other 0 ∷ []
result_lines line n (accepted k v b ms) = call_line n no_refusal k v ∷ message_lines line ms

-- calls on the bench b, n calls made before them, and the last line
unfoldable pub step_lines : ℕ → ℕ → List Call → Bench → List (List ℕ)
step_lines line n [] b = end_line n ∷ []
step_lines line n (c ∷ cs) b = result_lines line (n + 1) (step c b) ++ step_lines line (n + 1) cs (after c b)

unfoldable pub rule_listing : List ℕ → List (List ℕ)
rule_listing job = bench_line (tile_count_of job) (line_address_of job) ∷ step_lines (line_address_of job) 0 (map bench_call (calls_of job)) (fresh (tile_count_of job) (memory_words_of job))

-- a list of bytes
abbrev pub Bytes : List ℕ → Type 0
Bytes job = (i : ℕ) → get_or job i 0 < byte_values

-- Of an accepted job, in words that are enough for its tiles, whatever they held: the listing on words is that of the rules. So the flit part
-- refuses no message that a job's calls send.
abbrev pub RulesStatement : Type 0
RulesStatement =
    (job l : List ℕ) → Bytes job → check_job job ≡ job_accepted → bench_words (tile_count_of job) ≤ length l → listing_of job l ≡ rule_listing job
