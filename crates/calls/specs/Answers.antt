-- What a call of the code answers, in the paper's numbers (01: 'when an answer is an enum, a definition gives this paper's number and
-- values for each of its cases').
use Rattle.std.specs.Prelude.{ℕ, Result, Ok, Err}
use Rattle.numbers.specs.declared.queues.Queues.{Queues}
use Rattle.numbers.specs.declared.queues.Queues.TheVariants.{Nothing, Noc1, Noc2, Noc3, ToMemory, FromMemory, Noc3ThenNoc1}
use Rattle.numbers.specs.declared.refusals.Refusal.{Refusal}
use Rattle.numbers.specs.Kinds.{kind_number}
use Rattle.numbers.specs.Queues.{queues_number}
use Rattle.numbers.specs.Refusals.{no_refusal, refusal_number}
use Rattle.masks.specs.Mask.{add64}
use Rattle.protocol.specs.declared.Answer.{Answer}
use Rattle.protocol.specs.Answers.{refusal}
use Rattle.calls.specs.declared.answers.Accepted.{Accepted}

abbrev pub accepted_answer : Accepted → Answer
accepted_answer a = record { refusal = no_refusal; kind = kind_number a.kind; value = a.value; sent = queues_number a.sent; tiles = a.tiles }

abbrev pub told : Result Accepted Refusal → Answer
told (Ok a) = accepted_answer a
told (Err r) = refusal (refusal_number r)

-- the tiles of a call at tile t that sent on these queues, as a mask
abbrev pub tiles_of : Queues → ℕ → ℕ
tiles_of Nothing t = 0
tiles_of Noc1 t = add64 0 t
tiles_of Noc2 t = add64 0 t
tiles_of Noc3 t = add64 0 t
tiles_of ToMemory t = add64 0 t
tiles_of FromMemory t = add64 0 t
tiles_of Noc3ThenNoc1 t = add64 0 t
