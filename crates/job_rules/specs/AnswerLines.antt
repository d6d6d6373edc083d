-- The lines of an answer (01, 'Jobs'): the call's line, then one line for each message that it sent.
use Rattle.std.specs.Prelude.{ℕ, cond, List, [], ◌∷◌, eqb, length}
use Rattle.protocol.specs.declared.Answer.{Answer}
use Rattle.layout.specs.declared.queues.BenchQueue.{BenchQueue}
use Rattle.messages.specs.Queues.{sent_queues}
use Rattle.messages.specs.declared.Sent.{Sent}
use Rattle.messages.specs.Rows.{sent_at}
use Rattle.message_flits.specs.Fields.{message_fields, message_data}
use Rattle.numbers.specs.Refusals.{no_refusal}
use Rattle.flits.specs.Table.{most_flits}
use Rattle.flits.specs.Writing.{write_refusal, flits_of}
use Rattle.listing.specs.Lines.{call_line, message_line}

-- the flits of a message that was sent, of the line with this address; none where the flit part refuses it, which it does for no message of
-- an accepted job (crate job_theorems, specs/Rules.antt)
unfoldable pub sent_flits : ℕ → Sent → List ℕ
sent_flits line m =
    cond (eqb (write_refusal (message_fields line m.queue m.tile m.row) (length (message_data m.row)) most_flits 0) no_refusal)
    (flits_of (message_fields line m.queue m.tile m.row) (message_data m.row))
    []

abbrev pub sent_line : ℕ → Sent → List ℕ
sent_line line m = message_line (sent_flits line m)

-- the messages that stand last on these queues of the words l
unfoldable pub sent_lines : ℕ → List ℕ → List BenchQueue → List (List ℕ)
sent_lines line l [] = []
sent_lines line l (p ∷ ps) = sent_line line (sent_at l p) ∷ sent_lines line l ps

-- call number n with the answer a, which left the words l
unfoldable pub answer_lines : ℕ → ℕ → Answer → List ℕ → List (List ℕ)
answer_lines line n a l = call_line n a.refusal a.kind a.value ∷ sent_lines line l (sent_queues a.sent a.tiles)
