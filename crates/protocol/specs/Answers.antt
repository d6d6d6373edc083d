-- Document 01, 'The bench': what a call answers, in numbers: refusal number, kind and value, and which messages it sent.
use Rattle.std.specs.Prelude.{ℕ, Bool, ◌&&◌, List, [], ◌∷◌, eqb}
use Rattle.masks.specs.Mask.{add}
use Rattle.numbers.specs.Queues.{no_queue_number, noc1_queue, noc2_queue, noc3_queue, to_memory_queue, from_memory_queue, noc3_then_noc1_queues}
use Rattle.numbers.specs.Kinds.{kind_other}
use Rattle.numbers.specs.Refusals.{no_refusal}
use Rattle.protocol.specs.declared.Answer.{Answer}
use Rattle.protocol.specs.Parts.{Message, on_noc1, on_noc2, on_noc3, to_memory, from_memory, Result, refused, accepted}

-- On which queues a step sent, and whose they are, as a mask of tiles. A step sends at most one message to a queue, so each is the
-- last on its queue after the step; on NoC2 they are in rising order of tiles.
unfoldable pub sent_on : List Message → ℕ
sent_on [] = no_queue_number
sent_on (on_noc1 t m ∷ ms) = noc1_queue
sent_on (on_noc2 t m ∷ ms) = noc2_queue
sent_on (on_noc3 t m ∷ []) = noc3_queue
sent_on (on_noc3 t m ∷ x ∷ ms) = noc3_then_noc1_queues
sent_on (to_memory m ∷ ms) = to_memory_queue
sent_on (from_memory m ∷ ms) = from_memory_queue

unfoldable pub sent_to : List Message → ℕ
sent_to [] = 0
sent_to (on_noc1 t m ∷ ms) = add (sent_to ms) t
sent_to (on_noc2 t m ∷ ms) = add (sent_to ms) t
sent_to (on_noc3 t m ∷ ms) = add (sent_to ms) t
sent_to (to_memory m ∷ ms) = sent_to ms
sent_to (from_memory m ∷ ms) = sent_to ms

-- a refusal gives its number, with kind and value 0, and sends nothing
abbrev pub refusal : ℕ → Answer
refusal n = record { refusal = n; kind = kind_other; value = 0; sent = no_queue_number; tiles = 0 }

abbrev pub acceptance : ℕ → ℕ → List Message → Answer
acceptance k v ms = record { refusal = no_refusal; kind = k; value = v; sent = sent_on ms; tiles = sent_to ms }

unfoldable pub answer_of : {A : Type 0} → Result A → Answer
answer_of (refused n) = refusal n
answer_of (accepted k v x ms) = acceptance k v ms

-- Accepted means refusal number 0
unfoldable pub is_accepted : Answer → Bool
is_accepted a = eqb a.refusal no_refusal

unfoldable pub has_kind : ℕ → Answer → Bool
has_kind k a = eqb a.refusal no_refusal && eqb a.kind k
