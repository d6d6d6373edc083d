-- Lists of calls, each made on what the last one left: on the rules' bench, and on anything else that takes calls and shows a bench, as
-- lent words do. Demand 3 and order 1 are stated once, of every such machine.
use Rattle.std.specs.Prelude.{ℕ, Bool, cond, ◌&&◌, ◌||◌, List, [], ◌∷◌, eqb}
use Rattle.numbers.specs.Kinds.{kind_loaded, kind_stored, kind_sent}
use Rattle.protocol.specs.declared.Answer.{Answer}
use Rattle.protocol.specs.Parts.{Waiting, nothing, Bench, Call, Result, refused, accepted}
use Rattle.protocol.specs.Bench.{step}
use Rattle.protocol.specs.Calls.{Role, accesses, delivers_to, takes, neither, role_of}
use Rattle.protocol.specs.Answers.{answer_of, is_accepted, has_kind}

-- a refused call changes nothing
unfoldable pub kept : Bench → Result Bench → Bench
kept b (refused n) = b
kept b (accepted k v x ms) = x

unfoldable pub after : Call → Bench → Bench
after c b = kept b (step c b)

-- what takes calls: its states, what a call answers in a state, the state after it, and the bench that a state shows
pub record Machine : Type 1 where
  pub State : Type 0
  pub answer : Call → State → Answer
  pub next : Call → State → State
  pub view : State → Bench

-- the rules themselves
abbrev pub rules : Machine
rules = record { State = Bench; answer = λ c b. answer_of (step c b); next = after; view = λ b. b }

-- the state after a list of calls
unfoldable pub runs : (m : Machine) → List Call → m.State → m.State
runs m [] s = s
runs m (c ∷ cs) s = runs m cs (m.next c s)

-- a call of the list and its answer
pub data Event : Type 0 where
  event : Call → Answer → Event

unfoldable pub history : (m : Machine) → List Call → m.State → List Event
history m [] s = []
history m (c ∷ cs) s = event c (m.answer c s) ∷ history m cs (m.next c s)

-- a call can be accepted if, made next, it would be
unfoldable pub can_be_accepted : (m : Machine) → Call → m.State → Bool
can_be_accepted m c s = is_accepted (m.answer c s)

-- What tile t waits for, x before the event: from the accepted call that sends its request (LOAD_REQ, STORE_REQ) to the accepted
-- delivery to it of kind 1 or 2.
unfoldable pub waits_for_by : ℕ → Role → Answer → Waiting → Waiting
waits_for_by t (accesses u p) r x = cond (eqb u t && has_kind kind_sent r) p x
waits_for_by t (delivers_to u) r x = cond (eqb u t && (has_kind kind_loaded r || has_kind kind_stored r)) nothing x
waits_for_by t takes r x = x
waits_for_by t neither r x = x

unfoldable pub waits_for_after : ℕ → Event → Waiting → Waiting
waits_for_after t (event c r) x = waits_for_by t (role_of c) r x

unfoldable pub waits_for_since : (ℕ → Waiting) → List Event → ℕ → Waiting
waits_for_since q [] = q
waits_for_since q (e ∷ es) = waits_for_since (λ t. waits_for_after t e (q t)) es

-- from a fresh bench, in which nobody waits
unfoldable pub waits_for : List Event → ℕ → Waiting
waits_for es = waits_for_since (λ t. nothing) es
