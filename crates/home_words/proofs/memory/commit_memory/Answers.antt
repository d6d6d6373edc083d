use mathlib.Core.Path.{sym, ◌∙◌}
use native.Mathlib.Omega.{arith}
use Rattle.home_words.proofs.Committed.{memory_full, memory_done}
use Rattle.home_words.proofs.memory.commit_memory.Goals as goal

pub returns-then-not-has_room_at : goal.returns-then-not-has_room_at
returns-then-not-has_room_at c = memory_full c.args.words.now c.args.count c.args.memory c.args.message (sym c.has_room_at.ensures ∙ c.if-not-has_room_at.true)

pub returns : goal.returns
returns c = memory_done c.args.words.now c.args.count c.args.memory c.args.message _ _ (omega arith) c.in-Some.ensures.cases.same c.make_memory_step.ensures.full c.make_memory_step.ensures.stepped (sym c.has_room_at.ensures ∙ c.if-not-has_room_at.false)
