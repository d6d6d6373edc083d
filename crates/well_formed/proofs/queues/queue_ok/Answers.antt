use native.Mathlib.Omega.{arith}
use Rattle.std.proofs.lemmas.Grind.{common_steps}
use Rattle.well_formed.specs.Rows.{none_at}
use Rattle.layout.specs.Canonical.{same_pair, canon_queue}
use Rattle.layout.specs.Blocks.{pair_at, row_at}
use Rattle.well_formed.proofs.queues.queue_ok.Goals as goal

pub returns-then-first-eq-NO_MESSAGE : goal.returns-then-first-eq-NO_MESSAGE
unfolding none_at same_pair canon_queue pair_at row_at
returns-then-first-eq-NO_MESSAGE g c = grind (arith, common_steps)

pub returns-then-second-eq-NO_MESSAGE : goal.returns-then-second-eq-NO_MESSAGE
unfolding none_at same_pair canon_queue pair_at row_at
returns-then-second-eq-NO_MESSAGE g c = grind (arith, common_steps)

pub returns-else-second-eq-NO_MESSAGE : goal.returns-else-second-eq-NO_MESSAGE
unfolding none_at same_pair canon_queue pair_at row_at
returns-else-second-eq-NO_MESSAGE g c = grind (arith, common_steps)
