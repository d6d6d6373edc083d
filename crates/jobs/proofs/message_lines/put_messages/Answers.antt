use mathlib.Core.Path.{refl}
use native.Mathlib.Omega.{arith}
use Rattle.messages.specs.Rows.{sent_message}
use Rattle.job_rules.proofs.Buffers.{rest_step, rest_done}
use Rattle.jobs.proofs.message_lines.put_messages.Goals as goal

pub loop-index-init : goal.loop-index-init
loop-index-init c = record { place = refl; buffer = refl }

pub loop-index-preserved : goal.loop-index-preserved
unfolding sent_message
loop-index-preserved c = rest_step _ _ _ _ _ _ _ _ _ _ (omega arith) c.loop-index.invariant (rw c.message-message.ensures at c.put_sent-place.ensures)

pub returns : goal.returns
returns c = rest_done _ _ _ _ _ _ _ _ (omega arith) c.loop-index.invariant
