use Rattle.messages.specs.Queues.{sent_queues}
use Rattle.job_rules.proofs.Buffers.{Rest}
use Rattle.jobs.proofs.message_lines.put_messages.Given as goal

abbrev pub invariant-loop-index : goal.invariant-loop-index
invariant-loop-index l = Rest l.line l.words (sent_queues l.answer.sent l.answer.tiles) l.initial.buffer l.at l.buffer l.place l.index
