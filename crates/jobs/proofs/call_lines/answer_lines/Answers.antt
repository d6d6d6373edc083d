use Rattle.job_rules.specs.AnswerLines.{answer_lines}
use Rattle.job_rules.proofs.Buffers.{placed_cons}
use Rattle.jobs.proofs.call_lines.answer_lines.Goals as goal

pub returns : goal.returns
unfolding answer_lines
returns c = placed_cons _ _ _ _ _ _ _ _ c.call_line-place.ensures c.put_messages.ensures
