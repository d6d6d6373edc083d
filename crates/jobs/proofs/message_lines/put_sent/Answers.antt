use mathlib.Core.Path.{refl, sym}
use native.Mathlib.Omega.{arith}
use lib.Seq.{length-take-le}
use Rattle.job_rules.proofs.Buffers.{sent_le, sent_take}
use Rattle.jobs.proofs.message_lines.put_sent.Goals as goal

pub slice_bounds-flits-end : goal.slice_bounds-flits-end
slice_bounds-flits-end c = omega (arith, sent_le c.args.line c.args.message _ _ _ _ refl c.unwrap_or.ensures c.write_message-written.ensures, c.write_message-written.auto.buffer)

pub slice_bounds-message_line-end : goal.slice_bounds-message_line-end
slice_bounds-message_line-end c =
    sym (length-take-le _ _ (omega (arith, sent_le c.args.line c.args.message _ _ _ _ refl c.unwrap_or.ensures c.write_message-written.ensures, c.write_message-written.auto.buffer)))

pub returns : goal.returns
returns c = rw (← sent_take c.args.line c.args.message _ _ _ _ refl c.unwrap_or.ensures c.write_message-written.ensures) c.message_line.ensures
