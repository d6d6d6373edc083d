use Rattle.std.proofs.Common.{length}
use Rattle.job_rules.proofs.Pieces.{pieces_left, Stands}
use Rattle.job_print.proofs.print.Given as goal

abbrev pub invariant-loop-run : goal.invariant-loop-run
invariant-loop-run g l = Stands l.job (length l.fn.buffer) l.fn.words l.words l.run

abbrev pub decreases-loop-run : goal.decreases-loop-run
decreases-loop-run g l = pieces_left l.job l.run
