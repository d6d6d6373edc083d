use native.Mathlib.Omega.{arith}
use Rattle.jobs.proofs.LineLaws.{line_put}
use Rattle.jobs.proofs.ends.refused.Goals as goal

pub returns : goal.returns
returns c = line_put _ _ _ _ _ _ (omega arith) (rw c.from.ensures at c.refused_line.ensures) c.end.ensures
