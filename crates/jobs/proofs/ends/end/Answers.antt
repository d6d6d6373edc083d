use Rattle.jobs.proofs.LineLaws.{line_put}
use Rattle.jobs.proofs.ends.end.Goals as goal

pub returns : goal.returns
returns c = line_put _ _ _ _ _ _ c.requires c.end_line.ensures c.end.ensures
