use Rattle.std.proofs.Common.{arith}
use Rattle.job_format.specs.Job.{memory_words_of}
use Rattle.job_format.proofs.WordLaws.{eight_words}
use Rattle.job_format.proofs.header.memory.Goals as goal

pub returns : goal.returns
unfolding memory_words_of
returns c =
    eight_words c.from_fn.result _ _ _ _ _ _ _ _ c.from_fn.ensures.items.long (grind arith) (grind arith) (grind arith) (grind arith) (grind arith) (grind arith) (grind arith) (grind arith)
