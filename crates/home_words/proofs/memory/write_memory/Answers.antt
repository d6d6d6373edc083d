use native.Mathlib.Omega.{arith}
use Rattle.home_words.proofs.InPlace.{home_read, put_memory_lem}
use Rattle.home_words.proofs.memory.write_memory.Goals as goal

pub returns : goal.returns
returns c = home_read _ _ _ (put_memory_lem _ _ (omega arith) c.args.memory c.write_eight.ensures.full c.write_eight.ensures.words_after)
