use native.Mathlib.Omega.{arith}
use Rattle.home_words.proofs.InPlace.{home_read, answered_at}
use Rattle.home_words.proofs.memory.put_answer.Goals as goal

pub returns : goal.returns
returns c = home_read _ _ _ (answered_at _ _ (omega arith) c.args.message c.push_at.ensures.full c.push_at.ensures.words_after)
