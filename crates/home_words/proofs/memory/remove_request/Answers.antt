use native.Mathlib.Omega.{arith}
use Rattle.home_words.proofs.InPlace.{home_read, served_at}
use Rattle.home_words.proofs.memory.remove_request.Goals as goal

pub returns : goal.returns
returns c = home_read _ _ _ (served_at _ _ (omega arith) c.pop_at.ensures.full c.pop_at.ensures.words_after)
