use native.Mathlib.Omega.{arith}
use Rattle.home_words.proofs.InPlace.{home_read, put_words}
use Rattle.home_words.proofs.moves.write_line.Goals as goal

pub returns : goal.returns
returns c = home_read _ _ _ (put_words _ _ (omega arith) c.args.line c.write_eight.ensures.full c.write_eight.ensures.words_after)
