use native.Mathlib.Omega.{arith}
use Rattle.home_words.proofs.InPlace.{home_read, put_control}
use Rattle.home_words.proofs.fields.write_control.Goals as goal

pub returns : goal.returns
returns c = home_read _ _ _ (put_control _ _ (omega arith) _ _ _ _ c.write_four.ensures)
