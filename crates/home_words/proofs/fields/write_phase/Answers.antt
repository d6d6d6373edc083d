use mathlib.Core.Path.{refl}
use native.Mathlib.Omega.{arith}
use Rattle.home_words.proofs.InPlace.{home_read, phase_stores}
use Rattle.home_words.proofs.fields.write_phase.Goals as goal

pub returns : goal.returns
returns c = home_read _ _ _ (phase_stores _ _ (omega arith) _ _ _ _ _ _ refl c.write_four.ensures)
