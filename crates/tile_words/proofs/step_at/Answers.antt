use mathlib.Core.Path.{refl}
use native.Mathlib.Omega.{arith}
use Rattle.tile_rules.specs.Steps.{tile_step_on}
use Rattle.tile_words.proofs.Part.{step_placed}
use Rattle.tile_words.proofs.step_at.Goals as goal

pub returns : goal.returns
returns c = step_placed _ _ c.requires (tile_step_on c.args.tag c.args.word c.args.value) _ _ _ _ (omega arith) refl (omega arith) c.step.ensures
