use native.Mathlib.Omega.{arith}
use Rattle.std.proofs.lemmas.Grind.{common_steps}
use Rattle.well_formed.specs.Rows.{bare, clear_behind, only_data}
use Rattle.well_formed.proofs.NumberLaws.{or_clear}
use Rattle.well_formed.proofs.rows.bare.Goals as goal

pub returns : goal.returns
unfolding bare clear_behind only_data
returns c = grind (arith, common_steps, or_clear)
