use native.Mathlib.Omega.{arith}
use Rattle.std.proofs.lemmas.Grind.{common_steps}
use Rattle.layout.specs.Blocks.{row_at}
use Rattle.well_formed.specs.Rows.{only_data}
use Rattle.layout.specs.Canonical.{same_row}
use Rattle.well_formed.proofs.NumberLaws.{or_clear, zero_left}
use Rattle.well_formed.proofs.rows.or_row.Goals as goal

pub returns : goal.returns
unfolding row_at only_data same_row
returns c = grind (arith, common_steps, or_clear, zero_left)
