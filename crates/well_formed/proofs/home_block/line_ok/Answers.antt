use native.Mathlib.Omega.{arith}
use Rattle.std.proofs.lemmas.Grind.{common_steps}
use Rattle.layout.specs.Canonical.{same_row}
use Rattle.layout.specs.Blocks.{row_at}
use Rattle.well_formed.specs.Rows.{bare, clear_behind}
use Rattle.layout.specs.Encode.{enc_line}
use Rattle.layout.specs.Decode.{dec_line}
use Rattle.well_formed.proofs.NumberLaws.{zero_left}
use Rattle.well_formed.proofs.RowLaws.{same_self}
use Rattle.well_formed.proofs.home_block.line_ok.Goals as goal

pub returns-in-0 : goal.returns-in-0
unfolding same_row row_at bare clear_behind enc_line dec_line
returns-in-0 c = grind (arith, common_steps, zero_left, same_self)

pub returns-in-1 : goal.returns-in-1
unfolding same_row row_at bare clear_behind enc_line dec_line
returns-in-1 c = grind (arith, common_steps, zero_left, same_self)

pub returns-in_default : goal.returns-in_default
unfolding same_row row_at bare clear_behind enc_line dec_line
returns-in_default c = grind (arith, common_steps, zero_left, same_self)
