use native.Mathlib.Omega.{arith}
use Rattle.std.proofs.lemmas.Grind.{common_steps}
use Rattle.layout.specs.Blocks.{row_at}
use Rattle.layout.specs.Canonical.{same_row, canon_message}
use Rattle.well_formed.specs.Rows.{clear_behind, bare, only_data}
use Rattle.layout.specs.Encode.{enc_from_memory}
use Rattle.layout.specs.Decode.{dec_from_memory}
use Rattle.well_formed.proofs.NumberLaws.{ne_left}
use Rattle.well_formed.proofs.RowLaws.{same_self}
use Rattle.well_formed.proofs.messages.FromMemoryMessage.is_ok.Goals as goal

pub returns-in-24 : goal.returns-in-24
unfolding row_at same_row canon_message clear_behind bare only_data enc_from_memory dec_from_memory
returns-in-24 c = grind (arith, common_steps, ne_left, same_self)

pub returns-in-25 : goal.returns-in-25
unfolding row_at same_row canon_message clear_behind bare only_data enc_from_memory dec_from_memory
returns-in-25 c = grind (arith, common_steps, ne_left, same_self)

pub returns-in_default : goal.returns-in_default
unfolding row_at same_row canon_message clear_behind bare only_data enc_from_memory dec_from_memory
returns-in_default c = grind (arith, common_steps, ne_left, same_self)
