use native.Mathlib.Omega.{arith}
use Rattle.std.proofs.lemmas.Grind.{common_steps}
use Rattle.layout.specs.Blocks.{row_at}
use Rattle.layout.specs.Canonical.{same_row, canon_message}
use Rattle.layout.specs.Encode.{enc_forward}
use Rattle.layout.specs.Decode.{dec_forward}
use Rattle.well_formed.proofs.MessageLaws.{forward_bare, forward_none}
use Rattle.well_formed.proofs.RowLaws.{same_self}
use Rattle.well_formed.proofs.messages.ForwardMessage.is_ok.Goals as goal

pub returns-in-29 : goal.returns-in-29
unfolding row_at same_row canon_message enc_forward dec_forward
returns-in-29 c = grind (arith, common_steps, forward_bare, forward_none, same_self)

pub returns-in-16-to-18 : goal.returns-in-16-to-18
unfolding row_at same_row canon_message enc_forward dec_forward
returns-in-16-to-18 c = grind (arith, common_steps, forward_bare, forward_none, same_self)

pub returns-in_default : goal.returns-in_default
unfolding row_at same_row canon_message enc_forward dec_forward
returns-in_default c = grind (arith, common_steps, forward_bare, forward_none, same_self)

pub returns-in_default-2 : goal.returns-in_default-2
unfolding row_at same_row canon_message enc_forward dec_forward
returns-in_default-2 c = grind (arith, common_steps, forward_bare, forward_none, same_self)
