use Rattle.layout.specs.Blocks.{row_at}
use Rattle.layout.specs.Canonical.{canon_message}
use Rattle.well_formed.proofs.MessageLaws.{reply}
use Rattle.well_formed.proofs.messages.ReplyMessage.is_ok.Goals as goal

pub returns : goal.returns
unfolding row_at canon_message
returns c = simp (c.reply_numbers_ok.ensures, c.clear_data.ensures) (reply _)
