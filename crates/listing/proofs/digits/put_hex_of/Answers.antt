use Rattle.lists.proofs.OverLaws.{without_room}
use mathlib.Core.Path.{sym}
use Rattle.listing.proofs.DigitLaws.{length_digits}
use Rattle.listing.proofs.PutLaws.{line_fits}
use Rattle.listing.proofs.digits.put_hex_of.Goals as goal

pub returns-then-not-room : goal.returns-then-not-room
returns-then-not-room g c = without_room _ _ _ _ (sym (length_digits 16 g.row.COUNT c.args.number)) c.room.ensures c.if-not-room.true

pub returns : goal.returns
returns g c = line_fits _ _ _ _ _ _ (sym (length_digits 16 g.row.COUNT c.args.number)) c.room.ensures c.if-not-room.false (λ h. c.put_hex.ensures)
