use Rattle.lists.proofs.OverLaws.{without_room}
use Rattle.listing.proofs.PutLaws.{line_fits}
use Rattle.listing.proofs.digits.put_decimal.Goals as goal

pub returns-then-not-room : goal.returns-then-not-room
returns-then-not-room c = rw (← c.of-numeral.ensures) (without_room _ _ _ _ c.of-numeral.result.counted c.room.ensures c.if-not-room.true)

pub returns : goal.returns
returns c = rw (← c.of-numeral.ensures) (line_fits _ _ _ _ _ _ c.of-numeral.result.counted c.room.ensures c.if-not-room.false (λ h. c.put.ensures))
