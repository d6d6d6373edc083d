use Rattle.lists.proofs.OverLaws.{without_room}
use Rattle.listing.proofs.LineLaws.{end_length}
use Rattle.listing.specs.Lines.{end_line}
use Rattle.listing.proofs.PutLaws.{line_fits}
use Rattle.listing.proofs.lines.end_line.Goals as goal

pub returns-then-not-room : goal.returns-then-not-room
returns-then-not-room c = rw (← c.of-calls.ensures) (without_room _ _ _ _ (end_length _ _ c.of-calls.result.counted) c.room.ensures c.if-not-room.true)

pub returns : goal.returns
unfolding end_line
returns c = rw (← c.of-calls.ensures) (line_fits _ _ _ _ _ _ (end_length _ _ c.of-calls.result.counted) c.room.ensures c.if-not-room.false (λ h. c.put_labelled.ensures))
