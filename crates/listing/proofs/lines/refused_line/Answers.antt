use native.Mathlib.Omega.{arith}
use Rattle.lists.proofs.OverLaws.{without_room}
use Rattle.listing.proofs.LineLaws.{refused_length, refused_put}
use Rattle.listing.proofs.PutLaws.{line_fits}
use Rattle.listing.proofs.lines.refused_line.Goals as goal

pub returns-then-not-room : goal.returns-then-not-room
returns-then-not-room c = rw (← c.of-number.ensures, ← c.of-offset.ensures) (without_room _ _ _ _ (refused_length _ _ _ _ c.of-number.result.counted c.of-offset.result.counted) c.room.ensures c.if-not-room.true)

pub returns : goal.returns
returns c = rw (← c.of-number.ensures, ← c.of-offset.ensures) (line_fits _ _ _ _ _ _ (refused_length _ _ _ _ c.of-number.result.counted c.of-offset.result.counted) c.room.ensures c.if-not-room.false (λ h. refused_put _ _ _ _ _ _ _ _ (omega arith) c.put_labelled-next.ensures c.put_labelled.ensures))
