use native.Mathlib.Omega.{arith}
use Rattle.lists.proofs.OverLaws.{without_room}
use Rattle.listing.proofs.DigitLaws.{then_length}
use Rattle.listing.proofs.LineLaws.{call_length, call_put}
use Rattle.listing.proofs.PutLaws.{line_fits}
use Rattle.listing.proofs.lines.call_line.Goals as goal

pub returns-then-not-room : goal.returns-then-not-room
returns-then-not-room c = rw (← c.of-number.ensures, ← c.of-refusal.ensures, ← c.of-kind.ensures, ← c.of-value.ensures) (without_room _ _ _ _ (call_length _ _ _ _ _ _ _ _ c.of-number.result.counted c.of-refusal.result.counted c.of-kind.result.counted c.of-value.result.counted) c.room.ensures c.if-not-room.true)

pub returns : goal.returns
returns c = rw (← c.of-number.ensures, ← c.of-refusal.ensures, ← c.of-kind.ensures, ← c.of-value.ensures) (line_fits _ _ _ _ _ _ (call_length _ _ _ _ _ _ _ _ c.of-number.result.counted c.of-refusal.result.counted c.of-kind.result.counted c.of-value.result.counted) c.room.ensures c.if-not-room.false (λ h. call_put _ _ _ _ _ _ _ _ _ _ _ _ _ _ (omega arith) (omega (arith, then_length)) (omega (arith, then_length)) c.put_then-next.ensures c.put_then-next-2.ensures c.put_then-next-3.ensures c.put_then.ensures))
