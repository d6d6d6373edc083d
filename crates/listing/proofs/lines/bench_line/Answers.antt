use native.Mathlib.Omega.{arith}
use Rattle.lists.proofs.OverLaws.{without_room}
use Rattle.listing.proofs.LineLaws.{bench_length, bench_put}
use Rattle.listing.proofs.PutLaws.{line_fits}
use Rattle.listing.proofs.lines.bench_line.Goals as goal

pub returns-then-not-room : goal.returns-then-not-room
returns-then-not-room c = rw (← c.of-tiles.ensures) (without_room _ _ _ _ (bench_length _ _ _ c.of-tiles.result.counted) c.room.ensures c.if-not-room.true)

pub returns : goal.returns
returns c = rw (← c.of-tiles.ensures) (line_fits _ _ _ _ _ _ (bench_length _ _ _ c.of-tiles.result.counted) c.room.ensures c.if-not-room.false (λ h. bench_put _ _ _ _ _ _ _ _ (omega arith) c.put_labelled-next.ensures c.put_address_end.ensures))
