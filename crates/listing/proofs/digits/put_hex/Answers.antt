use native.Mathlib.Omega.{arith}
use Rattle.listing.proofs.PutLaws.{digits_turn, digits_put}
use Rattle.listing.proofs.digits.put_hex.Goals as goal

pub loop-place-preserved : goal.loop-place-preserved
loop-place-preserved g c = digits_turn _ _ _ _ _ _ _ c.loop-place-test.true (omega arith) c.digit.ensures c.loop-place.invariant

pub returns : goal.returns
returns g c = digits_put _ _ _ _ _ _ _ _ c.loop-place-test.false c.loop-place.invariant
