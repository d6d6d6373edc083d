use native.Mathlib.Omega.{arith}
use lib.ListN.{get_or}
use Rattle.listing.proofs.DigitLaws.{length_digits}
use Rattle.listing.proofs.LineLaws.{flits_turn, flits_put}
use Rattle.listing.proofs.lines.put_flits.Goals as goal

pub loop-flit-preserved : goal.loop-flit-preserved
loop-flit-preserved c = (
  omega (arith, c.put_flit-next.ensures.place, length_digits 16 16 (get_or c.args.flits.now c.loop-flit.flit-index 0)),
  flits_turn _ _ _ _ _ _ _ c.loop-flit-test.true (omega arith) c.put_flit-next.ensures c.loop-flit.invariant.1,
)

pub returns : goal.returns
returns c = flits_put _ _ _ _ _ _ (omega arith) c.loop-flit-test.false c.loop-flit.invariant.0 c.loop-flit.invariant.1
