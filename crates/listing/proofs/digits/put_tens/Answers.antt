use mathlib.Core.Path.{◌≡◌}
use native.Mathlib.Omega.{arith}
use Prim.Native.Nat.{◌+◌, ◌*◌, ◌/◌, ◌%◌}
use Rattle.listing.proofs.PutLaws.{pair_turn, pairs_last, digits_put}
use Rattle.listing.proofs.digits.put_tens.Goals as goal
use Rattle.listing.proofs.digits.put_tens.Goals.{then-at-first, else-at-first}

pub loop-pair-init : goal.loop-pair-init
loop-pair-init c = let e : c.args.count % 2 + 2 * (c.args.count / 2) ≡ c.args.count = omega arith in rw e

pub loop-pair-preserved : goal.loop-pair-preserved
loop-pair-preserved c = pair_turn _ _ _ _ _ _ c.loop-pair-test.true (omega arith) c.loop-pair.invariant

pub returns : goal.returns
returns c =
    elim c.if-at-first.branch [
      | then-at-first w ↦ rw w.buffer-is (pairs_last _ _ _ _ _ _ _ _ c.loop-pair-test.false (omega arith) (omega arith) (omega arith) c.loop-pair.invariant)
      | else-at-first w ↦ rw w.buffer-is (digits_put _ _ _ _ _ _ _ _ (omega arith) c.loop-pair.invariant)
    ]
