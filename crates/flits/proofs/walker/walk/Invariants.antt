use Prim.Native.Nat.{◌-◌}
use lib.ListN.{length}
use Rattle.flits.proofs.WalkLaws.{Left}
use Rattle.flits.proofs.walker.walk.Given as goal

abbrev pub invariant-loop-front : goal.invariant-loop-front
invariant-loop-front l = Left l.flits l.messages l.at

abbrev pub decreases-loop-front : goal.decreases-loop-front
decreases-loop-front l = length l.flits - l.at
