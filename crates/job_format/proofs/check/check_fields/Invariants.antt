use Prim.Native.Nat.{◌≤◌, ◌-◌}
use mathlib.Core.Path.{◌≡◌}
use lib.ListN.{length}
use Rattle.job_format.specs.Check.{check_fields}
use Rattle.job_format.proofs.check.check_fields.Given as goal

abbrev pub invariant-loop-at : goal.invariant-loop-at
invariant-loop-at l = (l.at ≤ length l.job) × (l.before ≤ l.at) × (check_fields (length l.job) l.job 0 0 ≡ check_fields (length l.job - l.at) l.job l.at l.before)

abbrev pub decreases-loop-at : goal.decreases-loop-at
decreases-loop-at l = length l.job - l.at
