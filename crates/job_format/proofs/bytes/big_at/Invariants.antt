use Prim.Native.Nat.{◌<◌, ◌^◌}
use mathlib.Core.Path.{◌≡◌}
use Rattle.job_format.specs.Bytes.{big_at}
use Rattle.job_format.proofs.bytes.big_at.Given as goal

abbrev pub invariant-loop-i : goal.invariant-loop-i
invariant-loop-i g l = (l.number ≡ big_at l.i l.job l.at) × (l.number < 256 ^ l.i)
