use mathlib.Core.Path.{ap, ◌∙◌}
use Prim.Native.Nat.{◌+◌}
use native.Mathlib.Omega.{arith}
use lib.Count.{trailing_le}
use Rattle.masks.proofs.NextLaws.{next_none, from_small, next_some}
use Rattle.masks.proofs.next.Goals as goal

pub overflow_add-result : goal.overflow_add-result
overflow_add-result c = record { fits = omega (arith, c.from.ensures, trailing_le 64 c.shr-up.result, from_small c.args.mask c.args.from c.shr-up.result c.shr-up.ensures c.ranges.mask.fits c.if-up-eq0.false) }

pub returns-then-up-eq0 : goal.returns-then-up-eq0
returns-then-up-eq0 c = next_none _ _ _ c.shr-up.ensures c.if-up-eq0.true

pub returns-else-up-eq0 : goal.returns-else-up-eq0
returns-else-up-eq0 c = ap (λ n. c.args.from + n) c.from.ensures ∙ next_some _ _ _ c.shr-up.ensures c.ranges.mask.fits c.if-up-eq0.false
