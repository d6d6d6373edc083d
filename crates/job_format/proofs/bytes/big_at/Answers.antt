use mathlib.Core.Path.{refl}
use native.Mathlib.Omega.{arith}
use Rattle.job_format.specs.Bytes.{big_at}
use Rattle.job_format.proofs.ByteLaws.{big_more, below_more, eight_fit}
use Rattle.job_format.proofs.bytes.big_at.Goals as goal

pub loop-i-init : goal.loop-i-init
unfolding big_at
loop-i-init g c = (refl, omega arith)

pub overflow_mul-number : goal.overflow_mul-number
overflow_mul-number g c = omega (arith, eight_fit c.loop-i.i c.loop-i.number 0 (omega arith) c.loop-i.invariant.1 (omega arith))

pub overflow_add-number : goal.overflow_add-number
overflow_add-number g c = omega (arith, eight_fit c.loop-i.i c.loop-i.number c.byte_at.result (omega arith) c.loop-i.invariant.1 c.byte_at.ensures.1)

pub loop-i-preserved : goal.loop-i-preserved
loop-i-preserved g c = (big_more _ _ _ _ _ c.loop-i.invariant.0 c.byte_at.ensures.0, below_more _ _ _ c.loop-i.invariant.1 c.byte_at.ensures.1)
