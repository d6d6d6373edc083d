use mathlib.Core.Path.{refl, ◌∙◌}
use Prim.Native.Nat.{◌-◌}
use native.Mathlib.Omega.{arith}
use lib.ListN.{length}
use Rattle.flit_rules.proofs.ReadLaws.{refused_lem}
use Rattle.flits.proofs.WalkLaws.{left_start, left_more, inside, walk_stop}
use Rattle.flits.proofs.walker.walk.Goals as goal

pub loop-front-init : goal.loop-front-init
loop-front-init c = left_start c.args.flits.now

pub overflow_add-at : goal.overflow_add-at
overflow_add-at c = omega (arith, inside c.args.flits.now c.loop-front.at c.in-Ok.ensures refl)

pub loop-front-smaller : goal.loop-front-smaller
loop-front-smaller c = omega (arith, inside c.args.flits.now c.loop-front.at c.in-Ok.ensures refl)

pub loop-front-preserved : goal.loop-front-preserved
loop-front-preserved c =
    let l = c.loop-front in
    left_more c.args.flits.now l.messages l.at l.invariant c.in-Ok.ensures refl

pub returns-in-Err : goal.returns-in-Err
returns-in-Err c =
    let s = c.args.flits.now in
    let l = c.loop-front in
    walk_stop (length s - l.messages) s l.at l.messages c.in-Err.ensures (refused_lem c.in-Err.refusal) ∙ l.invariant.2
