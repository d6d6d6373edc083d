use Prim.Native.Nat.{ℕ, ◌+◌, ◌-◌}
use mathlib.Core.Path.{◌≡◌, ap, sym, ◌∙◌}
use mathlib.Core.Bool.{cond}
use Rattle.masks.specs.Mask.{add64}
use Rattle.arbiter.specs.RoundRobin.{can_take, ready_from}
use Rattle.arbiter.proofs.RoundRobin.{ready_turn, ready_end}
use Rattle.arbiter.proofs.round_robin.ready_tiles.Goals as goal
use Rattle.arbiter.proofs.round_robin.ready_tiles.Goals.{then-can_take, else-can_take}

pub loop-tile-preserved : goal.loop-tile-preserved
loop-tile-preserved c =
    let l = c.args.words.now in
    let n = c.args.count in
    let k = c.args.marks in
    let i = c.loop-tile.tile in
    let r = c.loop-tile.ready in
    let noted : c.if-can_take.ready ≡ cond (can_take l k i) (add64 r i) r =
    elim c.if-can_take.branch [
      | then-can_take w ↦ rw (sym c.can_take.ensures ∙ w.if-can_take.true) (w.ready-is ∙ w.add-ready.ensures)
      | else-can_take w ↦ rw (sym c.can_take.ensures ∙ w.if-can_take.false) w.ready-is
    ] in
    ap (λ (a : ℕ). ready_from a l k (i + 1) (n - (i + 1))) noted ∙ sym (ready_turn r l k i n c.loop-tile-test.true) ∙ c.loop-tile.invariant

pub returns : goal.returns
returns c = sym (ready_end c.loop-tile.ready c.args.words.now c.args.marks c.loop-tile.tile c.args.count c.loop-tile-test.false) ∙ c.loop-tile.invariant
