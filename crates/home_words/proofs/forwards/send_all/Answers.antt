use mathlib.Core.Path.{ap, ◌∙◌}
use mathlib.Core.List.{List}
use Prim.Native.Nat.{ℕ}
use Rattle.home_words.proofs.ForwardLoops.{tell_each, tell_here, tell_past, tell_none, tell_all}
use Rattle.home_words.proofs.forwards.send_all.Goals as goal

pub loop-tile-preserved-then-tile-count : goal.loop-tile-preserved-then-tile-count
loop-tile-preserved-then-tile-count c = (
  ap (λ (l : List ℕ). tell_each c.args.count c.args.message l c.next.new.self) c.send_one.ensures
      ∙ tell_here c.args.count c.in-Some.tile c.args.message c.loop-tile.words c.loop-tile.tile-iterator c.next.new.self c.in-Some.ensures.steps c.if-tile-count.true
      ∙ c.loop-tile.invariant.0,
  c.send_one.auto.words ∙ c.loop-tile.invariant.1,
)

pub loop-tile-preserved : goal.loop-tile-preserved
loop-tile-preserved c = (
  tell_past c.args.count c.in-Some.tile c.args.message c.loop-tile.words c.loop-tile.tile-iterator c.next.new.self c.in-Some.ensures.steps c.if-tile-count.false
      ∙ c.loop-tile.invariant.0,
  c.loop-tile.invariant.1,
)

pub returns-clause-words_after : goal.returns-clause-words_after
returns-clause-words_after c =
    tell_none c.args.count c.args.message c.loop-tile.words c.loop-tile.tile-iterator c.in-None.ensures.steps.0
    ∙ c.loop-tile.invariant.0 ∙ tell_all c.args.to c.args.count c.args.message c.args.words.now c.requires.1
