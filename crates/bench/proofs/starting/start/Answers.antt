use Prim.Native.Nat.{ℕ, ◌+◌, ◌*◌, ◌-◌}
use native.Mathlib.Omega.{arith}
use mathlib.Core.Path.{◌≡◌, refl, ap, ◌∙◌}
use mathlib.Core.List.{List}
use lib.ListN.{length, set, replicate, length-set}
use Rattle.lists.proofs.OverLaws.{length_over}
use Rattle.bench.proofs.Started.{cleared, start_done, start_short, start_uncounted}
use Rattle.bench.proofs.starting.start.Goals as goal

pub returns-then-count-eq0 : goal.returns-then-count-eq0
returns-then-count-eq0 c =
    let p = start_uncounted c.args.words.now c.args.count c.args.memory c.then-count-eq0.either in
    record { answer = p.0; after = p.1 }

pub returns-then-words-enough : goal.returns-then-words-enough
returns-then-words-enough c =
    let p = start_short c.args.words.now c.args.count c.args.memory (omega arith) c.if-count-gt-MOST_TILES.false c.if-words-enough.true in
    record { answer = p.0; after = p.1 }

pub returns : goal.returns
returns c =
    let counted : List ℕ = set c.args.words.now 0 c.args.count in
    let long : length counted ≡ length c.args.words.now = length-set c.args.words.now 0 c.args.count in
    let home = cleared counted c.fill.new.self 1 13 13 (omega (arith, long)) refl (c.fill.ensures.after (λ y e. e)) in
    let still : length c.write_row.new.words ≡ length counted = c.write_row.auto.words ∙ ap (λ (z : List ℕ). length z) home ∙ length_over counted 1 (replicate 13 0) (omega (arith, long)) in
    let k : ℕ = 74 + 84 * c.args.count - 26 in
    let queues = cleared c.write_row.new.words c.fill-2.new.self 26 k k (omega (arith, still, long)) refl (c.fill-2.ensures.after (λ y e. e)) in
    let p = start_done c.args.words.now c.args.count c.args.memory _ _ _ _ _ (omega arith) c.if-count-gt-MOST_TILES.false c.if-words-enough.false refl home c.row_of-control.ensures c.write_row.ensures.full c.write_row.ensures.words_after queues in
    record { answer = p.0; after = p.1 }
