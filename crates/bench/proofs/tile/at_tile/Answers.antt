use borrow.Author.Rules.{rules}
use mathlib.Core.Path.{◌≡◌, refl, ap, sym, ◌∙◌}
use native.Mathlib.Omega.{arith}
use Rattle.std.specs.Prelude.{Err}
use Rattle.calls.specs.Answers.{told}
use Rattle.protocol.specs.Calls.{tile_calls, call_from}
use Rattle.calls.proofs.Decoded.{found}
use Rattle.calls.proofs.Meets.{malformed}
use Rattle.bench.proofs.TileCalls.{no_tile, refused_in_place, done_in_place}
use Rattle.bench.proofs.tile.at_tile.Goals as goal

pub bounds-words-0 : goal.bounds-words-0
bounds-words-0 c = omega (arith, (found _ (sym c.well_formed-2.ensures ∙ c.if-not-well_formed.false)).long)

pub tile_at-requires : goal.tile_at-requires
tile_at-requires c = omega (arith, (found _ (sym c.well_formed-2.ensures ∙ c.if-not-well_formed.false)).most)

pub step_at-requires : goal.step_at-requires
step_at-requires c = omega (arith, (found _ (sym c.well_formed-2.ensures ∙ c.if-not-well_formed.false)).enough)

pub returns-then-not-well_formed : goal.returns-then-not-well_formed
returns-then-not-well_formed c =
    let m = malformed c.args.words.now (call_from tile_calls c.args.tag c.args.tile c.args.word c.args.value) (sym c.well_formed-2.ensures ∙ c.if-not-well_formed.true) in
    record { answer = m.answer; after = m.words }

pub returns-then-tile-words : goal.returns-then-tile-words
returns-then-tile-words c =
    let m = no_tile c.args.words.now c.args.tag c.args.tile c.args.word c.args.value (sym c.well_formed-2.ensures ∙ c.if-not-well_formed.false) c.if-tile-words.true in
    record { answer = m.answer; after = m.words }

pub returns-in_err-kind : goal.returns-in_err-kind
returns-in_err-kind c =
    let e : c.from_residual.result ≡ Err c.in_err-kind.field-0.0 = search rules in
    let m = refused_in_place c.args.words.now c.args.tag c.args.tile c.args.word c.args.value (sym c.well_formed-2.ensures ∙ c.if-not-well_formed.false) c.if-tile-words.false _ refl c.tile_at.result _ _ c.tile_at.ensures c.in_err-kind.ensures in
    record { answer = ap told e ∙ m.answer; after = m.words }

pub returns : goal.returns
returns c =
    let m = done_in_place c.args.words.now c.args.tag c.args.tile c.args.word c.args.value (sym c.well_formed-2.ensures ∙ c.if-not-well_formed.false) c.if-tile-words.false _ refl c.tile_at.result _ _ _ c.tile_at.ensures c.in_ok-kind.ensures c.at_tile.ensures in
    record { answer = m.answer; after = m.words }
