use mathlib.Core.Path.{sym, ◌∙◌}
use native.Mathlib.Omega.{arith}
use Rattle.protocol.specs.Calls.{home_calls, call_from}
use Rattle.calls.proofs.Decoded.{found}
use Rattle.calls.proofs.Meets.{malformed}
use Rattle.bench.proofs.HomeCalls.{last_there, memory_serves_lem, serves}
use Rattle.bench.proofs.home.at_home.Goals as goal

pub bounds-words-0 : goal.bounds-words-0
bounds-words-0 c = omega (arith, (found _ (sym c.well_formed-2.ensures ∙ c.if-not-well_formed.false)).long)

pub memory_step-requires : goal.memory_step-requires
memory_step-requires c =
    let f = found c.args.words.now (sym c.well_formed-2.ensures ∙ c.if-not-well_formed.false) in
    (f.enough, f.most)

pub serve-requires : goal.serve-requires
serve-requires c =
    let wf = sym c.well_formed-2.ensures ∙ c.if-not-well_formed.false in
    let f = found c.args.words.now wf in
    ((f.enough, f.most), omega (arith, last_there c.args.words.now wf, f.most))

pub returns-then-tag-eq-TAG_MEMORY_STEP : goal.returns-then-tag-eq-TAG_MEMORY_STEP
returns-then-tag-eq-TAG_MEMORY_STEP c =
    let m = memory_serves_lem c.args.words.now (sym c.well_formed-2.ensures ∙ c.if-not-well_formed.false) _ _ c.args.tag c.args.tile c.if-tag-eq-TAG_MEMORY_STEP.true c.memory_step.ensures in
    record { answer = m.answer; after = m.words }

pub returns-else-tag-eq-TAG_MEMORY_STEP : goal.returns-else-tag-eq-TAG_MEMORY_STEP
returns-else-tag-eq-TAG_MEMORY_STEP c =
    let m = serves c.args.words.now (sym c.well_formed-2.ensures ∙ c.if-not-well_formed.false) _ _ c.args.tag c.args.tile c.if-tag-eq-TAG_MEMORY_STEP.false c.serve.ensures in
    record { answer = m.answer; after = m.words }

pub returns-then-not-well_formed : goal.returns-then-not-well_formed
returns-then-not-well_formed c =
    let m = malformed c.args.words.now (call_from home_calls c.args.tag c.args.tile 0 0) (sym c.well_formed-2.ensures ∙ c.if-not-well_formed.true) in
    record { answer = m.answer; after = m.words }
