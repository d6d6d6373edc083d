use mathlib.Core.Path.{◌∙◌}
use Rattle.job_exports.proofs.Laws.{ran}
use Rattle.job_exports.proofs.duzh_run_call.Goals as goal

pub returns : goal.returns
returns c =
    let made = c.run_call.ensures in
    let say = c.report_made.ensures in
    let all = ran c.args.line c.args.number c.args.words.now c.args.text.now c.args.from c.args.out.now c.call_at-call.ensures (c.told-told.ensures ∙ made.answer, made.after) c.answer_lines-place.ensures (say.refusal, say.report) in
    record { refusal = all.0; after = all.1.0; text = all.1.1.0; report = all.1.1.1 }
