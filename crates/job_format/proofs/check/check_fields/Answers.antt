use mathlib.Core.Path.{◌≡◌, sym, ◌∙◌}
use native.Mathlib.Omega.{arith}
use Rattle.std.proofs.lemmas.Grind.{common_steps}
use Rattle.job_format.specs.Fields.{told_field}
use Rattle.job_format.specs.Check.{told_checked, job_refused}
use Rattle.job_format.proofs.CheckLaws.{turn, field_refused, fields_end, refused_lem}
use Rattle.job_format.proofs.check.check_fields.Goals as goal

pub returns-in_err-map_err : goal.returns-in_err-map_err
returns-in_err-map_err c =
    let e : told_checked c.from_residual.result ≡ job_refused (told_field c.check.result) c.loop-at.at = grind (arith, common_steps) in
    let n : told_field c.check.result ≡ 0 → ⊥ = grind (arith, common_steps, refused_lem) in
    e ∙ sym (c.loop-at.invariant.2 ∙ field_refused _ _ _ _ c.loop-at-test.true c.check.ensures n)

pub loop-at-preserved : goal.loop-at-preserved
loop-at-preserved c =
    let e : told_field c.check.result ≡ 0 = grind (arith, common_steps) in
    turn _ _ _ _ _ _ c.loop-at-test.true c.loop-at.invariant.1 c.loop-at.invariant.2 c.check.ensures e c.next-at.ensures

pub returns : goal.returns
returns c = c.check_end.ensures ∙ sym (c.loop-at.invariant.2 ∙ fields_end _ _ _ _ c.loop-at-test.false)
