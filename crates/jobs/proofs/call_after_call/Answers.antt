use mathlib.Core.Path.{◌≡◌, ap, ◌∙◌}
use Rattle.job_format.specs.Bytes.{next_at}
use Rattle.job_format.specs.declared.calls.JobCall.{JobCall}
use Rattle.job_format.proofs.CallLaws.{next_in}
use native.Mathlib.Omega.{arith}
use Rattle.jobs.proofs.PieceLaws.{end_le, goes_start, goes_step, goes_end, goes_pause}
use Rattle.jobs.proofs.call_after_call.Goals as goal

pub loop-put-init : goal.loop-put-init
loop-put-init c = goes_start _ _ _ _ _ _ _ _ c.requires.1 c.requires.2

pub end-requires : goal.end-requires
end-requires c = omega (arith, end_le c.loop-put.rest.calls)

pub returns-then-rest-job : goal.returns-then-rest-job
returns-then-rest-job c = goes_end _ _ _ _ _ _ _ _ _ _ _ _ _ c.loop-put.auto.buffer c.loop-put.invariant _ _ c.loop-put-test.true c.if-rest-job.true c.end.ensures

pub loop-put-smaller : goal.loop-put-smaller
loop-put-smaller c =
    let m : c.call_at-call.result.next ≡ next_at c.args.job.now c.loop-put.rest.at = ap (λ (z : JobCall). z.next) c.call_at-call.ensures ∙ next_in c.args.job.now c.loop-put.rest.at (omega arith) in
    omega (arith, m)

pub loop-put-preserved : goal.loop-put-preserved
loop-put-preserved c =
    goes_step _ _ _ _ _ _ _ _ _ _ _ _ _ c.loop-put.auto.buffer c.loop-put.invariant _ _ _ _ c.loop-put-test.true (omega arith) (omega arith) c.call_at-call.ensures c.list_call-put.ensures.after (rw c.line_address-line.ensures at c.list_call-put.ensures.lines)

pub returns : goal.returns
returns c = goes_pause _ _ _ _ _ _ _ _ _ _ _ _ _ c.loop-put.auto.buffer c.loop-put.invariant (omega arith)
