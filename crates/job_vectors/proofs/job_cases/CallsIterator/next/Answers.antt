use Rattle.std.proofs.Common.{◌<◌, arith, rules, ap}
use Rattle.job_format.specs.declared.calls.JobCall.{JobCall}
use Rattle.job_format.proofs.CallLaws.{next_in}
use Rattle.job_vectors.proofs.job_cases.CallsIterator.next.Goals as goal

-- a call is not empty
pub returns-clause-goes : goal.returns-clause-goes
returns-clause-goes c =
    let calls = c.args.self.now in
    let further : calls.at < c.call_at-call.result.next =
    omega (arith, c.if-self.false, ap (λ (x : JobCall). x.next) c.call_at-call.ensures, next_in calls.job.now calls.at (omega (arith, c.if-self.false))) in
    search (rules, further)
