use native.Mathlib.Omega.{arith}
use mathlib.Core.Path.{ap}
use Rattle.job_rules.specs.declared.states.Rest.{Rest}
use Rattle.jobs.proofs.PieceLaws.{bench_inside, accepted_put}
use Rattle.jobs.proofs.accepted_piece.Goals as goal

pub call_after_call-requires : goal.call_after_call-requires
call_after_call-requires c = (
  omega (arith, c.bench_line-put.auto.buffer),
  omega (arith, ap (λ (z : Rest). z.calls) c.begin.ensures, ap (λ (z : Rest). z.at) c.begin.ensures),
  omega (arith, bench_inside _ _ _ _ _ c.requires c.bench_line-put.ensures, c.bench_line-put.auto.buffer),
)

pub returns : goal.returns
returns c =
    accepted_put _ _ _ _ _ _ _ _ _ _ _ _ c.requires c.bench_line-put.auto.buffer c.tile_count-count.ensures c.line_address.ensures c.start_job.ensures.after c.bench_line-put.ensures c.begin.ensures c.call_after_call.ensures
