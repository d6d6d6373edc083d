use Prim.Native.Nat.{◌-◌}
use lib.ListN.{length}
use Rattle.job_rules.specs.Room.{most_call_bytes}
use Rattle.job_format.specs.Job.{line_address_of}
use Rattle.jobs.proofs.PieceLaws.{Goes}
use Rattle.jobs.proofs.call_after_call.Given as goal

abbrev pub invariant-loop-put : goal.invariant-loop-put
invariant-loop-put l =
    Goes l.job (line_address_of l.job) (length l.fn.buffer - most_call_bytes) l.initial.put l.initial.rest.calls l.initial.rest.at l.initial.words l.initial.buffer l.words l.buffer l.put l.rest.calls l.rest.at

abbrev pub decreases-loop-put : goal.decreases-loop-put
decreases-loop-put l = length l.job - l.rest.at
