use Rattle.job_rules.specs.Listing.{call_lines}
use Rattle.jobs.proofs.list_call.Goals as goal

pub returns : goal.returns
unfolding call_lines
returns c =
    record {
      after = c.run_call.ensures.after;
      lines = rw (← c.run_call.ensures.answer, ← c.told-answer.ensures, ← c.run_call.ensures.after) c.answer_lines.ensures;
    }
