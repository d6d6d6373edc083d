use mathlib.Core.Path.{sym, ◌∙◌}
use Rattle.job_format.specs.Job.{call_numbers_of}
use Rattle.calls.proofs.Laws.{call_from_lem}
use Rattle.jobs.proofs.run_call.Goals as goal

pub returns-then-is_tile_call : goal.returns-then-is_tile_call
unfolding call_numbers_of
returns-then-is_tile_call c = simp (call_from_lem, sym c.is_tile_call.ensures ∙ c.if-is_tile_call.true) c.at_tile.ensures

pub returns-else-is_tile_call : goal.returns-else-is_tile_call
unfolding call_numbers_of
returns-else-is_tile_call c = simp (call_from_lem, sym c.is_tile_call.ensures ∙ c.if-is_tile_call.false) c.at_home.ensures
