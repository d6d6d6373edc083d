use Rattle.jobs.proofs.start_job.Goals as goal

pub returns : goal.returns
returns c = simp (← c.memory.ensures, ← c.tile_count.ensures) c.start.ensures
