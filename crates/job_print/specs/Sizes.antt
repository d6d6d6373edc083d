-- What a program must hold to run any job (01, 'Jobs'), given how many bytes of input, words and bytes of buffer it holds.
use Rattle.std.specs.Prelude.{ℕ, ◌≤◌, ◌<◌}
use Rattle.numbers.specs.Limits.{most_tiles, most_job_bytes}
use Rattle.layout.specs.Blocks.{bench_words}
use Rattle.job_rules.specs.Room.{most_call_bytes}

pub record Enough (input words buffer : ℕ) : Type 0 where
  -- a job that is too long is seen to be
  pub longest_job : most_job_bytes < input
  -- a bench of any tile count
  pub every_tile : bench_words most_tiles ≤ words
  -- the lines of any call
  pub longest_call : most_call_bytes ≤ buffer
