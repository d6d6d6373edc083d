-- A device of the proofs: no public promise rests on it alone. A tile's block changed in place, on the words where it stands; and its step:
-- what it answers, and the words after it.
use Rattle.std.specs.Prelude.{ℕ, ◌≡◌, List, Result, Ok, Err}
use Rattle.numbers.specs.Kinds.{kind_number}
use Rattle.numbers.specs.Queues.{queues_number}
use Rattle.numbers.specs.declared.refusals.Refusal.{Refusal}
use Rattle.numbers.specs.Refusals.{refusal_number}
use Rattle.lists.specs.Over.{over}
use Rattle.layout.specs.declared.rows.TileBlock.{TileBlock}
use Rattle.layout.specs.Blocks.{tile_block_at, tile_block_words, TileFull}
use Rattle.tile_rules.specs.Steps.{TileStep, refused_step, accepted_step}
use Rattle.tile_words.specs.declared.StepAnswer.{StepAnswer}

-- the tile whose words t are
abbrev pub tile_in : List ℕ → TileBlock
tile_in t = tile_block_at t 0

-- a step that answers r, with the block x after it, in the paper's numbers
abbrev pub told_step : Result StepAnswer Refusal → TileBlock → TileStep
told_step (Ok a) x = accepted_step (kind_number a.kind) a.value (queues_number a.sent) x
told_step (Err r) x = refused_step (refusal_number r) x

-- m is l with the block x from place i on
pub record TilePut (l : List ℕ) (i : ℕ) (x : TileBlock) (m : List ℕ) : Type 0 where
  pub words : m ≡ over l i (tile_block_words x)
  pub full : TileFull x

-- the step s of the tile at place i of l answers r, and m are the words after it
pub record Stepped (l : List ℕ) (i : ℕ) (s : TileStep) (r : Result StepAnswer Refusal) (m : List ℕ) : Type 0 where
  pub answer : told_step r s.tile ≡ s
  pub put : TilePut l i s.tile m

-- the same of the step that f makes of the tile that stands there
abbrev pub Steps : List ℕ → ℕ → (TileBlock → TileStep) → Result StepAnswer Refusal → List ℕ → Type 0
Steps l i f r m = Stepped l i (f (tile_block_at l i)) r m
