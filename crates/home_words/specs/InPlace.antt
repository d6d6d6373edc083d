-- A device of the proofs: no public promise rests on it alone. The home's block changed in place, in the words that begin with it.
use Rattle.std.specs.Prelude.{ℕ, ◌≡◌, List}
use Rattle.lists.specs.Over.{over}
use Rattle.layout.specs.declared.rows.Row.{Row}
use Rattle.layout.specs.declared.rows.HomeBlock.{HomeBlock}
use Rattle.layout.specs.Blocks.{home_block_words, HomeFull}
use Rattle.layout.specs.Encode.{row}
use Rattle.layout.specs.Queues.{push_row, pop_row}
use Rattle.home_rules.specs.declared.moves.HomeMove.{HomeMove}
use Rattle.home_rules.specs.declared.moves.LineSource.{LineSource}
use Rattle.home_rules.specs.Steps.{block_of, with_words, words_from, outgoing_put, line_after_move, with_memory}

-- m is l with the block x at its front
pub record HomePut (l : List ℕ) (x : HomeBlock) (m : List ℕ) : Type 0 where
  pub words : m ≡ over l 0 (home_block_words x)
  pub full : HomeFull x

-- the changes that the home's steps are made of
abbrev pub with_phase : ℕ → ℕ → ℕ → ℕ → ℕ → HomeBlock → HomeBlock
with_phase p a b c d x = block_of x.count p (row a b c d x.line.words) x.control x.out x.back

abbrev pub with_control : ℕ → ℕ → ℕ → ℕ → HomeBlock → HomeBlock
with_control a b c d x = block_of x.count x.phase x.line (row a b c d x.control.words) x.out x.back

abbrev pub with_memory_words : List ℕ → HomeBlock → HomeBlock
with_memory_words ws x = with_memory x ws x.out x.back

abbrev pub without_request : HomeBlock → HomeBlock
without_request x = block_of x.count x.phase x.line x.control (pop_row x.out) x.back

abbrev pub with_answer : Row → HomeBlock → HomeBlock
with_answer m x = block_of x.count x.phase x.line x.control x.out (push_row x.back m)

-- the line's words after a move; and all of a move but its message to tiles
abbrev pub with_source : LineSource → List ℕ → HomeBlock → HomeBlock
with_source w ws x = with_words (words_from w x.line.words ws) x

abbrev pub move_made : List ℕ → HomeMove → HomeBlock → HomeBlock
move_made ws m x = outgoing_put m.sends (line_after_move x ws m)

-- the memory's step: its words, the front of its queue taken off, and the answer m put on the way back
abbrev pub memory_stepped : List ℕ → Row → HomeBlock → HomeBlock
memory_stepped ws m x = with_memory x ws (pop_row x.out) (push_row x.back m)
