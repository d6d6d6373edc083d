use Rattle.layout.specs.Blocks.{tile_block_at, pair_at, row_at}
use Rattle.tile_words.proofs.queues.read_front.Goals as goal

pub returns : goal.returns
unfolding tile_block_at pair_at row_at
returns c = c.read_eight.ensures
