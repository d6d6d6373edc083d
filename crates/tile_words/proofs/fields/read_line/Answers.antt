use Rattle.layout.specs.Blocks.{tile_block_at, row_at}
use Rattle.tile_words.proofs.fields.read_line.Goals as goal

pub returns : goal.returns
unfolding tile_block_at row_at
returns c = c.read_eight.ensures
