use Rattle.layout.specs.Blocks.{tile_block_at}
use Rattle.home_words.proofs.forwards.has_room_for.Goals as goal

pub returns : goal.returns
unfolding tile_block_at
returns c = simp (c.has_room_at.ensures, c.tile_at.ensures)
