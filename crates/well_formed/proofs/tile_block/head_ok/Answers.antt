use Rattle.layout.specs.Blocks.{row_at}
use Rattle.well_formed.proofs.BlockLaws.{head}
use Rattle.well_formed.proofs.tile_block.head_ok.Goals as goal

pub returns : goal.returns
unfolding row_at
returns c = simp (c.waiting_numbers_ok.ensures, c.cache_ok.ensures) (head _)
