use native.Mathlib.Omega.{arith}
use Rattle.layout.specs.Blocks.{tile_block_at}
use Rattle.tile_words.proofs.InPlace.{put_read, put_noc2}
use Rattle.tile_words.proofs.queues.take_front.Goals as goal

pub returns : goal.returns
unfolding tile_block_at
returns c = put_read _ _ 0 _ (omega arith) (put_noc2 _ _ 0 (omega arith) _ c.pop_at.ensures.full c.pop_at.ensures.words_after)
