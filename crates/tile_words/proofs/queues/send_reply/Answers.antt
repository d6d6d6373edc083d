use native.Mathlib.Omega.{arith}
use Rattle.layout.specs.Blocks.{tile_block_at}
use Rattle.tile_words.proofs.InPlace.{put_read, put_noc3}
use Rattle.tile_words.proofs.queues.send_reply.Goals as goal

pub returns : goal.returns
unfolding tile_block_at
returns c = put_read _ _ 0 _ (omega arith) (put_noc3 _ _ 0 (omega arith) _ c.push_numbers_at.ensures.full c.push_numbers_at.ensures.words_after)
