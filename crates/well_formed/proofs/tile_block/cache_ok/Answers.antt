use native.Mathlib.Omega.{arith}
use Rattle.std.proofs.lemmas.Grind.{common_steps}
use Rattle.well_formed.specs.Blocks.{cache_ok}
use Rattle.layout.specs.Blocks.{row_at}
use Rattle.protocol.specs.Parts.{cache_state}
use Rattle.layout.specs.Encode.{cache_words}
use Rattle.layout.specs.Decode.{dec_cache}
use Rattle.well_formed.proofs.RowLaws.{same_self}
use Rattle.well_formed.proofs.tile_block.cache_ok.Goals as goal

pub returns-in-0 : goal.returns-in-0
unfolding cache_ok row_at cache_state cache_words dec_cache
returns-in-0 c = grind (arith, common_steps, same_self)

pub returns-in_default : goal.returns-in_default
unfolding cache_ok row_at cache_state cache_words dec_cache
returns-in_default c = grind (arith, common_steps, same_self)
