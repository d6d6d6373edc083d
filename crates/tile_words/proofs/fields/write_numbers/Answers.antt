use native.Mathlib.Omega.{arith}
use Rattle.tile_words.proofs.InPlace.{put_read, put_numbers}
use Rattle.tile_words.proofs.fields.write_numbers.Goals as goal

pub returns : goal.returns
returns c = put_read _ _ 0 _ (omega arith) (put_numbers _ _ 0 (omega arith) _ _ _ _ c.write_four.ensures)
