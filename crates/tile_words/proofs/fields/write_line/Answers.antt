use native.Mathlib.Omega.{arith}
use Rattle.tile_words.proofs.InPlace.{put_read, put_line}
use Rattle.tile_words.proofs.fields.write_line.Goals as goal

pub returns : goal.returns
returns c = put_read _ _ 0 _ (omega arith) (put_line _ _ 0 (omega arith) c.args.line c.write_eight.ensures.full c.write_eight.ensures.words_after)
