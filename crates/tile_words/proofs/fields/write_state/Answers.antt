use mathlib.Core.Path.{refl}
use native.Mathlib.Omega.{arith}
use Rattle.tile_words.proofs.InPlace.{put_read, put_state}
use Rattle.tile_words.proofs.fields.write_state.Goals as goal

pub returns : goal.returns
returns c = put_read _ _ 0 _ (omega arith) (put_state _ _ 0 (omega arith) c.args.state refl)
