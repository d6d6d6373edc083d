use native.Mathlib.Omega.{arith}
use Rattle.home_words.proofs.Places.{told_over}
use Rattle.home_words.proofs.forwards.send_one.Goals as goal

pub returns : goal.returns
returns c =
    let w = c.push_at.ensures in
    simp c.tile_at.ensures at (told_over c.args.words.now _ c.tile_at.result c.args.message (omega arith) w.full w.words_after)
