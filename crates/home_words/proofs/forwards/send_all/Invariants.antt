use mathlib.Core.Path.{◌≡◌}
use lib.ListN.{length}
use Rattle.masks.specs.Tiles.{tiles_from}
use Rattle.home_words.proofs.ForwardLoops.{tell_each}
use Rattle.home_words.proofs.forwards.send_all.Given as goal

abbrev pub invariant-loop-tile : goal.invariant-loop-tile
invariant-loop-tile l = (tell_each l.count l.message l.words l.tile-iterator ≡ tell_each l.count l.message l.initial.words (tiles_from l.to 0)) × (length l.words ≡ length l.initial.words)
