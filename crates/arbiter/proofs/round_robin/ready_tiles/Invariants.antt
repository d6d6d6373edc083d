use Prim.Native.Nat.{◌-◌}
use mathlib.Core.Path.{◌≡◌}
use Rattle.arbiter.specs.RoundRobin.{ready_from}
use Rattle.arbiter.proofs.round_robin.ready_tiles.Given as goal

abbrev pub invariant-loop-tile : goal.invariant-loop-tile
invariant-loop-tile l = ready_from l.ready l.words l.marks l.tile (l.count - l.tile) ≡ ready_from 0 l.words l.marks 0 l.count
