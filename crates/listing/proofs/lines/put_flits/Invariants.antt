use Prim.Native.Nat.{◌+◌, ◌*◌}
use mathlib.Core.Path.{◌≡◌}
use lib.ListN.{drop}
use Rattle.lists.specs.Over.{over}
use Rattle.listing.specs.Lines.{flits_text}
use Rattle.listing.proofs.lines.put_flits.Given as goal

abbrev pub invariant-loop-flit : goal.invariant-loop-flit
invariant-loop-flit l = (l.next ≡ l.at + 17 * l.flit-index) × (over l.buffer l.next (flits_text (drop l.flit-index l.flits)) ≡ over l.initial.buffer l.at (flits_text l.flits))
