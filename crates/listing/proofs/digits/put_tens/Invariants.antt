use Prim.Native.Nat.{◌*◌, ◌+◌, ◌%◌}
use mathlib.Core.Path.{◌≡◌}
use Rattle.lists.specs.Over.{over}
use Rattle.listing.specs.Digits.{digits}
use Rattle.listing.proofs.digits.put_tens.Given as goal

abbrev pub invariant-loop-pair : goal.invariant-loop-pair
invariant-loop-pair l = over l.buffer l.at (digits 10 (l.count % 2 + 2 * l.pair) l.rest) ≡ over l.initial.buffer l.at (digits 10 l.count l.number)
