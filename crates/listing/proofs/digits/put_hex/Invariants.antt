use mathlib.Core.Path.{◌≡◌}
use Rattle.lists.specs.Over.{over}
use Rattle.listing.specs.Digits.{digits}
use Rattle.listing.proofs.digits.put_hex.Given as goal

abbrev pub invariant-loop-place : goal.invariant-loop-place
invariant-loop-place g l = over l.buffer l.at (digits 16 l.place l.rest) ≡ over l.initial.buffer l.at (digits 16 g.row.COUNT l.number)
