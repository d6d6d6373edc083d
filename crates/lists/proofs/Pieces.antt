-- A byte put into a buffer. Assumes nothing.
use Prim.Native.Nat.{ℕ, ◌+◌, ◌≤◌}
use mathlib.Core.Path.{refl}
use mathlib.Core.List.{List, [], ◌∷◌}
use native.Mathlib.Omega.{arith}
use lib.ListN.{length, set}
use Rattle.lists.specs.Over.{Put}
use Rattle.lists.proofs.OverLaws.{over_one}

pub byte_put : (l : List ℕ) (i a : ℕ) → i + 1 ≤ length l → Put l (set l i a) i (i + 1) (a ∷ [])
byte_put l i a h = record { place = refl; buffer = over_one l i a (omega arith) }
