-- One line put where it fits, and the end. Assumes nothing.
use Prim.Native.Nat.{ℕ, ◌+◌, ◌≤◌}
use mathlib.Core.Path.{◌≡◌, refl, ap, ◌∙◌}
use mathlib.Core.Bool.{Bool, cond}
use mathlib.Core.List.{List, []}
use native.Mathlib.Omega.{arith}
use Rattle.std.proofs.Common.{None}
use borrow.Author.Tests.{le-leb}
use lib.Dec.{leb}
use lib.ListN.{length}
use Rattle.lists.specs.Over.{Placed, Put}
use Rattle.lists.proofs.OverLaws.{placed_put}
use Rattle.job_rules.specs.declared.states.Run.{Run}
use Rattle.job_rules.specs.RunStates.{ended, run_of, PutsPiece}

pub placed_at : (b b' : List ℕ) (p k : ℕ) (v : List ℕ) → p + length v ≤ length b → Placed b b' p k v → Put b b' p k v
unfolding Rattle.lists.specs.Over.place_after
placed_at b b' p k v h x = placed_put b b' p k v x (go x.place)
  where
    go : k ≡ cond (leb (p + length v) (length b)) (p + length v) (length b + 1) → k ≤ length b
    go e = omega (arith, e ∙ ap (λ (t : Bool). cond t (p + length v) (length b + 1)) (le-leb (p + length v) (length b) h))

pub line_put : (b b' : List ℕ) (p k : ℕ) (v : List ℕ) (a : Run) → p + length v ≤ length b → Placed b b' p k v → a ≡ record { put = k; rest = None } → PutsPiece p b (ended v []) a [] b'
unfolding run_of
line_put b b' p k v a h x e =
    let q = placed_at b b' p k v h x in
    record { says = e ∙ ap (λ (z : ℕ). record { put = z; rest = None }) q.place; leaves = refl; buffer = q.buffer; inside = omega (arith, ap (λ (z : Run). z.put) e, q.place) }
