-- Laws of the encoding. Assumes nothing.
use Prim.Native.Nat.{ℕ}
use mathlib.Core.Path.{◌≡◌}
use mathlib.Core.Bool.{Bool, cond, true, false, ◌&&◌, and-true}
use mathlib.Core.List.{List}
use lib.Dec.{eqb}
use lib.ListN.{length, get_or}
use Rattle.layout.proofs.Over.{eight}
use Rattle.layout.specs.Canonical.{same}

-- eight words are compared one by one
pub same_eight : (x y : List ℕ) → length x ≡ 8 → length y ≡ 8 →
    eqb (get_or x 0 0) (get_or y 0 0) && (eqb (get_or x 1 0) (get_or y 1 0) && (eqb (get_or x 2 0) (get_or y 2 0) && (eqb (get_or x 3 0) (get_or y 3 0) && (eqb (get_or x 4 0) (get_or y 4 0) && (eqb (get_or x 5 0) (get_or y 5 0) && (eqb (get_or x 6 0) (get_or y 6 0) && eqb (get_or x 7 0) (get_or y 7 0))))))) ≡ same x y
unfolding same
same_eight x y hx hy = rw (eight x hx, eight y hy) (simp and-true)

-- two tests that hold
pub both : {a b : Bool} → a ≡ true → b ≡ true → (a && b) ≡ true
both p q = rw (p, q)

-- what holds of both sides of a test holds of its outcome
pub either : {A : Type 0} (P : A → Type 0) (b : Bool) {x y : A} → P x → P y → P (cond b x y)
either P true p q = p
either P false p q = q
