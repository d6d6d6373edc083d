-- The tiles of a mask, one at a time: the next one is the first of those that are left. Assumes nothing.
use Prim.Native.Nat.{ℕ, suc, ◌+◌, ◌-◌, ◌≤◌, ◌<◌}
use mathlib.Core.Path.{◌≡◌, refl, ap, sym, subst, ◌∙◌}
use mathlib.Core.Bool.{Bool, true, false, cond}
use mathlib.Core.List.{[], ◌∷◌}
use native.Mathlib.Omega.{arith}
use lib.Dec.{ltb}
use borrow.Author.Tests.{ltb-true, ltb-false}
use Rattle.masks.specs.Mask.{has}
use Rattle.masks.specs.Next.{first_in, next}
use Rattle.masks.specs.Tiles.{tiles_in, tiles_from}
use Rattle.masks.proofs.NextLaws.{next_in, skip_to_next}

past_end : (m t : ℕ) → 64 ≤ t → tiles_from m t ≡ []
unfolding tiles_from tiles_in
past_end m t h = let e : 64 - t ≡ 0 = omega arith in ap (tiles_in m t) e

behind : (m t : ℕ) → 64 ≤ t → next m t ≡ 64
unfolding next first_in
behind m t h = let e : 64 - t ≡ 0 = omega arith in ap (first_in m t) e

-- the tiles before the next one are not in the mask
to_next : (m t : ℕ) → tiles_from m t ≡ tiles_from m (next m t)
unfolding tiles_from tiles_in
to_next m t = go (ltb t 64) refl
  where
    go : (b : Bool) → ltb t 64 ≡ b → tiles_in m t (64 - t) ≡ tiles_in m (next m t) (64 - next m t)
    go true q = let h : t < 64 = ltb-true t 64 q in skip_to_next (tiles_in m) m 64 (omega arith) (λ i k e. rw e) (λ i j. refl) t (omega arith)
    go false q =
        let h : 64 ≤ t = ltb-false t 64 q in
        past_end m t h ∙ sym (past_end m (next m t) (subst (λ (x : ℕ). 64 ≤ x) (sym (behind m t h)) (omega arith)))

pub no_tile : (m t u : ℕ) → u ≡ next m t → 64 ≤ u → tiles_from m t ≡ []
no_tile m t u e h = to_next m t ∙ ap (tiles_from m) (sym e) ∙ past_end m u h

pub one_tile : (m t u : ℕ) → u ≡ next m t → u < 64 → tiles_from m t ≡ u ∷ tiles_from m (u + 1)
unfolding tiles_from tiles_in
one_tile m t u e h =
    let c : 64 - u ≡ suc (64 - (u + 1)) = omega arith in
    let d : suc u ≡ u + 1 = omega arith in
    let is : has m u ≡ true = subst (λ (x : ℕ). has m x ≡ true) (sym e) (next_in m t (subst (λ (x : ℕ). x < 64) e h)) in
    to_next m t ∙ ap (tiles_from m) (sym e) ∙ ap (tiles_in m u) c ∙ ap (λ (b : Bool). cond b (u ∷ tiles_in m (suc u) (64 - (u + 1))) (tiles_in m (suc u) (64 - (u + 1)))) is
    ∙ ap (λ (x : ℕ). u ∷ tiles_in m x (64 - (u + 1))) d
