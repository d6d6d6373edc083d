-- The mask of the tiles that may be taken. Assumes nothing.
use Prim.Native.Nat.{ℕ, suc, ◌+◌, ◌-◌, ◌≤◌, ◌<◌}
use mathlib.Core.Path.{◌≡◌, refl, ap, subst, ◌∙◌}
use mathlib.Core.Bool.{Bool, cond, true, false}
use mathlib.Core.List.{List}
use native.Mathlib.Omega.{arith}
use lib.Dec.{eqb, ltb}
use borrow.Author.Tests.{lt-ltb, eqb-true, eqb-false}
use Rattle.masks.specs.Mask.{has, add, add64}
use Rattle.masks.proofs.MaskLaws.{has_add, has_add_other}
use Rattle.arbiter.specs.RoundRobin.{can_take, ready_from}

-- one turn of the loop over the tiles, and its end
one_more : (i n : ℕ) → i < n → n - i ≡ suc (n - (i + 1))
one_more i n h = omega arith

no_more : (i n : ℕ) → n ≤ i → n - i ≡ 0
no_more i n h = omega arith

module _ (a : ℕ) (l : List ℕ) (k i n : ℕ) where
  pub ready_turn : i < n → ready_from a l k i (n - i) ≡ ready_from (cond (can_take l k i) (add64 a i) a) l k (i + 1) (n - (i + 1))
  unfolding ready_from
  ready_turn h = ap (ready_from a l k i) (one_more i n h)

  pub ready_end : n ≤ i → ready_from a l k i (n - i) ≡ a
  unfolding ready_from
  ready_end h = ap (ready_from a l k i) (no_more i n h)

module _ (l : List ℕ) (k : ℕ) where
  -- one tile noted
  noted_here : (a i : ℕ) → i < 64 → has a i ≡ false → has (cond (can_take l k i) (add64 a i) a) i ≡ can_take l k i
  noted_here a i s e = go (can_take l k i)
    where
      go : (b : Bool) → has (cond b (cond (ltb i 64) (add a i) a) a) i ≡ b
      go true = rw (lt-ltb i 64 s) (has_add a i)
      go false = e

  noted_other : (a i j : ℕ) → i < 64 → (i ≡ j → ⊥) → has (cond (can_take l k i) (add64 a i) a) j ≡ has a j
  noted_other a i j s d = go (can_take l k i)
    where
      go : (b : Bool) → has (cond b (cond (ltb i 64) (add a i) a) a) j ≡ has a j
      go true = rw (lt-ltb i 64 s) (has_add_other a i j d)
      go false = refl

  -- tiles below i stay
  below_stay : (n i a j : ℕ) → i + n ≤ 64 → j < i → has (ready_from a l k i n) j ≡ has a j
  unfolding ready_from
  below_stay ℕ.zero i a j s h = refl
  below_stay (suc n) i a j s h =
      below_stay n (i + 1) (cond (can_take l k i) (add64 a i) a) j (omega arith) (omega arith) ∙ noted_other a i j (omega arith) (λ e. omega arith)

  -- of n tiles from i on exactly those that may be taken are in it
  pub ready_has : (n i a j : ℕ) → i + n ≤ 64 → ((u : ℕ) → i ≤ u → has a u ≡ false) → i ≤ j → j < i + n → has (ready_from a l k i n) j ≡ can_take l k j
  unfolding ready_from
  ready_has ℕ.zero i a j s z h b = absurd (omega arith)
  ready_has (suc n) i a j s z h b = go (eqb i j) refl (ready_has n (i + 1) (cond (can_take l k i) (add64 a i) a) j (omega arith) (λ u q. noted_other a i u (omega arith) (λ e. omega arith) ∙ z u (omega arith)))
    where
      go : (t : Bool) → eqb i j ≡ t → (i + 1 ≤ j → j < i + 1 + n → has (ready_from (cond (can_take l k i) (add64 a i) a) l k (i + 1) n) j ≡ can_take l k j) → has (ready_from (cond (can_take l k i) (add64 a i) a) l k (i + 1) n) j ≡ can_take l k j
      go true e ih =
          let q : i ≡ j = eqb-true i j e in
          below_stay n (i + 1) (cond (can_take l k i) (add64 a i) a) j (omega arith) (omega arith) ∙ subst (λ (x : ℕ). has (cond (can_take l k i) (add64 a i) a) x ≡ can_take l k x) q (noted_here a i (omega arith) (z i (omega arith)))
      go false e ih =
          let d : i ≡ j → ⊥ = eqb-false i j e in
          ih (omega arith) (omega arith)

  -- none behind them
  pub ready_past : (n i a j : ℕ) → i + n ≤ 64 → ((u : ℕ) → i ≤ u → has a u ≡ false) → i + n ≤ j → has (ready_from a l k i n) j ≡ false
  unfolding ready_from
  ready_past ℕ.zero i a j s z h = z j (omega arith)
  ready_past (suc n) i a j s z h = ready_past n (i + 1) (cond (can_take l k i) (add64 a i) a) j (omega arith) (λ u q. noted_other a i u (omega arith) (λ e. omega arith) ∙ z u (omega arith)) (omega arith)
