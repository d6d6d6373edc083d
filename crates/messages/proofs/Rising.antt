-- Lists of tiles in rising order, and the masks of them. Assumes nothing.
use Prim.Native.Nat.{ℕ, zero, suc, ◌+◌, ◌≤◌, ◌<◌}
use mathlib.Core.Path.{◌≡◌, refl, ap, ◌∙◌}
use mathlib.Core.Bool.{Bool, true, false, cond}
use mathlib.Core.List.{List, [], ◌∷◌}
use native.Mathlib.Omega.{arith}
use lib.Dec.{eqb}
use borrow.Author.Tests.{eqb-true, eqb-false}
use Rattle.masks.specs.Mask.{has, add}
use Rattle.masks.proofs.MaskLaws.{has_add, has_add_other, has_none}
use Rattle.protocol.specs.Home.{range, among, members}

-- from i on, below n, each above the one before it
abbrev pub Rising : ℕ → ℕ → List ℕ → Type 0
Rising i n [] = Unit {0}
Rising i n (u ∷ us) = (i ≤ u) × (u < n) × Rising (suc u) n us

pub weaker : (i j n : ℕ) (us : List ℕ) → i ≤ j → Rising j n us → Rising i n us
weaker i j n [] h r = tt
weaker i j n (u ∷ us) h r = (omega (arith, r.0), r.1, r.2)

among_rising : (m i k n : ℕ) → i + k ≤ n → Rising i n (among m (range i k))
unfolding among range
among_rising m i zero n h = tt
among_rising m i (suc k) n h = go (has m i) (among_rising m (suc i) k n (omega arith))
  where
    go : (b : Bool) → Rising (suc i) n (among m (range (suc i) k)) → Rising i n (cond b (i ∷ among m (range (suc i) k)) (among m (range (suc i) k)))
    go true r = (omega arith, omega arith, r)
    go false r = weaker i (suc i) n (among m (range (suc i) k)) (omega arith) r

-- the tiles of a mask
pub members_rising : (m n : ℕ) → Rising 0 n (members m n)
unfolding members
members_rising m n = among_rising m 0 n n (omega arith)

-- the mask of a list
unfoldable pub mask_of : List ℕ → ℕ
mask_of [] = 0
mask_of (u ∷ us) = add (mask_of us) u

before : (us : List ℕ) (i n t : ℕ) → Rising i n us → t < i → has (mask_of us) t ≡ false
unfolding mask_of
before [] i n t r h = has_none t
before (u ∷ us) i n t r h = has_add_other (mask_of us) u t (λ e. omega (arith, r.0)) ∙ before us (suc u) n t r.2 (omega (arith, r.0))

past : (m t i k : ℕ) → t < i → among (add m t) (range i k) ≡ among m (range i k)
unfolding among range
past m t i zero h = refl
past m t i (suc k) h = rw (has_add_other m t i (λ e. omega arith), past m t (suc i) k (omega arith))

none_in : (i k : ℕ) → among 0 (range i k) ≡ []
unfolding among range
none_in i zero = refl
none_in i (suc k) = rw (has_none i) (none_in (suc i) k)

-- its tiles are that list
among_mask : (us : List ℕ) (i k n : ℕ) → n ≤ i + k → Rising i n us → among (mask_of us) (range i k) ≡ us
unfolding mask_of among range
among_mask [] i k n h r = none_in i k
among_mask (u ∷ us) i zero n h r = absurd (omega (arith, r.0, r.1))
among_mask (u ∷ us) i (suc k) n h r =
    go (eqb i u) refl (λ e. among_mask us (suc i) k n (omega arith) (rw (← e) at r.2)) (λ e. among_mask (u ∷ us) (suc i) k n (omega arith) (omega (arith, r.0, e), r.1, r.2))
  where
    go : (b : Bool) → eqb i u ≡ b → (i ≡ u → among (mask_of us) (range (suc i) k) ≡ us) → ((i ≡ u → ⊥) → among (add (mask_of us) u) (range (suc i) k) ≡ u ∷ us)
        → among (add (mask_of us) u) (range i (suc k)) ≡ u ∷ us
    go true e here later =
        let q : i ≡ u = eqb-true i u e in
        let p : has (add (mask_of us) u) i ≡ true = ap (has (add (mask_of us) u)) q ∙ has_add (mask_of us) u in
        rw p (ap (λ (v : List ℕ). i ∷ v) (past (mask_of us) u (suc i) k (omega arith) ∙ here q) ∙ ap (λ (v : ℕ). v ∷ us) q)
    go false e here later =
        let n' : i ≡ u → ⊥ = eqb-false i u e in
        let p : has (add (mask_of us) u) i ≡ false = before (u ∷ us) (suc i) n i (omega (arith, r.0, n'), r.1, r.2) (omega arith) in
        rw p (later n')

pub members_mask : (us : List ℕ) (n : ℕ) → n ≤ 64 → Rising 0 n us → members (mask_of us) 64 ≡ us
unfolding members
members_mask us n h r = among_mask us 0 64 n (omega arith) r
