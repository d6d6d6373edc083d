-- A message for every tile of a mask: its list of messages, and the mask read off the list. Assumes nothing.
use mathlib.Core.Path.{◌≡◌, refl, ap, sym, ◌∙◌}
use mathlib.Core.Bool.{Bool, true, false, cond}
use mathlib.Core.List.{List, [], ◌∷◌, map}
use mathlib.Core.Option.{some}
use Prim.Native.Nat.{ℕ, zero, suc, ◌+◌, ◌^◌, ◌≤◌, ◌<◌}
use native.Mathlib.Omega.{arith}
use lib.Dec.{eqb}
use lib.Pow.{pow_pos}
use borrow.Author.Tests.{eqb-true, eqb-false, lt-ltb}
use Rattle.masks.specs.Mask.{has, add, add64}
use Rattle.masks.proofs.MaskLaws.{has_add, has_add_other, has_none, add_lt, ext}
use Rattle.layout.specs.declared.rows.HomeBlock.{HomeBlock}
use Rattle.layout.specs.Encode.{enc_forward, enc_home}
use Rattle.protocol.specs.Parts.{Words, Queue, Forward, ToMemory, FromMemory, on_noc2, Home}
use Rattle.protocol.specs.Home.{move, range, among, members}
use Rattle.protocol.specs.Bench.{kind_of}
use Rattle.home_rules.specs.Steps.{forward_step}
use Rattle.protocol.specs.Answers.{sent_on}
use Rattle.home_rules.specs.Results.{went, MemoryQueues, queues_of, put_memory, put_memory_to, put_memory_all, went_with, moved_home, targets, forward_row, enc_step, forwards_to}

-- the code's sum of a mask and a tile is the rules' where a word holds it
pub add_small : (m t : ℕ) → t < 64 → add64 m t ≡ add m t
add_small m t h = rw (lt-ltb t 64 h)

-- ---- the tiles of a mask that holds one

none_after : (t i k : ℕ) → t < i → among (add 0 t) (range i k) ≡ []
unfolding among range
none_after t i zero h = refl
none_after t i (suc k) h =
    let e : has (add 0 t) i ≡ false = has_add_other 0 t i (λ q. omega arith) ∙ has_none i in
    rw e (none_after t (suc i) k (omega arith))

only_at : (t i k : ℕ) → i ≤ t → t < i + k → among (add 0 t) (range i k) ≡ t ∷ []
unfolding among range
only_at t i zero l h = absurd (omega arith)
only_at t i (suc k) l h = go (eqb i t) refl (λ n. only_at t (suc i) k (omega arith) (omega arith))
  where
    go : (b : Bool) → eqb i t ≡ b → ((i ≡ t → ⊥) → among (add 0 t) (range (suc i) k) ≡ t ∷ [])
        → cond (has (add 0 t) i) (i ∷ among (add 0 t) (range (suc i) k)) (among (add 0 t) (range (suc i) k)) ≡ t ∷ []
    go true e ih =
        let q : i ≡ t = eqb-true i t e in
        let p : has (add 0 t) i ≡ true = ap (has (add 0 t)) q ∙ has_add 0 t in
        rw p (ap (λ (us : List ℕ). i ∷ us) (none_after t (suc i) k (omega arith)) ∙ ap (λ (u : ℕ). u ∷ []) q)
    go false e ih =
        let n : i ≡ t → ⊥ = eqb-false i t e in
        let p : has (add 0 t) i ≡ false = has_add_other 0 t i (λ q. n (sym q)) ∙ has_none i in
        rw p (ih n)

pub add_pos : (t : ℕ) → 0 < add 0 t
unfolding add
add_pos t = rw (has_none t) (omega (arith, pow_pos t))

pub add_below : (n t : ℕ) → t < n → add 0 t < 2 ^ n
add_below n t h = add_lt n 0 t (pow_pos n) h

pub told_one : (n t : ℕ) (f : Forward) → t < n → on_noc2 t f ∷ [] ≡ forwards_to n (add 0 t) f
unfolding forwards_to members
told_one n t f h = sym (ap (map (λ (u : ℕ). on_noc2 u f)) (only_at t 0 n (omega arith) (omega arith)))

-- ---- the mask of the messages for the tiles of a mask
module _ (f : Forward) where
  mask : ℕ → ℕ → ℕ → ℕ
  mask m i k = targets (map (λ u. on_noc2 u f) (among m (range i k)))

  bounded : (n m i k : ℕ) → n ≤ 64 → i + k ≤ n → mask m i k < 2 ^ n
  unfolding mask among range targets
  bounded n m i zero s h = pow_pos n
  bounded n m i (suc k) s h = go (has m i) (bounded n m (suc i) k s (omega arith))
    where
      go : (b : Bool) → mask m (suc i) k < 2 ^ n
          → targets (map (λ u. on_noc2 u f) (cond b (i ∷ among m (range (suc i) k)) (among m (range (suc i) k)))) < 2 ^ n
      go true ih = rw (lt-ltb i 64 (omega arith)) (add_lt n (mask m (suc i) k) i ih (omega arith))
      go false ih = ih

  below : (m i k t : ℕ) → i + k ≤ 64 → t < i → has (mask m i k) t ≡ false
  unfolding mask among range targets
  below m i zero t s h = has_none t
  below m i (suc k) t s h = go (has m i) (below m (suc i) k t (omega arith) (omega arith))
    where
      go : (b : Bool) → has (mask m (suc i) k) t ≡ false
          → has (targets (map (λ u. on_noc2 u f) (cond b (i ∷ among m (range (suc i) k)) (among m (range (suc i) k))))) t ≡ false
      go true ih = rw (lt-ltb i 64 (omega arith)) (has_add_other (mask m (suc i) k) i t (λ q. omega arith) ∙ ih)
      go false ih = ih

  inside : (m i k t : ℕ) → i + k ≤ 64 → i ≤ t → t < i + k → has (mask m i k) t ≡ has m t
  unfolding mask among range targets
  inside m i zero t s l h = absurd (omega arith)
  inside m i (suc k) t s l h = go (has m i) refl (eqb i t) refl (λ n. inside m (suc i) k t (omega arith) (omega arith) (omega arith))
    where
      go : (b : Bool) → has m i ≡ b → (c : Bool) → eqb i t ≡ c → ((i ≡ t → ⊥) → has (mask m (suc i) k) t ≡ has m t)
          → has (targets (map (λ u. on_noc2 u f) (cond b (i ∷ among m (range (suc i) k)) (among m (range (suc i) k))))) t ≡ has m t
      go true p true e ih =
          let q : i ≡ t = eqb-true i t e in
          rw (lt-ltb i 64 (omega arith)) (ap (has (add (mask m (suc i) k) i)) (sym q) ∙ has_add (mask m (suc i) k) i ∙ sym p ∙ ap (has m) q)
      go false p true e ih =
          let q : i ≡ t = eqb-true i t e in
          below m (suc i) k t (omega arith) (omega arith) ∙ sym p ∙ ap (has m) q
      go true p false e ih =
          let n : i ≡ t → ⊥ = eqb-false i t e in
          rw (lt-ltb i 64 (omega arith)) (has_add_other (mask m (suc i) k) i t n ∙ ih n)
      go false p false e ih = ih (eqb-false i t e)

  pub told_targets : (n m : ℕ) → n ≤ 64 → m < 2 ^ n → targets (forwards_to n m f) ≡ m
  unfolding forwards_to members mask
  told_targets n m s h = ext n (mask m 0 n) m (bounded n m 0 n s (omega arith)) h (λ t l. inside m 0 n t (omega arith) (omega arith) (omega arith))

  file_each : (us : List ℕ) (q : MemoryQueues) → put_memory_all (map (λ u. on_noc2 u f) us) (some q) ≡ some q
  unfolding put_memory_all put_memory_to put_memory
  file_each [] q = refl
  file_each (u ∷ us) q = file_each us q

  pub file_told : (n m : ℕ) (q : MemoryQueues) → put_memory_all (forwards_to n m f) (some q) ≡ some q
  unfolding forwards_to
  file_told n m q = file_each (members m n) q

  -- ---- the numbers of a result that sends to the tiles of a mask
  pub told_step : (n m : ℕ) → n ≤ 64 → 0 < m → m < 2 ^ n → (x : HomeBlock) (h : Home) (l k : ℕ) (mem : Words) (out : Queue ToMemory) (back : Queue FromMemory)
      → enc_step n x (went h l k mem out back (forwards_to n m f)) ≡ forward_step (enc_home n h l k mem out back) m (enc_forward f)
  unfolding forwards_to enc_step forward_step kind_of sent_on forward_row targets
  told_step n m s p b x h l k mem out back = go (members m n) refl
    where
      go : (us : List ℕ) → members m n ≡ us → enc_step n x (went h l k mem out back (map (λ u. on_noc2 u f) us)) ≡ forward_step (enc_home n h l k mem out back) m (enc_forward f)
      go [] e =
          let z : 0 ≡ m = sym (ap (λ (vs : List ℕ). targets (map (λ u. on_noc2 u f) vs)) e) ∙ told_targets n m s b in
          absurd (omega arith)
      go (u ∷ us) e =
          ap (λ (y : ℕ). forward_step (enc_home n h l k mem out back) y (enc_forward f))
          (sym (ap (λ (vs : List ℕ). targets (map (λ v. on_noc2 v f) vs)) e) ∙ told_targets n m s b)

  pub told_moved : (n m : ℕ) → n ≤ 64 → 0 < m → m < 2 ^ n → (x : HomeBlock) (h : Home) (l k : ℕ) (mem : Words) (out : Queue ToMemory) (back : Queue FromMemory)
      → enc_step n x (moved_home (move h (forwards_to n m f)) l k mem out back) ≡ forward_step (enc_home n h l k mem out back) m (enc_forward f)
  unfolding moved_home went_with
  told_moved n m s p b x h l k mem out back =
      ap (λ q. enc_step n x (went_with (forwards_to n m f) q h l k mem)) (file_told n m (queues_of out back))
      ∙ told_step n m s p b x h l k mem out back
