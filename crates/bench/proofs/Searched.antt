-- The round robin's search on the words finds the tile that the rules take. Assumes nothing.
use Prim.Native.Nat.{ℕ, suc, ◌+◌, ◌-◌, ◌*◌, ◌≤◌, ◌<◌}
use mathlib.Core.Path.{◌≡◌, refl, ap, sym, ◌∙◌}
use mathlib.Core.Bool.{Bool, cond, true, false}
use mathlib.Core.List.{List}
use mathlib.Core.Option.{Option, some, none}
use native.Mathlib.Omega.{arith}
use native.Mathlib.Numerals.{add-one}
use lib.Dec.{ltb}
use lib.ListN.{length, get_or}
use borrow.Author.Tests.{lt-ltb, ltb-true, ltb-false}
use Rattle.masks.specs.Mask.{has}
use Rattle.masks.proofs.MaskLaws.{has_none}
use Rattle.layout.specs.declared.rows.TileBlock.{TileBlock}
use Rattle.layout.specs.declared.rows.HomeBlock.{HomeBlock}
use Rattle.layout.specs.Blocks as blocks
use Rattle.protocol.specs.Parts.{empty, one, two, load_req, store_req, wb_guard_req, Tile, tile_of}
use Rattle.protocol.specs.Home.{range}
use Rattle.protocol.specs.Bench.{tile_at, eligible, first_of, circle, arbitrate}
use Rattle.layout.specs.Encode.{enc_request, enc_queue, enc_tile}
use Rattle.protocol.proofs.Search.{pick, first_append}
use Rattle.arbiter.specs.RoundRobin.{may_take, can_take, ready_from, chosen}
use Rattle.arbiter.proofs.RoundRobin.{ready_has, ready_past}
use Rattle.masks.specs.Next.{first_in, next}
use Rattle.calls.proofs.Laid.{Laid, laid_tile}

-- the first of n tiles from tile i on that may be taken; 64 for none
unfoldable pub first_from : List ℕ → ℕ → ℕ → ℕ → ℕ
first_from l k i ℕ.zero = 64
first_from l k i (suc n) = cond (can_take l k i) i (first_from l k (i + 1) n)

-- after the last taken, then from tile 0 up to it
unfoldable pub choice : List ℕ → ℕ → ℕ → ℕ → ℕ
choice l k last n = cond (ltb (first_from l k (last + 1) (n - (last + 1))) 64) (first_from l k (last + 1) (n - (last + 1))) (first_from l k 0 (last + 1))

may_take_lem : (mark : Bool) (x : Tile) → may_take mark (enc_tile x).noc1.a.n0 ≡ eligible mark x
unfolding may_take enc_tile enc_queue enc_request eligible
may_take_lem mark (tile_of c p empty q2 q3) = refl
may_take_lem mark (tile_of c p (one (load_req w)) q2 q3) = refl
may_take_lem mark (tile_of c p (one (store_req w)) q2 q3) = refl
may_take_lem mark (tile_of c p (one wb_guard_req) q2 q3) = refl
may_take_lem mark (tile_of c p (two (load_req w) m) q2 q3) = refl
may_take_lem mark (tile_of c p (two (store_req w) m) q2 q3) = refl
may_take_lem mark (tile_of c p (two wb_guard_req m) q2 q3) = refl

-- the first word of NoC1's first place
front_word : (l : List ℕ) (i : ℕ) → get_or l (74 + 84 * i + 12) 0 ≡ (blocks.tile_block_at l (74 + 84 * i)).noc1.a.n0
unfolding blocks.tile_block_at blocks.pair_at blocks.row_at
front_word l i = refl

-- 64 stands for none
unfoldable pub option_of : ℕ → Option ℕ
option_of t = cond (ltb t 64) (some t) none

else_option : (a b : ℕ) → pick (option_of a) (option_of b) ≡ option_of (cond (ltb a 64) a b)
unfolding pick option_of
else_option a b = go (ltb a 64) refl
  where
    go : (t : Bool) → ltb a 64 ≡ t → pick (cond t (some a) none) (cond (ltb b 64) (some b) none) ≡ cond (ltb (cond t a b) 64) (some (cond t a b)) none
    go true e = rw e
    go false e = refl

module _ (l : List ℕ) (H : HomeBlock) (ts : List Tile) (r : List ℕ) (laid : Laid l H ts r) (k : ℕ) where
  can_take_lem : (i : ℕ) → i < length ts → can_take l k i ≡ eligible (has k i) (tile_at ts i)
  unfolding can_take
  can_take_lem i h = ap (may_take (has k i)) (front_word l i) ∙ ap (λ (x : TileBlock). may_take (has k i) x.noc1.a.n0) (laid_tile l H ts r laid i h) ∙ may_take_lem (has k i) (tile_at ts i)

  first_range : (j i : ℕ) → i + j ≤ length ts → length ts ≤ 64 → first_of (λ t. eligible (has k t) (tile_at ts t)) (range i j) ≡ option_of (first_from l k i j)
  unfolding first_of range first_from option_of
  first_range ℕ.zero i h s = refl
  first_range (suc j) i h s = go (eligible (has k i) (tile_at ts i)) (can_take_lem i (omega arith)) (first_range j (suc i) (omega arith) s)
    where
      go : (b : Bool) → can_take l k i ≡ b → first_of (λ t. eligible (has k t) (tile_at ts t)) (range (suc i) j) ≡ option_of (first_from l k (suc i) j) →
          cond b (some i) (first_of (λ t. eligible (has k t) (tile_at ts t)) (range (suc i) j)) ≡ option_of (cond (can_take l k i) i (first_from l k (i + 1) j))
      go true e ih = rw (e, lt-ltb i 64 (omega arith))
      go false e ih = rw (e, add-one i) ih

  pub searched : (last n : ℕ) → length ts ≡ n → n ≤ 64 → last < n → arbitrate last k ts ≡ option_of (choice l k last n)
  unfolding arbitrate circle choice
  searched last n e s h =
      rw (add-one last, e) (first_append (λ t. eligible (has k t) (tile_at ts t)) (range (suc last) (n - suc last)) (range 0 (suc last))
      ∙ ap (λ (o : Option ℕ). pick o (first_of (λ t. eligible (has k t) (tile_at ts t)) (range 0 (suc last)))) (first_range (n - suc last) (suc last) (omega arith) (omega arith))
      ∙ ap (pick (option_of (first_from l k (suc last) (n - suc last)))) (first_range (suc last) 0 (omega arith) (omega arith))
      ∙ else_option (first_from l k (suc last) (n - suc last)) (first_from l k 0 (suc last)))

first_below : (l : List ℕ) (k j i : ℕ) → first_from l k i j < 64 → first_from l k i j < i + j
unfolding first_from
first_below l k ℕ.zero i h = absurd (omega arith)
first_below l k (suc j) i h = go (can_take l k i) h (first_below l k j (i + 1))
  where
    go : (b : Bool) → cond b i (first_from l k (i + 1) j) < 64 → (first_from l k (i + 1) j < 64 → first_from l k (i + 1) j < i + 1 + j) → cond b i (first_from l k (i + 1) j) < i + suc j
    go true h ih = omega arith
    go false h ih = let q : first_from l k (i + 1) j < i + 1 + j = ih h in omega arith

-- a tile found is one of the bench's
pub choice_below : (l : List ℕ) (k last n : ℕ) → last < n → choice l k last n < 64 → choice l k last n < n
unfolding choice
choice_below l k last n h = go (ltb (first_from l k (last + 1) (n - (last + 1))) 64) refl
  where
    go : (b : Bool) → ltb (first_from l k (last + 1) (n - (last + 1))) 64 ≡ b →
        cond b (first_from l k (last + 1) (n - (last + 1))) (first_from l k 0 (last + 1)) < 64 → cond b (first_from l k (last + 1) (n - (last + 1))) (first_from l k 0 (last + 1)) < n
    go true e q = let p : first_from l k (last + 1) (n - (last + 1)) < last + 1 + (n - (last + 1)) = first_below l k (n - (last + 1)) (last + 1) q in omega arith
    go false e q = let p : first_from l k 0 (last + 1) < 0 + (last + 1) = first_below l k (last + 1) 0 q in omega arith

-- the same found in the mask R of the tiles that may be taken, of n tiles
module _ (l : List ℕ) (k n R : ℕ) (small : n ≤ 64) (in_it : (j : ℕ) → j < n → has R j ≡ can_take l k j) (past : (j : ℕ) → n ≤ j → has R j ≡ false) where
  first_in_lem : (c i : ℕ) → i + c ≡ 64 → first_in R i c ≡ first_from l k i (n - i)
  unfolding first_in first_from
  first_in_lem ℕ.zero i h = let e : n - i ≡ 0 = omega arith in sym (ap (first_from l k i) e)
  first_in_lem (suc c) i h = go (ltb i n) refl (first_in_lem c (suc i) (omega arith))
    where
      go : (b : Bool) → ltb i n ≡ b → first_in R (suc i) c ≡ first_from l k (suc i) (n - suc i) → cond (has R i) i (first_in R (suc i) c) ≡ first_from l k i (n - i)
      go true t ih =
          let q : i < n = ltb-true i n t in
          let e : n - i ≡ suc (n - suc i) = omega arith in
          ap (λ (z : Bool). cond z i (first_in R (suc i) c)) (in_it i q) ∙ ap (cond (can_take l k i) i) (ih ∙ ap (λ (x : ℕ). first_from l k x (n - suc i)) (sym (add-one i))) ∙ sym (ap (first_from l k i) e)
      go false t ih =
          let q : n ≤ i = ltb-false i n t in
          let a : n - suc i ≡ 0 = omega arith in
          let b : n - i ≡ 0 = omega arith in
          ap (λ (z : Bool). cond z i (first_in R (suc i) c)) (past i q) ∙ ih ∙ ap (first_from l k (suc i)) a ∙ sym (ap (first_from l k i) b)

  -- none among the last q of p + q tiles
  none_behind : (p i q : ℕ) → first_from l k (i + p) q ≡ 64 → first_from l k i (p + q) ≡ first_from l k i p
  unfolding first_from
  none_behind ℕ.zero i q e =
      let z : 0 + q ≡ q = omega arith in
      let y : i ≡ i + 0 = omega arith in
      ap (first_from l k i) z ∙ ap (λ (x : ℕ). first_from l k x q) y ∙ e
  none_behind (suc p) i q e =
      let z : suc p + q ≡ suc (p + q) = omega arith in
      let y : i + suc p ≡ i + 1 + p = omega arith in
      ap (first_from l k i) z ∙ ap (cond (can_take l k i) i) (none_behind p (i + 1) q (ap (λ (x : ℕ). first_from l k x q) (sym y) ∙ e))

  none_is_64 : (j i : ℕ) → i + j ≤ 64 → 64 ≤ first_from l k i j → first_from l k i j ≡ 64
  unfolding first_from
  none_is_64 ℕ.zero i h b = refl
  none_is_64 (suc j) i h b = go (can_take l k i) b (none_is_64 j (i + 1) (omega arith))
    where
      go : (z : Bool) → 64 ≤ cond z i (first_from l k (i + 1) j) → (64 ≤ first_from l k (i + 1) j → first_from l k (i + 1) j ≡ 64) → cond z i (first_from l k (i + 1) j) ≡ 64
      go true b ih = absurd (omega arith)
      go false b ih = ih b

  pub chosen_is : (last : ℕ) → last < n → chosen R last ≡ choice l k last n
  unfolding chosen choice next
  chosen_is last h =
      let beyond : first_in R (last + 1) (64 - (last + 1)) ≡ first_from l k (last + 1) (n - (last + 1)) = first_in_lem (64 - (last + 1)) (last + 1) (omega arith) in
      let all : first_in R 0 (64 - 0) ≡ first_from l k 0 (n - 0) = first_in_lem (64 - 0) 0 (omega arith) in
      ap (λ (x : ℕ). cond (ltb x 64) x (first_in R 0 (64 - 0))) beyond ∙ go (ltb (first_from l k (last + 1) (n - (last + 1))) 64) refl all
    where
      go : (b : Bool) → ltb (first_from l k (last + 1) (n - (last + 1))) 64 ≡ b → first_in R 0 (64 - 0) ≡ first_from l k 0 (n - 0) →
          cond b (first_from l k (last + 1) (n - (last + 1))) (first_in R 0 (64 - 0)) ≡ cond b (first_from l k (last + 1) (n - (last + 1))) (first_from l k 0 (last + 1))
      go true t all = refl
      go false t all =
          let z : n - 0 ≡ last + 1 + (n - (last + 1)) = omega arith in
          let y : 0 + (last + 1) ≡ last + 1 = omega arith in
          all ∙ ap (first_from l k 0) z
          ∙ none_behind (last + 1) 0 (n - (last + 1)) (ap (λ (x : ℕ). first_from l k x (n - (last + 1))) y ∙ none_is_64 (n - (last + 1)) (last + 1) (omega arith) (ltb-false _ _ t))

-- and that mask is that of the tiles that may be taken
pub ready_chosen : (l : List ℕ) (k n last : ℕ) → n ≤ 64 → last < n → chosen (ready_from 0 l k 0 n) last ≡ choice l k last n
ready_chosen l k n last s h =
    chosen_is l k n (ready_from 0 l k 0 n) s (λ j b. ready_has l k n 0 0 j (omega arith) (λ u _. has_none u) (omega arith) (omega arith)) (λ j b. ready_past l k n 0 0 j (omega arith) (λ u _. has_none u) (omega arith)) last h
