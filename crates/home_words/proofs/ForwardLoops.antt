-- What is done at each tile of a mask of the bench is what is done at each tile of the bench that is in the mask. Assumes nothing.
use Prim.Native.Nat.{ℕ, suc, ◌+◌, ◌-◌, ◌*◌, ◌<◌, ◌≤◌}
use mathlib.Core.Path.{◌≡◌, refl, ap, sym, ◌∙◌}
use mathlib.Core.Bool.{Bool, true, false, ◌&&◌, cond}
use mathlib.Core.List.{List, [], ◌∷◌}
use native.Mathlib.Omega.{arith}
use native.Mathlib.Numerals.{add-one}
use lib.Dec.{ltb}
use borrow.Author.Tests.{lt-ltb, le-ltb, ltb-true, ltb-false}
use Rattle.std.specs.List.{list_all}
use Rattle.lists.specs.Over.{over}
use Rattle.masks.specs.Mask.{has}
use Rattle.masks.specs.Tiles.{tiles_in, tiles_from}
use Rattle.layout.specs.declared.rows.Row.{Row}
use Rattle.layout.specs.Blocks.{tile_block_at, tile_block_words}
use Rattle.layout.specs.Queues.{has_room}
use Rattle.home_words.specs.Forwards.{has_room_for, has_rooms, forward_put, forward_put_at, forward_put_all}

-- the next block
pub next_place : (i : ℕ) → 74 + 84 * i + 84 ≡ 74 + 84 * suc i
next_place i = omega arith

one_more : (i n : ℕ) → i < n → n - i ≡ suc (n - suc i)
one_more i n h = omega arith

no_more : (i n : ℕ) → n ≤ i → n - i ≡ 0
no_more i n h = omega arith

module _ (l : List ℕ) (to n : ℕ) where
  -- rooms from tile i on
  abbrev rooms_at : Bool → ℕ → Bool
  rooms_at a i = has_rooms a l (74 + 84 * i) i to (n - i)

  step_room : (a : Bool) (i k : ℕ) (b : Bool) → has_room_for l (74 + 84 * i) i to ≡ b → has_rooms a l (74 + 84 * i) i to (suc k) ≡ has_rooms (a && b) l (74 + 84 * suc i) (suc i) to k
  unfolding has_rooms
  step_room a i k b e = rw (e, next_place i, add-one i)

  unset_room : (i : ℕ) → has to i ≡ false → has_room_for l (74 + 84 * i) i to ≡ true
  unfolding has_room_for
  unset_room i e = rw e

  set_room : (i : ℕ) → has to i ≡ true → has_room_for l (74 + 84 * i) i to ≡ has_room (tile_block_at l (74 + 84 * i)).noc2
  unfolding has_room_for
  set_room i e = rw e

  -- a tile with room, and one without
  room_turn : (i : ℕ) (b : Bool) → i < n → has to i ≡ true → has_room (tile_block_at l (74 + 84 * i)).noc2 ≡ b → rooms_at true i ≡ has_rooms b l (74 + 84 * suc i) (suc i) to (n - suc i)
  room_turn i b h e r = ap (has_rooms true l (74 + 84 * i) i to) (one_more i n h) ∙ step_room true i (n - suc i) b (set_room i e ∙ r)

  no_rooms : (k at i : ℕ) → has_rooms false l at i to k ≡ false
  unfolding has_rooms
  no_rooms ℕ.zero at i = refl
  no_rooms (suc k) at i = no_rooms k (at + 84) (i + 1)

  rooms_none : (i : ℕ) → i < n → has to i ≡ true → has_room (tile_block_at l (74 + 84 * i)).noc2 ≡ false → rooms_at true i ≡ false
  rooms_none i h e r = room_turn i false h e r ∙ no_rooms (n - suc i) (74 + 84 * suc i) (suc i)

  rooms_end : (a : Bool) (i : ℕ) → n ≤ i → rooms_at a i ≡ a
  unfolding has_rooms
  rooms_end a i h = ap (has_rooms a l (74 + 84 * i) i to) (no_more i n h)

  -- a tile of the mask has room, or is none of the bench
  abbrev pub room : ℕ → Bool
  room t = cond (ltb t n) (has_room (tile_block_at l (74 + 84 * t)).noc2) true

  rooms_in : (c i : ℕ) → n ≤ 64 → i + c ≡ 64 → list_all room (tiles_in to i c) ≡ rooms_at true i
  unfolding tiles_in
  rooms_in ℕ.zero i s h = sym (rooms_end true i (omega arith))
  rooms_in (suc c) i s h = go (has to i) (ltb i n) refl refl (rooms_in c (suc i) s (omega arith))
    where
      rest : Bool
      rest = list_all room (tiles_in to (suc i) c)

      hit : has to i ≡ true → i < n → rest ≡ rooms_at true (suc i) → (r : Bool) → has_room (tile_block_at l (74 + 84 * i)).noc2 ≡ r → (r && rest) ≡ rooms_at true i
      hit e p ih true q = ih ∙ sym (room_turn i true p e q)
      hit e p ih false q = sym (rooms_none i p e q)

      go : (b t : Bool) → has to i ≡ b → ltb i n ≡ t → rest ≡ rooms_at true (suc i) → list_all room (cond b (i ∷ tiles_in to (suc i) c) (tiles_in to (suc i) c)) ≡ rooms_at true i
      go true true e q ih = ap (λ (z : Bool). cond z (has_room (tile_block_at l (74 + 84 * i)).noc2) true && rest) q ∙ hit e (ltb-true i n q) ih (has_room (tile_block_at l (74 + 84 * i)).noc2) refl
      go true false e q ih =
          let p : n ≤ i = ltb-false i n q in
          ap (λ (z : Bool). cond z (has_room (tile_block_at l (74 + 84 * i)).noc2) true && rest) q ∙ ih ∙ rooms_end true (suc i) (omega arith) ∙ sym (rooms_end true i p)
      go false true e q ih = ih ∙ sym (ap (has_rooms true l (74 + 84 * i) i to) (one_more i n (ltb-true i n q)) ∙ step_room true i (n - suc i) true (unset_room i e))
      go false false e q ih = let p : n ≤ i = ltb-false i n q in ih ∙ rooms_end true (suc i) (omega arith) ∙ sym (rooms_end true i p)

  pub rooms_all : n ≤ 64 → list_all room (tiles_from to 0) ≡ has_rooms true l 74 0 to n
  unfolding tiles_from
  rooms_all s = let e : n - 0 ≡ n = omega arith in rooms_in 64 0 s refl ∙ ap (has_rooms true l 74 0 to) e

-- the message put at each tile of a list that is one of a bench of n
unfoldable pub tell_each : ℕ → Row → List ℕ → List ℕ → List ℕ
tell_each n m l [] = l
tell_each n m l (t ∷ ts) = tell_each n m (cond (ltb t n) (over l (74 + 84 * t) (tile_block_words (forward_put m (tile_block_at l (74 + 84 * t))))) l) ts

-- one turn
module _ (n t : ℕ) (m : Row) (l us ts : List ℕ) (e : us ≡ t ∷ ts) where
  pub tell_here : t < n → tell_each n m (over l (74 + 84 * t) (tile_block_words (forward_put m (tile_block_at l (74 + 84 * t))))) ts ≡ tell_each n m l us
  unfolding tell_each
  tell_here h = sym (ap (tell_each n m l) e ∙ ap (λ (z : Bool). tell_each n m (cond z (over l (74 + 84 * t) (tile_block_words (forward_put m (tile_block_at l (74 + 84 * t))))) l) ts) (lt-ltb t n h))

  pub tell_past : n ≤ t → tell_each n m l ts ≡ tell_each n m l us
  unfolding tell_each
  tell_past h = sym (ap (tell_each n m l) e ∙ ap (λ (z : Bool). tell_each n m (cond z (over l (74 + 84 * t) (tile_block_words (forward_put m (tile_block_at l (74 + 84 * t))))) l) ts) (le-ltb t n h))

pub tell_none : (n : ℕ) (m : Row) (l us : List ℕ) → us ≡ [] → l ≡ tell_each n m l us
unfolding tell_each
tell_none n m l us e = sym (ap (tell_each n m l) e)

module _ (to n : ℕ) (m : Row) where
  -- telling from tile i on
  abbrev tell_at : List ℕ → ℕ → List ℕ
  tell_at l i = forward_put_all l (74 + 84 * i) i to m (n - i)

  step_tell : (l : List ℕ) (i k : ℕ) (b : List ℕ) → forward_put_at l (74 + 84 * i) i to m ≡ b → forward_put_all l (74 + 84 * i) i to m (suc k) ≡ forward_put_all b (74 + 84 * suc i) (suc i) to m k
  unfolding forward_put_all
  step_tell l i k b e = rw (e, next_place i, add-one i)

  unset_tell : (l : List ℕ) (i : ℕ) → has to i ≡ false → forward_put_at l (74 + 84 * i) i to m ≡ l
  unfolding forward_put_at
  unset_tell l i e = rw e

  set_tell : (l : List ℕ) (i : ℕ) → has to i ≡ true → forward_put_at l (74 + 84 * i) i to m ≡ over l (74 + 84 * i) (tile_block_words (forward_put m (tile_block_at l (74 + 84 * i))))
  unfolding forward_put_at
  set_tell l i e = rw e

  tell_end : (l : List ℕ) (i : ℕ) → n ≤ i → tell_at l i ≡ l
  unfolding forward_put_all
  tell_end l i h = ap (forward_put_all l (74 + 84 * i) i to m) (no_more i n h)

  tell_in : (c i : ℕ) (l : List ℕ) → n ≤ 64 → i + c ≡ 64 → tell_each n m l (tiles_in to i c) ≡ tell_at l i
  unfolding tiles_in tell_each
  tell_in ℕ.zero i l s h = sym (tell_end l i (omega arith))
  tell_in (suc c) i l s h = go (has to i) (ltb i n) refl refl (λ k. tell_in c (suc i) k s (omega arith))
    where
      put : List ℕ
      put = over l (74 + 84 * i) (tile_block_words (forward_put m (tile_block_at l (74 + 84 * i))))

      turn : (k : List ℕ) → i < n → forward_put_at l (74 + 84 * i) i to m ≡ k → tell_at l i ≡ tell_at k (suc i)
      turn k p e = ap (forward_put_all l (74 + 84 * i) i to m) (one_more i n p) ∙ step_tell l i (n - suc i) k e

      go : (b t : Bool) → has to i ≡ b → ltb i n ≡ t → ((k : List ℕ) → tell_each n m k (tiles_in to (suc i) c) ≡ tell_at k (suc i))
          → tell_each n m l (cond b (i ∷ tiles_in to (suc i) c) (tiles_in to (suc i) c)) ≡ tell_at l i
      go true true e q ih = ap (λ (z : Bool). tell_each n m (cond z put l) (tiles_in to (suc i) c)) q ∙ ih put ∙ sym (turn put (ltb-true i n q) (set_tell l i e))
      go true false e q ih =
          let p : n ≤ i = ltb-false i n q in
          ap (λ (z : Bool). tell_each n m (cond z put l) (tiles_in to (suc i) c)) q ∙ ih l ∙ tell_end l (suc i) (omega arith) ∙ sym (tell_end l i p)
      go false true e q ih = ih l ∙ sym (turn l (ltb-true i n q) (unset_tell l i e))
      go false false e q ih = let p : n ≤ i = ltb-false i n q in ih l ∙ tell_end l (suc i) (omega arith) ∙ sym (tell_end l i p)

  pub tell_all : (l : List ℕ) → n ≤ 64 → tell_each n m l (tiles_from to 0) ≡ forward_put_all l 74 0 to m n
  unfolding tiles_from
  tell_all l s = let e : n - 0 ≡ n = omega arith in tell_in 64 0 l s refl ∙ ap (forward_put_all l 74 0 to m) e
