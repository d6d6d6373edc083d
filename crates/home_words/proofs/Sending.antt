-- A message for every tile of a mask, on the words, is what the rules send. Assumes nothing.
use Prim.Native.Nat.{ℕ, suc, ◌+◌, ◌*◌, ◌≤◌, ◌<◌}
use mathlib.Core.Path.{◌≡◌, refl, ap, sym, ◌∙◌, subst}
use mathlib.Core.Bool.{Bool, cond, true, false, ◌&&◌, false≢true, and-true, and_assoc}
use mathlib.Core.List.{List, [], ◌∷◌, map}
use mathlib.Core.Option
use mathlib.Core.Option.{Option, some, none}
use native.Mathlib.Omega.{arith}
use native.Mathlib.Numerals.{add-one}
use lib.ListN.{length, set, length-set}
use lib.Seq.{get_or-set_other}
use Rattle.lists.specs.Over.{over}
use Rattle.masks.specs.Mask.{has}
use Rattle.layout.specs.declared.rows.Row.{Row}
use Rattle.layout.specs.declared.rows.Pair.{Pair}
use Rattle.layout.specs.declared.rows.TileBlock.{TileBlock}
use Rattle.layout.specs.declared.rows.HomeBlock.{HomeBlock}
use Rattle.layout.specs.Blocks as blocks
use Rattle.layout.specs.Blocks.{tile_block_words, TileFull}
use Rattle.protocol.specs.Parts.{Words, Queue, empty, one, two, Forward, ToMemory, FromMemory, Message, on_noc2, Tile, tile_of, Home, Bench, bench_of}
use Rattle.protocol.specs.Home.{range, among}
use Rattle.protocol.specs.Bench as rules
use Rattle.protocol.specs.Bench.{tile_at, on_tile2, send_one}
use Rattle.layout.specs.Encode.{enc_request, enc_forward, enc_reply, enc_queue, enc_tile}
use Rattle.layout.proofs.Canonical.{both_true}
use Rattle.layout.specs.Queues.{has_room, push_row}
use Rattle.tile_rules.specs.Steps.{tile_block}
use Rattle.layout.proofs.Round.{forward_typed}
use Rattle.home_rules.specs.Results.{forward_one, forward_to, forward_all}
use Rattle.home_words.specs.Forwards.{has_room_for, has_rooms, forward_put, forward_put_at, forward_put_all}
use Rattle.home_words.proofs.Places.{push_full}
use Rattle.home_words.proofs.ForwardLoops.{next_place}
use Rattle.calls.proofs.Laid.{AllFull, Laid, laid_tile, write_tile}

-- the messages put on their queues, tile after tile
unfoldable pub and_then : {A B : Type 0} → Option A → (A → Option B) → Option B
and_then none f = none
and_then (some a) f = f a

unfoldable pub tell_tiles : ℕ → Forward → ℕ → ℕ → List Tile → Option (List Tile)
tell_tiles m f i ℕ.zero ts = some ts
tell_tiles m f i (suc j) ts = cond (has m i) (and_then (on_tile2 f (tile_at ts i)) (λ (x : Tile). tell_tiles m f (suc i) j (set ts i x))) (tell_tiles m f (suc i) j ts)

module _ (h : Home) (l k : ℕ) (mem : Words) (out : Queue ToMemory) (back : Queue FromMemory) (m : ℕ) (f : Forward) where
  abbrev put : List Tile → Bench
  put ts = bench_of h l k mem out back ts

  nothing_sent : (ms : List Message) → forward_all ms none ≡ none
  unfolding forward_all forward_to
  nothing_sent [] = refl
  nothing_sent (x ∷ ms) = nothing_sent ms

  pub sent_tiles : (j i : ℕ) (ts : List Tile) → forward_all (map (λ t. on_noc2 t f) (among m (range i j))) (some (put ts)) ≡ Option.map put (tell_tiles m f i j ts)
  unfolding tell_tiles and_then among range forward_all forward_to forward_one send_one
  sent_tiles ℕ.zero i ts = refl
  sent_tiles (suc j) i ts = go (has m i) (λ us. sent_tiles j (suc i) us)
    where
      each : (o : Option Tile) → ((us : List Tile) → forward_all (map (λ t. on_noc2 t f) (among m (range (suc i) j))) (some (put us)) ≡ Option.map put (tell_tiles m f (suc i) j us)) →
          forward_all (map (λ t. on_noc2 t f) (among m (range (suc i) j))) (Option.map (λ (x : Tile). put (set ts i x)) o) ≡ Option.map put (and_then o (λ (x : Tile). tell_tiles m f (suc i) j (set ts i x)))
      each none ih = nothing_sent (map (λ t. on_noc2 t f) (among m (range (suc i) j)))
      each (some x) ih = ih (set ts i x)

      go : (b : Bool) → ((us : List Tile) → forward_all (map (λ t. on_noc2 t f) (among m (range (suc i) j))) (some (put us)) ≡ Option.map put (tell_tiles m f (suc i) j us)) →
          forward_all (map (λ t. on_noc2 t f) (cond b (i ∷ among m (range (suc i) j)) (among m (range (suc i) j)))) (some (put ts))
          ≡ Option.map put (cond b (and_then (on_tile2 f (tile_at ts i)) (λ (x : Tile). tell_tiles m f (suc i) j (set ts i x))) (tell_tiles m f (suc i) j ts))
      go true ih = each (on_tile2 f (tile_at ts i)) ih
      go false ih = ih ts

-- room on NoC2 of every tile of the mask
unfoldable pub all_room : List Tile → ℕ → ℕ → ℕ → Bool
all_room ts i to ℕ.zero = true
all_room ts i to (suc j) = cond (has to i) (has_room (enc_tile (tile_at ts i)).noc2) true && all_room ts (suc i) to j

module _ (H : HomeBlock) (r : List ℕ) (to : ℕ) where
  pub rooms_tiles : (j i : ℕ) (a : Bool) (l : List ℕ) (ts : List Tile) → Laid l H ts r → i + j ≤ length ts → has_rooms a l (74 + 84 * i) i to j ≡ (a && all_room ts i to j)
  unfolding has_rooms has_room_for all_room
  rooms_tiles ℕ.zero i a l ts laid h = sym (and-true a)
  rooms_tiles (suc j) i a l ts laid h =
      let one-now : has_room_for l (74 + 84 * i) i to ≡ cond (has to i) (has_room (enc_tile (tile_at ts i)).noc2) true = ap (λ (x : TileBlock). cond (has to i) (has_room x.noc2) true) (laid_tile l H ts r laid i (omega arith)) in
      ap (λ (p : ℕ). has_rooms (a && has_room_for l (74 + 84 * i) i to) l p (i + 1) to j) (next_place i)
      ∙ ap (λ (p : ℕ). has_rooms (a && has_room_for l (74 + 84 * i) i to) l (74 + 84 * suc i) p to j) (add-one i)
      ∙ rooms_tiles j (suc i) (a && has_room_for l (74 + 84 * i) i to) l ts laid (omega arith)
      ∙ ap (λ (z : Bool). a && z && all_room ts (suc i) to j) one-now
      ∙ and_assoc a (cond (has to i) (has_room (enc_tile (tile_at ts i)).noc2) true) (all_room ts (suc i) to j)

-- a queue with room takes the message, in numbers as in the rules
push_room : (q : Queue Forward) (f : Forward) → has_room (enc_queue enc_forward q) ≡ true → (p : Queue Forward) × (rules.push f q ≡ some p) × (push_row (enc_queue enc_forward q) (enc_forward f) ≡ enc_queue enc_forward p)
unfolding has_room push_row enc_queue rules.push
push_room empty f h = (one f, refl, refl)
push_room (one a) f h = (two a f, refl, rw (forward_typed a))
push_room (two a b) f h = absurd (false≢true (sym (forward_typed b) ∙ h))

push_none : (q : Queue Forward) (f : Forward) → has_room (enc_queue enc_forward q) ≡ false → rules.push f q ≡ none
unfolding has_room enc_queue rules.push
push_none empty f h = absurd (false≢true (sym h))
push_none (one a) f h = absurd (false≢true (sym h))
push_none (two a b) f h = refl

told_one : (x : Tile) (f : Forward) → has_room (enc_tile x).noc2 ≡ true → (y : Tile) × (on_tile2 f x ≡ some y) × (forward_put (enc_forward f) (enc_tile x) ≡ enc_tile y)
unfolding enc_tile on_tile2 forward_put
told_one (tile_of c p q1 q2 q3) f h =
    let e = push_room q2 f h in
    (tile_of c p q1 e.0 q3, ap (Option.map (λ q. tile_of c p q1 q q3)) e.1, ap (λ (z : Pair). tile_block (enc_tile (tile_of c p q1 q2 q3)).head (enc_queue enc_request q1) z (enc_queue enc_reply q3)) e.2)

told_none : (x : Tile) (f : Forward) → has_room (enc_tile x).noc2 ≡ false → on_tile2 f x ≡ none
unfolding enc_tile on_tile2
told_none (tile_of c p q1 q2 q3) f h = ap (Option.map (λ q. tile_of c p q1 q q3)) (push_none q2 f h)

-- what is not looked at any more does not matter
room_kept : (to j i t : ℕ) (ts : List Tile) (y : Tile) → t < i → all_room (set ts t y) i to j ≡ all_room ts i to j
unfolding all_room
room_kept to ℕ.zero i t ts y h = refl
room_kept to (suc j) i t ts y h =
    let other : i ≡ t → ⊥ = λ e. omega arith in
    ap (λ (x : Tile). cond (has to i) (has_room (enc_tile x).noc2) true && all_room (set ts t y) (suc i) to j) (get_or-set_other ts t i y rules.fresh_tile other)
    ∙ ap (λ (z : Bool). cond (has to i) (has_room (enc_tile (tile_at ts i)).noc2) true && z) (room_kept to j (suc i) t ts y (omega arith))

-- nothing is sent where one of the tiles has no room
pub not_told : (to : ℕ) (f : Forward) (j i : ℕ) (ts : List Tile) → all_room ts i to j ≡ false → tell_tiles to f i j ts ≡ none
unfolding all_room tell_tiles and_then
not_told to f ℕ.zero i ts h = absurd (false≢true (sym h))
not_told to f (suc j) i ts h = go (has to i) h (λ us. not_told to f j (suc i) us)
  where
    inner : (b : Bool) → has_room (enc_tile (tile_at ts i)).noc2 ≡ b → (b && all_room ts (suc i) to j) ≡ false → ((us : List Tile) → all_room us (suc i) to j ≡ false → tell_tiles to f (suc i) j us ≡ none) →
        and_then (on_tile2 f (tile_at ts i)) (λ (x : Tile). tell_tiles to f (suc i) j (set ts i x)) ≡ none
    inner false e n ih = ap (λ (o : Option Tile). and_then o (λ (x : Tile). tell_tiles to f (suc i) j (set ts i x))) (told_none (tile_at ts i) f e)
    inner true e n ih =
        let y = told_one (tile_at ts i) f e in
        ap (λ (o : Option Tile). and_then o (λ (x : Tile). tell_tiles to f (suc i) j (set ts i x))) y.1 ∙ ih (set ts i y.0) (room_kept to j (suc i) i ts y.0 (omega arith) ∙ n)

    go : (b : Bool) → (cond b (has_room (enc_tile (tile_at ts i)).noc2) true && all_room ts (suc i) to j) ≡ false → ((us : List Tile) → all_room us (suc i) to j ≡ false → tell_tiles to f (suc i) j us ≡ none) →
        cond b (and_then (on_tile2 f (tile_at ts i)) (λ (x : Tile). tell_tiles to f (suc i) j (set ts i x))) (tell_tiles to f (suc i) j ts) ≡ none
    go true n ih = inner (has_room (enc_tile (tile_at ts i)).noc2) refl n ih
    go false n ih = ih ts n

-- a tile that is sent something still has rows of eight words
told_full : (m : Row) (x : TileBlock) → length m.words ≡ 8 → TileFull x → TileFull (forward_put m x)
unfolding forward_put
told_full m x n f = record { head_full = f.head_full; noc1_full = f.noc1_full; noc2_full = push_full x.noc2 m f.noc2_full n; noc3_full = f.noc3_full }

-- what telling leaves: the tiles, and the words laid out with them
pub record Told (to : ℕ) (f : Forward) (i j : ℕ) (ts : List Tile) (H : HomeBlock) (r m : List ℕ) : Type 0 where
  pub tiles : List Tile
  pub by_rules : tell_tiles to f i j ts ≡ some tiles
  pub laid : Laid m H tiles r
  pub count : length tiles ≡ length ts

full_at : (ts : List Tile) (i : ℕ) → i < length ts → AllFull ts → TileFull (enc_tile (tile_at ts i))
full_at [] i h f = absurd (omega arith)
full_at (x ∷ ts) ℕ.zero h f = f.0
full_at (x ∷ ts) (suc i) h f = full_at ts i (omega arith) f.1

module _ (H : HomeBlock) (r : List ℕ) (to : ℕ) (f : Forward) (eight : length (enc_forward f).words ≡ 8) where
  -- one tile passed
  passed : (i j : ℕ) (l : List ℕ) (ts us : List Tile) → tell_tiles to f i (suc j) ts ≡ tell_tiles to f (suc i) j us → length us ≡ length ts →
      Told to f (suc i) j us H r (forward_put_all l (74 + 84 * suc i) (suc i) to (enc_forward f) j) → Told to f i (suc j) ts H r (forward_put_all l (74 + 84 * i + 84) (i + 1) to (enc_forward f) j)
  passed i j l ts us e n d =
      record {
        tiles = d.tiles;
        by_rules = e ∙ d.by_rules;
        laid = rw (next_place i, add-one i) d.laid;
        count = d.count ∙ n;
      }

  pub told_words : (j i : ℕ) (l : List ℕ) (ts : List Tile) → Laid l H ts r → i + j ≤ length ts → all_room ts i to j ≡ true → Told to f i j ts H r (forward_put_all l (74 + 84 * i) i to (enc_forward f) j)
  unfolding forward_put_all forward_put_at tell_tiles all_room and_then
  told_words ℕ.zero i l ts laid h rm = record { tiles = ts; by_rules = refl; laid = laid; count = refl }
  told_words (suc j) i l ts laid h rm = go (has to i) refl rm (λ us k lay m c. told_words j (suc i) k us lay m c)
    where
      go : (b : Bool) → has to i ≡ b → (cond b (has_room (enc_tile (tile_at ts i)).noc2) true && all_room ts (suc i) to j) ≡ true →
          ((us : List Tile) (k : List ℕ) → Laid k H us r → suc i + j ≤ length us → all_room us (suc i) to j ≡ true → Told to f (suc i) j us H r (forward_put_all k (74 + 84 * suc i) (suc i) to (enc_forward f) j)) →
          Told to f i (suc j) ts H r (forward_put_all (cond b (over l (74 + 84 * i) (tile_block_words (forward_put (enc_forward f) (blocks.tile_block_at l (74 + 84 * i))))) l) (74 + 84 * i + 84) (i + 1) to (enc_forward f) j)
      go false e rm ih = passed i j l ts ts (rw e) refl (ih ts l laid (omega arith) rm)
      go true e rm ih =
          let p = both_true (has_room (enc_tile (tile_at ts i)).noc2) _ rm in
          let y = told_one (tile_at ts i) f p.0 in
          let at : blocks.tile_block_at l (74 + 84 * i) ≡ enc_tile (tile_at ts i) = laid_tile l H ts r laid i (omega arith) in
          let now : forward_put (enc_forward f) (blocks.tile_block_at l (74 + 84 * i)) ≡ enc_tile y.0 = ap (forward_put (enc_forward f)) at ∙ y.2 in
          let full : TileFull (enc_tile y.0) = subst TileFull y.2 (told_full (enc_forward f) (enc_tile (tile_at ts i)) eight (full_at ts i (omega arith) laid.tiles)) in
          let lay = write_tile l H ts r laid i y.0 (omega arith) full in
          let len : length (set ts i y.0) ≡ length ts = length-set ts i y.0 in
          rw now (passed i j (over l (74 + 84 * i) (tile_block_words (enc_tile y.0))) ts (set ts i y.0)
          (rw e (ap (λ (o : Option Tile). and_then o (λ (x : Tile). tell_tiles to f (suc i) j (set ts i x))) y.1)) len
          (ih (set ts i y.0) (over l (74 + 84 * i) (tile_block_words (enc_tile y.0))) lay (omega arith) (room_kept to j (suc i) i ts y.0 (omega arith) ∙ p.1)))
