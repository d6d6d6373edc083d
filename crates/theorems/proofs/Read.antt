-- What is read out of the words of a bench is what the bench has. Assumes nothing.
use Prim.Native.Nat.{ℕ, zero, suc, ◌+◌, ◌-◌, ◌*◌, ◌≤◌, ◌<◌}
use mathlib.Core.Path.{◌≡◌, refl, ap, sym, ◌∙◌}
use mathlib.Core.Bool.{Bool, true, false, cond}
use mathlib.Core.List.{List, [], ◌∷◌, map}
use mathlib.Core.Option
use mathlib.Core.Option.{Option, some, none}
use native.Mathlib.Omega.{arith}
use lib.Dec.{eqb, ltb}
use lib.ListN.{length, get_or}
use borrow.Author.Tests.{lt-ltb, le-ltb, le-leb, ltb-true, ltb-false}
use Rattle.layout.proofs.Round.{request_typed, forward_typed, reply_typed, to_memory_typed, from_memory_typed}
use Rattle.layout.specs.declared.rows.Row.{Row}
use Rattle.layout.specs.declared.rows.Pair.{Pair}
use Rattle.layout.specs.declared.rows.TileBlock.{TileBlock}
use Rattle.layout.specs.declared.rows.HomeBlock.{HomeBlock}
use Rattle.layout.specs.Blocks as blocks
use Rattle.layout.specs.Blocks.{pair_at, home_block_at}
use Rattle.protocol.specs.Parts.{Words, Queue, empty, one, two, ToMemory, FromMemory, Message, on_noc1, on_noc2, on_noc3, to_memory, from_memory, Tile, tile_of, Home, Bench, bench_of}
use Rattle.protocol.specs.Bench.{fresh_tile, tile_at, noc1, noc3, noc2}
use Rattle.layout.specs.Encode.{no_row, enc_request, enc_forward, enc_reply, enc_to_memory, enc_from_memory, enc_queue, enc_tile, enc_home}
use Rattle.messages.specs.Queues.{no_queue}
use Rattle.messages.specs.LastMessages.{last_of, last_message_on, queue_of_message}
use Rattle.calls.proofs.Laid.{Laid, laid_length, laid_home, laid_tile}
use Rattle.messages.specs.Rows.{last_row, last_row_at, tile_row, row_on, sent_at, numbers_of_message, no_sent}

-- ---- the last row of a queue

-- the row of a message that is there
abbrev rowed : {A : Type 0} → (A → Row) → Option A → Row
rowed f none = no_row
rowed f (some a) = f a

last_row_lem : {A : Type 0} (f : A → Row) → ((a : A) → eqb (f a).n0 0 ≡ false) → (q : Queue A) → last_row (enc_queue f q) ≡ rowed f (last_of q)
unfolding last_row enc_queue last_of
last_row_lem f typed empty = refl
last_row_lem f typed (one a) = refl
last_row_lem f typed (two a b) = rw (typed b)

-- a tile's queues in its block
block1 : (x : Tile) → (enc_tile x).noc1 ≡ enc_queue enc_request (noc1 x)
unfolding enc_tile noc1
block1 (tile_of c p q1 q2 q3) = refl

block2 : (x : Tile) → (enc_tile x).noc2 ≡ enc_queue enc_forward (noc2 x)
unfolding enc_tile noc2
block2 (tile_of c p q1 q2 q3) = refl

block3 : (x : Tile) → (enc_tile x).noc3 ≡ enc_queue enc_reply (noc3 x)
unfolding enc_tile noc3
block3 (tile_of c p q1 q2 q3) = refl

-- ---- in the words of a bench

from_there : (l : List ℕ) (at : ℕ) (q : Pair) → at + 24 ≤ length l → pair_at l at ≡ q → last_row_at l at ≡ last_row q
unfolding last_row_at
from_there l at q h e = rw (le-leb (at + 24) (length l) h) (ap last_row e)

no_tile : (ts : List Tile) (t : ℕ) → length ts ≤ t → tile_at ts t ≡ fresh_tile
no_tile [] t h = refl
no_tile (x ∷ ts) zero h = absurd (omega arith)
no_tile (x ∷ ts) (suc t) h = no_tile ts t (omega arith)

none_last : {A : Type 0} (f : A → Row) → rowed f (last_of empty) ≡ no_row
unfolding last_of
none_last f = refl

-- a message under its constructor
mapped : {A : Type 0} (g : A → Message) → ((x y : A) → g x ≡ g y → x ≡ y) → (o : Option A) (a : A) → Option.map g o ≡ some (g a) → o ≡ some a
mapped g inj none a e = cc
mapped g inj (some x) a e = ap some (inj x a (cc))

module _ (l : List ℕ) (h : Home) (last k : ℕ) (mem : Words) (out : Queue ToMemory) (back : Queue FromMemory) (ts : List Tile) (r : List ℕ) (laid : Laid l (enc_home (length ts) h last k mem out back) ts r) (small : length ts ≤ 64) where
  home : home_block_at l ≡ enc_home (length ts) h last k mem out back
  home = laid_home l _ ts r laid

  long : 74 + 84 * length ts ≤ length l
  long = laid_length l _ ts r laid

  tile_number : get_or l 0 0 ≡ length ts
  unfolding home_block_at enc_home
  tile_number = ap (λ (x : HomeBlock). x.count) home

  row4 : row_on l 4 0 ≡ rowed enc_to_memory (last_of out)
  unfolding row_on home_block_at enc_home
  row4 = from_there l 26 (enc_queue enc_to_memory out) (omega (arith, long)) (ap (λ (x : HomeBlock). x.out) home) ∙ last_row_lem enc_to_memory to_memory_typed out

  row5 : row_on l 5 0 ≡ rowed enc_from_memory (last_of back)
  unfolding row_on home_block_at enc_home
  row5 = from_there l 50 (enc_queue enc_from_memory back) (omega (arith, long)) (ap (λ (x : HomeBlock). x.back) home) ∙ last_row_lem enc_from_memory from_memory_typed back

  -- queue q of tile t, which stands `at` words into its block
  tile_row_lem : (q at t : ℕ) (pick : TileBlock → Pair) → 12 + 24 * (q - 1) ≡ at → at ≤ 60 → ((x : TileBlock) → x ≡ blocks.tile_block_at l (74 + 84 * t) → pick x ≡ pair_at l (74 + 84 * t + at)) → t < length ts
      → tile_row l q t ≡ last_row (pick (enc_tile (tile_at ts t)))
  unfolding tile_row
  tile_row_lem q at t pick place_is within stands below =
      let e : 74 + 84 * t + 12 + 24 * (q - 1) ≡ 74 + 84 * t + at = omega arith in
      rw (lt-ltb t 64 (omega arith), tile_number, lt-ltb t (length ts) below)
      (ap (last_row_at l) e ∙ from_there l (74 + 84 * t + at) (pick (enc_tile (tile_at ts t))) (omega (arith, long)) (sym (stands (enc_tile (tile_at ts t)) (sym (laid_tile l _ ts r laid t below)))))

  past_tile : (q t : ℕ) → length ts ≤ t → tile_row l q t ≡ no_row
  unfolding tile_row
  past_tile q t past = rw (tile_number, le-ltb t (length ts) past) (go (ltb t 64))
    where
      go : (b : Bool) → cond b no_row no_row ≡ no_row
      go true = refl
      go false = refl

  row_of : {A : Type 0} (f : A → Row) → ((a : A) → eqb (f a).n0 0 ≡ false) → (queue : Tile → Queue A) → queue fresh_tile ≡ empty → (pick : TileBlock → Pair) → ((x : Tile) → pick (enc_tile x) ≡ enc_queue f (queue x)) → (q at t : ℕ) → 12 + 24 * (q - 1) ≡ at → at ≤ 60
      → ((x : TileBlock) → x ≡ blocks.tile_block_at l (74 + 84 * t) → pick x ≡ pair_at l (74 + 84 * t + at))
      → tile_row l q t ≡ rowed f (last_of (queue (tile_at ts t)))
  row_of f typed queue fresh pick block q at t place_is within stands = go (ltb t (length ts)) refl
    where
      go : (b : Bool) → ltb t (length ts) ≡ b → tile_row l q t ≡ rowed f (last_of (queue (tile_at ts t)))
      go true e = tile_row_lem q at t pick place_is within stands (ltb-true t (length ts) e) ∙ ap last_row (block (tile_at ts t)) ∙ last_row_lem f typed (queue (tile_at ts t))
      go false e =
          let past : length ts ≤ t = ltb-false t (length ts) e in
          past_tile q t past ∙ sym (ap (λ (x : Tile). rowed f (last_of (queue x))) (no_tile ts t past) ∙ ap (λ (x : Queue _). rowed f (last_of x)) fresh ∙ none_last f)

  row1 : (t : ℕ) → row_on l 1 t ≡ rowed enc_request (last_of (noc1 (tile_at ts t)))
  unfolding row_on noc1 blocks.tile_block_at
  row1 t = row_of enc_request request_typed noc1 refl (λ x. x.noc1) block1 1 12 t (omega arith) (omega arith) (λ x e. ap (λ (y : TileBlock). y.noc1) e)

  row2 : (t : ℕ) → row_on l 2 t ≡ rowed enc_forward (last_of (noc2 (tile_at ts t)))
  unfolding row_on noc2 blocks.tile_block_at
  row2 t = row_of enc_forward forward_typed noc2 refl (λ x. x.noc2) block2 2 36 t (omega arith) (omega arith) (λ x e. ap (λ (y : TileBlock). y.noc2) e)

  row3 : (t : ℕ) → row_on l 3 t ≡ rowed enc_reply (last_of (noc3 (tile_at ts t)))
  unfolding row_on noc3 blocks.tile_block_at
  row3 t = row_of enc_reply reply_typed noc3 refl (λ x. x.noc3) block3 3 60 t (omega arith) (omega arith) (λ x e. ap (λ (y : TileBlock). y.noc3) e)

  abbrev b : Bench
  b = bench_of h last k mem out back ts

  -- a message that is the last on its queue in the bench is read there
  read_there : (m : Message) → last_message_on b (queue_of_message m) ≡ some m → sent_at l (queue_of_message m) ≡ numbers_of_message m
  unfolding last_message_on queue_of_message sent_at numbers_of_message
  read_there (on_noc1 t m) e = rw (row1 t, mapped (on_noc1 t) (λ x y q. (cc)) (last_of (noc1 (tile_at ts t))) m e)
  read_there (on_noc2 t m) e = rw (row2 t, mapped (on_noc2 t) (λ x y q. (cc)) (last_of (noc2 (tile_at ts t))) m e)
  read_there (on_noc3 t m) e = rw (row3 t, mapped (on_noc3 t) (λ x y q. (cc)) (last_of (noc3 (tile_at ts t))) m e)
  read_there (to_memory m) e = rw (row4, mapped to_memory (λ x y q. (cc)) (last_of out) m e)
  read_there (from_memory m) e = rw (row5, mapped from_memory (λ x y q. (cc)) (last_of back) m e)

  pub read_all : (ms : List Message) (i : ℕ) → map (last_message_on b) (map queue_of_message ms) ≡ map some ms → sent_at l (get_or (map queue_of_message ms) i no_queue) ≡ get_or (map numbers_of_message ms) i no_sent
  unfolding sent_at row_on
  read_all [] i e = refl
  read_all (m ∷ ms) zero e = read_there m (cc)
  read_all (m ∷ ms) (suc i) e = read_all ms i (cc)
