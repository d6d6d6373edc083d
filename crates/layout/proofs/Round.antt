-- Each part of a bench in range decodes to itself and its block passes the test; what a block is read as is in range; and the blocks of
-- a bench in range have rows of eight words. Assumes nothing.
use Prim.Native.Nat.{ℕ, ◌%◌, ◌^◌, ◌≤◌, ◌<◌}
use mathlib.Core.Path.{◌≡◌, refl, ap, ap₂, ◌∙◌}
use mathlib.Core.Bool.{Bool, true, false}
use mathlib.Core.List.{List, [], ◌∷◌}
use mathlib.Core.Option.{some, none}
use native.Mathlib.Nat.{mod-lt, mod-eq_of_lt}
use lib.Dec.{eqb, lit<}
use lib.ListN.{length}
use lib.Pow.{pow_pos}
use borrow.Author.Tests.{eq-eqb}
use Rattle.layout.specs.declared.rows.Row.{Row}
use Rattle.layout.specs.declared.rows.Pair.{Pair}
use Rattle.layout.specs.declared.rows.TileBlock.{TileBlock}
use Rattle.layout.specs.declared.rows.HomeBlock.{HomeBlock}
use Rattle.layout.specs.Blocks.{PairFull, TileFull, HomeFull}
use Rattle.protocol.specs.Parts.{Words, Queue, empty, one, two, reading, writing, State, shared, exclusive, modified, Cache, invalid, valid, Waiting, nothing, for_load, for_store, Request, load_req, store_req, wb_guard_req, Forward, load_fwd, store_fwd, inv_fwd, data_ack, Reply, wb_req, load_fwd_ack_s, load_fwd_ack_i, store_fwd_ack, inv_fwd_ack, ToMemory, load_mem, store_mem, FromMemory, load_mem_ack, store_mem_ack, Tile, tile_of, Directory, uncached, shared_by, owned_by, Line, absent, present, request, eviction, clear_for, clear_for_eviction, Home, idle, awaiting_load, awaiting_owner, awaiting_acks, awaiting_store, bench_of, task, storing, state_number, cache_state}
use Rattle.layout.specs.Encode.{row, flag, enc_request, enc_forward, enc_reply, enc_to_memory, enc_from_memory, enc_queue, cache_words, waiting_number, waiting_word, waiting_value, enc_head, enc_tile, directory_number, holders, enc_line, line_of, phase_number, requester, owed_tiles, enc_home}
use Rattle.layout.specs.Decode.{is_set, dec_state, dec_request, dec_forward, ack_data, dec_reply, dec_to_memory, dec_from_memory, dec_queue, dec_cache, dec_waiting, dec_tile, dec_directory, dec_line, dec_home, bench_from}
use Rattle.layout.specs.Canonical.{same, same_row, same_pair, canon_queue, tile_ok, canon_control, home_ok}
use Rattle.layout.specs.Range.{Eight, RequestIn, ForwardIn, DataIn, ReplyIn, ToMemoryIn, FromMemoryIn, QueueIn, CacheIn, WaitingIn, TileIn, TilesIn, DirectoryIn, LineIn, HomeIn, LineEight, HomeEight, BenchIn, InRange}
use Rattle.layout.proofs.Laws.{both, either}
use Rattle.layout.proofs.Canonical.{canon1, canon2, canon3, canon4, canon5}

-- ---- equal blocks pass

eqb_self : (x : ℕ) → eqb x x ≡ true
eqb_self x = eq-eqb x x refl

same_self : (xs : List ℕ) → same xs xs ≡ true
unfolding same
same_self [] = refl
same_self (x ∷ xs) = both (eqb_self x) (same_self xs)

row_self : (x : Row) → same_row x x ≡ true
unfolding same_row
row_self x = both (eqb_self x.n0) (both (eqb_self x.n1) (both (eqb_self x.n2) (both (eqb_self x.n3) (same_self x.words))))

row_same : (x y : Row) → x ≡ y → same_row x y ≡ true
row_same x y e = rw e (row_self y)

pair_same : (x y : Pair) → x ≡ y → same_pair x y ≡ true
unfolding same_pair
pair_same x y e = rw e (both (row_self y.a) (row_self y.b))

-- ---- each part decodes to itself

flag_round : (d : Bool) → is_set (flag d) ≡ d
unfolding is_set flag
flag_round true = refl
flag_round false = refl

right_round : (r : State) → dec_state (state_number r) ≡ r
unfolding dec_state state_number
right_round shared = refl
right_round exclusive = refl
right_round modified = refl

request_round : (m : Request) → RequestIn m → dec_request (enc_request m) ≡ m
unfolding dec_request enc_request
request_round (load_req w) h = ap load_req (mod-eq_of_lt h)
request_round (store_req w) h = ap store_req (mod-eq_of_lt h)
request_round wb_guard_req h = refl

forward_round : (m : Forward) → ForwardIn m → dec_forward (enc_forward m) ≡ m
unfolding dec_forward enc_forward
forward_round load_fwd h = refl
forward_round store_fwd h = refl
forward_round inv_fwd h = refl
forward_round (data_ack r miss ws) h = ap₂ (λ (x : State) (y : Bool). data_ack x y ws) (right_round r) (flag_round miss)

reply_round : (m : Reply) → ReplyIn m → dec_reply (enc_reply m) ≡ m
unfolding dec_reply enc_reply ack_data
reply_round (wb_req ws) h = refl
reply_round (load_fwd_ack_s none) h = refl
reply_round (load_fwd_ack_s (some ws)) h = refl
reply_round load_fwd_ack_i h = refl
reply_round (store_fwd_ack none) h = refl
reply_round (store_fwd_ack (some ws)) h = refl
reply_round inv_fwd_ack h = refl

to_memory_round : (m : ToMemory) → ToMemoryIn m → dec_to_memory (enc_to_memory m) ≡ m
unfolding dec_to_memory enc_to_memory
to_memory_round load_mem h = refl
to_memory_round (store_mem ws) h = refl

from_memory_round : (m : FromMemory) → FromMemoryIn m → dec_from_memory (enc_from_memory m) ≡ m
unfolding dec_from_memory enc_from_memory
from_memory_round (load_mem_ack ws) h = refl
from_memory_round store_mem_ack h = refl

-- no message has type 0
pub request_typed : (m : Request) → eqb (enc_request m).n0 0 ≡ false
unfolding enc_request
request_typed (load_req w) = refl
request_typed (store_req w) = refl
request_typed wb_guard_req = refl

pub forward_typed : (m : Forward) → eqb (enc_forward m).n0 0 ≡ false
unfolding enc_forward
forward_typed load_fwd = refl
forward_typed store_fwd = refl
forward_typed inv_fwd = refl
forward_typed (data_ack r miss ws) = refl

pub reply_typed : (m : Reply) → eqb (enc_reply m).n0 0 ≡ false
unfolding enc_reply
reply_typed (wb_req ws) = refl
reply_typed (load_fwd_ack_s none) = refl
reply_typed (load_fwd_ack_s (some ws)) = refl
reply_typed load_fwd_ack_i = refl
reply_typed (store_fwd_ack none) = refl
reply_typed (store_fwd_ack (some ws)) = refl
reply_typed inv_fwd_ack = refl

pub to_memory_typed : (m : ToMemory) → eqb (enc_to_memory m).n0 0 ≡ false
unfolding enc_to_memory
to_memory_typed load_mem = refl
to_memory_typed (store_mem ws) = refl

pub from_memory_typed : (m : FromMemory) → eqb (enc_from_memory m).n0 0 ≡ false
unfolding enc_from_memory
from_memory_typed (load_mem_ack ws) = refl
from_memory_typed store_mem_ack = refl

module _ {A : Type 0} (P : A → Type 0) (f : A → Row) (g : Row → A) (r : (a : A) → P a → g (f a) ≡ a) (z : (a : A) → eqb (f a).n0 0 ≡ false) where
  queue_round : (q : Queue A) → QueueIn P q → dec_queue g (enc_queue f q) ≡ q
  unfolding dec_queue enc_queue
  queue_round empty h = refl
  queue_round (one a) h = rw (z a) (ap one (r a h))
  queue_round (two a b) h = rw (z a, z b) (ap₂ two (r a h.0) (r b h.1))

  queue_passes : (way : ℕ) → ((q : Pair) → canon_queue way q ≡ enc_queue f (dec_queue g q)) → (q : Queue A) → QueueIn P q → same_pair (canon_queue way (enc_queue f q)) (enc_queue f q) ≡ true
  queue_passes way canon q h = pair_same _ _ (canon (enc_queue f q) ∙ ap (enc_queue f) (queue_round q h))

cache_round : (c : Cache) (p : Waiting) → dec_cache (enc_head c p) ≡ c
unfolding dec_cache enc_head cache_state cache_words state_number dec_state
cache_round invalid p = refl
cache_round (valid shared ws) p = refl
cache_round (valid exclusive ws) p = refl
cache_round (valid modified ws) p = refl

waiting_round : (c : Cache) (p : Waiting) → WaitingIn p → dec_waiting (enc_head c p) ≡ p
unfolding dec_waiting enc_head waiting_number waiting_word waiting_value
waiting_round c nothing h = refl
waiting_round c (for_load w) h = ap for_load (mod-eq_of_lt h)
waiting_round c (for_store w v) h = ap (λ (x : ℕ). for_store x v) (mod-eq_of_lt h)

-- ---- a tile

pub tile_round : (x : Tile) → TileIn x → dec_tile (enc_tile x) ≡ x
unfolding dec_tile enc_tile
tile_round (tile_of c p q1 q2 q3) h =
    let a = cache_round c p in
    let b = waiting_round c p h.1 in
    let d = queue_round RequestIn enc_request dec_request request_round request_typed q1 h.2 in
    let e = queue_round ForwardIn enc_forward dec_forward forward_round forward_typed q2 h.3 in
    let f = queue_round ReplyIn enc_reply dec_reply reply_round reply_typed q3 h.4 in
    λ i. tile_of (a i) (b i) (d i) (e i) (f i)

pub tile_passes : (x : Tile) → TileIn x → tile_ok (enc_tile x) ≡ true
unfolding tile_ok enc_tile
tile_passes (tile_of c p q1 q2 q3) h =
    both (row_same _ _ (ap₂ enc_head (cache_round c p) (waiting_round c p h.1)))
    (both (queue_passes RequestIn enc_request dec_request request_round request_typed 1 canon1 q1 h.2) (both (queue_passes ForwardIn enc_forward dec_forward forward_round forward_typed 2 canon2 q2 h.3) (queue_passes ReplyIn enc_reply dec_reply reply_round reply_typed 3 canon3 q3 h.4)))

-- ---- the home

directory_round : (n : ℕ) (x : Directory) → DirectoryIn n x → dec_directory n (directory_number x) (holders x) ≡ x
unfolding dec_directory directory_number holders
directory_round n uncached h = refl
directory_round n (shared_by m) h = ap shared_by (mod-eq_of_lt h)
directory_round n (owned_by o) h = ap owned_by (mod-eq_of_lt h)

line_round : (n : ℕ) (x : Line) → LineIn n x → dec_line n (enc_line x) ≡ x
unfolding dec_line enc_line
line_round n absent h = refl
line_round n (present d ws x) h = ap₂ (λ (y : Bool) (z : Directory). present y ws z) (flag_round d) (directory_round n x h)

pub home_round : (n : ℕ) (h : Home) → HomeIn n h → dec_home n (phase_number h) (enc_line (line_of h)) (requester h) (owed_tiles h) ≡ h
unfolding dec_home phase_number line_of requester owed_tiles enc_line holders
home_round n (idle x) i = ap idle (line_round n x i)
home_round n (awaiting_load (task r reading) x) i = ap₂ (λ (s : ℕ) (y : Line). awaiting_load (task s reading) y) (mod-eq_of_lt i.0) (line_round n x i.1)
home_round n (awaiting_load (task r (writing storing)) x) i = ap₂ (λ (s : ℕ) (y : Line). awaiting_load (task s (writing storing)) y) (mod-eq_of_lt i.0) (line_round n x i.1)
home_round n (awaiting_owner d ws o (request (task r reading))) i =
    let a = flag_round d in
    let b = mod-eq_of_lt i.0 in
    let c = mod-eq_of_lt i.1 in
    λ j. awaiting_owner (a j) ws (b j) (request (task (c j) reading))
home_round n (awaiting_owner d ws o (request (task r (writing storing)))) i =
    let a = flag_round d in
    let b = mod-eq_of_lt i.0 in
    let c = mod-eq_of_lt i.1 in
    λ j. awaiting_owner (a j) ws (b j) (request (task (c j) (writing storing)))
home_round n (awaiting_owner d ws o eviction) i = ap₂ (λ (x : Bool) (y : ℕ). awaiting_owner x ws y eviction) (flag_round d) (mod-eq_of_lt i.0)
home_round n (awaiting_acks d ws m u (clear_for (task r storing))) i =
    let a = flag_round d in
    let b = mod-eq_of_lt i.0 in
    let c = mod-eq_of_lt i.1 in
    let e = mod-eq_of_lt i.2 in
    λ j. awaiting_acks (a j) ws (b j) (c j) (clear_for (task (e j) storing))
home_round n (awaiting_acks d ws m u clear_for_eviction) i =
    let a = flag_round d in
    let b = mod-eq_of_lt i.0 in
    let c = mod-eq_of_lt i.1 in
    λ j. awaiting_acks (a j) ws (b j) (c j) clear_for_eviction
home_round n (awaiting_store x) i = ap awaiting_store (line_round n x i)

module _ (n : ℕ) (h : Home) (l k : ℕ) (mem : Words) (out : Queue ToMemory) (back : Queue FromMemory) (ts : List Tile) (i : BenchIn n h l k mem out back ts) where
  pub home_passes : home_ok (enc_home n h l k mem out back) ≡ true
  unfolding home_ok enc_home canon_control
  home_passes =
      let e = home_round n h i.home_in in
      let a : ◌≡◌ {A = ℕ} (l % n) l = mod-eq_of_lt i.last_in in
      let b : ◌≡◌ {A = ℕ} (k % 2 ^ n) k = mod-eq_of_lt i.marks_in in
      let c = ap requester e in
      let d = ap owed_tiles e in
      both (eq-eqb _ _ (ap phase_number e))
      (both (row_same _ _ (ap (λ (x : Home). enc_line (line_of x)) e))
      (both (row_same _ _ (λ j. row (a j) (b j) (c j) (d j) mem)) (both (queue_passes ToMemoryIn enc_to_memory dec_to_memory to_memory_round to_memory_typed 4 canon4 out i.out_in) (queue_passes FromMemoryIn enc_from_memory dec_from_memory from_memory_round from_memory_typed 5 canon5 back i.back_in))))

  pub bench_round : (us : List Tile) → bench_from (enc_home n h l k mem out back) us ≡ bench_of h l k mem out back us
  unfolding bench_from enc_home
  bench_round us =
      let e = home_round n h i.home_in in
      let a : ◌≡◌ {A = ℕ} (l % n) l = mod-eq_of_lt i.last_in in
      let b : ◌≡◌ {A = ℕ} (k % 2 ^ n) k = mod-eq_of_lt i.marks_in in
      let c = queue_round ToMemoryIn enc_to_memory dec_to_memory to_memory_round to_memory_typed out i.out_in in
      let d = queue_round FromMemoryIn enc_from_memory dec_from_memory from_memory_round from_memory_typed back i.back_in in
      λ j. bench_of (e j) (a j) (b j) mem (c j) (d j) us

-- ---- the blocks of parts in range have rows of eight words

queue_eight : {A : Type 0} (P : A → Type 0) (f : A → Row) → ((a : A) → P a → Eight (f a).words) → (q : Queue A) → QueueIn P q → PairFull (enc_queue f q)
unfolding enc_queue
queue_eight P f g empty h = record { first = refl; second = refl }
queue_eight P f g (one a) h = record { first = g a h; second = refl }
queue_eight P f g (two a b) h = record { first = g a h.0; second = g b h.1 }

request_eight : (m : Request) → RequestIn m → Eight (enc_request m).words
unfolding enc_request
request_eight (load_req w) h = refl
request_eight (store_req w) h = refl
request_eight wb_guard_req h = refl

forward_eight : (m : Forward) → ForwardIn m → Eight (enc_forward m).words
unfolding enc_forward
forward_eight load_fwd h = refl
forward_eight store_fwd h = refl
forward_eight inv_fwd h = refl
forward_eight (data_ack r miss ws) h = h

reply_eight : (m : Reply) → ReplyIn m → Eight (enc_reply m).words
unfolding enc_reply
reply_eight (wb_req ws) h = h
reply_eight (load_fwd_ack_s none) h = refl
reply_eight (load_fwd_ack_s (some ws)) h = h
reply_eight load_fwd_ack_i h = refl
reply_eight (store_fwd_ack none) h = refl
reply_eight (store_fwd_ack (some ws)) h = h
reply_eight inv_fwd_ack h = refl

to_memory_eight : (m : ToMemory) → ToMemoryIn m → Eight (enc_to_memory m).words
unfolding enc_to_memory
to_memory_eight load_mem h = refl
to_memory_eight (store_mem ws) h = h

from_memory_eight : (m : FromMemory) → FromMemoryIn m → Eight (enc_from_memory m).words
unfolding enc_from_memory
from_memory_eight (load_mem_ack ws) h = h
from_memory_eight store_mem_ack h = refl

cache_eight : (c : Cache) → CacheIn c → Eight (cache_words c)
unfolding cache_words
cache_eight invalid h = refl
cache_eight (valid r ws) h = h

pub tile_eight : (x : Tile) → TileIn x → TileFull (enc_tile x)
unfolding enc_tile enc_head
tile_eight (tile_of c p q1 q2 q3) h =
    record {
      head_full = cache_eight c h.0;
      noc1_full = queue_eight RequestIn enc_request request_eight q1 h.2;
      noc2_full = queue_eight ForwardIn enc_forward forward_eight q2 h.3;
      noc3_full = queue_eight ReplyIn enc_reply reply_eight q3 h.4;
    }

line_eight : (x : Line) → LineEight x → Eight (enc_line x).words
unfolding enc_line
line_eight absent h = refl
line_eight (present d ws x) h = h

lines_eight : (h : Home) → HomeEight h → LineEight (line_of h)
unfolding line_of
lines_eight (idle x) e = e
lines_eight (awaiting_load (task r a) x) e = e
lines_eight (awaiting_owner d ws o c) e = e
lines_eight (awaiting_acks d ws m u c) e = e
lines_eight (awaiting_store x) e = e

pub home_eight : (n : ℕ) (h : Home) (l k : ℕ) (mem : Words) (out : Queue ToMemory) (back : Queue FromMemory) → HomeEight h → Eight mem → QueueIn ToMemoryIn out → QueueIn FromMemoryIn back →
    HomeFull (enc_home n h l k mem out back)
unfolding enc_home
home_eight n h l k mem out back a b c d =
    record {
      line_full = line_eight (line_of h) (lines_eight h a);
      control_full = b;
      out_full = queue_eight ToMemoryIn enc_to_memory to_memory_eight out c;
      back_full = queue_eight FromMemoryIn enc_from_memory from_memory_eight back d;
    }

-- ---- what is read is in range

directory_read : (n d x : ℕ) → 0 < n → DirectoryIn n (dec_directory n d x)
unfolding dec_directory
directory_read n d x h = either (DirectoryIn n) (eqb d 0) tt (either (DirectoryIn n) (eqb d 1) (mod-lt x (pow_pos n)) (mod-lt x h))

pub line_read : (n : ℕ) (x : Row) → 0 < n → LineIn n (dec_line n x)
unfolding dec_line
line_read n x h = either (LineIn n) (eqb x.n0 0) tt (directory_read n x.n2 x.n3 h)

pub home_read : (n p : ℕ) (x : Row) (r u : ℕ) → 0 < n → HomeIn n (dec_home n p x r u)
unfolding dec_home
home_read n p x r u h =
    either (HomeIn n) (eqb p 0) (line_read n x h)
    (either (HomeIn n) (eqb p 1) (mod-lt r h, line_read n x h)
    (either (HomeIn n) (eqb p 2) (mod-lt r h, line_read n x h)
    (either (HomeIn n) (eqb p 3) (mod-lt x.n3 h, mod-lt r h)
    (either (HomeIn n) (eqb p 4) (mod-lt x.n3 h, mod-lt r h)
    (either (HomeIn n) (eqb p 5) (mod-lt x.n3 h, tt)
    (either (HomeIn n) (eqb p 6) (mod-lt x.n3 (pow_pos n), mod-lt u (pow_pos n), mod-lt r h)
    (either (HomeIn n) (eqb p 7) (mod-lt x.n3 (pow_pos n), mod-lt u (pow_pos n), tt) (line_read n x h))))))))

line_words_read : (n : ℕ) (x : Row) → Eight x.words → LineEight (dec_line n x)
unfolding dec_line
line_words_read n x e = either LineEight (eqb x.n0 0) tt e

home_words_read : (n p : ℕ) (x : Row) (r u : ℕ) → Eight x.words → HomeEight (dec_home n p x r u)
unfolding dec_home
home_words_read n p x r u e =
    either HomeEight (eqb p 0) (line_words_read n x e)
    (either HomeEight (eqb p 1) (line_words_read n x e)
    (either HomeEight (eqb p 2) (line_words_read n x e)
    (either HomeEight (eqb p 3) e
    (either HomeEight (eqb p 4) e
    (either HomeEight (eqb p 5) e (either HomeEight (eqb p 6) e (either HomeEight (eqb p 7) e (line_words_read n x e))))))))

queue_read : {A : Type 0} (P : A → Type 0) (g : Row → A) → ((r : Row) → Eight r.words → P (g r)) → (q : Pair) → PairFull q → QueueIn P (dec_queue g q)
unfolding dec_queue
queue_read P g f q e = either (QueueIn P) (eqb q.a.n0 0) tt (either (QueueIn P) (eqb q.b.n0 0) (f q.a e.first) (f q.a e.first, f q.b e.second))

request_read : (r : Row) → Eight r.words → RequestIn (dec_request r)
unfolding dec_request
request_read r e = either RequestIn (eqb r.n0 31) (mod-lt r.n1 (lit< tt)) (either RequestIn (eqb r.n0 2) (mod-lt r.n1 (lit< tt)) tt)

forward_read : (r : Row) → Eight r.words → ForwardIn (dec_forward r)
unfolding dec_forward
forward_read r e = either ForwardIn (eqb r.n0 16) tt (either ForwardIn (eqb r.n0 17) tt (either ForwardIn (eqb r.n0 18) tt e))

data_read : (r : Row) → Eight r.words → DataIn (ack_data r)
unfolding ack_data
data_read r e = either DataIn (eqb r.n3 0) tt e

reply_read : (r : Row) → Eight r.words → ReplyIn (dec_reply r)
unfolding dec_reply
reply_read r e =
    either ReplyIn (eqb r.n0 12) e
    (either ReplyIn (eqb r.n0 21) (either ReplyIn (eqb r.n2 0) tt (data_read r e)) (either ReplyIn (eqb r.n0 22) (data_read r e) tt))

to_memory_read : (r : Row) → Eight r.words → ToMemoryIn (dec_to_memory r)
unfolding dec_to_memory
to_memory_read r e = either ToMemoryIn (eqb r.n0 19) tt e

from_memory_read : (r : Row) → Eight r.words → FromMemoryIn (dec_from_memory r)
unfolding dec_from_memory
from_memory_read r e = either FromMemoryIn (eqb r.n0 24) e tt

cache_read : (r : Row) → Eight r.words → CacheIn (dec_cache r)
unfolding dec_cache
cache_read r e = either CacheIn (eqb r.n0 0) tt e

waiting_read : (r : Row) → WaitingIn (dec_waiting r)
unfolding dec_waiting
waiting_read r = either WaitingIn (eqb r.n1 0) tt (either WaitingIn (eqb r.n1 1) (mod-lt r.n2 (lit< tt)) (mod-lt r.n2 (lit< tt)))

pub tile_read : (x : TileBlock) → TileFull x → TileIn (dec_tile x)
unfolding dec_tile
tile_read x f = (
  cache_read x.head f.head_full,
  waiting_read x.head,
  queue_read RequestIn dec_request request_read x.noc1 f.noc1_full,
  queue_read ForwardIn dec_forward forward_read x.noc2 f.noc2_full,
  queue_read ReplyIn dec_reply reply_read x.noc3 f.noc3_full,
)

pub bench_read : (x : HomeBlock) (ts : List Tile) → 1 ≤ x.count → x.count ≤ 64 → HomeFull x → length ts ≡ x.count → TilesIn ts → InRange x.count (bench_from x ts)
unfolding bench_from
bench_read x ts a b f n h =
    record {
      some_tile = a;
      tiles_fit = b;
      home_in = home_read x.count x.phase x.line x.control.n2 x.control.n3 a;
      home_eight = home_words_read x.count x.phase x.line x.control.n2 x.control.n3 f.line_full;
      last_in = mod-lt x.control.n0 a;
      marks_in = mod-lt x.control.n1 (pow_pos x.count);
      memory_eight = f.control_full;
      out_in = queue_read ToMemoryIn dec_to_memory to_memory_read x.out f.out_full;
      back_in = queue_read FromMemoryIn dec_from_memory from_memory_read x.back f.back_full;
      tiles_given = n;
      tiles_in = h;
    }
