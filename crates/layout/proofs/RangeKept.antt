-- A fresh bench is in range, and every call keeps a bench in range. Assumes nothing.
use Prim.Native.Nat.{ℕ, suc, ◌≤◌, ◌<◌, ◌^◌}
use mathlib.Core.Path.{◌≡◌, refl, ◌∙◌, subst}
use mathlib.Core.Bool.{Bool, true, false}
use mathlib.Core.List.{List, [], ◌∷◌, map}
use mathlib.Core.Option
use mathlib.Core.Option.{Option, some, none}
use native.Mathlib.Omega.{arith}
use lib.Dec.{eqb, ltb}
use lib.ListN.{length, set, replicate, length-set, length-replicate}
use lib.Pow.{pow_pos}
use borrow.Author.Tests.{ltb-true}
use Rattle.masks.specs.Mask.{has, add, del}
use Rattle.masks.proofs.MaskLaws.{add_lt, del_lt}
use Rattle.protocol.specs.Parts.{Words, Queue, empty, one, two, Access, reading, writing, State, shared, exclusive, modified, Cache, invalid, valid, Waiting, nothing, for_load, for_store, Request, load_req, store_req, wb_guard_req, Forward, load_fwd, store_fwd, inv_fwd, data_ack, Reply, wb_req, load_fwd_ack_s, load_fwd_ack_i, store_fwd_ack, inv_fwd_ack, ToMemory, load_mem, store_mem, FromMemory, load_mem_ack, store_mem_ack, Message, on_noc1, on_noc2, on_noc3, to_memory, from_memory, Tile, tile_of, Directory, uncached, shared_by, owned_by, Line, absent, present, Cause, request, eviction, Clearing, clear_for, clear_for_eviction, Home, idle, awaiting_load, awaiting_owner, awaiting_acks, awaiting_store, Bench, bench_of, Call, load, store, evict, taking, to_tile, from_tile, memory_step, memory_ack, home_eviction, Result, refused, accepted, task, storing}
use Rattle.protocol.specs.Tile.{load_at, store_at, evict_at, Received, misfit, filled, replied, fill, receive, received, deliver_to}
use Rattle.protocol.specs.Home.{Move, move, members, grant_shared, grant, grant_message, granted_line, asked_for, ask_owner, invalidate_to, invalidate, leave, serve, write_back, ack_words, ack_dirty, load_ack_s, load_ack_i, store_ack, cleared, inv_ack, acknowledged, evict_line}
use Rattle.protocol.specs.Bench as bench
use Rattle.protocol.specs.Bench.{fresh_tile, fresh, tile_at, push, front, rest, on_tile1, on_tile2, on_tile3, send_one, send_to, send, outcome, posted, settle, at_tile, at_word, arbitrate, eligible, noc1, pop_noc1, served, take_chosen, taking_on, noc3, pop_noc3, written_back, fitted, accept_reply, from_tile_on, memory_serves, memory_step_on, accept_ack, memory_ack_on, home_eviction_on, step}
use Rattle.protocol.specs.Runs.{kept, after, rules, runs}
use Rattle.protocol.proofs.Tests.{by_test}
use Rattle.protocol.proofs.Search.{first_passes, eligible_below}
use Rattle.layout.specs.Range.{Eight, RequestIn, ForwardIn, DataIn, ReplyIn, ToMemoryIn, FromMemoryIn, QueueIn, CacheIn, TileIn, TilesIn, DirectoryIn, LineIn, CauseIn, ClearingIn, HomeIn, LineEight, HomeEight, BenchIn, InRange}
use Rattle.layout.proofs.Laws.{either}

-- ---- what holds of an answer, where there is one

abbrev OptionIn : {A : Type 0} → (A → Type 0) → Option A → Type 0
OptionIn P none = Unit {0}
OptionIn P (some a) = P a

abbrev MessageIn : Message → Type 0
MessageIn (on_noc1 t m) = RequestIn m
MessageIn (on_noc2 t m) = ForwardIn m
MessageIn (on_noc3 t m) = ReplyIn m
MessageIn (to_memory m) = ToMemoryIn m
MessageIn (from_memory m) = FromMemoryIn m

abbrev MessagesIn : List Message → Type 0
MessagesIn [] = Unit {0}
MessagesIn (m ∷ ms) = MessageIn m × MessagesIn ms

-- a tile's rule: the tile after it, and what it sends
abbrev TileResultIn : Result Tile → Type 0
TileResultIn (refused n) = Unit {0}
TileResultIn (accepted k v x ms) = TileIn x × MessagesIn ms

abbrev ResultIn : ℕ → Result Bench → Type 0
ResultIn n (refused r) = Unit {0}
ResultIn n (accepted k v b ms) = InRange n b

-- the home's: the home after it, and what it sends
abbrev MoveIn : ℕ → Move → Type 0
MoveIn n (move h ms) = HomeIn n h × HomeEight h × MessagesIn ms

abbrev HomeFine : ℕ → Home → Type 0
HomeFine n h = HomeIn n h × HomeEight h

-- ---- queues and tiles

module _ {A : Type 0} (P : A → Type 0) where
  push_in : (a : A) (q : Queue A) → P a → QueueIn P q → OptionIn (QueueIn P) (push a q)
  unfolding push
  push_in a empty p h = p
  push_in a (one b) p h = (h, p)
  push_in a (two b c) p h = tt

  front_in : (q : Queue A) → QueueIn P q → OptionIn P (front q)
  unfolding front
  front_in empty h = tt
  front_in (one a) h = h
  front_in (two a b) h = h.0

  rest_in : (q : Queue A) → QueueIn P q → QueueIn P (rest q)
  unfolding rest
  rest_in empty h = tt
  rest_in (one a) h = tt
  rest_in (two a b) h = h.1

map_in : {A B : Type 0} (P : A → Type 0) (R : B → Type 0) (f : A → B) → ((a : A) → P a → R (f a)) → (o : Option A) → OptionIn P o → OptionIn R (Option.map f o)
map_in P R f g none h = tt
map_in P R f g (some a) h = g a h

pub tile_in : (ts : List Tile) (t : ℕ) → TilesIn ts → TileIn (tile_at ts t)
tile_in [] t h = (tt, tt, tt, tt, tt)
tile_in (x ∷ ts) ℕ.zero h = h.0
tile_in (x ∷ ts) (suc t) h = tile_in ts t h.1

set_in : (ts : List Tile) (t : ℕ) (y : Tile) → TilesIn ts → TileIn y → TilesIn (set ts t y)
set_in [] t y h p = h
set_in (x ∷ ts) ℕ.zero y h p = (p, h.1)
set_in (x ∷ ts) (suc t) y h p = (h.0, set_in ts t y h.1 p)

tile1_in : (m : Request) (x : Tile) → RequestIn m → TileIn x → OptionIn TileIn (on_tile1 m x)
unfolding on_tile1
tile1_in m (tile_of c p q1 q2 q3) a h = map_in (QueueIn RequestIn) TileIn (λ q. tile_of c p q q2 q3) (λ q g. (h.0, h.1, g, h.3, h.4)) (push m q1) (push_in RequestIn m q1 a h.2)

tile2_in : (m : Forward) (x : Tile) → ForwardIn m → TileIn x → OptionIn TileIn (on_tile2 m x)
unfolding on_tile2
tile2_in m (tile_of c p q1 q2 q3) a h = map_in (QueueIn ForwardIn) TileIn (λ q. tile_of c p q1 q q3) (λ q g. (h.0, h.1, h.2, g, h.4)) (push m q2) (push_in ForwardIn m q2 a h.3)

tile3_in : (m : Reply) (x : Tile) → ReplyIn m → TileIn x → OptionIn TileIn (on_tile3 m x)
unfolding on_tile3
tile3_in m (tile_of c p q1 q2 q3) a h = map_in (QueueIn ReplyIn) TileIn (λ q. tile_of c p q1 q2 q) (λ q g. (h.0, h.1, h.2, h.3, g)) (push m q3) (push_in ReplyIn m q3 a h.4)

-- ---- a bench with one part replaced

module _ {n : ℕ} {h : Home} {l k : ℕ} {mem : Words} {out : Queue ToMemory} {back : Queue FromMemory} {ts : List Tile} (i : BenchIn n h l k mem out back ts) where
  -- home, last taken, marks, memory and its queues
  with_home_lem : (h' : Home) (l' k' : ℕ) (mem' : Words) (out' : Queue ToMemory) (back' : Queue FromMemory) → HomeFine n h' → l' < n → k' < 2 ^ n → Eight mem' → QueueIn ToMemoryIn out' →
      QueueIn FromMemoryIn back' → BenchIn n h' l' k' mem' out' back' ts
  with_home_lem h' l' k' mem' out' back' a b c d e f =
      record {
        some_tile = i.some_tile;
        tiles_fit = i.tiles_fit;
        home_in = a.0;
        home_eight = a.1;
        last_in = b;
        marks_in = c;
        memory_eight = d;
        out_in = e;
        back_in = f;
        tiles_given = i.tiles_given;
        tiles_in = i.tiles_in;
      }

  with_tile : (t : ℕ) (y : Tile) → TileIn y → BenchIn n h l k mem out back (set ts t y)
  with_tile t y p =
      record {
        some_tile = i.some_tile;
        tiles_fit = i.tiles_fit;
        home_in = i.home_in;
        home_eight = i.home_eight;
        last_in = i.last_in;
        marks_in = i.marks_in;
        memory_eight = i.memory_eight;
        out_in = i.out_in;
        back_in = i.back_in;
        tiles_given = length-set ts t y ∙ i.tiles_given;
        tiles_in = set_in ts t y i.tiles_in p;
      }

  fine : HomeFine n h
  fine = (i.home_in, i.home_eight)

  here : (t : ℕ) → TileIn (tile_at ts t)
  here t = tile_in ts t i.tiles_in

-- ---- messages sent

one_in : (n : ℕ) (m : Message) (b : Bench) → MessageIn m → InRange n b → OptionIn (InRange n) (send_one m b)
unfolding send_one
one_in n (on_noc1 t m) (bench_of h l k mem out back ts) a i = map_in TileIn (InRange n) (λ x. bench_of h l k mem out back (set ts t x)) (λ x g. with_tile i t x g) (on_tile1 m (tile_at ts t)) (tile1_in m (tile_at ts t) a (here i t))
one_in n (on_noc2 t m) (bench_of h l k mem out back ts) a i = map_in TileIn (InRange n) (λ x. bench_of h l k mem out back (set ts t x)) (λ x g. with_tile i t x g) (on_tile2 m (tile_at ts t)) (tile2_in m (tile_at ts t) a (here i t))
one_in n (on_noc3 t m) (bench_of h l k mem out back ts) a i = map_in TileIn (InRange n) (λ x. bench_of h l k mem out back (set ts t x)) (λ x g. with_tile i t x g) (on_tile3 m (tile_at ts t)) (tile3_in m (tile_at ts t) a (here i t))
one_in n (to_memory m) (bench_of h l k mem out back ts) a i =
    map_in (QueueIn ToMemoryIn) (InRange n) (λ q. bench_of h l k mem q back ts)
    (λ q g. with_home_lem i h l k mem q back (fine i) i.last_in i.marks_in i.memory_eight g i.back_in) (push m out) (push_in ToMemoryIn m out a i.out_in)
one_in n (from_memory m) (bench_of h l k mem out back ts) a i =
    map_in (QueueIn FromMemoryIn) (InRange n) (λ q. bench_of h l k mem out q ts)
    (λ q g. with_home_lem i h l k mem out q (fine i) i.last_in i.marks_in i.memory_eight i.out_in g) (push m back) (push_in FromMemoryIn m back a i.back_in)

send_in : (n : ℕ) (ms : List Message) (o : Option Bench) → MessagesIn ms → OptionIn (InRange n) o → OptionIn (InRange n) (send ms o)
unfolding send send_to
send_in n [] o a h = h
send_in n (m ∷ ms) none a h = send_in n ms none a.1 tt
send_in n (m ∷ ms) (some b) a h = send_in n ms (send_one m b) a.1 (one_in n m b a.0 h)

sent_in : (n : ℕ) (k v : ℕ) (ms : List Message) (o : Option Bench) → OptionIn (InRange n) o → ResultIn n (outcome k v ms o)
unfolding outcome
sent_in n k v ms none h = tt
sent_in n k v ms (some b) h = h

posted_in : (n : ℕ) (k v : ℕ) (ms : List Message) (b : Bench) → MessagesIn ms → InRange n b → ResultIn n (posted k v ms b)
unfolding posted
posted_in n k v ms b a i = sent_in n k v ms (send ms (some b)) (send_in n ms (some b) a i)

-- ---- the tile's rules

load_in : (t w : ℕ) (x : Tile) → w < 8 → TileIn x → TileResultIn (load_at t w x)
unfolding load_at
load_in t w (tile_of c (for_load u) q1 q2 q3) b h = tt
load_in t w (tile_of c (for_store u v) q1 q2 q3) b h = tt
load_in t w (tile_of (valid r ws) nothing q1 q2 q3) b h = (h, tt)
load_in t w (tile_of invalid nothing q1 q2 q3) b h = ((tt, b, h.2, h.3, h.4), (b, tt))

store_in : (t w v : ℕ) (x : Tile) → w < 8 → TileIn x → TileResultIn (store_at t w v x)
unfolding store_at
store_in t w v (tile_of c (for_load u) q1 q2 q3) b h = tt
store_in t w v (tile_of c (for_store u y) q1 q2 q3) b h = tt
store_in t w v (tile_of (valid modified ws) nothing q1 q2 q3) b h = ((length-set ws w v ∙ h.0, tt, h.2, h.3, h.4), tt)
store_in t w v (tile_of (valid exclusive ws) nothing q1 q2 q3) b h = ((length-set ws w v ∙ h.0, tt, h.2, h.3, h.4), tt)
store_in t w v (tile_of (valid shared ws) nothing q1 q2 q3) b h = ((h.0, b, h.2, h.3, h.4), (b, tt))
store_in t w v (tile_of invalid nothing q1 q2 q3) b h = ((tt, b, h.2, h.3, h.4), (b, tt))

evict_in : (t : ℕ) (x : Tile) → TileIn x → TileResultIn (evict_at t x)
unfolding evict_at
evict_in t (tile_of invalid p q1 q2 q3) h = tt
evict_in t (tile_of (valid shared ws) p q1 q2 q3) h = ((tt, h.1, h.2, h.3, h.4), tt)
evict_in t (tile_of (valid exclusive ws) p q1 q2 q3) h = ((tt, h.1, h.2, h.3, h.4), tt)
evict_in t (tile_of (valid modified ws) p q1 q2 q3) h = ((tt, h.1, h.2, h.3, h.4), (h.0, (tt, tt)))

abbrev ReceivedIn : Received → Type 0
ReceivedIn misfit = Unit {0}
ReceivedIn (filled k v c) = CacheIn c
ReceivedIn (replied c a) = CacheIn c × ReplyIn a

fill_in : (r : State) (ws : Words) (c : Cache) (p : Waiting) → Eight ws → ReceivedIn (fill r ws c p)
unfolding fill
fill_in r ws c nothing e = tt
fill_in shared ws invalid (for_load w) e = e
fill_in exclusive ws invalid (for_load w) e = e
fill_in modified ws invalid (for_load w) e = tt
fill_in r ws (valid x us) (for_load w) e = tt
fill_in modified ws invalid (for_store w v) e = length-set ws w v ∙ e
fill_in modified ws (valid shared us) (for_store w v) e = length-set ws w v ∙ e
fill_in modified ws (valid exclusive us) (for_store w v) e = tt
fill_in modified ws (valid modified us) (for_store w v) e = tt
fill_in shared ws c (for_store w v) e = tt
fill_in exclusive ws c (for_store w v) e = tt

receive_in : (m : Forward) (c : Cache) (p : Waiting) → ForwardIn m → CacheIn c → ReceivedIn (receive m c p)
unfolding receive
receive_in (data_ack r miss ws) c p e h = fill_in r ws c p e
receive_in load_fwd (valid modified ws) p e h = (h, h)
receive_in load_fwd (valid exclusive ws) p e h = (h, tt)
receive_in load_fwd invalid p e h = (tt, tt)
receive_in load_fwd (valid shared ws) p e h = tt
receive_in store_fwd (valid modified ws) p e h = (tt, h)
receive_in store_fwd (valid exclusive ws) p e h = (tt, tt)
receive_in store_fwd invalid p e h = (tt, tt)
receive_in store_fwd (valid shared ws) p e h = tt
receive_in inv_fwd (valid shared ws) p e h = (tt, tt)
receive_in inv_fwd invalid p e h = (tt, tt)
receive_in inv_fwd (valid exclusive ws) p e h = tt
receive_in inv_fwd (valid modified ws) p e h = tt

received_in : (t : ℕ) (r : Received) (c : Cache) (p : Waiting) (q1 : Queue Request) (q : Queue Forward) (q3 : Queue Reply) → ReceivedIn r → TileIn (tile_of c p q1 q q3) → TileResultIn (received t r c p q1 q q3)
unfolding received
received_in t misfit c p q1 q q3 a h = tt
received_in t (filled k v d) c p q1 q q3 a h = ((a, tt, h.2, h.3, h.4), tt)
received_in t (replied d m) c p q1 q q3 a h = ((a.0, h.1, h.2, h.3, h.4), (a.1, tt))

deliver_in : (t : ℕ) (x : Tile) → TileIn x → TileResultIn (deliver_to t x)
unfolding deliver_to
deliver_in t (tile_of c p q1 empty q3) h = tt
deliver_in t (tile_of c p q1 (one m) q3) h = received_in t (receive m c p) c p q1 empty q3 (receive_in m c p h.3 h.0) (h.0, h.1, h.2, tt, h.4)
deliver_in t (tile_of c p q1 (two m r) q3) h = received_in t (receive m c p) c p q1 (one r) q3 (receive_in m c p h.3.0 h.0) (h.0, h.1, h.2, h.3.1, h.4)

word_in : (w : ℕ) (r : Result Tile) → (w < 8 → TileResultIn r) → TileResultIn (at_word w r)
unfolding at_word
word_in w r f = by_test TileResultIn (ltb w 8) r (refused 3) (λ e. f (ltb-true w 8 e)) (λ e. tt)

settle_in : (n : ℕ) (t : ℕ) (b : Bench) (r : Result Tile) → InRange n b → TileResultIn r → ResultIn n (settle t b r)
unfolding settle
settle_in n t b (refused r) i h = tt
settle_in n t (bench_of h l k mem out back ts) (accepted kd v x ms) i a = posted_in n kd v ms (bench_of h l k mem out back (set ts t x)) a.1 (with_tile i t x a.0)

at_tile_in : (n : ℕ) (t : ℕ) (f : Tile → Result Tile) (b : Bench) → ((x : Tile) → TileIn x → TileResultIn (f x)) → InRange n b → ResultIn n (at_tile t f b)
unfolding at_tile
at_tile_in n t f (bench_of h l k mem out back ts) g i = either (ResultIn n) (ltb t (length ts)) (settle_in n t (bench_of h l k mem out back ts) (f (tile_at ts t)) i (g (tile_at ts t) (here i t))) tt

-- ---- the home's rules

grant_shared_in : (n : ℕ) (d : Bool) (ws : Words) (m t : ℕ) → Eight ws → m < 2 ^ n → t < n → MoveIn n (grant_shared d ws m t)
unfolding grant_shared
grant_shared_in n d ws m t e a b = (add_lt n m t a b, e, (e, tt))

grant_in : (n : ℕ) (d : Bool) (ws : Words) (miss : Bool) (t : ℕ) (a : Access) → Eight ws → t < n → MoveIn n (grant d ws miss (task t a))
unfolding grant grant_message granted_line
grant_in n d ws miss t reading e a = (a, e, (e, tt))
grant_in n d ws miss t (writing storing) e a = (a, e, (e, tt))

asked_in : (c : Cause) → ForwardIn (asked_for c)
unfolding asked_for
asked_in (request (task t reading)) = tt
asked_in (request (task t (writing z))) = tt
asked_in eviction = tt

ask_in : (n : ℕ) (d : Bool) (ws : Words) (o : ℕ) (c : Cause) → Eight ws → o < n → CauseIn n c → MoveIn n (ask_owner d ws o c)
unfolding ask_owner
ask_in n d ws o c e a b = ((a, b), e, (asked_in c, tt))

invalidations_in : (ts : List ℕ) → MessagesIn (map invalidate_to ts)
unfolding invalidate_to
invalidations_in [] = tt
invalidations_in (t ∷ ts) = (tt, invalidations_in ts)

invalidate_in : (n s : ℕ) (d : Bool) (ws : Words) (m u : ℕ) (c : Clearing) → Eight ws → m < 2 ^ n → u < 2 ^ n → ClearingIn n c → MoveIn n (invalidate s d ws m u c)
unfolding invalidate
invalidate_in n s d ws m u c e a b f = ((a, b, f), e, invalidations_in (members u s))

leave_in : (n : ℕ) (d : Bool) (ws : Words) → Eight ws → MoveIn n (leave d ws)
unfolding leave
leave_in n true ws e = (tt, e, (e, tt))
leave_in n false ws e = (tt, tt, tt)

serve_in : (n s t : ℕ) (a : Access) (x : Line) → t < n → LineIn n x → LineEight x → MoveIn n (serve s (task t a) x)
unfolding serve
serve_in n s t a absent b i e = ((b, tt), tt, (tt, tt))
serve_in n s t a (present d ws uncached) b i e = grant_in n d ws false t a e b
serve_in n s t reading (present d ws (shared_by m)) b i e = grant_shared_in n d ws m t e i b
serve_in n s t (writing z) (present d ws (shared_by m)) b i e =
    either (MoveIn n) (eqb (del m t) 0) (grant_in n d ws false t (writing z) e b) (invalidate_in n s d ws m (del m t) (clear_for (task t z)) e i (del_lt n m t i) b)
serve_in n s t a (present d ws (owned_by o)) b i e = either (MoveIn n) (eqb o t) (grant_in n d ws false t a e b) (ask_in n d ws o (request (task t a)) e i b)

write_back_in : (n t : ℕ) (ws : Words) (mark : Bool) (h : Home) → Eight ws → HomeIn n h → OptionIn (HomeFine n) (write_back t ws mark h)
unfolding write_back
write_back_in n t ws true h e i = tt
write_back_in n t ws false (idle absent) e i = tt
write_back_in n t ws false (idle (present d us uncached)) e i = tt
write_back_in n t ws false (idle (present d us (shared_by m))) e i = tt
write_back_in n t ws false (idle (present d us (owned_by o))) e i = either (OptionIn (HomeFine n)) (eqb o t) (tt, e) tt
write_back_in n t ws false (awaiting_load (task r a) l) e i = tt
write_back_in n t ws false (awaiting_owner d us o c) e i = either (OptionIn (HomeFine n)) (eqb o t) (i, e) tt
write_back_in n t ws false (awaiting_acks d us m u c) e i = tt
write_back_in n t ws false (awaiting_store l) e i = tt

words_in : (x : Option Words) (us : Words) → DataIn x → Eight us → Eight (ack_words x us)
unfolding ack_words
words_in none us a e = e
words_in (some ws) us a e = a

load_ack_s_in : (n t : ℕ) (x : Option Words) (h : Home) → DataIn x → HomeIn n h → HomeEight h → OptionIn (MoveIn n) (load_ack_s t x h)
unfolding load_ack_s
load_ack_s_in n t x (idle l) a i e = tt
load_ack_s_in n t x (awaiting_load (task r b) l) a i e = tt
load_ack_s_in n t x (awaiting_owner d us o (request (task r reading))) a i e =
    either (OptionIn (MoveIn n)) (eqb o t) (grant_shared_in n (ack_dirty x d) (ack_words x us) (add 0 o) r (words_in x us a e) (add_lt n 0 o (pow_pos n) i.0) i.1) tt
load_ack_s_in n t x (awaiting_owner d us o (request (task r (writing z)))) a i e = tt
load_ack_s_in n t x (awaiting_owner d us o eviction) a i e = tt
load_ack_s_in n t x (awaiting_acks d us m u c) a i e = tt
load_ack_s_in n t x (awaiting_store l) a i e = tt

load_ack_i_in : (n t : ℕ) (h : Home) → HomeIn n h → HomeEight h → OptionIn (MoveIn n) (load_ack_i t h)
unfolding load_ack_i
load_ack_i_in n t (idle l) i e = tt
load_ack_i_in n t (awaiting_load (task r b) l) i e = tt
load_ack_i_in n t (awaiting_owner d us o (request (task r reading))) i e = either (OptionIn (MoveIn n)) (eqb o t) (grant_in n d us false r reading e i.1) tt
load_ack_i_in n t (awaiting_owner d us o (request (task r (writing z)))) i e = tt
load_ack_i_in n t (awaiting_owner d us o eviction) i e = tt
load_ack_i_in n t (awaiting_acks d us m u c) i e = tt
load_ack_i_in n t (awaiting_store l) i e = tt

store_ack_in : (n t : ℕ) (x : Option Words) (h : Home) → DataIn x → HomeIn n h → HomeEight h → OptionIn (MoveIn n) (store_ack t x h)
unfolding store_ack
store_ack_in n t x (idle l) a i e = tt
store_ack_in n t x (awaiting_load (task r b) l) a i e = tt
store_ack_in n t x (awaiting_owner d us o (request (task r reading))) a i e = tt
store_ack_in n t x (awaiting_owner d us o (request (task r (writing z)))) a i e =
    either (OptionIn (MoveIn n)) (eqb o t) (grant_in n (ack_dirty x d) (ack_words x us) false r (writing z) (words_in x us a e) i.1) tt
store_ack_in n t x (awaiting_owner d us o eviction) a i e = either (OptionIn (MoveIn n)) (eqb o t) (leave_in n (ack_dirty x d) (ack_words x us) (words_in x us a e)) tt
store_ack_in n t x (awaiting_acks d us m u c) a i e = tt
store_ack_in n t x (awaiting_store l) a i e = tt

cleared_in : (n : ℕ) (d : Bool) (us : Words) (c : Clearing) → Eight us → ClearingIn n c → MoveIn n (cleared d us c)
unfolding cleared
cleared_in n d us (clear_for (task r z)) e a = grant_in n d us false r (writing z) e a
cleared_in n d us clear_for_eviction e a = leave_in n d us e

inv_ack_in : (n t : ℕ) (h : Home) → HomeIn n h → HomeEight h → OptionIn (MoveIn n) (inv_ack t h)
unfolding inv_ack
inv_ack_in n t (idle l) i e = tt
inv_ack_in n t (awaiting_load (task r b) l) i e = tt
inv_ack_in n t (awaiting_owner d us o c) i e = tt
inv_ack_in n t (awaiting_acks d us m u c) i e =
    either (OptionIn (MoveIn n)) (has u t) (either (MoveIn n) (eqb (del u t) 0) (cleared_in n d us c e i.2) ((i.0, del_lt n u t i.1, i.2), e, tt)) tt
inv_ack_in n t (awaiting_store l) i e = tt

acknowledged_in : (n : ℕ) (m : FromMemory) (h : Home) → FromMemoryIn m → HomeIn n h → HomeEight h → OptionIn (MoveIn n) (acknowledged m h)
unfolding acknowledged
acknowledged_in n (load_mem_ack ws) (idle l) a i e = tt
acknowledged_in n (load_mem_ack ws) (awaiting_load (task t b) l) a i e = grant_in n false ws true t b a i.0
acknowledged_in n (load_mem_ack ws) (awaiting_owner d us o c) a i e = tt
acknowledged_in n (load_mem_ack ws) (awaiting_acks d us m u c) a i e = tt
acknowledged_in n (load_mem_ack ws) (awaiting_store l) a i e = tt
acknowledged_in n store_mem_ack (idle l) a i e = tt
acknowledged_in n store_mem_ack (awaiting_load (task t b) l) a i e = tt
acknowledged_in n store_mem_ack (awaiting_owner d us o c) a i e = tt
acknowledged_in n store_mem_ack (awaiting_acks d us m u c) a i e = tt
acknowledged_in n store_mem_ack (awaiting_store l) a i e = (tt, tt, tt)

evict_line_in : (n s : ℕ) (d : Bool) (ws : Words) (x : Directory) → Eight ws → DirectoryIn n x → MoveIn n (evict_line s d ws x)
unfolding evict_line
evict_line_in n s d ws uncached e i = leave_in n d ws e
evict_line_in n s d ws (shared_by m) e i = either (MoveIn n) (eqb m 0) (leave_in n d ws e) (invalidate_in n s d ws m m clear_for_eviction e i i tt)
evict_line_in n s d ws (owned_by o) e i = ask_in n d ws o eviction e i tt

-- ---- the calls of the home

module _ {n : ℕ} {h : Home} {l k : ℕ} {mem : Words} {out : Queue ToMemory} {back : Queue FromMemory} {ts : List Tile} (i : BenchIn n h l k mem out back ts) where
  moved_in : (o : Option Move) → OptionIn (MoveIn n) o → ResultIn n (fitted o l k mem out back ts)
  unfolding fitted
  moved_in none a = tt
  moved_in (some (move g ms)) a =
      posted_in n _ 0 ms (bench_of g l k mem out back ts) a.2 (with_home_lem i g l k mem out back (a.0, a.1) i.last_in i.marks_in i.memory_eight i.out_in i.back_in)

  served_in : (t : ℕ) (m : Move) → t < n → MoveIn n m → ResultIn n (served t m k mem out back ts)
  unfolding served
  served_in t (move g ms) b a =
      posted_in n _ t ms (bench_of g t k mem out back ts) a.2 (with_home_lem i g t k mem out back (a.0, a.1) b i.marks_in i.memory_eight i.out_in i.back_in)

  take_in : (t : ℕ) (o : Option Request) (x : Line) → t < n → LineIn n x → LineEight x → ResultIn n (bench.take_front t o x k mem out back ts)
  unfolding bench.take_front
  take_in t none x b a e = tt
  take_in t (some wb_guard_req) x b a e = with_home_lem i (idle x) t (del k t) mem out back (a, e) b (del_lt n k t i.marks_in) i.memory_eight i.out_in i.back_in
  take_in t (some (load_req w)) x b a e = served_in t (serve (length ts) (task t reading) x) b (serve_in n (length ts) t reading x b a e)
  take_in t (some (store_req w)) x b a e = served_in t (serve (length ts) (task t (writing storing)) x) b (serve_in n (length ts) t (writing storing) x b a e)

  written_in : (t : ℕ) (o : Option Home) → t < n → OptionIn (HomeFine n) o → ResultIn n (written_back t o l k mem out back ts)
  unfolding written_back
  written_in t none b a = tt
  written_in t (some g) b a = with_home_lem i g l (add k t) mem out back a i.last_in (add_lt n k t i.marks_in b) i.memory_eight i.out_in i.back_in

  accept_in : (t : ℕ) (o : Option Reply) → t < n → OptionIn ReplyIn o → ResultIn n (accept_reply t o h l k mem out back ts)
  unfolding accept_reply
  accept_in t none b a = tt
  accept_in t (some (wb_req ws)) b a = written_in t (write_back t ws (has k t) h) b (write_back_in n t ws (has k t) h a i.home_in)
  accept_in t (some (load_fwd_ack_s x)) b a = moved_in (load_ack_s t x h) (load_ack_s_in n t x h a i.home_in i.home_eight)
  accept_in t (some load_fwd_ack_i) b a = moved_in (load_ack_i t h) (load_ack_i_in n t h i.home_in i.home_eight)
  accept_in t (some (store_fwd_ack x)) b a = moved_in (store_ack t x h) (store_ack_in n t x h a i.home_in i.home_eight)
  accept_in t (some inv_fwd_ack) b a = moved_in (inv_ack t h) (inv_ack_in n t h i.home_in i.home_eight)

  memory_in : (o : Option ToMemory) → OptionIn ToMemoryIn o → ResultIn n (memory_serves o h l k mem out back ts)
  unfolding memory_serves
  memory_in none a = tt
  memory_in (some load_mem) a = posted_in n 3 0 (from_memory (load_mem_ack mem) ∷ []) (bench_of h l k mem out back ts) (i.memory_eight, tt) i
  memory_in (some (store_mem ws)) a =
      posted_in n 3 0 (from_memory store_mem_ack ∷ []) (bench_of h l k ws out back ts) (tt, tt) (with_home_lem i h l k ws out back (fine i) i.last_in i.marks_in a i.out_in i.back_in)

  ack_in : (o : Option FromMemory) → OptionIn FromMemoryIn o → ResultIn n (accept_ack o h l k mem out back ts)
  unfolding accept_ack
  ack_in none a = tt
  ack_in (some m) a = moved_in (acknowledged m h) (acknowledged_in n m h a i.home_in i.home_eight)

pop1_in : (x : Tile) → TileIn x → TileIn (pop_noc1 x)
unfolding pop_noc1
pop1_in (tile_of c p q1 q2 q3) h = (h.0, h.1, rest_in RequestIn q1 h.2, h.3, h.4)

pop3_in : (x : Tile) → TileIn x → TileIn (pop_noc3 x)
unfolding pop_noc3
pop3_in (tile_of c p q1 q2 q3) h = (h.0, h.1, h.2, h.3, rest_in ReplyIn q3 h.4)

front3_in : (x : Tile) → TileIn x → OptionIn ReplyIn (front (noc3 x))
unfolding noc3
front3_in (tile_of c p q1 q2 q3) h = front_in ReplyIn q3 h.4

-- the tile that is taken is one of the bench
taken_below : (l k : ℕ) (ts : List Tile) (t : ℕ) → arbitrate l k ts ≡ some t → t < length ts
unfolding arbitrate
taken_below l k ts t e = eligible_below (has k t) ts t (first_passes (λ u. eligible (has k u) (tile_at ts u)) _ t e)

take_from_in : {n l k : ℕ} {mem : Words} {out : Queue ToMemory} {back : Queue FromMemory} {ts : List Tile} (x : Line) → BenchIn n (idle x) l k mem out back ts → (o : Option ℕ) → arbitrate l k ts ≡ o →
    ResultIn n (take_chosen o x k mem out back ts)
unfolding take_chosen
take_from_in x i none e = tt
take_from_in {l = l} {k = k} {ts = ts} x i (some t) e =
    take_in (with_tile i t (pop_noc1 (tile_at ts t)) (pop1_in (tile_at ts t) (here i t))) t (front (noc1 (tile_at ts t))) x (subst (λ (s : ℕ). t < s) i.tiles_given (taken_below l k ts t e)) i.home_in i.home_eight

taking_in : (n : ℕ) (b : Bench) → InRange n b → ResultIn n (taking_on b)
unfolding taking_on
taking_in n (bench_of (idle x) l k mem out back ts) i = take_from_in x i (arbitrate l k ts) refl
taking_in n (bench_of (awaiting_load (task r a) x) l k mem out back ts) i = tt
taking_in n (bench_of (awaiting_owner d ws o c) l k mem out back ts) i = tt
taking_in n (bench_of (awaiting_acks d ws m u c) l k mem out back ts) i = tt
taking_in n (bench_of (awaiting_store x) l k mem out back ts) i = tt

from_tile_in : (n : ℕ) (t : ℕ) (b : Bench) → InRange n b → ResultIn n (from_tile_on t b)
unfolding from_tile_on
from_tile_in n t (bench_of h l k mem out back ts) i =
    by_test (ResultIn n) (ltb t (length ts)) _ (refused 2)
    (λ e.
    accept_in (with_tile i t (pop_noc3 (tile_at ts t)) (pop3_in (tile_at ts t) (here i t))) t (front (noc3 (tile_at ts t))) (subst (λ (s : ℕ). t < s) i.tiles_given (ltb-true t (length ts) e))
    (front3_in (tile_at ts t) (here i t)))
    (λ e. tt)

memory_step_in : (n : ℕ) (b : Bench) → InRange n b → ResultIn n (memory_step_on b)
unfolding memory_step_on
memory_step_in n (bench_of h l k mem out back ts) i =
    memory_in (with_home_lem i h l k mem (rest out) back (fine i) i.last_in i.marks_in i.memory_eight (rest_in ToMemoryIn out i.out_in) i.back_in) (front out) (front_in ToMemoryIn out i.out_in)

memory_ack_in : (n : ℕ) (b : Bench) → InRange n b → ResultIn n (memory_ack_on b)
unfolding memory_ack_on
memory_ack_in n (bench_of h l k mem out back ts) i =
    ack_in (with_home_lem i h l k mem out (rest back) (fine i) i.last_in i.marks_in i.memory_eight i.out_in (rest_in FromMemoryIn back i.back_in)) (front back) (front_in FromMemoryIn back i.back_in)

home_eviction_in : (n : ℕ) (b : Bench) → InRange n b → ResultIn n (home_eviction_on b)
unfolding home_eviction_on
home_eviction_in n (bench_of (idle absent) l k mem out back ts) i = tt
home_eviction_in n (bench_of (idle (present d ws x)) l k mem out back ts) i = moved_in i (some (evict_line (length ts) d ws x)) (evict_line_in n (length ts) d ws x i.home_eight i.home_in)
home_eviction_in n (bench_of (awaiting_load (task r a) x) l k mem out back ts) i = tt
home_eviction_in n (bench_of (awaiting_owner d ws o c) l k mem out back ts) i = tt
home_eviction_in n (bench_of (awaiting_acks d ws m u c) l k mem out back ts) i = tt
home_eviction_in n (bench_of (awaiting_store x) l k mem out back ts) i = tt

-- ---- all calls

step_in : (n : ℕ) (c : Call) (b : Bench) → InRange n b → ResultIn n (step c b)
unfolding step
step_in n (load t w) b i = at_tile_in n t (λ x. at_word w (load_at t w x)) b (λ x h. word_in w (load_at t w x) (λ e. load_in t w x e h)) i
step_in n (store t w v) b i = at_tile_in n t (λ x. at_word w (store_at t w v x)) b (λ x h. word_in w (store_at t w v x) (λ e. store_in t w v x e h)) i
step_in n (evict t) b i = at_tile_in n t (λ x. evict_at t x) b (λ x h. evict_in t x h) i
step_in n taking b i = taking_in n b i
step_in n (to_tile t) b i = at_tile_in n t (λ x. deliver_to t x) b (λ x h. deliver_in t x h) i
step_in n (from_tile t) b i = from_tile_in n t b i
step_in n memory_step b i = memory_step_in n b i
step_in n memory_ack b i = memory_ack_in n b i
step_in n home_eviction b i = home_eviction_in n b i

kept_in : (n : ℕ) (b : Bench) (r : Result Bench) → InRange n b → ResultIn n r → InRange n (kept b r)
unfolding kept
kept_in n b (refused m) i h = i
kept_in n b (accepted k v x ms) i h = h

pub after_in : (n : ℕ) (c : Call) (b : Bench) → InRange n b → InRange n (after c b)
unfolding after
after_in n c b i = kept_in n b (step c b) i (step_in n c b i)

pub runs_in : (n : ℕ) (cs : List Call) (b : Bench) → InRange n b → InRange n (runs rules cs b)
unfolding runs
runs_in n [] b i = i
runs_in n (c ∷ cs) b i = runs_in n cs (after c b) (after_in n c b i)

fresh_tiles : (n : ℕ) → TilesIn (replicate n fresh_tile)
fresh_tiles ℕ.zero = tt
fresh_tiles (suc n) = ((tt, tt, tt, tt, tt), fresh_tiles n)

pub fresh_in : (n : ℕ) (mem : Words) → 1 ≤ n → n ≤ 64 → length mem ≡ 8 → InRange n (fresh n mem)
unfolding fresh
fresh_in n mem a b e =
    record {
      some_tile = a;
      tiles_fit = b;
      home_in = tt;
      home_eight = tt;
      last_in = omega arith;
      marks_in = pow_pos n;
      memory_eight = e;
      out_in = tt;
      back_in = tt;
      tiles_given = length-replicate n fresh_tile;
      tiles_in = fresh_tiles n;
    }
