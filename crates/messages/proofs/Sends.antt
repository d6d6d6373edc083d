-- The messages that a step answers are the last on their queues in the bench after it. Assumes nothing.
use Prim.Native.Nat.{ℕ, zero, suc, ◌≤◌, ◌<◌}
use mathlib.Core.Path.{◌≡◌, refl, sym, subst}
use mathlib.Core.Bool.{Bool, true, false, cond}
use mathlib.Core.List.{List, [], ◌∷◌}
use mathlib.Core.Option.{Option, some, none}
use native.Mathlib.Omega.{arith}
use lib.Dec.{eqb, ltb}
use lib.ListN.{length, set, length-set}
use borrow.Author.Tests.{ltb-true, ltb-false}
use Rattle.masks.specs.Mask.{has, add, del}
use Rattle.protocol.specs.Parts.{Words, Queue, empty, one, two, Access, reading, writing, shared, exclusive, modified, Cache, invalid, valid, Waiting, nothing, for_load, for_store, Request, load_req, store_req, wb_guard_req, Forward, inv_fwd, Reply, wb_req, load_fwd_ack_s, load_fwd_ack_i, store_fwd_ack, inv_fwd_ack, ToMemory, load_mem, store_mem, FromMemory, load_mem_ack, store_mem_ack, Message, on_noc2, from_memory, Tile, tile_of, Directory, uncached, shared_by, owned_by, Line, absent, present, Cause, request, eviction, Clearing, clear_for, clear_for_eviction, Home, idle, awaiting_load, awaiting_owner, awaiting_acks, awaiting_store, Bench, bench_of, Call, load, store, evict, taking, to_tile, from_tile, memory_step, memory_ack, home_eviction, Result, refused, accepted, task, storing}
use Rattle.protocol.specs.Tile.{load_at, store_at, evict_at, Received, misfit, filled, replied, receive, received, deliver_to}
use Rattle.protocol.specs.Home.{Move, move, members, grant_shared, grant, ask_owner, invalidate_to, invalidate, leave, serve, write_back, load_ack_s, load_ack_i, store_ack, cleared, inv_ack, acknowledged, evict_line}
use Rattle.protocol.specs.Bench.{fresh_tile, tile_at, front, rest, send, outcome, posted, kind_of, settle, at_tile, at_word, noc1, noc3, pop_noc1, pop_noc3, served, take_front, take_chosen, taking_on, written_back, fitted, accept_reply, from_tile_on, memory_serves, memory_step_on, accept_ack, memory_ack_on, home_eviction_on, step, arbitrate}
use Rattle.protocol.specs.Answers.{sent_on, sent_to}
use Rattle.messages.specs.LastMessages.{sent_messages, There, OwnerIn, HomeNames, NamesTiles}
use Rattle.messages.proofs.Rising.{members_rising}
use Rattle.messages.proofs.Last.{tiles_of, Shape, silent, asks, replies, writes_back, tells, files, answers, Sent, all_sent, silent_there, there_messages}

-- ---- what each rule sends

-- of a tile's rule at tile t, of n
abbrev Tells : ℕ → Result Tile → Type 0
Tells n (refused r) = Unit {0}
Tells n (accepted k v x ms) = Shape n ms

module _ (n t : ℕ) (below : t < n) where
  load_sends : (w : ℕ) (x : Tile) → Tells n (load_at t w x)
  unfolding load_at
  load_sends w (tile_of c (for_load u) q1 q2 q3) = tt
  load_sends w (tile_of c (for_store u v) q1 q2 q3) = tt
  load_sends w (tile_of (valid r ws) nothing q1 q2 q3) = silent
  load_sends w (tile_of invalid nothing q1 q2 q3) = asks t (load_req w) below

  store_sends : (w v : ℕ) (x : Tile) → Tells n (store_at t w v x)
  unfolding store_at
  store_sends w v (tile_of c (for_load u) q1 q2 q3) = tt
  store_sends w v (tile_of c (for_store u y) q1 q2 q3) = tt
  store_sends w v (tile_of (valid modified ws) nothing q1 q2 q3) = silent
  store_sends w v (tile_of (valid exclusive ws) nothing q1 q2 q3) = silent
  store_sends w v (tile_of (valid shared ws) nothing q1 q2 q3) = asks t (store_req w) below
  store_sends w v (tile_of invalid nothing q1 q2 q3) = asks t (store_req w) below

  evict_sends : (x : Tile) → Tells n (evict_at t x)
  unfolding evict_at
  evict_sends (tile_of invalid p q1 q2 q3) = tt
  evict_sends (tile_of (valid shared ws) p q1 q2 q3) = silent
  evict_sends (tile_of (valid exclusive ws) p q1 q2 q3) = silent
  evict_sends (tile_of (valid modified ws) p q1 q2 q3) = writes_back t (wb_req ws) wb_guard_req below

  received_sends : (r : Received) (c : Cache) (p : Waiting) (q1 : Queue Request) (q2 : Queue Forward) (q3 : Queue Reply) → Tells n (received t r c p q1 q2 q3)
  unfolding received
  received_sends misfit c p q1 q2 q3 = tt
  received_sends (filled k v d) c p q1 q2 q3 = silent
  received_sends (replied d a) c p q1 q2 q3 = replies t a below

  deliver_sends : (x : Tile) → Tells n (deliver_to t x)
  unfolding deliver_to
  deliver_sends (tile_of c p q1 empty q3) = tt
  deliver_sends (tile_of c p q1 (one m) q3) = received_sends (receive m c p) c p q1 empty q3
  deliver_sends (tile_of c p q1 (two m o) q3) = received_sends (receive m c p) c p q1 (one o) q3

  word_sends : (w : ℕ) (r : Result Tile) → Tells n r → Tells n (at_word w r)
  unfolding at_word
  word_sends w r h = go (ltb w 8)
    where
      go : (b : Bool) → Tells n (cond b r (refused 3))
      go true = h
      go false = tt

-- of the home's rules, on a bench of n tiles
abbrev Moves : ℕ → Move → Type 0
Moves n (move h ms) = Shape n ms

abbrev Moved : ℕ → Option Move → Type 0
Moved n none = Unit {0}
Moved n (some m) = Moves n m

moves_if : (n : ℕ) (b : Bool) (x y : Move) → Moves n x → Moves n y → Moves n (cond b x y)
moves_if n true x y f g = f
moves_if n false x y f g = g

fits_if : (n : ℕ) (b : Bool) (x : Move) → Moves n x → Moved n (cond b (some x) none)
fits_if n true x f = f
fits_if n false x f = tt

to_one : (n t : ℕ) (f : Forward) → t < n → Shape n (on_noc2 t f ∷ [])
to_one n t f below = tells (t ∷ []) f (omega arith, below, tt)

module _ (n : ℕ) where
  shared_sends : (d : Bool) (ws : Words) (m t : ℕ) → t < n → Moves n (grant_shared d ws m t)
  unfolding grant_shared
  shared_sends d ws m t below = to_one n t _ below

  grant_sends : (d : Bool) (ws : Words) (miss : Bool) (t : ℕ) (a : Access) → t < n → Moves n (grant d ws miss (task t a))
  unfolding grant
  grant_sends d ws miss t a below = to_one n t _ below

  ask_sends : (d : Bool) (ws : Words) (o : ℕ) (c : Cause) → o < n → Moves n (ask_owner d ws o c)
  unfolding ask_owner
  ask_sends d ws o c below = to_one n o _ below

  invalidate_sends : (d : Bool) (ws : Words) (m owed : ℕ) (c : Clearing) → Moves n (invalidate n d ws m owed c)
  unfolding invalidate invalidate_to
  invalidate_sends d ws m owed c = tells (members owed n) inv_fwd (members_rising owed n)

  leave_sends : (d : Bool) (ws : Words) → Moves n (leave d ws)
  unfolding leave
  leave_sends true ws = files (store_mem ws)
  leave_sends false ws = silent

  serve_sends : (t : ℕ) (a : Access) (x : Line) → t < n → OwnerIn n x → Moves n (serve n (task t a) x)
  unfolding serve
  serve_sends t a absent below own = files load_mem
  serve_sends t a (present d ws uncached) below own = grant_sends d ws false t a below
  serve_sends t reading (present d ws (shared_by m)) below own = shared_sends d ws m t below
  serve_sends t (writing z) (present d ws (shared_by m)) below own = moves_if n (eqb (del m t) 0) _ _ (grant_sends d ws false t (writing z) below) (invalidate_sends d ws m (del m t) (clear_for (task t z)))
  serve_sends t a (present d ws (owned_by o)) below own = moves_if n (eqb o t) _ _ (grant_sends d ws false t a below) (ask_sends d ws o (request (task t a)) own)

  load_ack_s_lem : (t : ℕ) (x : Option Words) (h : Home) → HomeNames n h → Moved n (load_ack_s t x h)
  unfolding load_ack_s
  load_ack_s_lem t x (idle l) r = tt
  load_ack_s_lem t x (awaiting_load (task u a) l) r = tt
  load_ack_s_lem t x (awaiting_owner d us o (request (task u reading))) r = fits_if n (eqb o t) _ (shared_sends _ _ _ u r)
  load_ack_s_lem t x (awaiting_owner d us o (request (task u (writing z)))) r = tt
  load_ack_s_lem t x (awaiting_owner d us o eviction) r = tt
  load_ack_s_lem t x (awaiting_acks d us m owed c) r = tt
  load_ack_s_lem t x (awaiting_store l) r = tt

  load_ack_i_lem : (t : ℕ) (h : Home) → HomeNames n h → Moved n (load_ack_i t h)
  unfolding load_ack_i
  load_ack_i_lem t (idle l) r = tt
  load_ack_i_lem t (awaiting_load (task u a) l) r = tt
  load_ack_i_lem t (awaiting_owner d us o (request (task u reading))) r = fits_if n (eqb o t) _ (grant_sends d us false u reading r)
  load_ack_i_lem t (awaiting_owner d us o (request (task u (writing z)))) r = tt
  load_ack_i_lem t (awaiting_owner d us o eviction) r = tt
  load_ack_i_lem t (awaiting_acks d us m owed c) r = tt
  load_ack_i_lem t (awaiting_store l) r = tt

  store_ack_lem : (t : ℕ) (x : Option Words) (h : Home) → HomeNames n h → Moved n (store_ack t x h)
  unfolding store_ack
  store_ack_lem t x (idle l) r = tt
  store_ack_lem t x (awaiting_load (task u a) l) r = tt
  store_ack_lem t x (awaiting_owner d us o (request (task u reading))) r = tt
  store_ack_lem t x (awaiting_owner d us o (request (task u (writing z)))) r = fits_if n (eqb o t) _ (grant_sends _ _ false u (writing z) r)
  store_ack_lem t x (awaiting_owner d us o eviction) r = fits_if n (eqb o t) _ (leave_sends _ _)
  store_ack_lem t x (awaiting_acks d us m owed c) r = tt
  store_ack_lem t x (awaiting_store l) r = tt

  inv_ack_lem : (t : ℕ) (h : Home) → HomeNames n h → Moved n (inv_ack t h)
  unfolding inv_ack cleared
  inv_ack_lem t (idle l) r = tt
  inv_ack_lem t (awaiting_load (task u a) l) r = tt
  inv_ack_lem t (awaiting_owner d us o c) r = tt
  inv_ack_lem t (awaiting_acks d us m owed (clear_for (task u z))) r = fits_if n (has owed t) _ (moves_if n (eqb (del owed t) 0) _ _ (grant_sends d us false u (writing z) r) silent)
  inv_ack_lem t (awaiting_acks d us m owed clear_for_eviction) r = fits_if n (has owed t) _ (moves_if n (eqb (del owed t) 0) _ _ (leave_sends d us) silent)
  inv_ack_lem t (awaiting_store l) r = tt

  memory_acks : (m : FromMemory) (h : Home) → HomeNames n h → Moved n (acknowledged m h)
  unfolding acknowledged
  memory_acks (load_mem_ack ws) (idle l) r = tt
  memory_acks (load_mem_ack ws) (awaiting_load (task t a) l) r = grant_sends false ws true t a r
  memory_acks (load_mem_ack ws) (awaiting_owner d us o c) r = tt
  memory_acks (load_mem_ack ws) (awaiting_acks d us m owed c) r = tt
  memory_acks (load_mem_ack ws) (awaiting_store l) r = tt
  memory_acks store_mem_ack (idle l) r = tt
  memory_acks store_mem_ack (awaiting_load (task t a) l) r = tt
  memory_acks store_mem_ack (awaiting_owner d us o c) r = tt
  memory_acks store_mem_ack (awaiting_acks d us m owed c) r = tt
  memory_acks store_mem_ack (awaiting_store l) r = silent

  evict_line_lem : (d : Bool) (ws : Words) (x : Directory) → OwnerIn n (present d ws x) → Moves n (evict_line n d ws x)
  unfolding evict_line
  evict_line_lem d ws uncached own = leave_sends d ws
  evict_line_lem d ws (shared_by m) own = moves_if n (eqb m 0) _ _ (leave_sends d ws) (invalidate_sends d ws m m clear_for_eviction)
  evict_line_lem d ws (owned_by o) own = ask_sends d ws o eviction own

-- ---- and so each step

-- the messages of an accepted step are there in the bench after it
abbrev Tell : Result Bench → Type 0
Tell (refused r) = Unit {0}
Tell (accepted k v b ms) = There ms b

posted_tells : (k v : ℕ) (ms : List Message) (b : Bench) (n : ℕ) → n ≡ length (tiles_of b) → n ≤ 64 → Shape n ms → Tell (posted k v ms b)
unfolding posted outcome
posted_tells k v ms b n e s f = go (send ms (some b)) (all_sent b n e s ms f)
  where
    go : (o : Option Bench) → Sent ms o → Tell (outcome k v ms o)
    go none q = tt
    go (some c) q = q

tells_if : (b : Bool) (r : Result Bench) (z : ℕ) → (b ≡ true → Tell r) → Tell (cond b r (refused z))
tells_if true r z f = f refl
tells_if false r z f = tt

settle_tells : (t : ℕ) (b : Bench) (r : Result Tile) → length (tiles_of b) ≤ 64 → Tells (length (tiles_of b)) r → Tell (settle t b r)
unfolding settle
settle_tells t b (refused n) s f = tt
settle_tells t (bench_of h l k mem out back ts) (accepted kd v x ms) s f = posted_tells kd v ms (bench_of h l k mem out back (set ts t x)) (length ts) (sym (length-set ts t x)) s f

at_tells : (t : ℕ) (f : Tile → Result Tile) (b : Bench) → length (tiles_of b) ≤ 64 → (t < length (tiles_of b) → (x : Tile) → Tells (length (tiles_of b)) (f x)) → Tell (at_tile t f b)
unfolding at_tile
at_tells t f (bench_of h l k mem out back ts) s g =
    tells_if (ltb t (length ts)) _ 2 (λ e. settle_tells t (bench_of h l k mem out back ts) (f (tile_at ts t)) s (g (ltb-true t (length ts) e) (tile_at ts t)))

moved_tells : (m : Option Move) (l k : ℕ) (mem : Words) (out : Queue ToMemory) (back : Queue FromMemory) (ts : List Tile) (n : ℕ) → n ≡ length ts → n ≤ 64 → Moved n m → Tell (fitted m l k mem out back ts)
unfolding fitted
moved_tells none l k mem out back ts n e s f = tt
moved_tells (some (move h ms)) l k mem out back ts n e s f = posted_tells (kind_of ms) 0 ms (bench_of h l k mem out back ts) n e s f

served_tells : (t : ℕ) (m : Move) (k : ℕ) (mem : Words) (out : Queue ToMemory) (back : Queue FromMemory) (ts : List Tile) → length ts ≤ 64 → Moves (length ts) m → Tell (served t m k mem out back ts)
unfolding served
served_tells t (move h ms) k mem out back ts s f = posted_tells (kind_of ms) t ms (bench_of h t k mem out back ts) (length ts) refl s f

take_tells : (t : ℕ) (m : Option Request) (x : Line) (k : ℕ) (mem : Words) (out : Queue ToMemory) (back : Queue FromMemory) (ts : List Tile) → length ts ≤ 64 → t < length ts → OwnerIn (length ts) x → Tell (take_front t m x k mem out back ts)
unfolding take_front
take_tells t none x k mem out back ts s below own = tt
take_tells t (some wb_guard_req) x k mem out back ts s below own = silent_there (bench_of (idle x) t (del k t) mem out back ts)
take_tells t (some (load_req w)) x k mem out back ts s below own = served_tells t _ k mem out back ts s (serve_sends (length ts) t reading x below own)
take_tells t (some (store_req w)) x k mem out back ts s below own = served_tells t _ k mem out back ts s (serve_sends (length ts) t (writing storing) x below own)

-- no tile past the last has a request
past_tile : (ts : List Tile) (t : ℕ) → length ts ≤ t → tile_at ts t ≡ fresh_tile
past_tile [] t h = refl
past_tile (x ∷ ts) zero h = absurd (omega arith)
past_tile (x ∷ ts) (suc t) h = past_tile ts t (omega arith)

take_from : (o : Option ℕ) (x : Line) (k : ℕ) (mem : Words) (out : Queue ToMemory) (back : Queue FromMemory) (ts : List Tile) → length ts ≤ 64 → OwnerIn (length ts) x → Tell (take_chosen o x k mem out back ts)
unfolding take_chosen take_front front noc1
take_from none x k mem out back ts s own = tt
take_from (some t) x k mem out back ts s own = go (ltb t (length ts)) refl
  where
    past : length ts ≤ t → Tell (take_front t (front (noc1 (tile_at ts t))) x k mem out back (set ts t (pop_noc1 (tile_at ts t))))
    past h = rw (past_tile ts t h) tt

    go : (b : Bool) → ltb t (length ts) ≡ b → Tell (take_front t (front (noc1 (tile_at ts t))) x k mem out back (set ts t (pop_noc1 (tile_at ts t))))
    go true e =
        let same : length ts ≡ length (set ts t (pop_noc1 (tile_at ts t))) = sym (length-set ts t (pop_noc1 (tile_at ts t))) in
        take_tells t (front (noc1 (tile_at ts t))) x k mem out back (set ts t (pop_noc1 (tile_at ts t))) (omega arith) (omega (arith, ltb-true t (length ts) e)) (subst (λ (n : ℕ). OwnerIn n x) same own)
    go false e = past (ltb-false t (length ts) e)

taking_tells : (h : Home) (l k : ℕ) (mem : Words) (out : Queue ToMemory) (back : Queue FromMemory) (ts : List Tile) → length ts ≤ 64 → HomeNames (length ts) h → Tell (taking_on (bench_of h l k mem out back ts))
unfolding taking_on
taking_tells (idle x) l k mem out back ts s r = take_from (arbitrate l k ts) x k mem out back ts s r
taking_tells (awaiting_load (task u a) x) l k mem out back ts s r = tt
taking_tells (awaiting_owner d ws o c) l k mem out back ts s r = tt
taking_tells (awaiting_acks d ws m owed c) l k mem out back ts s r = tt
taking_tells (awaiting_store x) l k mem out back ts s r = tt

written_tells : (t : ℕ) (o : Option Home) (l k : ℕ) (mem : Words) (out : Queue ToMemory) (back : Queue FromMemory) (ts : List Tile) → Tell (written_back t o l k mem out back ts)
unfolding written_back
written_tells t none l k mem out back ts = tt
written_tells t (some h) l k mem out back ts = silent_there (bench_of h l (add k t) mem out back ts)

accept_tells : (t : ℕ) (m : Option Reply) (h : Home) (l k : ℕ) (mem : Words) (out : Queue ToMemory) (back : Queue FromMemory) (ts : List Tile) (n : ℕ) → n ≡ length ts → n ≤ 64 → HomeNames n h → Tell (accept_reply t m h l k mem out back ts)
unfolding accept_reply
accept_tells t none h l k mem out back ts n e s r = tt
accept_tells t (some (wb_req ws)) h l k mem out back ts n e s r = written_tells t (write_back t ws (has k t) h) l k mem out back ts
accept_tells t (some (load_fwd_ack_s x)) h l k mem out back ts n e s r = moved_tells (load_ack_s t x h) l k mem out back ts n e s (load_ack_s_lem n t x h r)
accept_tells t (some load_fwd_ack_i) h l k mem out back ts n e s r = moved_tells (load_ack_i t h) l k mem out back ts n e s (load_ack_i_lem n t h r)
accept_tells t (some (store_fwd_ack x)) h l k mem out back ts n e s r = moved_tells (store_ack t x h) l k mem out back ts n e s (store_ack_lem n t x h r)
accept_tells t (some inv_fwd_ack) h l k mem out back ts n e s r = moved_tells (inv_ack t h) l k mem out back ts n e s (inv_ack_lem n t h r)

memory_tells : (m : Option ToMemory) (h : Home) (l k : ℕ) (mem : Words) (out : Queue ToMemory) (back : Queue FromMemory) (ts : List Tile) → length ts ≤ 64 → Tell (memory_serves m h l k mem out back ts)
unfolding memory_serves
memory_tells none h l k mem out back ts s = tt
memory_tells (some load_mem) h l k mem out back ts s = posted_tells 3 0 (from_memory (load_mem_ack mem) ∷ []) (bench_of h l k mem out back ts) (length ts) refl s (answers (load_mem_ack mem))
memory_tells (some (store_mem ws)) h l k mem out back ts s = posted_tells 3 0 (from_memory store_mem_ack ∷ []) (bench_of h l k ws out back ts) (length ts) refl s (answers store_mem_ack)

ack_tells : (m : Option FromMemory) (h : Home) (l k : ℕ) (mem : Words) (out : Queue ToMemory) (back : Queue FromMemory) (ts : List Tile) → length ts ≤ 64 → HomeNames (length ts) h → Tell (accept_ack m h l k mem out back ts)
unfolding accept_ack
ack_tells none h l k mem out back ts s r = tt
ack_tells (some m) h l k mem out back ts s r = moved_tells (acknowledged m h) l k mem out back ts (length ts) refl s (memory_acks (length ts) m h r)

eviction_tells : (h : Home) (l k : ℕ) (mem : Words) (out : Queue ToMemory) (back : Queue FromMemory) (ts : List Tile) → length ts ≤ 64 → HomeNames (length ts) h → Tell (home_eviction_on (bench_of h l k mem out back ts))
unfolding home_eviction_on
eviction_tells (idle absent) l k mem out back ts s r = tt
eviction_tells (idle (present d ws x)) l k mem out back ts s r = moved_tells (some (evict_line (length ts) d ws x)) l k mem out back ts (length ts) refl s (evict_line_lem (length ts) d ws x r)
eviction_tells (awaiting_load (task u a) x) l k mem out back ts s r = tt
eviction_tells (awaiting_owner d ws o c) l k mem out back ts s r = tt
eviction_tells (awaiting_acks d ws m owed c) l k mem out back ts s r = tt
eviction_tells (awaiting_store x) l k mem out back ts s r = tt

step_tells : (c : Call) (h : Home) (l k : ℕ) (mem : Words) (out : Queue ToMemory) (back : Queue FromMemory) (ts : List Tile) → length ts ≤ 64 → HomeNames (length ts) h → Tell (step c (bench_of h l k mem out back ts))
unfolding step from_tile_on memory_step_on memory_ack_on
step_tells (load t w) h l k mem out back ts s r = at_tells t _ (bench_of h l k mem out back ts) s (λ below x. word_sends (length ts) t below w (load_at t w x) (load_sends (length ts) t below w x))
step_tells (store t w v) h l k mem out back ts s r = at_tells t _ (bench_of h l k mem out back ts) s (λ below x. word_sends (length ts) t below w (store_at t w v x) (store_sends (length ts) t below w v x))
step_tells (evict t) h l k mem out back ts s r = at_tells t _ (bench_of h l k mem out back ts) s (λ below x. evict_sends (length ts) t below x)
step_tells taking h l k mem out back ts s r = taking_tells h l k mem out back ts s r
step_tells (to_tile t) h l k mem out back ts s r = at_tells t _ (bench_of h l k mem out back ts) s (λ below x. deliver_sends (length ts) t below x)
step_tells (from_tile t) h l k mem out back ts s r =
    tells_if (ltb t (length ts)) _ 2
    (λ e. accept_tells t (front (noc3 (tile_at ts t))) h l k mem out back (set ts t (pop_noc3 (tile_at ts t))) (length ts) (sym (length-set ts t (pop_noc3 (tile_at ts t)))) s r)
step_tells memory_step h l k mem out back ts s r = memory_tells (front out) h l k mem (rest out) back ts s
step_tells memory_ack h l k mem out back ts s r = ack_tells (front back) h l k mem out (rest back) ts s r
step_tells home_eviction h l k mem out back ts s r = eviction_tells h l k mem out back ts s r

-- The messages of an accepted step are, one by one, the last on the queues that their two numbers give, in the bench after it ..
pub sent_there : (c : Call) (b : Bench) → NamesTiles b → (k v : ℕ) (b' : Bench) (ms : List Message) → step c b ≡ accepted k v b' ms → There ms b'
sent_there c (bench_of h l m mem out back ts) names k v b' ms e = subst Tell e (step_tells c h l m mem out back ts names.0 names.1)

-- .. and so they are the messages read there, in their order.
pub sent_messages_lem : (c : Call) (b : Bench) → NamesTiles b → (k v : ℕ) (b' : Bench) (ms : List Message) → step c b ≡ accepted k v b' ms
    → sent_messages (sent_on ms) (sent_to ms) b' ≡ ms
sent_messages_lem c b names k v b' ms e = there_messages ms b' (sent_there c b names k v b' ms e)
