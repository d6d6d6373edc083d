-- Each accepted delivery lowers the measure, on every bench whatever.
use Prim.Native.Nat.{ℕ, suc, ◌+◌, ◌*◌, ◌≤◌, ◌<◌}
use mathlib.Core.Path.{◌≡◌, refl, sym, ap, ◌∙◌, subst}
use mathlib.Core.Bool.{Bool, cond, true, false, false≢true}
use mathlib.Core.List.{List, [], ◌∷◌, map}
use mathlib.Core.Option.{Option, some, none}
use native.Mathlib.Omega.{arith}
use lib.Dec.{ltb, eqb}
use lib.ListN.{length, set, length-set}
use Rattle.masks.specs.Mask.{add, del, has}
use Rattle.protocol.specs.Parts.{Words, Queue, empty, one, two, Access, reading, writing, Cache, Waiting, Request, load_req, store_req, wb_guard_req, Forward, load_fwd, store_fwd, inv_fwd, data_ack, Reply, wb_req, load_fwd_ack_s, load_fwd_ack_i, store_fwd_ack, inv_fwd_ack, ToMemory, load_mem, store_mem, FromMemory, load_mem_ack, store_mem_ack, Message, from_memory, Tile, tile_of, uncached, shared_by, owned_by, Line, absent, present, Cause, request, eviction, Clearing, clear_for, clear_for_eviction, Home, idle, awaiting_load, awaiting_owner, awaiting_acks, awaiting_store, Bench, bench_of, Call, load, store, evict, taking, to_tile, from_tile, memory_step, memory_ack, home_eviction, Result, refused, accepted, task, storing}
use Rattle.protocol.specs.Tile.{Received, misfit, filled, receive, received, deliver_to}
use Rattle.protocol.specs.Home.{Move, move, range, among, members, grant_shared, grant_message, grant, asked_for, ask_owner, invalidate_to, invalidate, leave, serve, write_back, ack_words, ack_dirty, load_ack_s, load_ack_i, store_ack, cleared, inv_ack, acknowledged}
use Rattle.protocol.specs.Bench.{tile_at, front, rest, noc1, noc3, pop_noc1, pop_noc3, settle, at_tile, posted, kind_of, arbitrate, served, take_front, take_chosen, taking_on, written_back, fitted, accept_reply, from_tile_on, memory_serves, memory_step_on, accept_ack, memory_ack_on, step}
use Rattle.protocol.specs.Calls.{is_delivery}
use Rattle.protocol.specs.Answers.{answer_of, is_accepted}
use Rattle.protocol.specs.Runs.{rules, kept, after, can_be_accepted}
use Rattle.protocol.specs.Demand3.{tiles_of}
use Rattle.protocol.proofs.Tests.{by_test}
use Rattle.coherence.proofs.Weight.{queue_weight, request_weight, forward_weight, reply_weight, out_weight, back_weight, tile_weight, cause_weight, clearing_weight, home_weight, measure}
use Rattle.coherence.proofs.Sent.{set_weight, message_weight, messages_weight, on_posted}
use Rattle.coherence.proofs.Effect.{Fits, receives}

-- an accepted call leaves less
abbrev Lighter : Bench → Result Bench → Type 0
Lighter b r = is_accepted (answer_of r) ≡ true → measure (kept b r) < measure b

refused_lighter : (b : Bench) (n : ℕ) → eqb n 0 ≡ false → Lighter b (refused n)
unfolding answer_of is_accepted
refused_lighter b n e z = absurd (false≢true (sym e ∙ z))

posted_lighter : (b c : Bench) (k v : ℕ) (ms : List Message) → messages_weight (length (tiles_of c)) ms + measure c < measure b → Lighter b (posted k v ms c)
unfolding answer_of kept
posted_lighter b c k v ms h = on_posted (Lighter b) k v ms c (refused_lighter b 9 refl) (λ d s z. omega (arith, s.weight))

-- tile u and the home replaced, and `more` to be sent
replaced : (h h' : Home) (l l' k k' : ℕ) (mem : Words) (out : Queue ToMemory) (back : Queue FromMemory) (ts : List Tile) (u : ℕ) (x : Tile) (more : ℕ) → home_weight h' + more + tile_weight (length ts) x < home_weight h + tile_weight (length ts) (tile_at ts u) → more + measure (bench_of h' l' k' mem out back (set ts u x)) < measure (bench_of h l k mem out back ts)
unfolding measure
replaced h h' l l' k k' mem out back ts u x more lt =
    rw (length-set ts u x) (omega (arith, set_weight (length ts) ts u x (suc (home_weight h' + more)) (home_weight h) (omega arith)))

-- the same where what is to be sent is a list of messages
replaced_posted : (h h' : Home) (l l' k k' kd v : ℕ) (mem : Words) (out : Queue ToMemory) (back : Queue FromMemory) (ts : List Tile) (u : ℕ) (x : Tile) (ms : List Message) → home_weight h' + messages_weight (length ts) ms + tile_weight (length ts) x < home_weight h + tile_weight (length ts) (tile_at ts u) → Lighter (bench_of h l k mem out back ts) (posted kd v ms (bench_of h' l' k' mem out back (set ts u x)))
unfolding tiles_of
replaced_posted h h' l l' k k' kd v mem out back ts u x ms lt =
    posted_lighter (bench_of h l k mem out back ts) (bench_of h' l' k' mem out back (set ts u x)) kd v ms
    (rw (length-set ts u x) (replaced h h' l l' k k' mem out back ts u x (messages_weight (length ts) ms) lt))

-- Delivery to a tile: DATA_ACK is used up, a forward or an invalidation is answered by less.
abbrev LighterTile : ℕ → Tile → Result Tile → Type 0
LighterTile n x (refused m) = eqb m 0 ≡ false
LighterTile n x (accepted k v x' ms) = messages_weight n ms + tile_weight n x' < tile_weight n x

forward_some : (m : Forward) → 1 ≤ forward_weight m
unfolding forward_weight
forward_some load_fwd = omega arith
forward_some store_fwd = omega arith
forward_some inv_fwd = omega arith
forward_some (data_ack r miss ws) = omega arith

receiving : (n u : ℕ) (r : Received) (c : Cache) (p : Waiting) (q1 : Queue Request) (q2 q : Queue Forward) (q3 : Queue Reply) (m : Forward) → Fits m r → queue_weight forward_weight q2 ≡ forward_weight m + queue_weight forward_weight q → LighterTile n (tile_of c p q1 q2 q3) (received u r c p q1 q q3)
unfolding received tile_weight messages_weight message_weight reply_weight
receiving n u misfit c p q1 q2 q q3 m f e = refl
receiving n u (filled k v c') c p q1 q2 q q3 m f e = omega (arith, forward_some m)
receiving n u (Received.replied c' a) c p q1 q2 q q3 m f e = omega (arith, forward_some m)

delivering : (n u : ℕ) (x : Tile) → LighterTile n x (deliver_to u x)
unfolding deliver_to queue_weight
delivering n u (tile_of c p q1 empty q3) = refl
delivering n u (tile_of c p q1 (one m) q3) = receiving n u (receive m c p) c p q1 (one m) empty q3 m (receives m c p) (omega arith)
delivering n u (tile_of c p q1 (two m o) q3) = receiving n u (receive m c p) c p q1 (two m o) (one o) q3 m (receives m c p) refl

lighter_to : (u : ℕ) (b : Bench) → Lighter b (at_tile u (λ x. deliver_to u x) b)
unfolding at_tile settle
lighter_to u (bench_of h l k mem out back ts) = go (ltb u (length ts))
  where
    b : Bench
    b = bench_of h l k mem out back ts

    settled : (r : Result Tile) → LighterTile (length ts) (tile_at ts u) r → Lighter b (settle u b r)
    settled (refused n) e = refused_lighter b n e
    settled (accepted kd v x ms) lt = replaced_posted h h l l k k kd v mem out back ts u x ms (omega arith)

    go : (e : Bool) → Lighter b (cond e (settle u b (deliver_to u (tile_at ts u))) (refused 2))
    go true = settled (deliver_to u (tile_at ts u)) (delivering (length ts) u (tile_at ts u))
    go false = refused_lighter b 2 refl

-- What the home does with an ack: what it sends weighs no more than what it waited for.
abbrev Acks : ℕ → Home → Option Move → Type 0
Acks n h none = Unit {0}
Acks n h (some (move h' ms)) = home_weight h' + messages_weight n ms ≤ home_weight h

grant_weight : (a : Access) (miss : Bool) (ws : Words) → forward_weight (grant_message a miss ws) ≡ 1
unfolding grant_message forward_weight
grant_weight reading miss ws = refl
grant_weight (writing storing) miss ws = refl

-- the three ways to end a wait
grant_acks : (n : ℕ) (h : Home) (d : Bool) (ws : Words) (miss : Bool) (t : ℕ) (a : Access) → 1 ≤ home_weight h → Acks n h (some (grant d ws miss (task t a)))
unfolding grant home_weight messages_weight message_weight
grant_acks n h d ws miss t a le = omega (arith, grant_weight a miss ws)

share_acks : (n : ℕ) (h : Home) (d : Bool) (ws : Words) (m t : ℕ) → 1 ≤ home_weight h → Acks n h (some (grant_shared d ws m t))
unfolding grant_shared home_weight messages_weight message_weight forward_weight
share_acks n h d ws m t le = omega arith

leave_acks : (n : ℕ) (h : Home) (d : Bool) (ws : Words) → 2 ≤ home_weight h → Acks n h (some (leave d ws))
unfolding leave home_weight messages_weight message_weight out_weight
leave_acks n h true ws le = omega arith
leave_acks n h false ws le = omega arith

load_acks_s : (n t : ℕ) (x : Option Words) (h : Home) → Acks n h (load_ack_s t x h)
unfolding load_ack_s home_weight cause_weight
load_acks_s n t x (idle l) = tt
load_acks_s n t x (awaiting_load r l) = tt
load_acks_s n t x (awaiting_owner d us o (request (task r reading))) =
    by_test (Acks n (awaiting_owner d us o (request (task r reading)))) (eqb o t) _ _ (λ e. share_acks n (awaiting_owner d us o (request (task r reading))) (ack_dirty x d) (ack_words x us) (add 0 o) r (omega arith)) (λ e. tt)
load_acks_s n t x (awaiting_owner d us o (request (task r (writing b)))) = tt
load_acks_s n t x (awaiting_owner d us o eviction) = tt
load_acks_s n t x (awaiting_acks d us m owed c) = tt
load_acks_s n t x (awaiting_store l) = tt

load_acks_i : (n t : ℕ) (h : Home) → Acks n h (load_ack_i t h)
unfolding load_ack_i home_weight cause_weight
load_acks_i n t (idle l) = tt
load_acks_i n t (awaiting_load r l) = tt
load_acks_i n t (awaiting_owner d us o (request (task r reading))) =
    by_test (Acks n (awaiting_owner d us o (request (task r reading)))) (eqb o t) _ _ (λ e. grant_acks n (awaiting_owner d us o (request (task r reading))) d us false r reading (omega arith)) (λ e. tt)
load_acks_i n t (awaiting_owner d us o (request (task r (writing b)))) = tt
load_acks_i n t (awaiting_owner d us o eviction) = tt
load_acks_i n t (awaiting_acks d us m owed c) = tt
load_acks_i n t (awaiting_store l) = tt

store_acks : (n t : ℕ) (x : Option Words) (h : Home) → Acks n h (store_ack t x h)
unfolding store_ack home_weight cause_weight
store_acks n t x (idle l) = tt
store_acks n t x (awaiting_load r l) = tt
store_acks n t x (awaiting_owner d us o (request (task r reading))) = tt
store_acks n t x (awaiting_owner d us o (request (task r (writing b)))) =
    by_test (Acks n (awaiting_owner d us o (request (task r (writing b))))) (eqb o t) _ _ (λ e. grant_acks n (awaiting_owner d us o (request (task r (writing b)))) (ack_dirty x d) (ack_words x us) false r (writing b) (omega arith)) (λ e. tt)
store_acks n t x (awaiting_owner d us o eviction) =
    by_test (Acks n (awaiting_owner d us o eviction)) (eqb o t) _ _ (λ e. leave_acks n (awaiting_owner d us o eviction) (ack_dirty x d) (ack_words x us) (omega arith)) (λ e. tt)
store_acks n t x (awaiting_acks d us m owed c) = tt
store_acks n t x (awaiting_store l) = tt

clear_acks : (n : ℕ) (d : Bool) (us : Words) (m owed : ℕ) (c : Clearing) → Acks n (awaiting_acks d us m owed c) (some (cleared d us c))
unfolding cleared home_weight clearing_weight
clear_acks n d us m owed (clear_for (task r b)) = grant_acks n (awaiting_acks d us m owed (clear_for (task r b))) d us false r (writing b) (omega arith)
clear_acks n d us m owed clear_for_eviction = leave_acks n (awaiting_acks d us m owed clear_for_eviction) d us (omega arith)

inv_acks : (n t : ℕ) (h : Home) → Acks n h (inv_ack t h)
unfolding inv_ack home_weight messages_weight
inv_acks n t (idle l) = tt
inv_acks n t (awaiting_load r l) = tt
inv_acks n t (awaiting_owner d us o c) = tt
inv_acks n t (awaiting_acks d us m owed c) =
    by_test (Acks n (awaiting_acks d us m owed c)) (has owed t) _ _
    (λ e. by_test (λ (x : Move). Acks n (awaiting_acks d us m owed c) (some x)) (eqb (del owed t) 0) _ _ (λ z. clear_acks n d us m owed c) (λ z. omega arith))
    (λ e. tt)
inv_acks n t (awaiting_store l) = tt

memory_acks : (n : ℕ) (m : FromMemory) (h : Home) → Acks n h (acknowledged m h)
unfolding acknowledged home_weight messages_weight
memory_acks n (load_mem_ack ws) (idle l) = tt
memory_acks n (load_mem_ack ws) (awaiting_load (task t a) l) = grant_acks n (awaiting_load (task t a) l) false ws true t a (omega arith)
memory_acks n (load_mem_ack ws) (awaiting_owner d us o c) = tt
memory_acks n (load_mem_ack ws) (awaiting_acks d us m owed c) = tt
memory_acks n (load_mem_ack ws) (awaiting_store l) = tt
memory_acks n store_mem_ack (idle l) = tt
memory_acks n store_mem_ack (awaiting_load t l) = tt
memory_acks n store_mem_ack (awaiting_owner d us o c) = tt
memory_acks n store_mem_ack (awaiting_acks d us m owed c) = tt
memory_acks n store_mem_ack (awaiting_store l) = omega arith

-- a write-back leaves the wait as it was
abbrev Keeps : Home → Option Home → Type 0
Keeps h none = Unit {0}
Keeps h (some h') = home_weight h' ≡ home_weight h

write_keeps : (t : ℕ) (ws : Words) (mark : Bool) (h : Home) → Keeps h (write_back t ws mark h)
unfolding write_back home_weight
write_keeps t ws true h = tt
write_keeps t ws false (idle absent) = tt
write_keeps t ws false (idle (present d us uncached)) = tt
write_keeps t ws false (idle (present d us (shared_by m))) = tt
write_keeps t ws false (idle (present d us (owned_by o))) = by_test (Keeps (idle (present d us (owned_by o)))) (eqb o t) _ _ (λ e. refl) (λ e. tt)
write_keeps t ws false (awaiting_load r l) = tt
write_keeps t ws false (awaiting_owner d us o c) = by_test (Keeps (awaiting_owner d us o c)) (eqb o t) _ _ (λ e. refl) (λ e. tt)
write_keeps t ws false (awaiting_acks d us m owed c) = tt
write_keeps t ws false (awaiting_store l) = tt

-- a queue without its front
abbrev Popped : {A : Type 0} → (A → ℕ) → Queue A → Option A → Type 0
Popped f q none = Unit {0}
Popped f q (some a) = queue_weight f (rest q) + f a ≡ queue_weight f q

popped : {A : Type 0} (f : A → ℕ) (q : Queue A) → Popped f q (front q)
unfolding front rest queue_weight
popped f empty = tt
popped f (one a) = omega arith
popped f (two a b) = omega arith

pop_weight : {A : Type 0} (f : A → ℕ) (q : Queue A) (a : A) → front q ≡ some a → queue_weight f (rest q) + f a ≡ queue_weight f q
pop_weight f q a e = subst (Popped f q) e (popped f q)

pop1_weight : (n : ℕ) (x : Tile) (m : Request) → front (noc1 x) ≡ some m → tile_weight n (pop_noc1 x) + request_weight n m ≡ tile_weight n x
unfolding noc1 pop_noc1 tile_weight
pop1_weight n (tile_of c p q1 q2 q3) m e = omega (arith, pop_weight (request_weight n) q1 m e)

pop3_weight : (n : ℕ) (x : Tile) (m : Reply) → front (noc3 x) ≡ some m → tile_weight n (pop_noc3 x) + 1 ≡ tile_weight n x
unfolding noc3 pop_noc3 tile_weight reply_weight
pop3_weight n (tile_of c p q1 q2 q3) m e = omega (arith, pop_weight reply_weight q3 m e)

lighter_from : (u : ℕ) (b : Bench) → Lighter b (from_tile_on u b)
unfolding from_tile_on accept_reply written_back fitted kept
lighter_from u (bench_of h l k mem out back ts) = go (ltb u (length ts))
  where
    b : Bench
    b = bench_of h l k mem out back ts

    x : Tile
    x = pop_noc3 (tile_at ts u)

    written : (o : Option Home) → Keeps h o → tile_weight (length ts) x + 1 ≡ tile_weight (length ts) (tile_at ts u) → Lighter b (written_back u o l k mem out back (set ts u x))
    written none s e = refused_lighter b 8 refl
    written (some h') s e = λ z. omega (arith, replaced h h' l l k (add k u) mem out back ts u x 0 (omega arith))

    home : (o : Option Move) → Acks (length ts) h o → tile_weight (length ts) x + 1 ≡ tile_weight (length ts) (tile_at ts u) → Lighter b (fitted o l k mem out back (set ts u x))
    home none s e = refused_lighter b 8 refl
    home (some (move h' ms)) s e = replaced_posted h h' l l k k (kind_of ms) 0 mem out back ts u x ms (omega arith)

    accepting : (m : Option Reply) → front (noc3 (tile_at ts u)) ≡ m → Lighter b (accept_reply u m h l k mem out back (set ts u x))
    accepting none e = refused_lighter b 7 refl
    accepting (some (wb_req ws)) e = written (write_back u ws (has k u) h) (write_keeps u ws (has k u) h) (pop3_weight (length ts) (tile_at ts u) (wb_req ws) e)
    accepting (some (load_fwd_ack_s y)) e = home (load_ack_s u y h) (load_acks_s (length ts) u y h) (pop3_weight (length ts) (tile_at ts u) (load_fwd_ack_s y) e)
    accepting (some load_fwd_ack_i) e = home (load_ack_i u h) (load_acks_i (length ts) u h) (pop3_weight (length ts) (tile_at ts u) load_fwd_ack_i e)
    accepting (some (store_fwd_ack y)) e = home (store_ack u y h) (store_acks (length ts) u y h) (pop3_weight (length ts) (tile_at ts u) (store_fwd_ack y) e)
    accepting (some inv_fwd_ack) e = home (inv_ack u h) (inv_acks (length ts) u h) (pop3_weight (length ts) (tile_at ts u) inv_fwd_ack e)

    go : (e : Bool) → Lighter b (cond e (accept_reply u (front (noc3 (tile_at ts u))) h l k mem out back (set ts u x)) (refused 2))
    go true = accepting (front (noc3 (tile_at ts u))) refl
    go false = refused_lighter b 2 refl

-- Memory step and memory ack.
lighter_step : (b : Bench) → Lighter b (memory_step_on b)
unfolding memory_step_on memory_serves tiles_of measure messages_weight message_weight out_weight back_weight
lighter_step (bench_of h l k mem out back ts) = go (front out) refl
  where
    b : Bench
    b = bench_of h l k mem out back ts

    acked : (ws : Words) (m : ToMemory) (a : FromMemory) → front out ≡ some m → Lighter b (posted 3 0 (from_memory a ∷ []) (bench_of h l k ws (rest out) back ts))
    acked ws m a e = posted_lighter b (bench_of h l k ws (rest out) back ts) 3 0 (from_memory a ∷ []) (omega (arith, pop_weight out_weight out m e))

    go : (m : Option ToMemory) → front out ≡ m → Lighter b (memory_serves m h l k mem (rest out) back ts)
    go none e = refused_lighter b 7 refl
    go (some load_mem) e = acked mem load_mem (load_mem_ack mem) e
    go (some (store_mem ws)) e = acked ws (store_mem ws) store_mem_ack e

lighter_ack : (b : Bench) → Lighter b (memory_ack_on b)
unfolding memory_ack_on accept_ack fitted tiles_of measure back_weight
lighter_ack (bench_of h l k mem out back ts) = go (front back) refl
  where
    b : Bench
    b = bench_of h l k mem out back ts

    home : (m : FromMemory) (o : Option Move) → front back ≡ some m → Acks (length ts) h o → Lighter b (fitted o l k mem out (rest back) ts)
    home m none e s = refused_lighter b 8 refl
    home m (some (move h' ms)) e s = posted_lighter b (bench_of h' l k mem out (rest back) ts) (kind_of ms) 0 ms (omega (arith, pop_weight back_weight back m e))

    go : (m : Option FromMemory) → front back ≡ m → Lighter b (accept_ack m h l k mem out (rest back) ts)
    go none e = refused_lighter b 7 refl
    go (some m) e = home m (acknowledged m h) e (memory_acks (length ts) m h)

-- Taking: what a request makes the home wait for and send weighs less than the request.
abbrev Serves : ℕ → Move → Type 0
Serves n (move h ms) = home_weight h + messages_weight n ms < 2 * n + 2

range_length : (n i : ℕ) → length (range i n) ≡ n
unfolding range
range_length ℕ.zero i = refl
range_length (suc n) i = ap suc (range_length n (suc i))

among_length : (m : ℕ) (ts : List ℕ) → length (among m ts) ≤ length ts
unfolding among
among_length m [] = omega arith
among_length m (t ∷ ts) = go (has m t) (among_length m ts)
  where
    go : (e : Bool) → length (among m ts) ≤ length ts → length (cond e (t ∷ among m ts) (among m ts)) ≤ suc (length ts)
    go true h = omega arith
    go false h = omega arith

-- no more members than tiles
pub members_length : (m n : ℕ) → length (members m n) ≤ n
unfolding members
members_length m n = omega (arith, among_length m (range 0 n), range_length n 0)

invalidations : (n : ℕ) (ts : List ℕ) → messages_weight n (map invalidate_to ts) ≡ 2 * length ts
unfolding messages_weight message_weight invalidate_to forward_weight
invalidations n [] = refl
invalidations n (t ∷ ts) = omega (arith, invalidations n ts)

asked_weight : (c : Cause) → forward_weight (asked_for c) ≡ 2
unfolding asked_for forward_weight
asked_weight (request (task t reading)) = refl
asked_weight (request (task t (writing b))) = refl
asked_weight eviction = refl

serves : (n t : ℕ) (a : Access) (x : Line) → 1 ≤ n → Serves n (serve n (task t a) x)
unfolding serve home_weight cause_weight clearing_weight messages_weight message_weight out_weight forward_weight grant grant_shared invalidate ask_owner
serves n t a absent le = omega arith
serves n t a (present d ws uncached) le = omega (arith, grant_weight a false ws)
serves n t reading (present d ws (shared_by m)) le = omega arith
serves n t (writing b) (present d ws (shared_by m)) le = by_test (Serves n) (eqb (del m t) 0) _ _ (λ e. omega (arith, grant_weight (writing b) false ws)) (λ e. omega (arith, invalidations n (members (del m t) n), members_length (del m t) n))
serves n t a (present d ws (owned_by o)) le = by_test (Serves n) (eqb o t) _ _ (λ e. omega (arith, grant_weight a false ws)) (λ e. omega (arith, asked_weight (request (task t a))))

-- a tile with something on NoC1 is one of the bench
some_tile : (ts : List Tile) (u : ℕ) (m : Request) → front (noc1 (tile_at ts u)) ≡ some m → 1 ≤ length ts
unfolding front noc1
some_tile [] u m e = let z : ◌≡◌ {A = ℕ} 0 1 = cc in omega arith
some_tile (x ∷ xs) u m e = omega arith

lighter_taking : (b : Bench) → Lighter b (taking_on b)
unfolding taking_on take_chosen take_front served kept home_weight request_weight
lighter_taking (bench_of (idle x) l k mem out back ts) = go (arbitrate l k ts)
  where
    b : Bench
    b = bench_of (idle x) l k mem out back ts

    y : ℕ → Tile
    y u = pop_noc1 (tile_at ts u)

    serving : (u : ℕ) (m : Move) → Serves (length ts) m → tile_weight (length ts) (y u) + (2 * length ts + 2) ≡ tile_weight (length ts) (tile_at ts u) → Lighter b (served u m k mem out back (set ts u (y u)))
    serving u (move h ms) s e = replaced_posted (idle x) h l _ k k (kind_of ms) _ mem out back ts u (y u) ms (omega arith)

    served_by : (u : ℕ) (a : Access) → 1 ≤ length ts → Serves (length ts) (serve (length (set ts u (y u))) (task u a) x)
    served_by u a le = rw (length-set ts u (y u)) (serves (length ts) u a x le)

    taking_of_lem : (u : ℕ) (m : Option Request) → front (noc1 (tile_at ts u)) ≡ m → Lighter b (take_front u m x k mem out back (set ts u (y u)))
    taking_of_lem u none e = refused_lighter b 7 refl
    taking_of_lem u (some wb_guard_req) e = λ z. omega (arith, replaced (idle x) (idle x) l u k (del k u) mem out back ts u (y u) 0 (omega (arith, pop1_weight (length ts) (tile_at ts u) wb_guard_req e)))
    taking_of_lem u (some (load_req w)) e = serving u (serve (length (set ts u (y u))) (task u reading) x) (served_by u reading (some_tile ts u (load_req w) e)) (pop1_weight (length ts) (tile_at ts u) (load_req w) e)
    taking_of_lem u (some (store_req w)) e = serving u (serve (length (set ts u (y u))) (task u (writing storing)) x) (served_by u (writing storing) (some_tile ts u (store_req w) e)) (pop1_weight (length ts) (tile_at ts u) (store_req w) e)

    go : (o : Option ℕ) → Lighter b (take_chosen o x k mem out back ts)
    go none = refused_lighter b 7 refl
    go (some u) = taking_of_lem u (front (noc1 (tile_at ts u))) refl
lighter_taking (bench_of (awaiting_load r x) l k mem out back ts) = refused_lighter (bench_of (awaiting_load r x) l k mem out back ts) 6 refl
lighter_taking (bench_of (awaiting_owner d ws o c) l k mem out back ts) = refused_lighter (bench_of (awaiting_owner d ws o c) l k mem out back ts) 6 refl
lighter_taking (bench_of (awaiting_acks d ws m owed c) l k mem out back ts) = refused_lighter (bench_of (awaiting_acks d ws m owed c) l k mem out back ts) 6 refl
lighter_taking (bench_of (awaiting_store x) l k mem out back ts) = refused_lighter (bench_of (awaiting_store x) l k mem out back ts) 6 refl

-- every delivery
pub falls : (c : Call) (b : Bench) → is_delivery c ≡ true → can_be_accepted rules c b ≡ true → measure (after c b) < measure b
unfolding is_delivery can_be_accepted after step
falls (load u w) b d z = absurd (false≢true d)
falls (store u w v) b d z = absurd (false≢true d)
falls (evict u) b d z = absurd (false≢true d)
falls taking b d z = lighter_taking b z
falls (to_tile u) b d z = lighter_to u b z
falls (from_tile u) b d z = lighter_from u b z
falls memory_step b d z = lighter_step b z
falls memory_ack b d z = lighter_ack b z
falls home_eviction b d z = absurd (false≢true d)
