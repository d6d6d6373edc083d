-- What each call leaves of a bench, accepted or refused: the number of tiles, the last taken, who waits, and the requests at the
-- front of NoC1 queues.
use Prim.Native.Nat.{ℕ}
use mathlib.Core.Path.{◌≡◌, refl, sym, ap, ◌∙◌, subst}
use mathlib.Core.Bool.{Bool, cond, true, false, ◌&&◌, ◌||◌, and-false}
use mathlib.Core.List.{List, [], ◌∷◌}
use mathlib.Core.Option.{Option, some, none}
use borrow.Author.Tests.{ltb-true, eqb-true, eqb-false}
use lib.Dec.{ltb, eqb}
use lib.ListN.{length, set, length-set}
use lib.Seq.{get_or-set_same, get_or-set_other}
use Rattle.masks.specs.Mask.{add, del, has}
use Rattle.protocol.specs.Parts.{Words, Queue, empty, one, two, reading, writing, State, shared, exclusive, modified, Cache, invalid, valid, Waiting, nothing, for_load, for_store, Request, load_req, store_req, wb_guard_req, Forward, load_fwd, store_fwd, inv_fwd, data_ack, Reply, wb_req, load_fwd_ack_s, load_fwd_ack_i, store_fwd_ack, inv_fwd_ack, ToMemory, load_mem, store_mem, FromMemory, load_mem_ack, store_mem_ack, Message, from_memory, Tile, tile_of, absent, present, Home, idle, awaiting_load, awaiting_owner, awaiting_acks, awaiting_store, Bench, bench_of, Call, load, store, evict, taking, to_tile, from_tile, memory_step, memory_ack, home_eviction, Result, refused, accepted, task, storing}
use Rattle.protocol.specs.Tile.{load_at, store_at, evict_at, Received, misfit, filled, fill, receive, received, deliver_to}
use Rattle.protocol.specs.Home.{Move, move, serve, write_back, load_ack_s, load_ack_i, store_ack, inv_ack, acknowledged, evict_line}
use Rattle.protocol.specs.Bench.{fresh_tile, tile_at, front, rest, noc1, noc3, pop_noc1, pop_noc3, settle, at_tile, at_word, posted, kind_of, arbitrate, served, take_front, take_chosen, taking_on, written_back, fitted, accept_reply, from_tile_on, memory_serves, memory_step_on, accept_ack, memory_ack_on, home_eviction_on, step}
use Rattle.protocol.specs.declared.Answer.{Answer}
use Rattle.protocol.specs.Calls.{Role, accesses, delivers_to, takes, neither, role_of}
use Rattle.protocol.specs.Answers.{refusal, acceptance, answer_of, is_accepted, has_kind}
use Rattle.protocol.specs.Runs.{kept, after, event, waits_for_by, waits_for_after}
use Rattle.protocol.specs.Demand3.{waiting_of, tiles_of, takes_by, takes_tile}
use Rattle.coherence.proofs.Weight.{forward_weight}
use Rattle.coherence.proofs.Sent.{last_taken, asks, Alike, set_related, Same, same_bench, same_tiles, same_then, same_set, on_posted}

-- a taking's answer names the last taken; a refused one changes nothing
unfoldable pub last_by : Role → Answer → ℕ → ℕ
last_by (accesses u p) r l = l
last_by (delivers_to u) r l = l
last_by takes r l = cond (is_accepted r) r.value l
last_by neither r l = l

unfoldable pub last_after : Call → Answer → ℕ → ℕ
last_after c r l = last_by (role_of c) r l

-- the call c, answered r, takes b to b'
pub record Left (c : Call) (r : Answer) (b b' : Bench) : Type 0 where
  pub count : length (tiles_of b') ≡ length (tiles_of b)
  pub last : last_taken b' ≡ last_after c r (last_taken b)
  pub waiting : (t : ℕ) → waiting_of (tile_at (tiles_of b') t) ≡ waits_for_after t (event c r) (waiting_of (tile_at (tiles_of b) t))
  pub asking : (t : ℕ) → takes_tile t c r ≡ false → asks (tile_at (tiles_of b) t) ≡ true → asks (tile_at (tiles_of b') t) ≡ true

abbrev Effect : Call → Bench → Result Bench → Type 0
Effect c b r = Left c (answer_of r) b (kept b r)

-- a call by which nobody starts or ends waiting, and that takes nobody
record Still (c : Call) : Type 0 where
  waits : (t : ℕ) (r : Answer) (x : Waiting) → waits_for_after t (event c r) x ≡ x
  stays : (r : Answer) (l : ℕ) → last_after c r l ≡ l

same_left : (c : Call) (r : Answer) (b d : Bench) → Still c → Same b d → Left c r b d
same_left c r b d st s =
    record {
      count = s.count;
      last = s.last ∙ sym (st.stays r (last_taken b));
      waiting = λ t. (s.tiles t).waiting ∙ sym (st.waits t r (waiting_of (tile_at (tiles_of b) t)));
      asking = λ t no. (s.tiles t).asking;
    }

-- a refusal starts and ends no waiting
refused_left : (c : Call) (b : Bench) (n : ℕ) → eqb n 0 ≡ false → Left c (refusal n) b b
unfolding last_after last_by waits_for_after waits_for_by has_kind is_accepted
refused_left c b n e =
    record
    { count = refl; last = last_same (role_of c); waiting = λ t. waiting_same t (role_of c) (waiting_of (tile_at (tiles_of b) t)); asking = λ t no a. a }
  where
    last_same : (o : Role) → last_taken b ≡ last_by o (refusal n) (last_taken b)
    last_same (accesses u p) = refl
    last_same (delivers_to u) = refl
    last_same takes = rw e
    last_same neither = refl

    waiting_same : (t : ℕ) (o : Role) (x : Waiting) → x ≡ waits_for_by t o (refusal n) x
    waiting_same t (accesses u p) x = rw (e, and-false (eqb u t))
    waiting_same t (delivers_to u) x = rw (e, and-false (eqb u t))
    waiting_same t takes x = refl
    waiting_same t neither x = refl

-- A tile's rule. `g` is what an answer makes of waiting.
record TileLeft (g : Answer → Waiting → Waiting) (r : Answer) (x x' : Tile) : Type 0 where
  waiting : waiting_of x' ≡ g r (waiting_of x)
  asking : asks x ≡ true → asks x' ≡ true

abbrev TileEffect : (Answer → Waiting → Waiting) → Tile → Result Tile → Type 0
TileEffect g x (refused n) = eqb n 0 ≡ false
TileEffect g x (accepted k v x' ms) = TileLeft g (acceptance k v ms) x x'

-- a load or a store starts waiting when it sends its request; a delivery ends it when it answers the load or writes the store
abbrev starting : Waiting → Answer → Waiting → Waiting
starting p r x = cond (has_kind 3 r) p x

abbrev ending : Answer → Waiting → Waiting
ending r x = cond (has_kind 1 r || has_kind 2 r) nothing x

abbrev unmoved : Answer → Waiting → Waiting
unmoved r x = x

on_word : (P : Result Tile → Type 0) (w : ℕ) (r : Result Tile) → P (refused 3) → P r → P (at_word w r)
unfolding at_word
on_word P w r p q = go (ltb w 8)
  where
    go : (e : Bool) → P (cond e r (refused 3))
    go true = q
    go false = p

loaded : (u w : ℕ) (x : Tile) → TileEffect (starting (for_load w)) x (load_at u w x)
unfolding load_at waiting_of has_kind asks noc1
loaded u w (tile_of c (for_load y) q1 q2 q3) = refl
loaded u w (tile_of c (for_store y v) q1 q2 q3) = refl
loaded u w (tile_of (valid r ws) nothing q1 q2 q3) = record { waiting = refl; asking = λ e. e }
loaded u w (tile_of invalid nothing q1 q2 q3) = record { waiting = refl; asking = λ e. e }

stored : (u w v : ℕ) (x : Tile) → TileEffect (starting (for_store w v)) x (store_at u w v x)
unfolding store_at waiting_of has_kind asks noc1
stored u w v (tile_of c (for_load y) q1 q2 q3) = refl
stored u w v (tile_of c (for_store y z) q1 q2 q3) = refl
stored u w v (tile_of (valid modified ws) nothing q1 q2 q3) = record { waiting = refl; asking = λ e. e }
stored u w v (tile_of (valid exclusive ws) nothing q1 q2 q3) = record { waiting = refl; asking = λ e. e }
stored u w v (tile_of (valid shared ws) nothing q1 q2 q3) = record { waiting = refl; asking = λ e. e }
stored u w v (tile_of invalid nothing q1 q2 q3) = record { waiting = refl; asking = λ e. e }

evicted : (u : ℕ) (x : Tile) → TileEffect unmoved x (evict_at u x)
unfolding evict_at waiting_of asks noc1
evicted u (tile_of invalid p q1 q2 q3) = refl
evicted u (tile_of (valid shared ws) p q1 q2 q3) = record { waiting = refl; asking = λ e. e }
evicted u (tile_of (valid exclusive ws) p q1 q2 q3) = record { waiting = refl; asking = λ e. e }
evicted u (tile_of (valid modified ws) p q1 q2 q3) = record { waiting = refl; asking = λ e. e }

-- what a tile receives: what fills its line answers a load or writes a store; what it answers was a forward or an invalidation
abbrev pub Fits : Forward → Received → Type 0
Fits m misfit = Unit {0}
Fits m (filled k v c) = has_kind 1 (acceptance k v []) || has_kind 2 (acceptance k v []) ≡ true
Fits m (Received.replied c a) = forward_weight m ≡ 2

fills : (r : State) (miss : Bool) (ws : Words) (c : Cache) (p : Waiting) → Fits (data_ack r miss ws) (fill r ws c p)
unfolding fill has_kind
fills r miss ws c nothing = tt
fills shared miss ws invalid (for_load w) = refl
fills exclusive miss ws invalid (for_load w) = refl
fills modified miss ws invalid (for_load w) = tt
fills r miss ws (valid x us) (for_load w) = tt
fills modified miss ws invalid (for_store w v) = refl
fills modified miss ws (valid shared us) (for_store w v) = refl
fills modified miss ws (valid exclusive us) (for_store w v) = tt
fills modified miss ws (valid modified us) (for_store w v) = tt
fills shared miss ws c (for_store w v) = tt
fills exclusive miss ws c (for_store w v) = tt

pub receives : (m : Forward) (c : Cache) (p : Waiting) → Fits m (receive m c p)
unfolding receive forward_weight
receives (data_ack r miss ws) c p = fills r miss ws c p
receives load_fwd invalid p = refl
receives load_fwd (valid shared ws) p = tt
receives load_fwd (valid exclusive ws) p = refl
receives load_fwd (valid modified ws) p = refl
receives store_fwd invalid p = refl
receives store_fwd (valid shared ws) p = tt
receives store_fwd (valid exclusive ws) p = refl
receives store_fwd (valid modified ws) p = refl
receives inv_fwd invalid p = refl
receives inv_fwd (valid shared ws) p = refl
receives inv_fwd (valid exclusive ws) p = tt
receives inv_fwd (valid modified ws) p = tt

after_receiving : (u : ℕ) (r : Received) (c : Cache) (p : Waiting) (q1 : Queue Request) (q2 q : Queue Forward) (q3 : Queue Reply) (m : Forward) → Fits m r → TileEffect ending (tile_of c p q1 q2 q3) (received u r c p q1 q q3)
unfolding received waiting_of asks noc1 has_kind
after_receiving u misfit c p q1 q2 q q3 m f = refl
after_receiving u (filled k v c') c p q1 q2 q q3 m f = record { waiting = rw f; asking = λ e. e }
after_receiving u (Received.replied c' a) c p q1 q2 q q3 m f = record { waiting = refl; asking = λ e. e }

delivered : (u : ℕ) (x : Tile) → TileEffect ending x (deliver_to u x)
unfolding deliver_to
delivered u (tile_of c p q1 empty q3) = refl
delivered u (tile_of c p q1 (one m) q3) = after_receiving u (receive m c p) c p q1 (one m) empty q3 m (receives m c p)
delivered u (tile_of c p q1 (two m n) q3) = after_receiving u (receive m c p) c p q1 (two m n) (one n) q3 m (receives m c p)

-- A call c at tile u, whose rule is f.
record At (c : Call) (u : ℕ) (g : Answer → Waiting → Waiting) : Type 0 where
  waits : (t : ℕ) (r : Answer) (x : Waiting) → waits_for_after t (event c r) x ≡ cond (eqb u t) (g r x) x
  stays : (r : Answer) (l : ℕ) → last_after c r l ≡ l

at_tile_lem : (c : Call) (u : ℕ) (g : Answer → Waiting → Waiting) → At c u g → (f : Tile → Result Tile) → ((x : Tile) → TileEffect g x (f x)) → (b : Bench) → Effect c b (at_tile u f b)
unfolding at_tile settle answer_of kept tiles_of last_taken
at_tile_lem c u g at f law (bench_of h l k mem out back ts) = go (ltb u (length ts)) refl
  where
    b : Bench
    b = bench_of h l k mem out back ts

    wait_set : (r : Answer) (x : Tile) → ltb u (length ts) ≡ true → TileLeft g r (tile_at ts u) x → (t : ℕ) (e : Bool) → eqb u t ≡ e → waiting_of (tile_at (set ts u x) t) ≡ cond e (g r (waiting_of (tile_at ts t))) (waiting_of (tile_at ts t))
    wait_set r x lt tl t true e =
        subst (λ (i : ℕ). waiting_of (tile_at (set ts u x) i) ≡ g r (waiting_of (tile_at ts i))) (eqb-true u t e)
        (ap waiting_of (get_or-set_same ts u x fresh_tile (ltb-true u (length ts) lt)) ∙ tl.waiting)
    wait_set r x lt tl t false e = ap waiting_of (get_or-set_other ts u t x fresh_tile (λ q. eqb-false u t e (sym q)))

    settled : ltb u (length ts) ≡ true → (r : Result Tile) → TileEffect g (tile_at ts u) r → Effect c b (settle u b r)
    settled lt (refused n) e = refused_left c b n e
    settled lt (accepted kd v x ms) tl =
        on_posted (Effect c b) kd v ms (bench_of h l k mem out back (set ts u x)) (refused_left c b 9 refl)
        (λ d s.
        record {
          count = s.same.count ∙ length-set ts u x;
          last = s.same.last ∙ sym (at.stays (acceptance kd v ms) l);
          waiting = λ t. (s.same.tiles t).waiting ∙ (wait_set (acceptance kd v ms) x lt tl t (eqb u t) refl ∙ sym (at.waits t (acceptance kd v ms) (waiting_of (tile_at ts t))));
          asking = λ t no a. (s.same.tiles t).asking (set_related (λ y' y. asks y ≡ true → asks y' ≡ true) (λ y e. e) ts u t x tl.asking a);
        })

    go : (e : Bool) → ltb u (length ts) ≡ e → Effect c b (cond e (settle u b (f (tile_at ts u))) (refused 2))
    go true e = settled e (f (tile_at ts u)) (law (tile_at ts u))
    go false e = refused_left c b 2 refl

-- The home's calls. What the home does is all one here.
moved_left : (c : Call) (b : Bench) (o : Option Move) (l k : ℕ) (mem : Words) (out : Queue ToMemory) (back : Queue FromMemory) (ts : List Tile) → Still c → ((h : Home) → Same b (bench_of h l k mem out back ts)) → Effect c b (fitted o l k mem out back ts)
unfolding fitted answer_of kept
moved_left c b none l k mem out back ts st s = refused_left c b 8 refl
moved_left c b (some (move h ms)) l k mem out back ts st s =
    on_posted (Effect c b) (kind_of ms) 0 ms (bench_of h l k mem out back ts) (refused_left c b 9 refl)
    (λ d f. same_left c (acceptance (kind_of ms) 0 ms) b d st (same_then (s h) f.same))

-- a tile without its NoC3 front
pop_alike : (x : Tile) → Alike (pop_noc3 x) x
unfolding pop_noc3 waiting_of asks noc1
pop_alike (tile_of c p q1 q2 q3) = record { waiting = refl; asking = λ e. e }

still_from : (u : ℕ) → Still (from_tile u)
unfolding waits_for_after waits_for_by last_after last_by
still_from u = record { waits = λ t r x. refl; stays = λ r l. refl }

from_tile_lem : (u : ℕ) (b : Bench) → Effect (from_tile u) b (from_tile_on u b)
unfolding from_tile_on accept_reply written_back answer_of kept
from_tile_lem u (bench_of h l k mem out back ts) = go (ltb u (length ts))
  where
    b : Bench
    b = bench_of h l k mem out back ts

    popped : List Tile
    popped = set ts u (pop_noc3 (tile_at ts u))

    same : (h' : Home) (k' : ℕ) → Same b (bench_of h' l k' mem out back popped)
    same h' k' = same_then (same_set h l k mem out back ts u (pop_noc3 (tile_at ts u)) (pop_alike (tile_at ts u))) same_tiles

    written : (o : Option Home) → Effect (from_tile u) b (written_back u o l k mem out back popped)
    written none = refused_left (from_tile u) b 8 refl
    written (some h') = same_left (from_tile u) (acceptance 0 0 []) b (bench_of h' l (add k u) mem out back popped) (still_from u) (same h' (add k u))

    home : (o : Option Move) → Effect (from_tile u) b (fitted o l k mem out back popped)
    home o = moved_left (from_tile u) b o l k mem out back popped (still_from u) (λ h'. same h' k)

    accepting : (m : Option Reply) → Effect (from_tile u) b (accept_reply u m h l k mem out back popped)
    accepting none = refused_left (from_tile u) b 7 refl
    accepting (some (wb_req ws)) = written (write_back u ws (has k u) h)
    accepting (some (load_fwd_ack_s x)) = home (load_ack_s u x h)
    accepting (some load_fwd_ack_i) = home (load_ack_i u h)
    accepting (some (store_fwd_ack x)) = home (store_ack u x h)
    accepting (some inv_fwd_ack) = home (inv_ack u h)

    go : (e : Bool) → Effect (from_tile u) b (cond e (accept_reply u (front (noc3 (tile_at ts u))) h l k mem out back popped) (refused 2))
    go true = accepting (front (noc3 (tile_at ts u)))
    go false = refused_left (from_tile u) b 2 refl

still_step : Still memory_step
unfolding waits_for_after waits_for_by last_after last_by
still_step = record { waits = λ t r x. refl; stays = λ r l. refl }

memory_step_lem : (b : Bench) → Effect memory_step b (memory_step_on b)
unfolding memory_step_on memory_serves answer_of kept
memory_step_lem (bench_of h l k mem out back ts) = go (front out)
  where
    b : Bench
    b = bench_of h l k mem out back ts

    acked : (ws : Words) (m : FromMemory) → Effect memory_step b (posted 3 0 (from_memory m ∷ []) (bench_of h l k ws (rest out) back ts))
    acked ws m =
        on_posted (Effect memory_step b) 3 0 (from_memory m ∷ []) (bench_of h l k ws (rest out) back ts) (refused_left memory_step b 9 refl)
        (λ d f. same_left memory_step (acceptance 3 0 (from_memory m ∷ [])) b d still_step (same_then same_tiles f.same))

    go : (m : Option ToMemory) → Effect memory_step b (memory_serves m h l k mem (rest out) back ts)
    go none = refused_left memory_step b 7 refl
    go (some load_mem) = acked mem (load_mem_ack mem)
    go (some (store_mem ws)) = acked ws store_mem_ack

memory_ack_lem : (b : Bench) → Effect memory_ack b (memory_ack_on b)
unfolding memory_ack_on accept_ack answer_of kept waits_for_after waits_for_by last_after last_by
memory_ack_lem (bench_of h l k mem out back ts) = go (front back)
  where
    b : Bench
    b = bench_of h l k mem out back ts

    go : (m : Option FromMemory) → Effect memory_ack b (accept_ack m h l k mem out (rest back) ts)
    go none = refused_left memory_ack b 7 refl
    go (some m) = moved_left memory_ack b (acknowledged m h) l k mem out (rest back) ts (record { waits = λ t r x. refl; stays = λ r l. refl }) (λ h'. same_tiles)

home_eviction_lem : (b : Bench) → Effect home_eviction b (home_eviction_on b)
unfolding home_eviction_on answer_of kept waits_for_after waits_for_by last_after last_by
home_eviction_lem (bench_of (idle absent) l k mem out back ts) = refused_left home_eviction (bench_of (idle absent) l k mem out back ts) 5 refl
home_eviction_lem (bench_of (idle (present d ws x)) l k mem out back ts) =
    moved_left home_eviction (bench_of (idle (present d ws x)) l k mem out back ts) (some (evict_line (length ts) d ws x)) l k mem out back ts
    (record { waits = λ t r x. refl; stays = λ r l. refl })
    (λ h'. same_tiles)
home_eviction_lem (bench_of (awaiting_load r x) l k mem out back ts) = refused_left home_eviction (bench_of (awaiting_load r x) l k mem out back ts) 6 refl
home_eviction_lem (bench_of (awaiting_owner d ws o c) l k mem out back ts) = refused_left home_eviction (bench_of (awaiting_owner d ws o c) l k mem out back ts) 6 refl
home_eviction_lem (bench_of (awaiting_acks d ws m owed c) l k mem out back ts) = refused_left home_eviction (bench_of (awaiting_acks d ws m owed c) l k mem out back ts) 6 refl
home_eviction_lem (bench_of (awaiting_store x) l k mem out back ts) = refused_left home_eviction (bench_of (awaiting_store x) l k mem out back ts) 6 refl

-- The taking of tile u: whatever the home does, u is the last taken, and the others' NoC1 queues stay.
pop_waiting : (x : Tile) → waiting_of (pop_noc1 x) ≡ waiting_of x
unfolding pop_noc1 waiting_of
pop_waiting (tile_of c p q1 q2 q3) = refl

taken_left : (h h' : Home) (l l' k k' u v kd : ℕ) (mem : Words) (out : Queue ToMemory) (back : Queue FromMemory) (ts : List Tile) (d : Bench) (ms : List Message) → v ≡ u → l' ≡ v → Same (bench_of h' l' k' mem out back (set ts u (pop_noc1 (tile_at ts u)))) d → Left taking (acceptance kd v ms) (bench_of h l k mem out back ts) d
unfolding tiles_of last_taken last_after last_by waits_for_after waits_for_by takes_tile takes_by is_accepted
taken_left h h' l l' k k' u v kd mem out back ts d ms answers becomes s =
    record {
      count = s.count ∙ length-set ts u (pop_noc1 (tile_at ts u));
      last = s.last ∙ becomes;
      waiting = λ t. (s.tiles t).waiting ∙ set_related (λ y' y. waiting_of y' ≡ waiting_of y) (λ y. refl) ts u t (pop_noc1 (tile_at ts u)) (pop_waiting (tile_at ts u));
      asking = λ t other a. (s.tiles t).asking (subst (λ (y : Tile). asks y ≡ true) (sym (get_or-set_other ts u t (pop_noc1 (tile_at ts u)) fresh_tile (λ q. eqb-false v t other (answers ∙ sym q)))) a);
    }

taken : (b : Bench) → Effect taking b (taking_on b)
unfolding taking_on take_chosen take_front served answer_of kept
taken (bench_of (idle x) l k mem out back ts) = go (arbitrate l k ts)
  where
    b : Bench
    b = bench_of (idle x) l k mem out back ts

    popped : ℕ → List Tile
    popped u = set ts u (pop_noc1 (tile_at ts u))

    serving : (u : ℕ) (m : Move) → Effect taking b (served u m k mem out back (popped u))
    serving u (move h ms) =
        on_posted (Effect taking b) (kind_of ms) _ ms _ (refused_left taking b 9 refl)
        (λ d s. taken_left (idle x) h l _ k k u _ (kind_of ms) mem out back ts d ms refl refl s.same)

    taking_of_lem : (u : ℕ) (m : Option Request) → Effect taking b (take_front u m x k mem out back (popped u))
    taking_of_lem u none = refused_left taking b 7 refl
    taking_of_lem u (some wb_guard_req) = taken_left (idle x) (idle x) l _ k (del k u) u _ 0 mem out back ts _ [] refl refl (same_bench _)
    taking_of_lem u (some (load_req w)) = serving u (serve (length (popped u)) (task u reading) x)
    taking_of_lem u (some (store_req w)) = serving u (serve (length (popped u)) (task u (writing storing)) x)

    go : (o : Option ℕ) → Effect taking b (take_chosen o x k mem out back ts)
    go none = refused_left taking b 7 refl
    go (some u) = taking_of_lem u (front (noc1 (tile_at ts u)))
taken (bench_of (awaiting_load r x) l k mem out back ts) = refused_left taking (bench_of (awaiting_load r x) l k mem out back ts) 6 refl
taken (bench_of (awaiting_owner d ws o c) l k mem out back ts) = refused_left taking (bench_of (awaiting_owner d ws o c) l k mem out back ts) 6 refl
taken (bench_of (awaiting_acks d ws m owed c) l k mem out back ts) = refused_left taking (bench_of (awaiting_acks d ws m owed c) l k mem out back ts) 6 refl
taken (bench_of (awaiting_store x) l k mem out back ts) = refused_left taking (bench_of (awaiting_store x) l k mem out back ts) 6 refl

-- every call
and_then : (a z : Bool) (x y : Waiting) → cond (a && z) y x ≡ cond a (cond z y x) x
and_then true z x y = refl
and_then false z x y = refl

cond_same : (a : Bool) (x : Waiting) → x ≡ cond a x x
cond_same true x = refl
cond_same false x = refl

pub left : (c : Call) (b : Bench) → Left c (answer_of (step c b)) b (after c b)
unfolding step after waits_for_after waits_for_by last_after last_by
left (load u w) b =
    at_tile_lem (load u w) u (starting (for_load w)) (record { waits = λ t r x. and_then (eqb u t) (has_kind 3 r) x (for_load w); stays = λ r l. refl }) (λ x. at_word w (load_at u w x))
    (λ x. on_word (TileEffect (starting (for_load w)) x) w (load_at u w x) refl (loaded u w x))
    b
left (store u w v) b =
    at_tile_lem (store u w v) u (starting (for_store w v)) (record { waits = λ t r x. and_then (eqb u t) (has_kind 3 r) x (for_store w v); stays = λ r l. refl }) (λ x. at_word w (store_at u w v x))
    (λ x. on_word (TileEffect (starting (for_store w v)) x) w (store_at u w v x) refl (stored u w v x))
    b
left (evict u) b = at_tile_lem (evict u) u unmoved (record { waits = λ t r x. cond_same (eqb u t) x; stays = λ r l. refl }) (λ x. evict_at u x) (evicted u) b
left taking b = taken b
left (to_tile u) b =
    at_tile_lem (to_tile u) u ending (record { waits = λ t r x. and_then (eqb u t) (has_kind 1 r || has_kind 2 r) x nothing; stays = λ r l. refl }) (λ x. deliver_to u x)
    (delivered u)
    b
left (from_tile u) b = from_tile_lem u b
left memory_step b = memory_step_lem b
left memory_ack b = memory_ack_lem b
left home_eviction b = home_eviction_lem b
