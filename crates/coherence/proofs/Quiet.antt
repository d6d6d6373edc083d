-- Under the invariant `next_delivery` can be accepted, unless all is quiet: no tile waits, every queue is empty, the home is idle.
use Prim.Native.Nat.{ℕ, zero, suc, ◌<◌, ◌^◌}
use mathlib.Core.Path.{◌≡◌, refl, sym, subst, ◌∙◌}
use mathlib.Core.Bool.{Bool, true, false, not}
use mathlib.Core.List.{List}
use mathlib.Core.Option.{Option, some, none}
use mathlib.Core.Logic.{◌⊎◌, inl, inr}
use native.Mathlib.Omega.{arith}
use lib.ListN.{length, set}
use lib.Pow.{pow_pos}
use borrow.Author.Tests.{lt-ltb, not-true, not-false}
use Rattle.masks.specs.Mask.{has}
use Rattle.masks.proofs.MaskLaws.{has_none, ext}
use Rattle.protocol.specs.Parts.{Words, Queue, empty, one, two, Access, Cache, Waiting, Request, load_req, store_req, wb_guard_req, Forward, Reply, wb_req, load_fwd_ack_s, load_fwd_ack_i, store_fwd_ack, inv_fwd_ack, ToMemory, load_mem, store_mem, FromMemory, Message, Tile, tile_of, Line, Home, idle, awaiting_owner, awaiting_acks, Cause, Clearing, Bench, bench_of, taking, to_tile, from_tile, memory_step, memory_ack, Result, refused, accepted}
use Rattle.protocol.specs.Tile.{Received, misfit, filled, replied, received, receive, deliver_to}
use Rattle.protocol.specs.Home.{Move, move, range, write_back, load_ack_s, load_ack_i, store_ack, inv_ack, acknowledged}
use Rattle.protocol.specs.Bench.{fresh_tile, tile_at, front, rest, send, outcome, posted, kind_of, settle, at_tile, circle, first_of, eligible, arbitrate, noc1, pop_noc1, served, take_front, take_chosen, taking_on, noc3, pop_noc3, written_back, fitted, accept_reply, from_tile_on, memory_serves, memory_step_on, accept_ack, memory_ack_on, step}
use Rattle.protocol.specs.Bench.{noc2}
use Rattle.protocol.specs.Calls.{is_delivery}
use Rattle.protocol.specs.Answers.{answer_of, is_accepted}
use Rattle.protocol.specs.Runs.{rules, can_be_accepted}
use Rattle.protocol.specs.Demand3.{is_misfit, is_waiting, waiting_of, tiles_of, is_empty, memory_delivery, from_delivery, to_delivery, next_delivery, Quiet}
use Rattle.coherence.proofs.Said.{answer}
use Rattle.coherence.proofs.Invariant.{Relation, join, resting, load_queued, store_queued, shared_granted, exclusive_granted, modified_granted, not_asked, ask_load, ask_store, ask_inv, stranger_plain, stranger_in, sharer_plain, sharer_replied, owner_plain, owner_replied, owner_shared, owner_out, owner_out_replied, owner_in, owner_in_replied, TileOk, ok, Sees, asked_owner, requester, bystander, owing, storer, cleared_out, HomeOk, idle_ok, load_out, load_back, owner_ok, acks_ok, store_out, store_back, At, at, All, Inv, inv, Holds, fine_refused, fine}
use Rattle.protocol.proofs.Tests.{false_true, clash, at_or_not, if_true, everywhere, there}
use Rattle.protocol.proofs.Search.{first_passes, range_none, circle_none}
use Rattle.coherence.proofs.Calls.{at_rest, step_fine}

-- ---- what is refused, if at all, by 8 or 9 alone is accepted under the invariant

data Ready : Result Bench → Type 0 where
  misfits : {r : ℕ} → is_misfit (answer r 0 0) ≡ true → Ready (refused r)
  fits : {kd v : ℕ} {b : Bench} {ms : List Message} → Ready (accepted kd v b ms)

ready_accepted : {P : ℕ → ℕ → Bench → Type 0} {r : Result Bench} → Ready r → Holds P r → is_accepted (answer_of r) ≡ true
unfolding is_accepted answer_of
ready_accepted (misfits e) (fine_refused f) = clash e f
ready_accepted fits (fine i) = refl

posted_ready : (kd v : ℕ) (ms : List Message) (b : Bench) → Ready (posted kd v ms b)
unfolding posted outcome is_misfit
posted_ready kd v ms b = go (send ms (some b))
  where
    go : (o : Option Bench) → Ready (outcome kd v ms o)
    go none = misfits refl
    go (some c) = fits

moved_ready : (o : Option Move) (l k : ℕ) (mem : Words) (out : Queue ToMemory) (back : Queue FromMemory) (ts : List Tile) → Ready (fitted o l k mem out back ts)
unfolding fitted is_misfit
moved_ready none l k mem out back ts = misfits refl
moved_ready (some (move h ms)) l k mem out back ts = posted_ready (kind_of ms) 0 ms (bench_of h l k mem out back ts)

written_ready : (t : ℕ) (o : Option Home) (l k : ℕ) (mem : Words) (out : Queue ToMemory) (back : Queue FromMemory) (ts : List Tile) → Ready (written_back t o l k mem out back ts)
unfolding written_back is_misfit
written_ready t none l k mem out back ts = misfits refl
written_ready t (some h) l k mem out back ts = fits

served_ready : (t : ℕ) (x : Move) (k : ℕ) (mem : Words) (out : Queue ToMemory) (back : Queue FromMemory) (ts : List Tile) → Ready (served t x k mem out back ts)
unfolding served
served_ready t (move h ms) k mem out back ts = posted_ready (kind_of ms) t ms (bench_of h t k mem out back ts)

-- delivery to a tile with something on NoC2
received_ready : (t : ℕ) (b : Bench) (r : Received) (c : Cache) (p : Waiting) (q1 : Queue Request) (q : Queue Forward) (q3 : Queue Reply) → Ready (settle t b (received t r c p q1 q q3))
unfolding settle received is_misfit
received_ready t (bench_of h l k mem out back ts) misfit c p q1 q q3 = misfits refl
received_ready t (bench_of h l k mem out back ts) (filled kd v x) c p q1 q q3 = posted_ready kd v _ _
received_ready t (bench_of h l k mem out back ts) (replied x a) c p q1 q q3 = posted_ready 3 0 _ _

deliver_ready : (t : ℕ) (b : Bench) (x : Tile) → is_empty (noc2 x) ≡ false → Ready (settle t b (deliver_to t x))
unfolding deliver_to noc2 is_empty
deliver_ready t b (tile_of c p q1 empty q3) e = false_true (sym e)
deliver_ready t b (tile_of c p q1 (one m) q3) e = received_ready t b (receive m c p) c p q1 empty q3
deliver_ready t b (tile_of c p q1 (two m n) q3) e = received_ready t b (receive m c p) c p q1 (one n) q3

-- delivery from a tile with something on NoC3
accept_ready : (t : ℕ) (m : Reply) (h : Home) (l k : ℕ) (mem : Words) (out : Queue ToMemory) (back : Queue FromMemory) (ts : List Tile) → Ready (accept_reply t (some m) h l k mem out back ts)
unfolding accept_reply
accept_ready t (wb_req ws) h l k mem out back ts = written_ready t (write_back t ws (has k t) h) l k mem out back ts
accept_ready t (load_fwd_ack_s x) h l k mem out back ts = moved_ready (load_ack_s t x h) l k mem out back ts
accept_ready t load_fwd_ack_i h l k mem out back ts = moved_ready (load_ack_i t h) l k mem out back ts
accept_ready t (store_fwd_ack x) h l k mem out back ts = moved_ready (store_ack t x h) l k mem out back ts
accept_ready t inv_fwd_ack h l k mem out back ts = moved_ready (inv_ack t h) l k mem out back ts

front_ready : (t : ℕ) (q : Queue Reply) (h : Home) (l k : ℕ) (mem : Words) (out : Queue ToMemory) (back : Queue FromMemory) (ts : List Tile) → is_empty q ≡ false → Ready (accept_reply t (front q) h l k mem out back ts)
unfolding is_empty front
front_ready t empty h l k mem out back ts e = false_true (sym e)
front_ready t (one m) h l k mem out back ts e = accept_ready t m h l k mem out back ts
front_ready t (two m n) h l k mem out back ts e = accept_ready t m h l k mem out back ts

-- taking of a tile that can be taken
take_ready : (t : ℕ) (b : Bool) (y : Tile) (x : Line) (k : ℕ) (mem : Words) (out : Queue ToMemory) (back : Queue FromMemory) (ts : List Tile) → eligible b y ≡ true → Ready (take_front t (front (noc1 y)) x k mem out back ts)
unfolding eligible front noc1 take_front
take_ready t b (tile_of c p empty q2 q3) x k mem out back ts e = false_true e
take_ready t b (tile_of c p (one (load_req w)) q2 q3) x k mem out back ts e = served_ready t _ k mem out back ts
take_ready t b (tile_of c p (one (store_req w)) q2 q3) x k mem out back ts e = served_ready t _ k mem out back ts
take_ready t b (tile_of c p (one wb_guard_req) q2 q3) x k mem out back ts e = fits
take_ready t b (tile_of c p (two (load_req w) m) q2 q3) x k mem out back ts e = served_ready t _ k mem out back ts
take_ready t b (tile_of c p (two (store_req w) m) q2 q3) x k mem out back ts e = served_ready t _ k mem out back ts
take_ready t b (tile_of c p (two wb_guard_req m) q2 q3) x k mem out back ts e = fits

-- ---- masks

-- a mask that is not 0 and has no bit from n on has one below n
some_bit : (m n : ℕ) → ((t : ℕ) → t < n → has m t ≡ false) ⊎ ((t : ℕ) × (t < n) × (has m t ≡ true))
some_bit m zero = inl (λ t lt. absurd (omega arith))
some_bit m (suc n) = go (some_bit m n) (has m n) refl
  where
    go : ((t : ℕ) → t < n → has m t ≡ false) ⊎ ((t : ℕ) × (t < n) × (has m t ≡ true)) → (b : Bool) → has m n ≡ b → ((t : ℕ) → t < suc n → has m t ≡ false) ⊎ ((t : ℕ) × (t < suc n) × (has m t ≡ true))
    go (inr z) b e = inr (z.0, (let h = z.1 in omega arith), z.2)
    go (inl f) true e = inr (n, omega arith, e)
    go (inl f) false e = inl (λ t lt. at_or_not (λ (u : ℕ). has m u ≡ false) n t e (λ ne. f t (omega arith)))

member : (n m : ℕ) → m < 2 ^ n → (m ≡ 0 → ⊥) → (t : ℕ) × (t < n) × (has m t ≡ true)
member n m lm ne = go (some_bit m n)
  where
    go : ((t : ℕ) → t < n → has m t ≡ false) ⊎ ((t : ℕ) × (t < n) × (has m t ≡ true)) → (t : ℕ) × (t < n) × (has m t ≡ true)
    go (inl f) = absurd (ne (ext n m 0 lm (pow_pos n) (λ t lt. f t lt ∙ sym (has_none t))))
    go (inr z) = z

-- ---- a tile

empty_queue : {A : Type 0} (q : Queue A) → is_empty q ≡ true → q ≡ empty
unfolding is_empty
empty_queue empty e = refl
empty_queue (one a) e = false_true e
empty_queue (two a b) e = false_true e

second_there : {A B : Type 0} (o : Option A) (a : A) → is_empty (join o (some a)) ≡ true → B
unfolding is_empty
second_there none a e = false_true e
second_there (some b) a e = false_true e

-- a tile of which something is asked has it on NoC2 or the answer on NoC3
busy : {A : Type 0} {ws : Words} {p : Waiting} {rel : Relation} {cur : Option Access} {f : Forward} {mark : Bool} {x : Tile} → TileOk ws p rel cur (some f) mark x → is_empty (noc2 x) ≡ true → is_empty (noc3 x) ≡ true → A
unfolding noc2 noc3 is_empty
busy (ok (sharer_plain {d} ask_inv c s) k) e q = second_there d _ e
busy (ok sharer_replied k) e q = false_true q
busy (ok (owner_plain {d} ask_load o) k) e q = second_there d _ e
busy (ok (owner_plain {d} ask_store o) k) e q = second_there d _ e
busy (ok (owner_replied r) k) e q = false_true q
busy (ok (owner_shared c h) k) e q = false_true q
busy (ok (owner_out ask_load) k) e q = false_true q
busy (ok (owner_out ask_store) k) e q = false_true q
busy (ok (owner_out_replied r) k) e q = false_true q
busy (ok (owner_in h ask_load) k) e q = false_true e
busy (ok (owner_in h ask_store) k) e q = false_true e
busy (ok (owner_in_replied h r) k) e q = false_true q

-- with nothing on NoC2 and NoC3 a tile of which nothing is asked can be taken, or has nothing on NoC1 and does not wait
still : {ws : Words} {p : Waiting} {rel : Relation} {mark : Bool} {x : Tile} → TileOk ws p rel none none mark x → is_empty (noc2 x) ≡ true → is_empty (noc3 x) ≡ true → eligible mark x ≡ false → (noc1 x ≡ empty) × (is_waiting (waiting_of x) ≡ false)
unfolding noc1 noc2 noc3 is_empty is_waiting waiting_of eligible
still (ok stranger_plain resting) e q z = (refl, refl)
still (ok stranger_plain load_queued) e q z = false_true (sym z)
still (ok stranger_plain (store_queued k)) e q z = false_true (sym z)
still (ok stranger_in resting) e q z = false_true (sym z)
still (ok stranger_in load_queued) e q z = false_true (sym z)
still (ok stranger_in (store_queued k)) e q z = false_true (sym z)
still (ok (sharer_plain not_asked c s) resting) e q z = (refl, refl)
still (ok (sharer_plain not_asked c s) load_queued) e q z = false_true (sym z)
still (ok (sharer_plain not_asked c s) (store_queued k)) e q z = false_true (sym z)
still (ok (sharer_plain not_asked c s) shared_granted) e q z = false_true e
still (ok (sharer_plain not_asked c s) exclusive_granted) e q z = false_true e
still (ok (sharer_plain not_asked c s) (modified_granted k)) e q z = false_true e
still (ok (owner_plain not_asked o) resting) e q z = (refl, refl)
still (ok (owner_plain not_asked o) load_queued) e q z = false_true (sym z)
still (ok (owner_plain not_asked o) (store_queued k)) e q z = false_true (sym z)
still (ok (owner_plain not_asked o) shared_granted) e q z = false_true e
still (ok (owner_plain not_asked o) exclusive_granted) e q z = false_true e
still (ok (owner_plain not_asked o) (modified_granted k)) e q z = false_true e
still (ok (owner_out not_asked) k) e q z = false_true q

-- ---- the tiles that a home waits for

asked_busy : {A : Type 0} {ws : Words} {q : ℕ → Waiting} {k o t : ℕ} {d : Bool} {us : Words} {c : Cause} {x : Tile} → o ≡ t → At ws q k (Sees (awaiting_owner d us o c)) t x → is_empty (noc2 x) ≡ true → is_empty (noc3 x) ≡ true → A
asked_busy e (at (asked_owner a) m o) = busy o
asked_busy e (at (requester ne) m o) = absurd (ne e)
asked_busy e (at (bystander ne a) m o) = absurd (ne e)

owed_busy : {A : Type 0} {ws : Words} {q : ℕ → Waiting} {k t m owed : ℕ} {d : Bool} {us : Words} {c : Clearing} {x : Tile} → has owed t ≡ true → At ws q k (Sees (awaiting_acks d us m owed c)) t x → is_empty (noc2 x) ≡ true → is_empty (noc3 x) ≡ true → A
owed_busy h (at (owing e) m o) = busy o
owed_busy h (at (storer e i) m o) = clash h e
owed_busy h (at (cleared_out e a) m o) = clash h e

-- ---- the bench

module _ (ws : Words) (q : ℕ → Waiting) (n : ℕ) (h : Home) (l k : ℕ) (mem : Words) (out : Queue ToMemory) (back : Queue FromMemory) (ts : List Tile) (i : Inv ws q n (bench_of h l k mem out back ts)) where
  to_accepted : (t : ℕ) → not (is_empty (noc2 (tile_at ts t))) ≡ true → can_be_accepted rules (to_tile t) (bench_of h l k mem out back ts) ≡ true
  unfolding can_be_accepted step at_tile is_empty noc2
  to_accepted t e =
      let lt : t < length ts = there (λ x. not (is_empty (noc2 x))) ts t refl e in
      ready_accepted (if_true Ready _ _ (lt-ltb t (length ts) lt) (deliver_ready t (bench_of h l k mem out back ts) (tile_at ts t) (not-true _ e))) (step_fine (to_tile t) i)

  from_accepted : (t : ℕ) → not (is_empty (noc3 (tile_at ts t))) ≡ true → can_be_accepted rules (from_tile t) (bench_of h l k mem out back ts) ≡ true
  unfolding can_be_accepted step from_tile_on is_empty noc3
  from_accepted t e =
      let lt : t < length ts = there (λ x. not (is_empty (noc3 x))) ts t refl e in
      ready_accepted (if_true Ready _ _ (lt-ltb t (length ts) lt) (front_ready t (noc3 (tile_at ts t)) h l k mem out back (set ts t (pop_noc3 (tile_at ts t))) (not-true _ e))) (step_fine (from_tile t) i)

-- what `next` can do where messages are under way to or from memory
step_accepted : {ws : Words} {q : ℕ → Waiting} {n l k : ℕ} {h : Home} {mem : Words} {m : ToMemory} {back : Queue FromMemory} {ts : List Tile} → Inv ws q n (bench_of h l k mem (one m) back ts) → can_be_accepted rules memory_step (bench_of h l k mem (one m) back ts) ≡ true
unfolding can_be_accepted step memory_step_on memory_serves front
step_accepted {m = load_mem} i = ready_accepted (posted_ready 3 0 _ _) (step_fine memory_step i)
step_accepted {m = store_mem ws} i = ready_accepted (posted_ready 3 0 _ _) (step_fine memory_step i)

ack_accepted : {ws : Words} {q : ℕ → Waiting} {n l k : ℕ} {h : Home} {mem : Words} {m : FromMemory} {out : Queue ToMemory} {ts : List Tile} → Inv ws q n (bench_of h l k mem out (one m) ts) → can_be_accepted rules memory_ack (bench_of h l k mem out (one m) ts) ≡ true
unfolding can_be_accepted step memory_ack_on accept_ack front rest
ack_accepted {l} {k} {h} {mem} {m} {out} {ts} i = ready_accepted (moved_ready (acknowledged m h) l k mem out empty ts) (step_fine memory_ack i)

taking_accepted : {ws : Words} {q : ℕ → Waiting} {n l k : ℕ} {x : Line} {mem : Words} {ts : List Tile} (t : ℕ) → Inv ws q n (bench_of (idle x) l k mem empty empty ts) → arbitrate l k ts ≡ some t → can_be_accepted rules taking (bench_of (idle x) l k mem empty empty ts) ≡ true
unfolding can_be_accepted step taking_on take_chosen arbitrate
taking_accepted {l} {k} {x} {mem} {ts} t i e =
    ready_accepted
    (subst (λ (o : Option ℕ). Ready (take_chosen o x k mem empty empty ts)) (sym e)
    (take_ready t (has k t) (tile_at ts t) x k mem empty empty (set ts t (pop_noc1 (tile_at ts t))) (first_passes (λ u. eligible (has k u) (tile_at ts u)) _ t e)))
    (step_fine taking i)

-- a tile with empty queues that does not wait
record Idle (x : Tile) : Type 0 where
  on1 : noc1 x ≡ empty
  on2 : noc2 x ≡ empty
  on3 : noc3 x ≡ empty
  waits : is_waiting (waiting_of x) ≡ false

fresh_idle : Idle fresh_tile
unfolding noc1 noc2 noc3 is_waiting waiting_of
fresh_idle = record { on1 = refl; on2 = refl; on3 = refl; waits = refl }

-- all is quiet, and no tile waits
abbrev pub Settled : Bench → Type 0
Settled b = Quiet b × ((t : ℕ) → is_waiting (waiting_of (tile_at (tiles_of b) t)) ≡ false)

-- no message on the way to or from a tile
abbrev Nowhere : List Tile → Type 0
Nowhere ts = (t : ℕ) → t < length ts → (is_empty (noc2 (tile_at ts t)) ≡ true) × (is_empty (noc3 (tile_at ts t)) ≡ true)

idle_settled : {ws : Words} {q : ℕ → Waiting} {n l k : ℕ} {x : Line} {mem : Words} {ts : List Tile} → Inv ws q n (bench_of (idle x) l k mem empty empty ts) → length ts ≡ n → All ws q n k (Sees (idle x)) ts → Nowhere ts
    → can_be_accepted rules taking (bench_of (idle x) l k mem empty empty ts) ≡ false → Settled (bench_of (idle x) l k mem empty empty ts)
unfolding arbitrate tiles_of
idle_settled {ws} {q} {n} {l} {k} {x} {mem} {ts} i len all none-under-way refusal = go (arbitrate l k ts) refl
  where
    each : first_of (λ t. eligible (has k t) (tile_at ts t)) (circle l (length ts)) ≡ none → (t : ℕ) → t < length ts → At ws q k (Sees (idle x)) t (tile_at ts t) → Idle (tile_at ts t)
    each e t lt (at s m o) =
        let y = none-under-way t lt in
        let z = still (at_rest s o).1 y.0 y.1 (subst (λ (b : Bool). eligible b (tile_at ts t) ≡ false) m (circle_none (λ u. eligible (has k u) (tile_at ts u)) l (length ts) t e lt)) in
        record { on1 = z.0; on2 = empty_queue _ y.0; on3 = empty_queue _ y.1; waits = z.1 }

    go : (o : Option ℕ) → arbitrate l k ts ≡ o → Settled (bench_of (idle x) l k mem empty empty ts)
    go (some t) e = clash (taking_accepted t i e) refusal
    go none e =
        let f : (t : ℕ) → Idle (tile_at ts t) = everywhere (λ t. Idle) ts (λ t. fresh_idle) (λ t lt. each e t lt (all t (omega arith))) in
        (record { idle_home = (x, l, k, mem, ts, refl); empty_noc1 = λ t. (f t).on1; empty_noc2 = λ t. (f t).on2; empty_noc3 = λ t. (f t).on3 }, λ t. (f t).waits)

-- with nothing under way at the tiles, it is the home's turn
home_settled : {ws : Words} {q : ℕ → Waiting} {n : ℕ} {h : Home} {l k : ℕ} {mem : Words} {out : Queue ToMemory} {back : Queue FromMemory} {ts : List Tile} → Inv ws q n (bench_of h l k mem out back ts) → length ts ≡ n → HomeOk n mem ws h out back → All ws q n k (Sees h) ts → Nowhere ts
    → can_be_accepted rules (memory_delivery (is_empty out) (is_empty back)) (bench_of h l k mem out back ts) ≡ false → Settled (bench_of h l k mem out back ts)
unfolding memory_delivery is_empty
home_settled i len (idle_ok x) all w e = idle_settled i len all w e
home_settled i len (load_out me lt) all w e = clash (step_accepted i) e
home_settled i len (load_back me lt) all w e = clash (ack_accepted i) e
home_settled i len (owner_ok {o} cl lt c) all w e = let q = w o (omega arith) in asked_busy refl (all o lt) q.0 q.1
home_settled {n} i len (acks_ok {owed} cl lo ne sub c) all w e =
    let z = member n owed lo ne in
    let q = w z.0 (subst (λ (j : ℕ). z.0 < j) (sym len) z.1) in
    owed_busy z.2 (all z.0 z.1) q.0 q.1
home_settled i len store_out all w e = clash (step_accepted i) e
home_settled i len (store_back me) all w e = clash (ack_accepted i) e

pub settled : {ws : Words} {q : ℕ → Waiting} {n : ℕ} {b : Bench} → Inv ws q n b → can_be_accepted rules (next_delivery b) b ≡ false → Settled b
unfolding next_delivery to_delivery from_delivery
settled {ws} {q = f} {n} (inv {h} {l} {k} {mem} {out} {back} {ts} len hok all) refusal =
    go (first_of (λ t. not (is_empty (noc2 (tile_at ts t)))) (range 0 (length ts))) refl (first_of (λ t. not (is_empty (noc3 (tile_at ts t)))) (range 0 (length ts))) refl refusal
  where
    i : Inv ws f n (bench_of h l k mem out back ts)
    i = inv len hok all

    go : (o : Option ℕ) → first_of (λ t. not (is_empty (noc2 (tile_at ts t)))) (range 0 (length ts)) ≡ o
        → (p : Option ℕ) → first_of (λ t. not (is_empty (noc3 (tile_at ts t)))) (range 0 (length ts)) ≡ p
        → can_be_accepted rules (to_delivery o p (is_empty out) (is_empty back)) (bench_of h l k mem out back ts) ≡ false → Settled (bench_of h l k mem out back ts)
    go (some t) e p q z = clash (to_accepted ws f n h l k mem out back ts i t (first_passes (λ u. not (is_empty (noc2 (tile_at ts u)))) _ t e)) z
    go none e (some t) q z = clash (from_accepted ws f n h l k mem out back ts i t (first_passes (λ u. not (is_empty (noc3 (tile_at ts u)))) _ t q)) z
    go none e none q z =
        home_settled i len hok all
        (λ t lt. (
          not-false _ (range_none (λ u. not (is_empty (noc2 (tile_at ts u)))) (length ts) t e lt),
          not-false _ (range_none (λ u. not (is_empty (noc3 (tile_at ts u)))) (length ts) t q lt),
        ))
        z

-- `next_delivery` is a delivery
pub next_delivery_lem : (b : Bench) → is_delivery (next_delivery b) ≡ true
unfolding next_delivery
next_delivery_lem (bench_of h l k mem out back ts) =
    to (first_of (λ t. not (is_empty (noc2 (tile_at ts t)))) (range 0 (length ts))) (first_of (λ t. not (is_empty (noc3 (tile_at ts t)))) (range 0 (length ts))) (is_empty out) (is_empty back)
  where
    to : (o p : Option ℕ) (x y : Bool) → is_delivery (to_delivery o p x y) ≡ true
    to (some t) p x y = unfold is_delivery to_delivery in refl
    to none (some t) x y = unfold is_delivery to_delivery from_delivery in refl
    to none none false y = unfold is_delivery to_delivery from_delivery memory_delivery in refl
    to none none true false = unfold is_delivery to_delivery from_delivery memory_delivery in refl
    to none none true true = unfold is_delivery to_delivery from_delivery memory_delivery in refl
