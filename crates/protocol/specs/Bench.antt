-- Document 01, 'The bench': each call on a whole bench, with its refusals 2 to 9 in their order, its answer, and the messages
-- that it sends.
use Rattle.std.specs.Prelude.{ℕ, suc, ◌-◌, Bool, cond, true, false, List, [], ◌∷◌, ◌++◌, ltb, length, get_or, set, replicate}
use Rattle.std.proofs.Math.Option.{Option, some, none, map}
use Rattle.masks.specs.Mask.{has, add, del}
use Rattle.numbers.specs.Kinds.{kind_other, kind_sent}
use Rattle.numbers.specs.Limits.{words_in_line}
use Rattle.numbers.specs.Refusals.{no_tile_refusal, no_word_refusal, no_line_refusal, not_idle_refusal, nothing_there_refusal, misfit_refusal, queue_full_refusal}
use Rattle.protocol.specs.Parts.{Words, Queue, empty, one, two, reading, writing, invalid, nothing, Request, load_req, store_req, wb_guard_req, Forward, Reply, wb_req, load_fwd_ack_s, load_fwd_ack_i, store_fwd_ack, inv_fwd_ack, ToMemory, load_mem, store_mem, FromMemory, load_mem_ack, store_mem_ack, Message, on_noc1, on_noc2, on_noc3, to_memory, from_memory, Tile, tile_of, Line, absent, present, Home, idle, awaiting_load, awaiting_owner, awaiting_acks, awaiting_store, Bench, bench_of, Call, load, store, evict, taking, to_tile, from_tile, memory_step, memory_ack, home_eviction, Result, refused, accepted, task, storing}
use Rattle.protocol.specs.Tile.{load_at, store_at, evict_at, deliver_to}
use Rattle.protocol.specs.Home.{Move, move, range, serve, write_back, load_ack_s, load_ack_i, store_ack, inv_ack, acknowledged, evict_line}

-- Fresh: given memory words, all tiles I and none waiting, nothing valid, directory I, no mark, home idle, every queue empty,
-- last taken T-1.
abbrev pub fresh_tile : Tile
fresh_tile = tile_of invalid nothing empty empty empty

unfoldable pub fresh : ℕ → Words → Bench
fresh n mem = bench_of (idle absent) (n - 1) 0 mem empty empty (replicate n fresh_tile)

-- tile t of a list of tiles
abbrev pub tile_at : List Tile → ℕ → Tile
tile_at ts t = get_or ts t fresh_tile

-- and its queues
unfoldable pub noc1 : Tile → Queue Request
noc1 (tile_of c p q1 q2 q3) = q1

unfoldable pub noc2 : Tile → Queue Forward
noc2 (tile_of c p q1 q2 q3) = q2

unfoldable pub noc3 : Tile → Queue Reply
noc3 (tile_of c p q1 q2 q3) = q3

-- Queues are first in, first out, and hold at most two: `none` where there is no room.
unfoldable pub push : {A : Type 0} → A → Queue A → Option (Queue A)
push a empty = some (one a)
push a (one b) = some (two b a)
push a (two b c) = none

unfoldable pub front : {A : Type 0} → Queue A → Option A
front empty = none
front (one a) = some a
front (two a b) = some a

unfoldable pub rest : {A : Type 0} → Queue A → Queue A
rest empty = empty
rest (one a) = empty
rest (two a b) = one b

-- one message put on its queue
unfoldable pub on_tile1 : Request → Tile → Option Tile
on_tile1 m (tile_of c p q1 q2 q3) = map (λ q. tile_of c p q q2 q3) (push m q1)

unfoldable pub on_tile2 : Forward → Tile → Option Tile
on_tile2 m (tile_of c p q1 q2 q3) = map (λ q. tile_of c p q1 q q3) (push m q2)

unfoldable pub on_tile3 : Reply → Tile → Option Tile
on_tile3 m (tile_of c p q1 q2 q3) = map (λ q. tile_of c p q1 q2 q) (push m q3)

unfoldable pub send_one : Message → Bench → Option Bench
send_one (on_noc1 t m) (bench_of h l k mem out back ts) = map (λ x. bench_of h l k mem out back (set ts t x)) (on_tile1 m (tile_at ts t))
send_one (on_noc2 t m) (bench_of h l k mem out back ts) = map (λ x. bench_of h l k mem out back (set ts t x)) (on_tile2 m (tile_at ts t))
send_one (on_noc3 t m) (bench_of h l k mem out back ts) = map (λ x. bench_of h l k mem out back (set ts t x)) (on_tile3 m (tile_at ts t))
send_one (to_memory m) (bench_of h l k mem out back ts) = map (λ q. bench_of h l k mem q back ts) (push m out)
send_one (from_memory m) (bench_of h l k mem out back ts) = map (λ q. bench_of h l k mem out q ts) (push m back)

-- all messages of a step, in order
unfoldable pub send_to : Message → Option Bench → Option Bench
send_to m none = none
send_to m (some b) = send_one m b

unfoldable pub send : List Message → Option Bench → Option Bench
send [] o = o
send (m ∷ ms) o = send ms (send_to m o)

-- 9: a queue that must take a message holds two
unfoldable pub outcome : ℕ → ℕ → List Message → Option Bench → Result Bench
outcome k v ms none = refused queue_full_refusal
outcome k v ms (some b) = accepted k v b ms

unfoldable pub posted : ℕ → ℕ → List Message → Bench → Result Bench
posted k v ms b = outcome k v ms (send ms (some b))

-- kind 3 message sent, 0 otherwise
unfoldable pub kind_of : List Message → ℕ
kind_of [] = kind_other
kind_of (m ∷ ms) = kind_sent

-- a tile's rule at tile t: 2, tile number T or above
unfoldable pub settle : ℕ → Bench → Result Tile → Result Bench
settle t b (refused n) = refused n
settle t (bench_of h l k mem out back ts) (accepted kd v x ms) = posted kd v ms (bench_of h l k mem out back (set ts t x))

unfoldable pub at_tile : ℕ → (Tile → Result Tile) → Bench → Result Bench
at_tile t f (bench_of h l k mem out back ts) = cond (ltb t (length ts)) (settle t (bench_of h l k mem out back ts) (f (tile_at ts t))) (refused no_tile_refusal)

-- 3, word 8 or above
unfoldable pub at_word : ℕ → Result Tile → Result Tile
at_word w r = cond (ltb w words_in_line) r (refused no_word_refusal)

-- Taking. In circle order after the last taken l, the first of n tiles ..
unfoldable pub circle : ℕ → ℕ → List ℕ
circle l n = range (suc l) (n - suc l) ++ range 0 (suc l)

unfoldable pub first_of : (ℕ → Bool) → List ℕ → Option ℕ
first_of f [] = none
first_of f (t ∷ ts) = cond (f t) (some t) (first_of f ts)

-- .. whose NoC1 front is a request, or a guard with its mark set
unfoldable pub eligible : Bool → Tile → Bool
eligible mark (tile_of c p empty q2 q3) = false
eligible mark (tile_of c p (one (load_req w)) q2 q3) = true
eligible mark (tile_of c p (one (store_req w)) q2 q3) = true
eligible mark (tile_of c p (one wb_guard_req) q2 q3) = mark
eligible mark (tile_of c p (two (load_req w) m) q2 q3) = true
eligible mark (tile_of c p (two (store_req w) m) q2 q3) = true
eligible mark (tile_of c p (two wb_guard_req m) q2 q3) = mark

unfoldable pub arbitrate : ℕ → ℕ → List Tile → Option ℕ
arbitrate l k ts = first_of (λ t. eligible (has k t) (tile_at ts t)) (circle l (length ts))

unfoldable pub pop_noc1 : Tile → Tile
pop_noc1 (tile_of c p q1 q2 q3) = tile_of c p (rest q1) q2 q3

-- A guard is removed and the mark cleared. A request is served. Either way its tile becomes the last taken.
unfoldable pub served : ℕ → Move → ℕ → Words → Queue ToMemory → Queue FromMemory → List Tile → Result Bench
served t (move h ms) k mem out back ts = posted (kind_of ms) t ms (bench_of h t k mem out back ts)

unfoldable pub take_front : ℕ → Option Request → Line → ℕ → Words → Queue ToMemory → Queue FromMemory → List Tile → Result Bench
take_front t none x k mem out back ts = refused nothing_there_refusal
take_front t (some wb_guard_req) x k mem out back ts = accepted kind_other t (bench_of (idle x) t (del k t) mem out back ts) []
take_front t (some (load_req w)) x k mem out back ts = served t (serve (length ts) (task t reading) x) k mem out back ts
take_front t (some (store_req w)) x k mem out back ts = served t (serve (length ts) (task t (writing storing)) x) k mem out back ts

unfoldable pub take_chosen : Option ℕ → Line → ℕ → Words → Queue ToMemory → Queue FromMemory → List Tile → Result Bench
take_chosen none x k mem out back ts = refused nothing_there_refusal
take_chosen (some t) x k mem out back ts = take_front t (front (noc1 (tile_at ts t))) x k mem out back (set ts t (pop_noc1 (tile_at ts t)))

unfoldable pub taking_on : Bench → Result Bench
taking_on (bench_of (idle x) l k mem out back ts) = take_chosen (arbitrate l k ts) x k mem out back ts
taking_on (bench_of (awaiting_load r x) l k mem out back ts) = refused not_idle_refusal
taking_on (bench_of (awaiting_owner d ws o c) l k mem out back ts) = refused not_idle_refusal
taking_on (bench_of (awaiting_acks d ws m owed c) l k mem out back ts) = refused not_idle_refusal
taking_on (bench_of (awaiting_store x) l k mem out back ts) = refused not_idle_refusal

-- Delivery from tile t, whose NoC3 front is m: 8 where it does not fit.
unfoldable pub pop_noc3 : Tile → Tile
pop_noc3 (tile_of c p q1 q2 q3) = tile_of c p q1 q2 (rest q3)

-- a write-back sets the mark, and sends nothing
unfoldable pub written_back : ℕ → Option Home → ℕ → ℕ → Words → Queue ToMemory → Queue FromMemory → List Tile → Result Bench
written_back t none l k mem out back ts = refused misfit_refusal
written_back t (some h) l k mem out back ts = accepted kind_other 0 (bench_of h l (add k t) mem out back ts) []

unfoldable pub fitted : Option Move → ℕ → ℕ → Words → Queue ToMemory → Queue FromMemory → List Tile → Result Bench
fitted none l k mem out back ts = refused misfit_refusal
fitted (some (move h ms)) l k mem out back ts = posted (kind_of ms) 0 ms (bench_of h l k mem out back ts)

unfoldable pub accept_reply : ℕ → Option Reply → Home → ℕ → ℕ → Words → Queue ToMemory → Queue FromMemory → List Tile → Result Bench
accept_reply t none h l k mem out back ts = refused nothing_there_refusal
accept_reply t (some (wb_req ws)) h l k mem out back ts = written_back t (write_back t ws (has k t) h) l k mem out back ts
accept_reply t (some (load_fwd_ack_s x)) h l k mem out back ts = fitted (load_ack_s t x h) l k mem out back ts
accept_reply t (some load_fwd_ack_i) h l k mem out back ts = fitted (load_ack_i t h) l k mem out back ts
accept_reply t (some (store_fwd_ack x)) h l k mem out back ts = fitted (store_ack t x h) l k mem out back ts
accept_reply t (some inv_fwd_ack) h l k mem out back ts = fitted (inv_ack t h) l k mem out back ts

unfoldable pub from_tile_on : ℕ → Bench → Result Bench
from_tile_on t (bench_of h l k mem out back ts) =
    cond (ltb t (length ts)) (accept_reply t (front (noc3 (tile_at ts t))) h l k mem out back (set ts t (pop_noc3 (tile_at ts t)))) (refused no_tile_refusal)

-- Memory step. Serves its front: LOAD_MEM reads, STORE_MEM replaces; each is acknowledged.
unfoldable pub memory_serves : Option ToMemory → Home → ℕ → ℕ → Words → Queue ToMemory → Queue FromMemory → List Tile → Result Bench
memory_serves none h l k mem out back ts = refused nothing_there_refusal
memory_serves (some load_mem) h l k mem out back ts = posted kind_sent 0 (from_memory (load_mem_ack mem) ∷ []) (bench_of h l k mem out back ts)
memory_serves (some (store_mem ws)) h l k mem out back ts = posted kind_sent 0 (from_memory store_mem_ack ∷ []) (bench_of h l k ws out back ts)

unfoldable pub memory_step_on : Bench → Result Bench
memory_step_on (bench_of h l k mem out back ts) = memory_serves (front out) h l k mem (rest out) back ts

-- Memory ack.
unfoldable pub accept_ack : Option FromMemory → Home → ℕ → ℕ → Words → Queue ToMemory → Queue FromMemory → List Tile → Result Bench
accept_ack none h l k mem out back ts = refused nothing_there_refusal
accept_ack (some m) h l k mem out back ts = fitted (acknowledged m h) l k mem out back ts

unfoldable pub memory_ack_on : Bench → Result Bench
memory_ack_on (bench_of h l k mem out back ts) = accept_ack (front back) h l k mem out (rest back) ts

-- Home eviction: 6 is tested before 5.
unfoldable pub home_eviction_on : Bench → Result Bench
home_eviction_on (bench_of (idle absent) l k mem out back ts) = refused no_line_refusal
home_eviction_on (bench_of (idle (present d ws x)) l k mem out back ts) = fitted (some (evict_line (length ts) d ws x)) l k mem out back ts
home_eviction_on (bench_of (awaiting_load r x) l k mem out back ts) = refused not_idle_refusal
home_eviction_on (bench_of (awaiting_owner d ws o c) l k mem out back ts) = refused not_idle_refusal
home_eviction_on (bench_of (awaiting_acks d ws m owed c) l k mem out back ts) = refused not_idle_refusal
home_eviction_on (bench_of (awaiting_store x) l k mem out back ts) = refused not_idle_refusal

-- every call
unfoldable pub step : Call → Bench → Result Bench
step (load t w) b = at_tile t (λ x. at_word w (load_at t w x)) b
step (store t w v) b = at_tile t (λ x. at_word w (store_at t w v x)) b
step (evict t) b = at_tile t (λ x. evict_at t x) b
step taking b = taking_on b
step (to_tile t) b = at_tile t (λ x. deliver_to t x) b
step (from_tile t) b = from_tile_on t b
step memory_step b = memory_step_on b
step memory_ack b = memory_ack_on b
step home_eviction b = home_eviction_on b
