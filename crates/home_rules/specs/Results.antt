-- A device of the proofs: no public promise rests on it alone. The rules of the home without the tiles: each call gives the home, last taken, marks, memory and memory queues after it, and the
-- messages that it sends. What it sends to or from memory is on its queue already; what it sends to tiles is not.
use Rattle.std.specs.Prelude.{ℕ, ◌<◌, ◌^◌, ◌≡◌, List, [], ◌∷◌, map}
use Rattle.std.proofs.Math.Option
use Rattle.std.proofs.Math.Option.{Option, some, none}
use Rattle.masks.specs.Mask.{has, add, del, add64}
use Rattle.numbers.specs.Refusals.{no_refusal, no_line_refusal, not_idle_refusal, nothing_there_refusal, misfit_refusal, queue_full_refusal}
use Rattle.protocol.specs.Answers.{sent_on}
use Rattle.layout.specs.declared.rows.Row.{Row}
use Rattle.layout.specs.declared.rows.HomeBlock.{HomeBlock}
use Rattle.layout.specs.Encode.{no_row, enc_forward, enc_home}
use Rattle.protocol.specs.Parts.{Words, Queue, reading, writing, Request, load_req, store_req, wb_guard_req, Forward, Reply, wb_req, load_fwd_ack_s, load_fwd_ack_i, store_fwd_ack, inv_fwd_ack, ToMemory, load_mem, store_mem, FromMemory, load_mem_ack, store_mem_ack, Message, on_noc1, on_noc2, on_noc3, to_memory, from_memory, Tile, Line, absent, present, Home, idle, awaiting_load, awaiting_owner, awaiting_acks, awaiting_store, Bench, bench_of, Result, refused, task, storing}
use Rattle.protocol.specs.Home.{Move, move, members, serve, write_back, load_ack_s, load_ack_i, store_ack, inv_ack, acknowledged, evict_line}
use Rattle.protocol.specs.Bench.{push, front, rest, send_one, outcome, kind_of}
use Rattle.home_rules.specs.Steps.{HomeStep, step_of, refused_step}

-- a refusal number; or home, last taken, marks, memory, queues to and from memory, and messages sent
pub data HomeResult : Type 0 where
  home_refused : ℕ → HomeResult
  went : Home → ℕ → ℕ → Words → Queue ToMemory → Queue FromMemory → List Message → HomeResult

-- the queues to and from memory
pub data MemoryQueues : Type 0 where
  queues_of : Queue ToMemory → Queue FromMemory → MemoryQueues

-- messages to and from memory put on their queues: `none` where one holds two
unfoldable pub put_memory : Message → MemoryQueues → Option MemoryQueues
put_memory (on_noc1 t m) q = some q
put_memory (on_noc2 t m) q = some q
put_memory (on_noc3 t m) q = some q
put_memory (to_memory m) (queues_of out back) = Option.map (λ q. queues_of q back) (push m out)
put_memory (from_memory m) (queues_of out back) = Option.map (λ q. queues_of out q) (push m back)

unfoldable pub put_memory_to : Message → Option MemoryQueues → Option MemoryQueues
put_memory_to m none = none
put_memory_to m (some q) = put_memory m q

unfoldable pub put_memory_all : List Message → Option MemoryQueues → Option MemoryQueues
put_memory_all [] o = o
put_memory_all (m ∷ ms) o = put_memory_all ms (put_memory_to m o)

-- the other messages put on theirs
unfoldable pub forward_one : Message → Bench → Option Bench
forward_one (on_noc1 t m) b = send_one (on_noc1 t m) b
forward_one (on_noc2 t m) b = send_one (on_noc2 t m) b
forward_one (on_noc3 t m) b = send_one (on_noc3 t m) b
forward_one (to_memory m) b = some b
forward_one (from_memory m) b = some b

unfoldable pub forward_to : Message → Option Bench → Option Bench
forward_to m none = none
forward_to m (some b) = forward_one m b

unfoldable pub forward_all : List Message → Option Bench → Option Bench
forward_all [] o = o
forward_all (m ∷ ms) o = forward_all ms (forward_to m o)

-- the result with tiles ts and the answer's value v, once its messages to tiles are on their queues (9 where one holds two)
unfoldable pub spread : ℕ → HomeResult → List Tile → Result Bench
spread v (home_refused r) ts = refused r
spread v (went h l k mem out back ms) ts = outcome (kind_of ms) v ms (forward_all ms (some (bench_of h l k mem out back ts)))

-- a rule's move, its messages to and from memory put on their queues
unfoldable pub went_with : List Message → Option MemoryQueues → Home → ℕ → ℕ → Words → HomeResult
went_with ms none h l k mem = home_refused queue_full_refusal
went_with ms (some (queues_of out back)) h l k mem = went h l k mem out back ms

unfoldable pub moved_home : Move → ℕ → ℕ → Words → Queue ToMemory → Queue FromMemory → HomeResult
moved_home (move h ms) l k mem out back = went_with ms (put_memory_all ms (some (queues_of out back))) h l k mem

unfoldable pub fitting_home : Option Move → ℕ → ℕ → Words → Queue ToMemory → Queue FromMemory → HomeResult
fitting_home none l k mem out back = home_refused misfit_refusal
fitting_home (some m) l k mem out back = moved_home m l k mem out back

-- Taking of tile t, whose NoC1 front it is, by an idle home with line x, on a bench of n tiles.
unfoldable pub taken_home : ℕ → ℕ → Option Request → Line → ℕ → Words → Queue ToMemory → Queue FromMemory → HomeResult
taken_home n t none x k mem out back = home_refused nothing_there_refusal
taken_home n t (some wb_guard_req) x k mem out back = went (idle x) t (del k t) mem out back []
taken_home n t (some (load_req w)) x k mem out back = moved_home (serve n (task t reading) x) t k mem out back
taken_home n t (some (store_req w)) x k mem out back = moved_home (serve n (task t (writing storing)) x) t k mem out back

-- Delivery from tile t, whose NoC3 front it is.
unfoldable pub written_home : ℕ → Option Home → ℕ → ℕ → Words → Queue ToMemory → Queue FromMemory → HomeResult
written_home t none l k mem out back = home_refused misfit_refusal
written_home t (some h) l k mem out back = went h l (add k t) mem out back []

unfoldable pub accepted_home : ℕ → Option Reply → Home → ℕ → ℕ → Words → Queue ToMemory → Queue FromMemory → HomeResult
accepted_home t none h l k mem out back = home_refused nothing_there_refusal
accepted_home t (some (wb_req ws)) h l k mem out back = written_home t (write_back t ws (has k t) h) l k mem out back
accepted_home t (some (load_fwd_ack_s x)) h l k mem out back = fitting_home (load_ack_s t x h) l k mem out back
accepted_home t (some load_fwd_ack_i) h l k mem out back = fitting_home (load_ack_i t h) l k mem out back
accepted_home t (some (store_fwd_ack x)) h l k mem out back = fitting_home (store_ack t x h) l k mem out back
accepted_home t (some inv_fwd_ack) h l k mem out back = fitting_home (inv_ack t h) l k mem out back

-- Memory step, of the front of the queue to memory, whose rest is `out`.
unfoldable pub served_memory : Option ToMemory → Home → ℕ → ℕ → Words → Queue ToMemory → Queue FromMemory → HomeResult
served_memory none h l k mem out back = home_refused nothing_there_refusal
served_memory (some load_mem) h l k mem out back = moved_home (move h (from_memory (load_mem_ack mem) ∷ [])) l k mem out back
served_memory (some (store_mem ws)) h l k mem out back = moved_home (move h (from_memory store_mem_ack ∷ [])) l k ws out back

unfoldable pub stepped_home : Home → ℕ → ℕ → Words → Queue ToMemory → Queue FromMemory → HomeResult
stepped_home h l k mem out back = served_memory (front out) h l k mem (rest out) back

-- Memory ack, of the front of the queue from memory, whose rest is `back`.
unfoldable pub acked_front : Option FromMemory → Home → ℕ → ℕ → Words → Queue ToMemory → Queue FromMemory → HomeResult
acked_front none h l k mem out back = home_refused nothing_there_refusal
acked_front (some m) h l k mem out back = fitting_home (acknowledged m h) l k mem out back

unfoldable pub acked_home : Home → ℕ → ℕ → Words → Queue ToMemory → Queue FromMemory → HomeResult
acked_home h l k mem out back = acked_front (front back) h l k mem out (rest back)

-- Home eviction.
unfoldable pub evicted_home : ℕ → Home → ℕ → ℕ → Words → Queue ToMemory → Queue FromMemory → HomeResult
evicted_home n (idle absent) l k mem out back = home_refused no_line_refusal
evicted_home n (idle (present d ws x)) l k mem out back = moved_home (evict_line n d ws x) l k mem out back
evicted_home n (awaiting_load (task r a) x) l k mem out back = home_refused not_idle_refusal
evicted_home n (awaiting_owner d ws o c) l k mem out back = home_refused not_idle_refusal
evicted_home n (awaiting_acks d ws m u c) l k mem out back = home_refused not_idle_refusal
evicted_home n (awaiting_store x) l k mem out back = home_refused not_idle_refusal

-- The numbers of a result: on which queue it sent, the mask of the tiles on NoC2, and the message for them.
unfoldable pub targets : List Message → ℕ
targets [] = 0
targets (on_noc1 t m ∷ ms) = targets ms
targets (on_noc2 t m ∷ ms) = add64 (targets ms) t
targets (on_noc3 t m ∷ ms) = targets ms
targets (to_memory m ∷ ms) = targets ms
targets (from_memory m ∷ ms) = targets ms

unfoldable pub forward_row : List Message → Row
forward_row [] = no_row
forward_row (on_noc1 t m ∷ ms) = forward_row ms
forward_row (on_noc2 t m ∷ ms) = enc_forward m
forward_row (on_noc3 t m ∷ ms) = forward_row ms
forward_row (to_memory m ∷ ms) = forward_row ms
forward_row (from_memory m ∷ ms) = forward_row ms

-- of a step on the block x of a bench of n tiles
unfoldable pub enc_step : ℕ → HomeBlock → HomeResult → HomeStep
enc_step n x (home_refused r) = refused_step x r
enc_step n x (went h l k mem out back ms) = step_of no_refusal (kind_of ms) (enc_home n h l k mem out back) (sent_on ms) (targets ms) (forward_row ms)

-- the front of a queue, as its first row has it
unfoldable pub enc_front : {A : Type 0} → (A → Row) → Option A → Row
enc_front f none = no_row
enc_front f (some a) = f a

-- the message f for every tile of a mask, of n tiles, in rising order
unfoldable pub forwards_to : ℕ → ℕ → Forward → List Message
forwards_to n m f = map (λ t. on_noc2 t f) (members m n)

-- What a result sends: nothing; a message for every tile of a mask that is not empty; or one message to or from memory.
pub data Sends (n : ℕ) : HomeResult → Type 0 where
  refuses : (r : ℕ) → 0 < r → Sends n (home_refused r)
  silent : {h : Home} {l k : ℕ} {mem : Words} {out : Queue ToMemory} {back : Queue FromMemory} → Sends n (went h l k mem out back [])
  sends_forwards : {h : Home} {l k : ℕ} {mem : Words} {out : Queue ToMemory} {back : Queue FromMemory} → (m : ℕ) (f : Forward) → 0 < m → m < 2 ^ n → {ms : List Message} → ms ≡ forwards_to n m f → Sends n (went h l k mem out back ms)
  sends_to_memory : {h : Home} {l k : ℕ} {mem : Words} {out : Queue ToMemory} {back : Queue FromMemory} {m : ToMemory} → Sends n (went h l k mem out back (to_memory m ∷ []))
  sends_from_memory : {h : Home} {l k : ℕ} {mem : Words} {out : Queue ToMemory} {back : Queue FromMemory} {m : FromMemory} → Sends n (went h l k mem out back (from_memory m ∷ []))
