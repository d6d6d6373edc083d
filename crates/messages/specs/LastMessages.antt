-- A device of the proofs: no public promise rests on it alone. The messages that a call sent, read out of the bench after it: each is the
-- last on its queue.
use Rattle.std.specs.Prelude.{◌≡◌, ℕ, ◌≤◌, ◌<◌, cond, List, [], ◌∷◌, map, eqb, length}
use Rattle.std.proofs.Math.Option
use Rattle.std.proofs.Math.Option.{Option, some, none}
use Rattle.numbers.specs.Limits.{most_tiles}
use Rattle.numbers.specs.Queues.{noc1_queue, noc2_queue, noc3_queue, to_memory_queue, from_memory_queue}
use Rattle.protocol.specs.Parts.{Queue, empty, one, two, Message, on_noc1, on_noc2, on_noc3, to_memory, from_memory, uncached, shared_by, owned_by, Line, absent, present, request, eviction, clear_for, clear_for_eviction, Home, idle, awaiting_load, awaiting_owner, awaiting_acks, awaiting_store, Bench, bench_of, task}
use Rattle.protocol.specs.Bench.{tile_at, noc1, noc2, noc3}
use Rattle.protocol.specs.Answers.{sent_on, sent_to}
use Rattle.layout.specs.declared.queues.BenchQueue.{BenchQueue}
use Rattle.messages.specs.Queues.{bench_queue, sent_queues}

-- the last message of a queue
unfoldable pub last_of : {A : Type 0} → Queue A → Option A
last_of empty = none
last_of (one a) = some a
last_of (two a b) = some b

-- the last message of a queue of a bench
unfoldable pub last_message_on : Bench → BenchQueue → Option Message
last_message_on (bench_of h l k mem out back ts) p =
    cond (eqb p.queue noc1_queue) (Option.map (on_noc1 p.tile) (last_of (noc1 (tile_at ts p.tile))))
    (cond (eqb p.queue noc2_queue) (Option.map (on_noc2 p.tile) (last_of (noc2 (tile_at ts p.tile))))
    (cond (eqb p.queue noc3_queue) (Option.map (on_noc3 p.tile) (last_of (noc3 (tile_at ts p.tile))))
    (cond (eqb p.queue to_memory_queue) (Option.map to_memory (last_of out)) (cond (eqb p.queue from_memory_queue) (Option.map from_memory (last_of back)) none))))

-- the queue that takes a message
unfoldable pub queue_of_message : Message → BenchQueue
queue_of_message (on_noc1 t m) = bench_queue noc1_queue t
queue_of_message (on_noc2 t m) = bench_queue noc2_queue t
queue_of_message (on_noc3 t m) = bench_queue noc3_queue t
queue_of_message (to_memory m) = bench_queue to_memory_queue 0
queue_of_message (from_memory m) = bench_queue from_memory_queue 0

-- those that are there
unfoldable pub all_there : List (Option Message) → List Message
all_there [] = []
all_there (none ∷ ms) = all_there ms
all_there (some m ∷ ms) = m ∷ all_there ms

-- the messages of an answer: sent on s, to the tiles m
unfoldable pub sent_messages : ℕ → ℕ → Bench → List Message
sent_messages s m b = all_there (map (last_message_on b) (sent_queues s m))

-- The messages ms were sent on the queues that their two numbers give, in this order, and are the last on them in the bench b.
pub record There (ms : List Message) (b : Bench) : Type 0 where
  pub queues : sent_queues (sent_on ms) (sent_to ms) ≡ map queue_of_message ms
  pub last : map (last_message_on b) (sent_queues (sent_on ms) (sent_to ms)) ≡ map some ms

-- The tiles to which the home may send are tiles of a bench of n: the owner that it may ask, the requester that it may grant.
abbrev pub OwnerIn : ℕ → Line → Type 0
OwnerIn n absent = Unit {0}
OwnerIn n (present d ws uncached) = Unit {0}
OwnerIn n (present d ws (shared_by m)) = Unit {0}
OwnerIn n (present d ws (owned_by o)) = o < n

abbrev pub HomeNames : ℕ → Home → Type 0
HomeNames n (idle x) = OwnerIn n x
HomeNames n (awaiting_load (task r a) x) = r < n
HomeNames n (awaiting_owner d ws o (request (task r a))) = r < n
HomeNames n (awaiting_owner d ws o eviction) = Unit {0}
HomeNames n (awaiting_acks d ws m owed (clear_for (task r z))) = r < n
HomeNames n (awaiting_acks d ws m owed clear_for_eviction) = Unit {0}
HomeNames n (awaiting_store x) = Unit {0}

-- of a bench of at most 64 tiles
abbrev pub NamesTiles : Bench → Type 0
NamesTiles (bench_of h l k mem out back ts) = (length ts ≤ most_tiles) × HomeNames (length ts) h
