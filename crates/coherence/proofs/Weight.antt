-- The measure of a bench: what is still under way, weighed so that each accepted delivery lowers it.
use Prim.Native.Nat.{ℕ, ◌+◌, ◌*◌}
use mathlib.Core.List.{List, [], ◌∷◌}
use lib.ListN.{length}
use Rattle.protocol.specs.Parts.{Queue, empty, one, two, Request, load_req, store_req, wb_guard_req, Forward, load_fwd, store_fwd, inv_fwd, data_ack, Reply, ToMemory, FromMemory, Tile, tile_of, Cause, request, eviction, Clearing, clear_for, clear_for_eviction, Home, idle, awaiting_load, awaiting_owner, awaiting_acks, awaiting_store, Bench, bench_of, task}

-- a queue, by the weight of a message
unfoldable pub queue_weight : {A : Type 0} → (A → ℕ) → Queue A → ℕ
queue_weight f empty = 0
queue_weight f (one a) = f a
queue_weight f (two a b) = f a + f b

-- NoC1, on a bench of n tiles: serving a request may send two messages' worth to every tile
unfoldable pub request_weight : ℕ → Request → ℕ
request_weight n (load_req w) = 2 * n + 2
request_weight n (store_req w) = 2 * n + 2
request_weight n wb_guard_req = 1

-- NoC2: a forward or an invalidation is answered
unfoldable pub forward_weight : Forward → ℕ
forward_weight load_fwd = 2
forward_weight store_fwd = 2
forward_weight inv_fwd = 2
forward_weight (data_ack r miss ws) = 1

-- NoC3
unfoldable pub reply_weight : Reply → ℕ
reply_weight m = 1

-- to memory, which answers; from memory
unfoldable pub out_weight : ToMemory → ℕ
out_weight m = 2

unfoldable pub back_weight : FromMemory → ℕ
back_weight m = 1

unfoldable pub tile_weight : ℕ → Tile → ℕ
tile_weight n (tile_of c p q1 q2 q3) = queue_weight (request_weight n) q1 + queue_weight forward_weight q2 + queue_weight reply_weight q3

unfoldable pub tiles_weight : ℕ → List Tile → ℕ
tiles_weight n [] = 0
tiles_weight n (x ∷ xs) = tile_weight n x + tiles_weight n xs

-- what the home has still to send: a grant, or STORE_MEM
unfoldable pub cause_weight : Cause → ℕ
cause_weight (request (task t a)) = 1
cause_weight eviction = 2

unfoldable pub clearing_weight : Clearing → ℕ
clearing_weight (clear_for (task t b)) = 1
clearing_weight clear_for_eviction = 2

unfoldable pub home_weight : Home → ℕ
home_weight (idle x) = 0
home_weight (awaiting_load t x) = 1
home_weight (awaiting_owner d ws o c) = cause_weight c
home_weight (awaiting_acks d ws m owed c) = clearing_weight c
home_weight (awaiting_store x) = 0

unfoldable pub measure : Bench → ℕ
measure (bench_of h l k mem out back ts) = home_weight h + queue_weight out_weight out + queue_weight back_weight back + tiles_weight (length ts) ts
