-- Each call of the rules on a whole bench is its meaning without the tiles, spread over them. Assumes nothing.
use Prim.Native.Nat.{ℕ}
use mathlib.Core.Path.{◌≡◌, refl, ap, sym, ◌∙◌}
use mathlib.Core.List.{List, [], ◌∷◌}
use mathlib.Core.Option.{Option, some, none, map}
use lib.ListN.{length, set}
use Rattle.masks.specs.Mask.{has}
use Rattle.protocol.specs.Parts.{Words, Queue, reading, writing, Request, load_req, store_req, wb_guard_req, Reply, wb_req, load_fwd_ack_s, load_fwd_ack_i, store_fwd_ack, inv_fwd_ack, ToMemory, load_mem, store_mem, FromMemory, load_mem_ack, store_mem_ack, Message, on_noc1, on_noc2, on_noc3, to_memory, from_memory, Tile, Line, absent, present, Home, idle, awaiting_load, awaiting_owner, awaiting_acks, awaiting_store, Bench, bench_of, task, storing}
use Rattle.protocol.specs.Home.{Move, move, serve, write_back, load_ack_s, load_ack_i, store_ack, inv_ack, acknowledged, evict_line}
use Rattle.protocol.specs.Bench.{tile_at, push, front, rest, on_tile1, on_tile2, on_tile3, send_one, send_to, send, outcome, posted, kind_of, served, take_front, written_back, fitted, accept_reply, memory_serves, memory_step_on, accept_ack, memory_ack_on, home_eviction_on}
use Rattle.home_rules.specs.Results.{MemoryQueues, queues_of, put_memory, put_memory_to, put_memory_all, forward_one, forward_to, forward_all, spread, went_with, moved_home, fitting_home, taken_home, written_home, accepted_home, served_memory, stepped_home, acked_front, acked_home, evicted_home}

send_none : (ms : List Message) → send ms none ≡ none
unfolding send send_to
send_none [] = refl
send_none (m ∷ ms) = send_none ms

forward_none : (ms : List Message) → forward_all ms none ≡ none
unfolding forward_all forward_to
forward_none [] = refl
forward_none (m ∷ ms) = forward_none ms

file_none : (ms : List Message) → put_memory_all ms none ≡ none
unfolding put_memory_all put_memory_to
file_none [] = refl
file_none (m ∷ ms) = file_none ms

-- f at the queues, if there are any
abbrev with_queues : (Queue ToMemory → Queue FromMemory → Option Bench) → Option MemoryQueues → Option Bench
with_queues f none = none
with_queues f (some (queues_of out back)) = f out back

-- all messages sent: those to memory first, then the forwards
module _ (h : Home) (l k : ℕ) (mem : Words) where
  at_tile : (ms : List Message) (out : Queue ToMemory) (back : Queue FromMemory) (ts : List Tile) (t : ℕ) (o : Option Tile) (q : Option MemoryQueues)
      → ((us : List Tile) → send ms (some (bench_of h l k mem out back us)) ≡ with_queues (λ x y. forward_all ms (some (bench_of h l k mem x y us))) q)
      → send ms (map (λ u. bench_of h l k mem out back (set ts t u)) o)
      ≡ with_queues (λ x y. forward_all ms (map (λ u. bench_of h l k mem x y (set ts t u)) o)) q
  at_tile ms out back ts t none none ih = send_none ms
  at_tile ms out back ts t none (some (queues_of x y)) ih = send_none ms ∙ sym (forward_none ms)
  at_tile ms out back ts t (some u) q ih = ih (set ts t u)

  to_out : (ms : List Message) (back : Queue FromMemory) (ts : List Tile) (o : Option (Queue ToMemory))
      → ((q : Queue ToMemory) → send ms (some (bench_of h l k mem q back ts)) ≡ with_queues (λ x y. forward_all ms (some (bench_of h l k mem x y ts))) (put_memory_all ms (some (queues_of q back))))
      → send ms (map (λ q. bench_of h l k mem q back ts) o)
      ≡ with_queues (λ x y. forward_all ms (some (bench_of h l k mem x y ts))) (put_memory_all ms (map (λ q. queues_of q back) o))
  to_out ms back ts none ih = send_none ms ∙ sym (ap (with_queues (λ x y. forward_all ms (some (bench_of h l k mem x y ts)))) (file_none ms))
  to_out ms back ts (some q) ih = ih q

  to_back : (ms : List Message) (out : Queue ToMemory) (ts : List Tile) (o : Option (Queue FromMemory))
      → ((q : Queue FromMemory) → send ms (some (bench_of h l k mem out q ts)) ≡ with_queues (λ x y. forward_all ms (some (bench_of h l k mem x y ts))) (put_memory_all ms (some (queues_of out q))))
      → send ms (map (λ q. bench_of h l k mem out q ts) o)
      ≡ with_queues (λ x y. forward_all ms (some (bench_of h l k mem x y ts))) (put_memory_all ms (map (λ q. queues_of out q) o))
  to_back ms out ts none ih = send_none ms ∙ sym (ap (with_queues (λ x y. forward_all ms (some (bench_of h l k mem x y ts)))) (file_none ms))
  to_back ms out ts (some q) ih = ih q

  in_parts : (ms : List Message) (out : Queue ToMemory) (back : Queue FromMemory) (ts : List Tile)
      → send ms (some (bench_of h l k mem out back ts)) ≡ with_queues (λ x y. forward_all ms (some (bench_of h l k mem x y ts))) (put_memory_all ms (some (queues_of out back)))
  unfolding send send_to send_one put_memory_all put_memory_to put_memory forward_all forward_to forward_one
  in_parts [] out back ts = refl
  in_parts (on_noc1 t m ∷ ms) out back ts = at_tile ms out back ts t (on_tile1 m (tile_at ts t)) (put_memory_all ms (some (queues_of out back))) (λ us. in_parts ms out back us)
  in_parts (on_noc2 t m ∷ ms) out back ts = at_tile ms out back ts t (on_tile2 m (tile_at ts t)) (put_memory_all ms (some (queues_of out back))) (λ us. in_parts ms out back us)
  in_parts (on_noc3 t m ∷ ms) out back ts = at_tile ms out back ts t (on_tile3 m (tile_at ts t)) (put_memory_all ms (some (queues_of out back))) (λ us. in_parts ms out back us)
  in_parts (to_memory m ∷ ms) out back ts = to_out ms back ts (push m out) (λ q. in_parts ms q back ts)
  in_parts (from_memory m ∷ ms) out back ts = to_back ms out ts (push m back) (λ q. in_parts ms out q ts)

  gone : (v : ℕ) (ms : List Message) (ts : List Tile) (q : Option MemoryQueues)
      → outcome (kind_of ms) v ms (with_queues (λ x y. forward_all ms (some (bench_of h l k mem x y ts))) q) ≡ spread v (went_with ms q h l k mem) ts
  unfolding outcome spread went_with
  gone v ms ts none = refl
  gone v ms ts (some (queues_of out back)) = refl

  posted_spread : (v : ℕ) (ms : List Message) (out : Queue ToMemory) (back : Queue FromMemory) (ts : List Tile)
      → posted (kind_of ms) v ms (bench_of h l k mem out back ts) ≡ spread v (moved_home (move h ms) l k mem out back) ts
  unfolding posted moved_home
  posted_spread v ms out back ts = ap (outcome (kind_of ms) v ms) (in_parts ms out back ts) ∙ gone v ms ts (put_memory_all ms (some (queues_of out back)))

-- a move of the home, of a taking and of the other calls
served_spread : (t : ℕ) (m : Move) (k : ℕ) (mem : Words) (out : Queue ToMemory) (back : Queue FromMemory) (ts : List Tile)
    → served t m k mem out back ts ≡ spread t (moved_home m t k mem out back) ts
unfolding served
served_spread t (move h ms) k mem out back ts = posted_spread h t k mem t ms out back ts

moved_spread : (o : Option Move) (l k : ℕ) (mem : Words) (out : Queue ToMemory) (back : Queue FromMemory) (ts : List Tile)
    → fitted o l k mem out back ts ≡ spread 0 (fitting_home o l k mem out back) ts
unfolding fitted fitting_home spread
moved_spread none l k mem out back ts = refl
moved_spread (some (move h ms)) l k mem out back ts = posted_spread h l k mem 0 ms out back ts

-- ---- the calls

pub take_spread : (t : ℕ) (o : Option Request) (x : Line) (k : ℕ) (mem : Words) (out : Queue ToMemory) (back : Queue FromMemory) (ts : List Tile)
    → take_front t o x k mem out back ts ≡ spread t (taken_home (length ts) t o x k mem out back) ts
unfolding take_front taken_home spread outcome kind_of forward_all
take_spread t none x k mem out back ts = refl
take_spread t (some wb_guard_req) x k mem out back ts = refl
take_spread t (some (load_req w)) x k mem out back ts = served_spread t (serve (length ts) (task t reading) x) k mem out back ts
take_spread t (some (store_req w)) x k mem out back ts = served_spread t (serve (length ts) (task t (writing storing)) x) k mem out back ts

written_spread : (t : ℕ) (o : Option Home) (l k : ℕ) (mem : Words) (out : Queue ToMemory) (back : Queue FromMemory) (ts : List Tile)
    → written_back t o l k mem out back ts ≡ spread 0 (written_home t o l k mem out back) ts
unfolding written_back written_home spread outcome kind_of forward_all
written_spread t none l k mem out back ts = refl
written_spread t (some h) l k mem out back ts = refl

pub accept_spread : (t : ℕ) (o : Option Reply) (h : Home) (l k : ℕ) (mem : Words) (out : Queue ToMemory) (back : Queue FromMemory) (ts : List Tile)
    → accept_reply t o h l k mem out back ts ≡ spread 0 (accepted_home t o h l k mem out back) ts
unfolding accept_reply accepted_home spread
accept_spread t none h l k mem out back ts = refl
accept_spread t (some (wb_req ws)) h l k mem out back ts = written_spread t (write_back t ws (has k t) h) l k mem out back ts
accept_spread t (some (load_fwd_ack_s x)) h l k mem out back ts = moved_spread (load_ack_s t x h) l k mem out back ts
accept_spread t (some load_fwd_ack_i) h l k mem out back ts = moved_spread (load_ack_i t h) l k mem out back ts
accept_spread t (some (store_fwd_ack x)) h l k mem out back ts = moved_spread (store_ack t x h) l k mem out back ts
accept_spread t (some inv_fwd_ack) h l k mem out back ts = moved_spread (inv_ack t h) l k mem out back ts

serves_spread : (o : Option ToMemory) (h : Home) (l k : ℕ) (mem : Words) (out : Queue ToMemory) (back : Queue FromMemory) (ts : List Tile)
    → memory_serves o h l k mem out back ts ≡ spread 0 (served_memory o h l k mem out back) ts
unfolding memory_serves served_memory spread kind_of
serves_spread none h l k mem out back ts = refl
serves_spread (some load_mem) h l k mem out back ts = posted_spread h l k mem 0 (from_memory (load_mem_ack mem) ∷ []) out back ts
serves_spread (some (store_mem ws)) h l k mem out back ts = posted_spread h l k ws 0 (from_memory store_mem_ack ∷ []) out back ts

pub step_spread : (h : Home) (l k : ℕ) (mem : Words) (out : Queue ToMemory) (back : Queue FromMemory) (ts : List Tile)
    → memory_step_on (bench_of h l k mem out back ts) ≡ spread 0 (stepped_home h l k mem out back) ts
unfolding memory_step_on stepped_home
step_spread h l k mem out back ts = serves_spread (front out) h l k mem (rest out) back ts

front_spread : (o : Option FromMemory) (h : Home) (l k : ℕ) (mem : Words) (out : Queue ToMemory) (back : Queue FromMemory) (ts : List Tile)
    → accept_ack o h l k mem out back ts ≡ spread 0 (acked_front o h l k mem out back) ts
unfolding accept_ack acked_front spread
front_spread none h l k mem out back ts = refl
front_spread (some m) h l k mem out back ts = moved_spread (acknowledged m h) l k mem out back ts

pub ack_spread : (h : Home) (l k : ℕ) (mem : Words) (out : Queue ToMemory) (back : Queue FromMemory) (ts : List Tile)
    → memory_ack_on (bench_of h l k mem out back ts) ≡ spread 0 (acked_home h l k mem out back) ts
unfolding memory_ack_on acked_home
ack_spread h l k mem out back ts = front_spread (front back) h l k mem out (rest back) ts

pub evict_spread : (h : Home) (l k : ℕ) (mem : Words) (out : Queue ToMemory) (back : Queue FromMemory) (ts : List Tile)
    → home_eviction_on (bench_of h l k mem out back ts) ≡ spread 0 (evicted_home (length ts) h l k mem out back) ts
unfolding home_eviction_on evicted_home spread fitting_home
evict_spread (idle absent) l k mem out back ts = refl
evict_spread (idle (present d ws x)) l k mem out back ts = moved_spread (some (evict_line (length ts) d ws x)) l k mem out back ts
evict_spread (awaiting_load (task r a) x) l k mem out back ts = refl
evict_spread (awaiting_owner d ws o c) l k mem out back ts = refl
evict_spread (awaiting_acks d ws m u c) l k mem out back ts = refl
evict_spread (awaiting_store x) l k mem out back ts = refl
