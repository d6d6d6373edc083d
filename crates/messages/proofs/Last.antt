-- Messages that were sent are the last on their queues. Assumes nothing.
use Prim.Native.Nat.{ℕ, suc, ◌+◌, ◌^◌, ◌≤◌, ◌<◌}
use mathlib.Core.Path.{◌≡◌, refl, ap, ap₂, sym, ◌∙◌, subst}
use mathlib.Core.Bool.{Bool, cond}
use mathlib.Core.List.{List, [], ◌∷◌, map}
use mathlib.Core.Option
use mathlib.Core.Option.{Option, some, none}
use native.Mathlib.Omega.{arith}
use lib.ListN.{length, set, length-set}
use lib.Seq.{get_or-set_same, get_or-set_other}
use Rattle.masks.specs.Mask.{add}
use Rattle.masks.proofs.MaskLaws.{has_add}
use Rattle.protocol.specs.Parts.{Words, Queue, empty, one, two, Request, Forward, Reply, ToMemory, FromMemory, Message, on_noc1, on_noc2, on_noc3, to_memory, from_memory, Tile, tile_of, Home, Bench, bench_of}
use Rattle.protocol.specs.Home.{members}
use Rattle.protocol.specs.Bench.{fresh_tile, tile_at, push, on_tile1, on_tile2, on_tile3, send_one, send_to, send, noc1, noc3, noc2}
use Rattle.protocol.specs.Answers.{sent_on, sent_to}
use Rattle.layout.specs.declared.queues.BenchQueue.{BenchQueue}
use Rattle.messages.specs.Queues.{bench_queue, queue_of_each, noc3_then_noc1, sent_queues}
use Rattle.messages.specs.LastMessages.{last_of, last_message_on, queue_of_message, all_there, sent_messages, There}
use Rattle.messages.proofs.Rising.{Rising, mask_of, members_mask}

abbrev pub tiles_of : Bench → List Tile
tiles_of (bench_of h l k mem out back ts) = ts

-- a message for every tile of a list
abbrev pub tell : Forward → ℕ → Message
tell f u = on_noc2 u f

-- What a step sends, on a bench of n tiles: nothing; a request (task or a) reply of one tile, or a write-back with its guard; one
-- forward for every tile of a list; one message to or from memory.
pub data Shape (n : ℕ) : List Message → Type 0 where
  silent : Shape n []
  asks : (t : ℕ) (m : Request) → t < n → Shape n (on_noc1 t m ∷ [])
  replies : (t : ℕ) (m : Reply) → t < n → Shape n (on_noc3 t m ∷ [])
  writes_back : (t : ℕ) (m : Reply) (g : Request) → t < n → Shape n (on_noc3 t m ∷ on_noc1 t g ∷ [])
  tells : (us : List ℕ) (f : Forward) → Rising 0 n us → Shape n (map (tell f) us)
  files : (m : ToMemory) → Shape n (to_memory m ∷ [])
  answers : (m : FromMemory) → Shape n (from_memory m ∷ [])

-- what was put on a queue is its last
pushed : {A : Type 0} (a : A) (q : Queue A) (B : Option (Queue A) → Type 0) → B none → ((r : Queue A) → last_of r ≡ some a → B (some r)) → B (push a q)
unfolding push last_of
pushed a empty B full room = room (one a) refl
pushed a (one b) B full room = room (two b a) refl
pushed a (two b c) B full room = full

-- one message on a tile's queue: of the three queues, the others stay
on1 : (m : Request) (x : Tile) (B : Option Tile → Type 0) → B none → ((y : Tile) → last_of (noc1 y) ≡ some m → noc3 y ≡ noc3 x → B (some y)) → B (on_tile1 m x)
unfolding on_tile1 noc1 noc3
on1 m (tile_of c p q1 q2 q3) B full room = pushed m q1 (λ o. B (Option.map (λ q. tile_of c p q q2 q3) o)) full (λ r e. room (tile_of c p r q2 q3) e refl)

on2 : (m : Forward) (x : Tile) (B : Option Tile → Type 0) → B none → ((y : Tile) → last_of (noc2 y) ≡ some m → B (some y)) → B (on_tile2 m x)
unfolding on_tile2 noc2
on2 m (tile_of c p q1 q2 q3) B full room = pushed m q2 (λ o. B (Option.map (λ q. tile_of c p q1 q q3) o)) full (λ r e. room (tile_of c p q1 r q3) e)

on3 : (m : Reply) (x : Tile) (B : Option Tile → Type 0) → B none → ((y : Tile) → last_of (noc3 y) ≡ some m → B (some y)) → B (on_tile3 m x)
unfolding on_tile3 noc3
on3 m (tile_of c p q1 q2 q3) B full room = pushed m q3 (λ o. B (Option.map (λ q. tile_of c p q1 q2 q) o)) full (λ r e. room (tile_of c p q1 q2 r) e)

send_none : (ms : List Message) → send ms none ≡ none
unfolding send send_to
send_none [] = refl
send_none (m ∷ ms) = send_none ms

module _ (h : Home) (l k : ℕ) (mem : Words) (out : Queue ToMemory) (back : Queue FromMemory) where
  abbrev with : List Tile → Bench
  with ts = bench_of h l k mem out back ts

  last1 : (ts : List Tile) (t : ℕ) (m : Request) (y : Tile) → t < length ts → last_of (noc1 y) ≡ some m → last_message_on (with (set ts t y)) (bench_queue 1 t) ≡ some (on_noc1 t m)
  unfolding last_message_on
  last1 ts t m y below e = rw (get_or-set_same ts t y fresh_tile below, e)

  last2 : (ts : List Tile) (t : ℕ) (m : Forward) (y : Tile) → t < length ts → last_of (noc2 y) ≡ some m → last_message_on (with (set ts t y)) (bench_queue 2 t) ≡ some (on_noc2 t m)
  unfolding last_message_on
  last2 ts t m y below e = rw (get_or-set_same ts t y fresh_tile below, e)

  last3 : (ts : List Tile) (t : ℕ) (m : Reply) (y : Tile) → t < length ts → last_of (noc3 y) ≡ some m → last_message_on (with (set ts t y)) (bench_queue 3 t) ≡ some (on_noc3 t m)
  unfolding last_message_on
  last3 ts t m y below e = rw (get_or-set_same ts t y fresh_tile below, e)

  -- after a forward to tile u, the NoC2 queues of other tiles are as they were
  others2 : (ts : List Tile) (u t : ℕ) (y : Tile) → (t ≡ u → ⊥) → last_message_on (with (set ts u y)) (bench_queue 2 t) ≡ last_message_on (with ts) (bench_queue 2 t)
  unfolding last_message_on
  others2 ts u t y n = rw (get_or-set_other ts u t y fresh_tile n)

  -- a forward for every tile of a rising list
  abbrev Kept : ℕ → List ℕ → Forward → List Tile → Option Bench → Type 0
  Kept i us f ts none = Unit {0}
  Kept i us f ts (some b) = (map (last_message_on b) (queue_of_each 2 us) ≡ map some (map (tell f) us)) × ((t : ℕ) → t < i → last_message_on b (bench_queue 2 t) ≡ last_message_on (with ts) (bench_queue 2 t))

  further : (f : Forward) (u : ℕ) (us : List ℕ) (ts : List Tile) (i : ℕ) (y : Tile) → u < length ts → i ≤ u → last_of (noc2 y) ≡ some f → (o : Option Bench) → Kept (suc u) us f (set ts u y) o → Kept i (u ∷ us) f ts o
  unfolding queue_of_each
  further f u us ts i y below h e none k = tt
  further f u us ts i y below h e (some b) k = (
    ap₂ (λ (a : Option Message) (rest : List (Option Message)). a ∷ rest) (k.1 u (omega arith) ∙ last2 ts u f y below e) k.0,
    λ t l. k.1 t (omega arith) ∙ others2 ts u t y (λ q. omega arith),
  )

  told : (f : Forward) (us : List ℕ) (ts : List Tile) (i n : ℕ) → n ≡ length ts → Rising i n us → Kept i us f ts (send (map (tell f) us) (some (with ts)))
  unfolding send send_to send_one queue_of_each
  told f [] ts i n e r = (refl, λ t l. refl)
  told f (u ∷ us) ts i n e r =
      go (λ y. told f us (set ts u y) (suc u) n (e ∙ sym (length-set ts u y)) r.2)
    where
      go : ((y : Tile) → Kept (suc u) us f (set ts u y) (send (map (tell f) us) (some (with (set ts u y)))))
          → Kept i (u ∷ us) f ts (send (map (tell f) us) (Option.map (λ (x : Tile). with (set ts u x)) (on_tile2 f (tile_at ts u))))
      go later =
          on2 f (tile_at ts u) (λ o. Kept i (u ∷ us) f ts (send (map (tell f) us) (Option.map (λ (x : Tile). with (set ts u x)) o)))
          (subst (Kept i (u ∷ us) f ts) (sym (send_none (map (tell f) us))) tt)
          (λ y q. further f u us ts i y (omega (arith, r.1)) r.0 q (send (map (tell f) us) (some (with (set ts u y)))) (later y))

last4 : (h : Home) (l k : ℕ) (mem : Words) (out : Queue ToMemory) (back : Queue FromMemory) (ts : List Tile) (m : ToMemory) → last_of out ≡ some m → There (to_memory m ∷ []) (bench_of h l k mem out back ts)
unfolding last_message_on sent_on sent_to sent_queues queue_of_message
last4 h l k mem out back ts m e = record { queues = refl; last = rw e }

last5 : (h : Home) (l k : ℕ) (mem : Words) (out : Queue ToMemory) (back : Queue FromMemory) (ts : List Tile) (m : FromMemory) → last_of back ≡ some m → There (from_memory m ∷ []) (bench_of h l k mem out back ts)
unfolding last_message_on sent_on sent_to sent_queues queue_of_message
last5 h l k mem out back ts m e = record { queues = refl; last = rw e }

-- the mask of the tiles sent to
told_mask : (f : Forward) (us : List ℕ) → sent_to (map (tell f) us) ≡ mask_of us
unfolding sent_to mask_of
told_mask f [] = refl
told_mask f (u ∷ us) = ap (λ (m : ℕ). add m u) (told_mask f us)

one_member : (n t : ℕ) → n ≤ 64 → t < n → members (add 0 t) 64 ≡ t ∷ []
unfolding mask_of
one_member n t h below = members_mask (t ∷ []) n h (omega arith, below, tt)

-- what is sent on is there
abbrev pub Sent : List Message → Option Bench → Type 0
Sent ms none = Unit {0}
Sent ms (some b) = There ms b

told_places : (f : Forward) (us : List ℕ) → queue_of_each 2 us ≡ map queue_of_message (map (tell f) us)
unfolding queue_of_each queue_of_message
told_places f [] = refl
told_places f (u ∷ us) = ap (λ (l : List BenchQueue). bench_queue 2 u ∷ l) (told_places f us)

tells_there : (f : Forward) (us : List ℕ) (n : ℕ) (b : Bench) → n ≤ 64 → Rising 0 n us → map (last_message_on b) (queue_of_each 2 us) ≡ map some (map (tell f) us) → There (map (tell f) us) b
unfolding sent_on sent_queues
tells_there f [] n b h r e = record { queues = refl; last = refl }
tells_there f (u ∷ us) n b h r e =
    record { queues = rw (told_mask f (u ∷ us), members_mask (u ∷ us) n h r) (told_places f (u ∷ us)); last = rw (told_mask f (u ∷ us), members_mask (u ∷ us) n h r) e }

pub silent_there : (b : Bench) → There [] b
unfolding sent_on sent_queues
silent_there b = record { queues = refl; last = refl }

asks_there : (b : Bench) (n t : ℕ) (m : Request) → n ≤ 64 → t < n → last_message_on b (bench_queue 1 t) ≡ some (on_noc1 t m) → There (on_noc1 t m ∷ []) b
unfolding sent_on sent_to sent_queues queue_of_message queue_of_each
asks_there b n t m s below e = record { queues = rw (one_member n t s below); last = rw (one_member n t s below, e) }

replies_there : (b : Bench) (n t : ℕ) (m : Reply) → n ≤ 64 → t < n → last_message_on b (bench_queue 3 t) ≡ some (on_noc3 t m) → There (on_noc3 t m ∷ []) b
unfolding sent_on sent_to sent_queues queue_of_message queue_of_each
replies_there b n t m s below e = record { queues = rw (one_member n t s below); last = rw (one_member n t s below, e) }

add_again : (t : ℕ) → add (add 0 t) t ≡ add 0 t
unfolding add
add_again t = ap (λ (b : Bool). cond b (add 0 t) (add 0 t + 2 ^ t)) (has_add 0 t)

writes_there : (b : Bench) (n t : ℕ) (m : Reply) (g : Request) → n ≤ 64 → t < n → last_message_on b (bench_queue 3 t) ≡ some (on_noc3 t m) → last_message_on b (bench_queue 1 t) ≡ some (on_noc1 t g) → There (on_noc3 t m ∷ on_noc1 t g ∷ []) b
unfolding sent_on sent_to sent_queues queue_of_message noc3_then_noc1
writes_there b n t m g s below e d = record { queues = rw (add_again t, one_member n t s below); last = rw (add_again t, one_member n t s below, e, d) }

pub all_sent : (b : Bench) (n : ℕ) → n ≡ length (tiles_of b) → n ≤ 64 → (ms : List Message) → Shape n ms → Sent ms (send ms (some b))
unfolding send send_to send_one
all_sent (bench_of h l k mem out back ts) n e s ms silent = silent_there (bench_of h l k mem out back ts)
all_sent (bench_of h l k mem out back ts) n e s ms (asks t m below) =
    on1 m (tile_at ts t) (λ o. Sent (on_noc1 t m ∷ []) (Option.map (λ (x : Tile). bench_of h l k mem out back (set ts t x)) o)) tt
    (λ y q z. asks_there (bench_of h l k mem out back (set ts t y)) n t m s below (last1 h l k mem out back ts t m y (omega arith) q))
all_sent (bench_of h l k mem out back ts) n e s ms (replies t m below) =
    on3 m (tile_at ts t) (λ o. Sent (on_noc3 t m ∷ []) (Option.map (λ (x : Tile). bench_of h l k mem out back (set ts t x)) o)) tt
    (λ y q. replies_there (bench_of h l k mem out back (set ts t y)) n t m s below (last3 h l k mem out back ts t m y (omega arith) q))
all_sent (bench_of h l k mem out back ts) n e s ms (writes_back t m g below) =
    on3 m (tile_at ts t) (λ o. Sent (on_noc3 t m ∷ on_noc1 t g ∷ []) (send_to (on_noc1 t g) (Option.map (λ (x : Tile). bench_of h l k mem out back (set ts t x)) o))) tt
    (λ y q.
    let inside : t < length (set ts t y) = rw (length-set ts t y) (omega arith) in
    on1 g (tile_at (set ts t y) t) (λ o. Sent (on_noc3 t m ∷ on_noc1 t g ∷ []) (Option.map (λ (x : Tile). bench_of h l k mem out back (set (set ts t y) t x)) o)) tt
    (λ z p same.
    writes_there (bench_of h l k mem out back (set (set ts t y) t z)) n t m g s below
    (last3 h l k mem out back (set ts t y) t m z inside (ap last_of (same ∙ ap noc3 (get_or-set_same ts t y fresh_tile (omega arith))) ∙ q))
    (last1 h l k mem out back (set ts t y) t g z inside p)))
all_sent (bench_of h l k mem out back ts) n e s ms (tells us f r) = go (send (map (tell f) us) (some (bench_of h l k mem out back ts))) (told h l k mem out back f us ts 0 n e r)
  where
    go : (o : Option Bench) → Kept h l k mem out back 0 us f ts o → Sent (map (tell f) us) o
    go none kept = tt
    go (some b) kept = tells_there f us n b s r kept.0
all_sent (bench_of h l k mem out back ts) n e s ms (files m) =
    pushed m out (λ o. Sent (to_memory m ∷ []) (Option.map (λ (q : Queue ToMemory). bench_of h l k mem q back ts) o)) tt (λ q z. last4 h l k mem q back ts m z)
all_sent (bench_of h l k mem out back ts) n e s ms (answers m) =
    pushed m back (λ o. Sent (from_memory m ∷ []) (Option.map (λ (q : Queue FromMemory). bench_of h l k mem out q ts) o)) tt (λ q z. last5 h l k mem out q ts m z)

-- the messages there are those that the bench has at their places
given_all : (ms : List Message) → all_there (map some ms) ≡ ms
unfolding all_there
given_all [] = refl
given_all (m ∷ ms) = ap (λ (l : List Message). m ∷ l) (given_all ms)

pub there_messages : (ms : List Message) (b : Bench) → There ms b → sent_messages (sent_on ms) (sent_to ms) b ≡ ms
unfolding sent_messages
there_messages ms b e = ap all_there e.last ∙ given_all ms
