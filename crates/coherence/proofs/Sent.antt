-- What sending messages does to a bench: the tiles, the last taken, what waits and what is at a NoC1 front stay, and the measure
-- grows by no more than the messages weigh.
use Prim.Native.Nat.{ℕ, suc, ◌+◌, ◌≤◌}
use mathlib.Core.Path.{◌≡◌, refl, sym, ◌∙◌, subst}
use mathlib.Core.Bool.{Bool, true, false≢true}
use mathlib.Core.List.{List, [], ◌∷◌}
use mathlib.Core.Option.{Option, some, none, map}
use native.Mathlib.Omega.{arith}
use lib.ListN.{length, set, length-set}
use Rattle.protocol.specs.Parts.{Words, Queue, empty, one, two, Request, Forward, Reply, ToMemory, FromMemory, Message, on_noc1, on_noc2, on_noc3, to_memory, from_memory, Tile, tile_of, Home, Bench, bench_of, Result, refused, accepted}
use Rattle.protocol.specs.Bench.{fresh_tile, tile_at, push, front, noc1, on_tile1, on_tile2, on_tile3, send_one, send_to, send, outcome, posted}
use Rattle.protocol.specs.Demand3.{waiting_of, tiles_of, is_request}
use Rattle.coherence.proofs.Weight.{queue_weight, request_weight, forward_weight, reply_weight, out_weight, back_weight, tile_weight, tiles_weight, measure}

unfoldable pub last_taken : Bench → ℕ
last_taken (bench_of h l k mem out back ts) = l

-- a request is at the front of the tile's NoC1 queue
unfoldable pub asks : Tile → Bool
asks x = is_request (front (noc1 x))

-- a tile as it was, but for the ends of its queues
pub record Alike (x' x : Tile) : Type 0 where
  pub waiting : waiting_of x' ≡ waiting_of x
  pub asking : asks x ≡ true → asks x' ≡ true

pub alike : (x : Tile) → Alike x x
alike x = record { waiting = refl; asking = λ e. e }

pub alike_then : {x y z : Tile} → Alike y x → Alike z y → Alike z x
alike_then f g = record { waiting = g.waiting ∙ f.waiting; asking = λ e. g.asking (f.asking e) }

-- tile u replaced: what relates the new tile to the old one relates every tile to what it was
pub set_related : (R : Tile → Tile → Type 0) → ((x : Tile) → R x x) → (ts : List Tile) (u t : ℕ) (x : Tile) → R x (tile_at ts u) → R (tile_at (set ts u x) t) (tile_at ts t)
set_related R same [] u t x r = same fresh_tile
set_related R same (y ∷ ys) ℕ.zero ℕ.zero x r = r
set_related R same (y ∷ ys) ℕ.zero (suc t) x r = same (tile_at ys t)
set_related R same (y ∷ ys) (suc u) ℕ.zero x r = same y
set_related R same (y ∷ ys) (suc u) (suc t) x r = set_related R same ys u t x r

-- and the weight of the tiles changes as its weight does
pub set_weight : (n : ℕ) (ts : List Tile) (u : ℕ) (x : Tile) (less more : ℕ) → tile_weight n x + less ≤ more + tile_weight n (tile_at ts u) → tiles_weight n (set ts u x) + less ≤ more + tiles_weight n ts
unfolding tiles_weight tile_weight queue_weight
set_weight n [] u x less more h = omega arith
set_weight n (y ∷ ys) ℕ.zero x less more h = omega arith
set_weight n (y ∷ ys) (suc u) x less more h = omega (arith, set_weight n ys u x less more h)

unfoldable pub message_weight : ℕ → Message → ℕ
message_weight n (on_noc1 t m) = request_weight n m
message_weight n (on_noc2 t m) = forward_weight m
message_weight n (on_noc3 t m) = reply_weight m
message_weight n (to_memory m) = out_weight m
message_weight n (from_memory m) = back_weight m

unfoldable pub messages_weight : ℕ → List Message → ℕ
messages_weight n [] = 0
messages_weight n (m ∷ ms) = message_weight n m + messages_weight n ms

-- a bench as it was, but for the home, the marks, the memory and the ends of the queues
pub record Same (b b' : Bench) : Type 0 where
  pub count : length (tiles_of b') ≡ length (tiles_of b)
  pub last : last_taken b' ≡ last_taken b
  pub tiles : (t : ℕ) → Alike (tile_at (tiles_of b') t) (tile_at (tiles_of b) t)

pub same_bench : (b : Bench) → Same b b
same_bench b = record { count = refl; last = refl; tiles = λ t. alike (tile_at (tiles_of b) t) }

pub same_tiles : {h h' : Home} {l k k' : ℕ} {mem mem' : Words} {out out' : Queue ToMemory} {back back' : Queue FromMemory} {ts : List Tile} → Same (bench_of h l k mem out back ts) (bench_of h' l k' mem' out' back' ts)
unfolding tiles_of last_taken
same_tiles {ts} = record { count = refl; last = refl; tiles = λ t. alike (tile_at ts t) }

pub same_then : {b c d : Bench} → Same b c → Same c d → Same b d
same_then f g = record { count = g.count ∙ f.count; last = g.last ∙ f.last; tiles = λ t. alike_then (f.tiles t) (g.tiles t) }

pub record Sent (ms : List Message) (b b' : Bench) : Type 0 where
  pub same : Same b b'
  pub weight : measure b' ≤ messages_weight (length (tiles_of b)) ms + measure b

abbrev SentTo : List Message → Bench → Option Bench → Type 0
SentTo ms b none = Unit {0}
SentTo ms b (some b') = Sent ms b b'

-- one message on a tile's queue
pub record Put (n w : ℕ) (x x' : Tile) : Type 0 where
  pub still : Alike x' x
  pub weight : tile_weight n x' ≤ w + tile_weight n x

abbrev PutTo : ℕ → ℕ → Tile → Option Tile → Type 0
PutTo n w x none = Unit {0}
PutTo n w x (some x') = Put n w x x'

put1 : (n : ℕ) (m : Request) (x : Tile) → PutTo n (request_weight n m) x (on_tile1 m x)
unfolding on_tile1 push tile_weight queue_weight asks front noc1 is_request waiting_of
put1 n m (tile_of c p empty q2 q3) = record { still = record { waiting = refl; asking = λ e. absurd (false≢true e) }; weight = omega arith }
put1 n m (tile_of c p (one a) q2 q3) = record { still = record { waiting = refl; asking = λ e. e }; weight = omega arith }
put1 n m (tile_of c p (two a b) q2 q3) = tt

put2 : (n : ℕ) (m : Forward) (x : Tile) → PutTo n (forward_weight m) x (on_tile2 m x)
unfolding on_tile2 push tile_weight queue_weight asks front noc1 is_request waiting_of
put2 n m (tile_of c p q1 empty q3) = record { still = record { waiting = refl; asking = λ e. e }; weight = omega arith }
put2 n m (tile_of c p q1 (one a) q3) = record { still = record { waiting = refl; asking = λ e. e }; weight = omega arith }
put2 n m (tile_of c p q1 (two a b) q3) = tt

put3 : (n : ℕ) (m : Reply) (x : Tile) → PutTo n (reply_weight m) x (on_tile3 m x)
unfolding on_tile3 push tile_weight queue_weight asks front noc1 is_request waiting_of
put3 n m (tile_of c p q1 q2 empty) = record { still = record { waiting = refl; asking = λ e. e }; weight = omega arith }
put3 n m (tile_of c p q1 q2 (one a)) = record { still = record { waiting = refl; asking = λ e. e }; weight = omega arith }
put3 n m (tile_of c p q1 q2 (two a b)) = tt

-- tile u of a bench replaced by one alike
pub same_set : (h : Home) (l k : ℕ) (mem : Words) (out : Queue ToMemory) (back : Queue FromMemory) (ts : List Tile) (u : ℕ) (x : Tile) → Alike x (tile_at ts u) → Same (bench_of h l k mem out back ts) (bench_of h l k mem out back (set ts u x))
unfolding tiles_of last_taken
same_set h l k mem out back ts u x a = record { count = length-set ts u x; last = refl; tiles = λ t. set_related Alike alike ts u t x a }

-- one message to tile u of a bench
put_tile : (h : Home) (l k : ℕ) (mem : Words) (out : Queue ToMemory) (back : Queue FromMemory) (ts : List Tile) (u : ℕ) (m : Message) (o : Option Tile) → PutTo (length ts) (message_weight (length ts) m) (tile_at ts u) o → SentTo (m ∷ []) (bench_of h l k mem out back ts) (map (λ x. bench_of h l k mem out back (set ts u x)) o)
unfolding tiles_of measure messages_weight
put_tile h l k mem out back ts u m none s = tt
put_tile h l k mem out back ts u m (some x) s =
    record {
      same = same_set h l k mem out back ts u x s.still;
      weight = rw (length-set ts u x) (omega (arith, set_weight (length ts) ts u x 0 (message_weight (length ts) m) (omega (arith, s.weight))));
    }

-- one message sent
sent_one : (m : Message) (b : Bench) → SentTo (m ∷ []) b (send_one m b)
unfolding send_one message_weight messages_weight push measure queue_weight tiles_of
sent_one (on_noc1 u m) (bench_of h l k mem out back ts) = put_tile h l k mem out back ts u (on_noc1 u m) (on_tile1 m (tile_at ts u)) (put1 (length ts) m (tile_at ts u))
sent_one (on_noc2 u m) (bench_of h l k mem out back ts) = put_tile h l k mem out back ts u (on_noc2 u m) (on_tile2 m (tile_at ts u)) (put2 (length ts) m (tile_at ts u))
sent_one (on_noc3 u m) (bench_of h l k mem out back ts) = put_tile h l k mem out back ts u (on_noc3 u m) (on_tile3 m (tile_at ts u)) (put3 (length ts) m (tile_at ts u))
sent_one (to_memory m) (bench_of h l k mem empty back ts) = record { same = same_tiles; weight = omega arith }
sent_one (to_memory m) (bench_of h l k mem (one a) back ts) = record { same = same_tiles; weight = omega arith }
sent_one (to_memory m) (bench_of h l k mem (two a b) back ts) = tt
sent_one (from_memory m) (bench_of h l k mem out empty ts) = record { same = same_tiles; weight = omega arith }
sent_one (from_memory m) (bench_of h l k mem out (one a) ts) = record { same = same_tiles; weight = omega arith }
sent_one (from_memory m) (bench_of h l k mem out (two a b) ts) = tt

-- all messages sent
send_none : (ms : List Message) → send ms none ≡ none
unfolding send send_to
send_none [] = refl
send_none (m ∷ ms) = send_none ms

then : (m : Message) (ms : List Message) (b c : Bench) (o : Option Bench) → Sent (m ∷ []) b c → SentTo ms c o → SentTo (m ∷ ms) b o
unfolding messages_weight
then m ms b c none f g = tt
then m ms b c (some d) f g =
    let e : length (tiles_of c) ≡ length (tiles_of b) = f.same.count in
    let w : measure d ≤ messages_weight (length (tiles_of b)) ms + measure c = rw e at g.weight in
    record { same = same_then f.same g.same; weight = omega (arith, f.weight) }

sent_all : (ms : List Message) (b : Bench) → SentTo ms b (send ms (some b))
unfolding send send_to messages_weight
sent_all [] b = record { same = same_bench b; weight = omega arith }
sent_all (m ∷ ms) b = go (send_one m b) (sent_one m b) (λ c. sent_all ms c)
  where
    go : (o : Option Bench) → SentTo (m ∷ []) b o → ((c : Bench) → SentTo ms c (send ms (some c))) → SentTo (m ∷ ms) b (send ms o)
    go none s rest = subst (SentTo (m ∷ ms) b) (sym (send_none ms)) tt
    go (some c) s rest = then m ms b c (send ms (some c)) s (rest c)

-- what holds of a refusal, and of every bench that sending leaves, holds of what is posted
pub on_posted : (P : Result Bench → Type 0) (k v : ℕ) (ms : List Message) (b : Bench) → P (refused 9) → ((c : Bench) → Sent ms b c → P (accepted k v c ms)) → P (posted k v ms b)
unfolding posted outcome
on_posted P k v ms b full room = go (send ms (some b)) (sent_all ms b)
  where
    go : (o : Option Bench) → SentTo ms b o → P (outcome k v ms o)
    go none s = full
    go (some c) s = room c s
