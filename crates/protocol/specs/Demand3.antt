-- Document 01, demand 3: one claim about one list of calls on a fresh bench, each made on the bench that the last one left. It is said of
-- every machine (Runs.antt): of the rules here, of lent words in crate theorems.
use Rattle.std.specs.Prelude.{ℕ, ◌+◌, ◌-◌, ◌*◌, ◌≤◌, ◌≡◌, Bool, cond, true, false, not, ◌&&◌, ◌||◌, List, [], ◌∷◌, eqb, length}
use Rattle.std.proofs.Math.Option.{Option, some, none}
use Rattle.numbers.specs.Limits.{most_tiles, words_in_line}
use Rattle.numbers.specs.Refusals.{misfit_refusal, queue_full_refusal}
use Rattle.protocol.specs.declared.Answer.{Answer}
use Rattle.protocol.specs.Parts.{Words, Queue, empty, one, two, Waiting, nothing, for_load, for_store, Request, load_req, store_req, wb_guard_req, Tile, tile_of, Line, idle, Bench, bench_of, Call, taking, to_tile, from_tile, memory_step, memory_ack}
use Rattle.protocol.specs.Home.{range}
use Rattle.protocol.specs.Bench.{fresh, tile_at, first_of, front, noc1, noc2, noc3}
use Rattle.protocol.specs.Calls.{is_delivery, Role, accesses, delivers_to, takes, neither, role_of}
use Rattle.protocol.specs.Answers.{is_accepted}
use Rattle.protocol.specs.Runs.{Machine, rules, runs, Event, history, can_be_accepted, waits_for}

-- does a tile wait, by what it waits for
unfoldable pub is_waiting : Waiting → Bool
is_waiting nothing = false
is_waiting (for_load w) = true
is_waiting (for_store w v) = true

-- a tile waits from the accepted call that sends its request to the accepted delivery to it of kind 1 or 2
unfoldable pub waits : ℕ → List Event → Bool
waits t es = is_waiting (waits_for es t)

-- the same read off the tile
unfoldable pub waiting_of : Tile → Waiting
waiting_of (tile_of c p q1 q2 q3) = p

unfoldable pub tiles_of : Bench → List Tile
tiles_of (bench_of h l k mem out back ts) = ts

-- how many calls of a kind are accepted in a list
unfoldable pub one_if : Bool → ℕ
one_if true = 1
one_if false = 0

unfoldable pub accepted_of : (m : Machine) → (Call → Bool) → List Call → m.State → ℕ
accepted_of m f [] s = 0
accepted_of m f (c ∷ cs) s = one_if (f c && can_be_accepted m c s) + accepted_of m f cs (m.next c s)

-- load, store, eviction and home eviction
unfoldable pub is_other : Call → Bool
is_other c = not (is_delivery c)

-- a delivery that can be accepted where one can: to the first tile with something on NoC2, else from the first with something
-- on NoC3, else the memory's, else the taking
unfoldable pub is_empty : {A : Type 0} → Queue A → Bool
is_empty empty = true
is_empty (one a) = false
is_empty (two a b) = false

unfoldable pub memory_delivery : Bool → Bool → Call
memory_delivery false y = memory_step
memory_delivery true false = memory_ack
memory_delivery true true = taking

unfoldable pub from_delivery : Option ℕ → Bool → Bool → Call
from_delivery (some t) x y = from_tile t
from_delivery none x y = memory_delivery x y

unfoldable pub to_delivery : Option ℕ → Option ℕ → Bool → Bool → Call
to_delivery (some t) o x y = to_tile t
to_delivery none o x y = from_delivery o x y

unfoldable pub next_delivery : Bench → Call
next_delivery (bench_of h l k mem out back ts) =
    to_delivery (first_of (λ t. not (is_empty (noc2 (tile_at ts t)))) (range 0 (length ts)))
    (first_of (λ t. not (is_empty (noc3 (tile_at ts t)))) (range 0 (length ts)))
    (is_empty out)
    (is_empty back)

-- every queue is empty and the home is idle
pub record Quiet (b : Bench) : Type 0 where
  pub idle_home : (x : Line) × (l : ℕ) × (k : ℕ) × (mem : Words) × (ts : List Tile) × (b ≡ bench_of (idle x) l k mem empty empty ts)
  pub empty_noc1 : (t : ℕ) → noc1 (tile_at (tiles_of b) t) ≡ empty
  pub empty_noc2 : (t : ℕ) → noc2 (tile_at (tiles_of b) t) ≡ empty
  pub empty_noc3 : (t : ℕ) → noc3 (tile_at (tiles_of b) t) ≡ empty

-- An accepted taking of another tile, made while a request is at the front of its NoC1 queue, passes that request over.
unfoldable pub is_request : Option Request → Bool
is_request none = false
is_request (some (load_req w)) = true
is_request (some (store_req w)) = true
is_request (some wb_guard_req) = false

unfoldable pub request_at_front : ℕ → Bench → Bool
request_at_front t b = is_request (front (noc1 (tile_at (tiles_of b) t)))

-- by the call's role: is it an accepted taking, and does its value pass a test?
unfoldable pub takes_by : (ℕ → Bool) → Role → Answer → Bool
takes_by f (accesses u p) r = false
takes_by f (delivers_to u) r = false
takes_by f takes r = is_accepted r && f r.value
takes_by f neither r = false

unfoldable pub takes_tile : ℕ → Call → Answer → Bool
takes_tile t c r = takes_by (λ v. eqb v t) (role_of c) r

unfoldable pub takes_another : ℕ → Call → Answer → Bool
takes_another t c r = takes_by (λ v. not (eqb v t)) (role_of c) r

unfoldable pub passes_over : (m : Machine) → ℕ → Call → m.State → Bool
passes_over m t c s = request_at_front t (m.view s) && takes_another t c (m.answer c s)

-- how often tile t's request is passed over, until t is taken
unfoldable pub passed_over : (m : Machine) → ℕ → List Call → m.State → ℕ
passed_over m t [] s = 0
passed_over m t (c ∷ cs) s = cond (takes_tile t c (m.answer c s)) 0 (one_if (passes_over m t c s) + passed_over m t cs (m.next c s))

-- refusals 8 and 9
unfoldable pub is_misfit : Answer → Bool
is_misfit r = eqb r.refusal misfit_refusal || eqb r.refusal queue_full_refusal

-- The claim, of a machine of n tiles, the calls made so far with their answers, es, and the state s that they left.
pub record Demand3 (m : Machine) (n : ℕ) (es : List Event) (s : m.State) : Type 0 where
  -- a waiting tile means that some delivery, `next_delivery`, can be accepted
  pub progress : (t : ℕ) → waits t es ≡ true → (is_delivery (next_delivery (m.view s)) ≡ true) × (can_be_accepted m (next_delivery (m.view s)) s ≡ true)
  -- if of the further calls ds no load, store, eviction or home eviction is accepted, at most (n+1)(2n+3) deliveries are
  pub bounded : (ds : List Call) → accepted_of m is_other ds s ≡ 0 → accepted_of m is_delivery ds s ≤ (n + 1) * (2 * n + 3)
  -- when no delivery can be accepted: no tile waits, every queue is empty, the home is idle
  pub quiet : ((c : Call) → is_delivery c ≡ true → can_be_accepted m c s ≡ false) → ((t : ℕ) → waits t es ≡ false) × Quiet (m.view s)
  -- each request at the front of its NoC1 queue is passed over by at most n-1 takings, whatever calls ds follow
  pub fair : (ds : List Call) (t : ℕ) → passed_over m t ds s ≤ n - 1
  -- refusals 8 and 9 never occur
  pub fits : (c : Call) → is_misfit (m.answer c s) ≡ false
  -- waiting in the history is waiting in the tile
  pub waiting : (t : ℕ) → waits t es ≡ is_waiting (waiting_of (tile_at (tiles_of (m.view s)) t))

-- the claim of the list of calls cs, begun in the state s
abbrev pub Demand3From : (m : Machine) → ℕ → m.State → List Call → Type 0
Demand3From m n s cs = Demand3 m n (history m cs s) (runs m cs s)

-- demand 3 of the rules: of every number of tiles from 1 to 64, all memory words and every list of calls
abbrev pub Demand3Statement : Type 0
Demand3Statement = (n : ℕ) → 1 ≤ n → n ≤ most_tiles → (mem : Words) → length mem ≡ words_in_line → (cs : List Call) → Demand3From rules n (fresh n mem) cs
