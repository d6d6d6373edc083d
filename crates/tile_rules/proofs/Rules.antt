-- The moves of a tile, applied to its block, are document 01's rules, read through the layout's encoding: one list of clauses for each call.
-- Assumes nothing.
use Prim.Native.Nat.{ℕ}
use mathlib.Core.Path.{◌≡◌, refl, sym, ◌∙◌}
use mathlib.Core.Bool.{Bool, cond, true, false, ◌&&◌}
use mathlib.Core.List.{List, [], ◌∷◌}
use mathlib.Core.Option.{Option, some, none, map}
use lib.Dec.{eqb, ltb}
use lib.ListN.{get_or, set}
use Rattle.std.specs.Prelude.{Result as Outcome, Ok, Err}
use Rattle.numbers.specs.declared.refusals.Refusal.{Refusal}
use Rattle.numbers.specs.declared.refusals.Refusal.TheVariants.{NoWord}
use Rattle.layout.proofs.Round.{request_typed, forward_typed, reply_typed}
use Rattle.layout.specs.declared.rows.Row.{Row}
use Rattle.layout.specs.declared.rows.Pair.{Pair}
use Rattle.layout.specs.declared.rows.TileBlock.{TileBlock}
use Rattle.protocol.specs.Parts.{Words, Queue, empty, one, two, State, shared, exclusive, modified, Cache, invalid, valid, Waiting, nothing, for_load, for_store, Request, load_req, store_req, wb_guard_req, Forward, load_fwd, store_fwd, inv_fwd, data_ack, Reply, wb_req, load_fwd_ack_s, load_fwd_ack_i, store_fwd_ack, inv_fwd_ack, Message, on_noc1, on_noc2, on_noc3, to_memory, from_memory, Tile, tile_of, Result, refused, accepted, state_number, cache_state}
use Rattle.protocol.specs.Tile as rules
use Rattle.protocol.specs.Bench as bench
use Rattle.layout.specs.Encode.{zeros, no_row, row, enc_request, enc_forward, enc_reply, enc_queue, cache_words, waiting_number, waiting_word, waiting_value, enc_head, enc_tile}
use Rattle.protocol.specs.Answers.{sent_on}
use Rattle.layout.specs.Queues.{has_room, push_row, push_numbers, pop_row}
use Rattle.tile_rules.specs.declared.moves.TileMove.{TileMove}
use Rattle.tile_rules.specs.declared.moves.TileMove.TheVariants.{Read, Request as Asked, Store}
use Rattle.tile_rules.specs.Moves as moves
use Rattle.tile_rules.specs.Steps.{TileStep, refused_step, accepted_step, tile_block, numbers_in, move_applied, tile_step_on}

-- what a tile sends goes onto its own queues
unfoldable pub own_one : Message → Tile → Option Tile
own_one (on_noc1 t m) x = bench.on_tile1 m x
own_one (on_noc2 t m) x = none
own_one (on_noc3 t m) x = bench.on_tile3 m x
own_one (to_memory m) x = none
own_one (from_memory m) x = none

unfoldable pub own_to : Message → Option Tile → Option Tile
own_to m none = none
own_to m (some x) = own_one m x

unfoldable pub own_all : List Message → Option Tile → Option Tile
own_all [] o = o
own_all (m ∷ ms) o = own_all ms (own_to m o)

unfoldable pub enc_after : ℕ → ℕ → ℕ → TileBlock → Option Tile → TileStep
enc_after k v s b none = refused_step 9 b
enc_after k v s b (some x) = accepted_step k v s (enc_tile x)

-- a rule's result, with its messages on the tile's queues, in numbers; b is the block before
unfoldable pub enc_step : TileBlock → Result Tile → TileStep
enc_step b (refused n) = refused_step n b
enc_step b (accepted k v x ms) = enc_after k v (sent_on ms) b (own_all ms (some x))

unfoldable pub or_else : {A B : Type 0} → B → (A → B) → Option A → B
or_else z f none = z
or_else z f (some a) = f a

-- a queue that a message is put on where it has room: whole, and by its numbers where it has no data
pub on_room : {A B : Type 0} (f : A → Row) → ((m : A) → eqb (f m).n0 0 ≡ false) → (q : Queue A) (m : A) (K : Pair → B) (z : B) →
    cond (has_room (enc_queue f q)) (K (push_row (enc_queue f q) (f m))) z ≡ or_else z (λ (p : Queue A). K (enc_queue f p)) (bench.push m q)
unfolding has_room push_row enc_queue bench.push or_else
on_room f h empty m K z = refl
on_room f h (one a) m K z = rw (h a)
on_room f h (two a b) m K z = rw (h b)

pub on_note : {A B : Type 0} (f : A → Row) → ((m : A) → eqb (f m).n0 0 ≡ false) → (q : Queue A) (m : A) (a b c d : ℕ) → f m ≡ row a b c d zeros → (K : Pair → B) (z : B) →
    cond (has_room (enc_queue f q)) (K (push_numbers (enc_queue f q) a b c d)) z ≡ or_else z (λ (p : Queue A). K (enc_queue f p)) (bench.push m q)
unfolding has_room push_numbers enc_queue bench.push or_else
on_note f h empty m a b c d e K z = rw e
on_note f h (one y) m a b c d e K z = rw (h y, e)
on_note f h (two x y) m a b c d e K z = rw (h y)

pub rest_queue : {A : Type 0} (f : A → Row) → ((m : A) → eqb (f m).n0 0 ≡ false) → (q : Queue A) → pop_row (enc_queue f q) ≡ enc_queue f (bench.rest q)
unfolding pop_row enc_queue bench.rest
rest_queue f h empty = refl
rest_queue f h (one a) = refl
rest_queue f h (two a b) = rw (h b)

-- what is done with a queue where it has room is the tile with that queue
after1 : (c : Cache) (p : Waiting) (q2 : Queue Forward) (q3 : Queue Reply) (s : ℕ) (b : TileBlock) (o : Option (Queue Request)) →
    or_else (refused_step 9 b) (λ (q : Queue Request). accepted_step 3 0 s (tile_block (enc_head c p) (enc_queue enc_request q) (enc_queue enc_forward q2) (enc_queue enc_reply q3))) o
    ≡ enc_after 3 0 s b (map (λ q. tile_of c p q q2 q3) o)
unfolding or_else enc_after enc_tile
after1 c p q2 q3 s b none = refl
after1 c p q2 q3 s b (some q) = refl

after3 : (c : Cache) (p : Waiting) (q1 : Queue Request) (q2 : Queue Forward) (b : TileBlock) (o : Option (Queue Reply)) →
    or_else (refused_step 9 b) (λ (q : Queue Reply). accepted_step 3 0 3 (tile_block (enc_head c p) (enc_queue enc_request q1) (enc_queue enc_forward q2) (enc_queue enc_reply q))) o
    ≡ enc_after 3 0 3 b (map (λ q. tile_of c p q1 q2 q) o)
unfolding or_else enc_after enc_tile
after3 c p q1 q2 b none = refl
after3 c p q1 q2 b (some q) = refl

-- room on two queues, asked of one after the other
both_room : {A : Type 0} (r s : Bool) (a b : A) → cond (r && s) a b ≡ cond r (cond s a b) b
both_room true s a b = refl
both_room false s a b = refl

-- a request, of either type
asks_load : (w : ℕ) (q1 : Queue Request) (q2 : Queue Forward) (q3 : Queue Reply) →
    move_applied (enc_tile (tile_of invalid nothing q1 q2 q3)) (Ok (Asked 31 1 w 0))
    ≡ enc_after 3 0 1 (enc_tile (tile_of invalid nothing q1 q2 q3)) (bench.on_tile1 (load_req w) (tile_of invalid (for_load w) q1 q2 q3))
unfolding move_applied numbers_in has_room enc_tile enc_head enc_request cache_state cache_words waiting_number waiting_word waiting_value bench.on_tile1
asks_load w q1 q2 q3 =
    on_note enc_request request_typed q1 (load_req w) 31 w 0 0 refl (λ (q : Pair). accepted_step 3 0 1 (tile_block (enc_head invalid (for_load w)) q (enc_queue enc_forward q2) (enc_queue enc_reply q3))) _
    ∙ after1 invalid (for_load w) q2 q3 1 _ _

asks_store : (w v : ℕ) (c : Cache) (q1 : Queue Request) (q2 : Queue Forward) (q3 : Queue Reply) →
    move_applied (enc_tile (tile_of c nothing q1 q2 q3)) (Ok (Asked 2 2 w v))
    ≡ enc_after 3 0 1 (enc_tile (tile_of c nothing q1 q2 q3)) (bench.on_tile1 (store_req w) (tile_of c (for_store w v) q1 q2 q3))
unfolding move_applied numbers_in has_room enc_tile enc_head enc_request waiting_number waiting_word waiting_value bench.on_tile1
asks_store w v c q1 q2 q3 =
    on_note enc_request request_typed q1 (store_req w) 2 w 0 0 refl (λ (q : Pair). accepted_step 3 0 1 (tile_block (enc_head c (for_store w v)) q (enc_queue enc_forward q2) (enc_queue enc_reply q3))) _
    ∙ after1 c (for_store w v) q2 q3 1 _ _

-- a test passed on
step_cond : (b : TileBlock) (t : Bool) (r s : Result Tile) → enc_step b (cond t r s) ≡ cond t (enc_step b r) (enc_step b s)
step_cond b true r s = refl
step_cond b false r s = refl

move_cond : (x : TileBlock) (t : Bool) (m n : Outcome TileMove Refusal) → move_applied x (cond t m n) ≡ cond t (move_applied x m) (move_applied x n)
move_cond x true m n = refl
move_cond x false m n = refl

cond_both : {A : Type 0} (t : Bool) (a b c d : A) → a ≡ b → c ≡ d → cond t a c ≡ cond t b d
cond_both t a b c d e f = rw (e, f)

load_word : (t w : ℕ) (x : Tile) →
    move_applied (enc_tile x) (moves.unless_waiting (numbers_in (enc_tile x)) (cond (eqb (numbers_in (enc_tile x)).state 0) (Asked 31 1 w 0) (Read w)))
    ≡ enc_step (enc_tile x) (rules.load_at t w x)
unfolding move_applied numbers_in enc_tile enc_head cache_state cache_words waiting_number waiting_word waiting_value state_number rules.load_at enc_step enc_after sent_on own_all own_to own_one
load_word t w (tile_of c (for_load u) q1 q2 q3) = refl
load_word t w (tile_of c (for_store u v) q1 q2 q3) = refl
load_word t w (tile_of (valid shared ws) nothing q1 q2 q3) = refl
load_word t w (tile_of (valid exclusive ws) nothing q1 q2 q3) = refl
load_word t w (tile_of (valid modified ws) nothing q1 q2 q3) = refl
load_word t w (tile_of invalid nothing q1 q2 q3) = asks_load w q1 q2 q3

no_word : (x : TileBlock) → move_applied x (Err NoWord) ≡ refused_step 3 x
unfolding move_applied
no_word x = refl

load_rule : (t w : ℕ) (x : Tile) → move_applied (enc_tile x) (moves.load (numbers_in (enc_tile x)) w) ≡ enc_step (enc_tile x) (bench.at_word w (rules.load_at t w x))
unfolding bench.at_word enc_step
load_rule t w x = move_cond (enc_tile x) (ltb w 8) _ _ ∙ cond_both (ltb w 8) _ _ _ _ (load_word t w x) (no_word (enc_tile x)) ∙ sym (step_cond (enc_tile x) (ltb w 8) _ _)

store_word : (t w v : ℕ) (x : Tile) →
    move_applied (enc_tile x) (moves.unless_waiting (numbers_in (enc_tile x)) (cond (ltb (numbers_in (enc_tile x)).state 2) (Asked 2 2 w v) (Store w v)))
    ≡ enc_step (enc_tile x) (rules.store_at t w v x)
unfolding move_applied numbers_in enc_tile enc_head cache_state cache_words waiting_number waiting_word waiting_value state_number rules.store_at enc_step enc_after sent_on own_all own_to own_one
store_word t w v (tile_of c (for_load u) q1 q2 q3) = refl
store_word t w v (tile_of c (for_store u y) q1 q2 q3) = refl
store_word t w v (tile_of (valid modified ws) nothing q1 q2 q3) = refl
store_word t w v (tile_of (valid exclusive ws) nothing q1 q2 q3) = refl
store_word t w v (tile_of (valid shared ws) nothing q1 q2 q3) = asks_store w v (valid shared ws) q1 q2 q3
store_word t w v (tile_of invalid nothing q1 q2 q3) = asks_store w v invalid q1 q2 q3

store_rule : (t w v : ℕ) (x : Tile) → move_applied (enc_tile x) (moves.store (numbers_in (enc_tile x)) w v) ≡ enc_step (enc_tile x) (bench.at_word w (rules.store_at t w v x))
unfolding bench.at_word enc_step
store_rule t w v x = move_cond (enc_tile x) (ltb w 8) _ _ ∙ cond_both (ltb w 8) _ _ _ _ (store_word t w v x) (no_word (enc_tile x)) ∙ sym (step_cond (enc_tile x) (ltb w 8) _ _)

-- WB_REQ, then WBGUARD_REQ
guards : (t : ℕ) (p : Waiting) (q1 : Queue Request) (q2 : Queue Forward) (b : TileBlock) (o : Option (Queue Reply)) →
    or_else (refused_step 9 b)
    (λ (q : Queue Reply). cond (has_room (enc_queue enc_request q1)) (accepted_step 3 0 6 (tile_block (enc_head invalid p) (push_numbers (enc_queue enc_request q1) 13 0 0 0) (enc_queue enc_forward q2) (enc_queue enc_reply q))) (refused_step 9 b)) o
    ≡ enc_after 3 0 6 b (own_to (on_noc1 t wb_guard_req) (map (λ q. tile_of invalid p q1 q2 q) o))
unfolding or_else enc_after enc_request own_to own_one bench.on_tile1
guards t p q1 q2 b none = refl
guards t p q1 q2 b (some q) =
    on_note enc_request request_typed q1 wb_guard_req 13 0 0 0 refl (λ (z : Pair). accepted_step 3 0 6 (tile_block (enc_head invalid p) z (enc_queue enc_forward q2) (enc_queue enc_reply q))) (refused_step 9 b) ∙ after1 invalid p q2 q 6 b (bench.push wb_guard_req q1)

evict_rule : (t : ℕ) (x : Tile) → move_applied (enc_tile x) (moves.evict (numbers_in (enc_tile x))) ≡ enc_step (enc_tile x) (rules.evict_at t x)
unfolding move_applied numbers_in has_room enc_tile enc_head cache_state cache_words state_number enc_reply rules.evict_at enc_step enc_after sent_on own_all own_to own_one bench.on_tile3
evict_rule t (tile_of invalid p q1 q2 q3) = refl
evict_rule t (tile_of (valid shared ws) p q1 q2 q3) = refl
evict_rule t (tile_of (valid exclusive ws) p q1 q2 q3) = refl
evict_rule t (tile_of (valid modified ws) p q1 q2 q3) =
    both_room (has_room (enc_queue enc_reply q3)) (has_room (enc_queue enc_request q1)) _ _
    ∙ on_room enc_reply reply_typed q3 (wb_req ws)
    (λ (z : Pair). cond (has_room (enc_queue enc_request q1)) (accepted_step 3 0 6 (tile_block (enc_head invalid p) (push_numbers (enc_queue enc_request q1) 13 0 0 0) (enc_queue enc_forward q2) z)) (refused_step 9 (enc_tile (tile_of (valid modified ws) p q1 q2 q3))))
    _
    ∙ guards t p q1 q2 (enc_tile (tile_of (valid modified ws) p q1 q2 q3)) (bench.push (wb_req ws) q3)

-- delivery of m, behind which b stands on NoC2; q is what is left there
module _ (t : ℕ) (q1 : Queue Request) (q3 : Queue Reply) (b : Row) (q : Queue Forward) (left : (x : Row) → pop_row (record { a = x; b = b }) ≡ enc_queue enc_forward q) where
  abbrev block : Forward → Cache → Waiting → TileBlock
  block m c p = tile_block (enc_head c p) (enc_queue enc_request q1) (record { a = enc_forward m; b = b }) (enc_queue enc_reply q3)

  -- an ack of a forward, without data and with data, with the cache c after it
  noted : (x : TileBlock) (y : Row) (a : Reply) (c : Cache) (p : Waiting) (k r : ℕ) → enc_reply a ≡ row k 0 r 0 zeros →
      cond (has_room (enc_queue enc_reply q3)) (accepted_step 3 0 3 (tile_block (enc_head c p) (enc_queue enc_request q1) (pop_row (record { a = y; b = b })) (push_numbers (enc_queue enc_reply q3) k 0 r 0))) (refused_step 9 x)
      ≡ enc_after 3 0 3 x (bench.on_tile3 a (tile_of c p q1 q q3))
  unfolding bench.on_tile3
  noted x y a c p k r e =
      rw (left y) (on_note enc_reply reply_typed q3 a k 0 r 0 e (λ (z : Pair). accepted_step 3 0 3 (tile_block (enc_head c p) (enc_queue enc_request q1) (enc_queue enc_forward q) z)) _ ∙ after3 c p q1 q _ (bench.push a q3))

  pushed : (x : TileBlock) (y : Row) (a : Reply) (c : Cache) (p : Waiting) →
      cond (has_room (enc_queue enc_reply q3)) (accepted_step 3 0 3 (tile_block (enc_head c p) (enc_queue enc_request q1) (pop_row (record { a = y; b = b })) (push_row (enc_queue enc_reply q3) (enc_reply a)))) (refused_step 9 x)
      ≡ enc_after 3 0 3 x (bench.on_tile3 a (tile_of c p q1 q q3))
  unfolding bench.on_tile3
  pushed x y a c p =
      rw (left y) (on_room enc_reply reply_typed q3 a (λ (z : Pair). accepted_step 3 0 3 (tile_block (enc_head c p) (enc_queue enc_request q1) (enc_queue enc_forward q) z)) _ ∙ after3 c p q1 q _ (bench.push a q3))

  -- the line comes in
  filled : (y : Row) (k v : ℕ) (c : Cache) → accepted_step k v 0 (tile_block (enc_head c nothing) (enc_queue enc_request q1) (pop_row (record { a = y; b = b })) (enc_queue enc_reply q3)) ≡ accepted_step k v 0 (enc_tile (tile_of c nothing q1 q q3))
  unfolding enc_tile
  filled y k v c = rw (left y)

  load_fwd_lem : (c : Cache) (p : Waiting) → move_applied (block load_fwd c p) (moves.load_fwd (numbers_in (block load_fwd c p))) ≡ enc_step (block load_fwd c p) (rules.received t (rules.receive load_fwd c p) c p q1 q q3)
  unfolding move_applied numbers_in has_room enc_head enc_reply cache_state cache_words state_number rules.receive rules.received enc_step sent_on own_all own_to own_one
  load_fwd_lem invalid p = noted _ _ load_fwd_ack_i invalid p 21 0 refl
  load_fwd_lem (valid shared ws) p = refl
  load_fwd_lem (valid exclusive ws) p = noted _ _ (load_fwd_ack_s none) (valid shared ws) p 21 1 refl
  load_fwd_lem (valid modified ws) p = pushed _ _ (load_fwd_ack_s (some ws)) (valid shared ws) p

  store_fwd_lem : (c : Cache) (p : Waiting) → move_applied (block store_fwd c p) (moves.store_fwd (numbers_in (block store_fwd c p))) ≡ enc_step (block store_fwd c p) (rules.received t (rules.receive store_fwd c p) c p q1 q q3)
  unfolding move_applied numbers_in has_room enc_head enc_reply cache_state cache_words state_number rules.receive rules.received enc_step sent_on own_all own_to own_one
  store_fwd_lem invalid p = noted _ _ (store_fwd_ack none) invalid p 22 0 refl
  store_fwd_lem (valid shared ws) p = refl
  store_fwd_lem (valid exclusive ws) p = noted _ _ (store_fwd_ack none) invalid p 22 0 refl
  store_fwd_lem (valid modified ws) p = pushed _ _ (store_fwd_ack (some ws)) invalid p

  inv_fwd_lem : (c : Cache) (p : Waiting) → move_applied (block inv_fwd c p) (moves.inv_fwd (numbers_in (block inv_fwd c p))) ≡ enc_step (block inv_fwd c p) (rules.received t (rules.receive inv_fwd c p) c p q1 q q3)
  unfolding move_applied numbers_in has_room enc_head enc_reply cache_state cache_words state_number rules.receive rules.received enc_step sent_on own_all own_to own_one
  inv_fwd_lem invalid p = noted _ _ inv_fwd_ack invalid p 23 0 refl
  inv_fwd_lem (valid shared ws) p = noted _ _ inv_fwd_ack invalid p 23 0 refl
  inv_fwd_lem (valid exclusive ws) p = refl
  inv_fwd_lem (valid modified ws) p = refl

  data_ack_lem : (r : State) (miss : Bool) (ws : Words) (c : Cache) (p : Waiting) →
      move_applied (block (data_ack r miss ws) c p) (moves.fill (numbers_in (block (data_ack r miss ws) c p))) ≡ enc_step (block (data_ack r miss ws) c p) (rules.received t (rules.receive (data_ack r miss ws) c p) c p q1 q q3)
  unfolding move_applied numbers_in enc_forward enc_head cache_state cache_words waiting_number waiting_word waiting_value state_number rules.receive rules.fill rules.received enc_step enc_after sent_on own_all
  data_ack_lem modified miss ws c nothing = refl
  data_ack_lem modified miss ws invalid (for_load w) = refl
  data_ack_lem modified miss ws (valid x us) (for_load w) = refl
  data_ack_lem modified miss ws invalid (for_store w v) = filled _ 2 0 (valid modified (set ws w v))
  data_ack_lem modified miss ws (valid shared us) (for_store w v) = filled _ 2 0 (valid modified (set ws w v))
  data_ack_lem modified miss ws (valid exclusive us) (for_store w v) = refl
  data_ack_lem modified miss ws (valid modified us) (for_store w v) = refl
  data_ack_lem shared miss ws c nothing = refl
  data_ack_lem shared miss ws invalid (for_load w) = filled _ 1 (get_or ws w 0) (valid shared ws)
  data_ack_lem shared miss ws (valid shared us) (for_load w) = refl
  data_ack_lem shared miss ws (valid exclusive us) (for_load w) = refl
  data_ack_lem shared miss ws (valid modified us) (for_load w) = refl
  data_ack_lem shared miss ws c (for_store w v) = refl
  data_ack_lem exclusive miss ws c nothing = refl
  data_ack_lem exclusive miss ws invalid (for_load w) = filled _ 1 (get_or ws w 0) (valid exclusive ws)
  data_ack_lem exclusive miss ws (valid shared us) (for_load w) = refl
  data_ack_lem exclusive miss ws (valid exclusive us) (for_load w) = refl
  data_ack_lem exclusive miss ws (valid modified us) (for_load w) = refl
  data_ack_lem exclusive miss ws c (for_store w v) = refl

  front_rule : (m : Forward) (c : Cache) (p : Waiting) → move_applied (block m c p) (moves.deliver (numbers_in (block m c p))) ≡ enc_step (block m c p) (rules.received t (rules.receive m c p) c p q1 q q3)
  unfolding numbers_in enc_forward
  front_rule load_fwd c p = load_fwd_lem c p
  front_rule store_fwd c p = store_fwd_lem c p
  front_rule inv_fwd c p = inv_fwd_lem c p
  front_rule (data_ack r miss ws) c p = data_ack_lem r miss ws c p

last_left : (x : Row) → pop_row (record { a = x; b = no_row }) ≡ enc_queue enc_forward empty
unfolding pop_row enc_queue
last_left x = refl

second_left : (n : Forward) (x : Row) → pop_row (record { a = x; b = enc_forward n }) ≡ enc_queue enc_forward (one n)
unfolding pop_row enc_queue
second_left n x = rw (forward_typed n)

none_rule : (h : Row) (x z : Pair) → move_applied (tile_block h x (record { a = no_row; b = no_row }) z) (moves.deliver (numbers_in (tile_block h x (record { a = no_row; b = no_row }) z))) ≡ refused_step 7 (tile_block h x (record { a = no_row; b = no_row }) z)
unfolding move_applied numbers_in
none_rule h x z = refl

deliver_rule : (t : ℕ) (x : Tile) → move_applied (enc_tile x) (moves.deliver (numbers_in (enc_tile x))) ≡ enc_step (enc_tile x) (rules.deliver_to t x)
unfolding enc_tile enc_queue rules.deliver_to enc_step
deliver_rule t (tile_of c p q1 empty q3) = none_rule (enc_head c p) (enc_queue enc_request q1) (enc_queue enc_reply q3)
deliver_rule t (tile_of c p q1 (one m) q3) = front_rule t q1 q3 no_row empty last_left m c p
deliver_rule t (tile_of c p q1 (two m n) q3) = front_rule t q1 q3 (enc_forward n) (one n) (second_left n) m c p

-- the four calls by tag
unfoldable pub rule_of : ℕ → ℕ → ℕ → ℕ → Tile → Result Tile
rule_of c t w v x = cond (eqb c 16) (bench.at_word w (rules.load_at t w x)) (cond (eqb c 17) (bench.at_word w (rules.store_at t w v x)) (cond (eqb c 18) (rules.evict_at t x) (rules.deliver_to t x)))

pub rule_numbers : (c t w v : ℕ) (x : Tile) → tile_step_on c w v (enc_tile x) ≡ enc_step (enc_tile x) (rule_of c t w v x)
unfolding tile_step_on rule_of
rule_numbers c t w v x = go (eqb c 16) (eqb c 17) (eqb c 18)
  where
    go : (a b d : Bool) → move_applied (enc_tile x) (cond a (moves.load (numbers_in (enc_tile x)) w) (cond b (moves.store (numbers_in (enc_tile x)) w v) (cond d (moves.evict (numbers_in (enc_tile x))) (moves.deliver (numbers_in (enc_tile x))))))
        ≡ enc_step (enc_tile x) (cond a (bench.at_word w (rules.load_at t w x)) (cond b (bench.at_word w (rules.store_at t w v x)) (cond d (rules.evict_at t x) (rules.deliver_to t x))))
    go true b d = load_rule t w x
    go false true d = store_rule t w v x
    go false false true = evict_rule t x
    go false false false = deliver_rule t x
