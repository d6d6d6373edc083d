-- Steps of 01 that two tiles cannot show, and what the words of the statements say of some benches, computed. Assumes nothing.
use Prim.Native.Nat.{ℕ}
use mathlib.Core.Path.{◌≡◌, refl, ap, sym}
use mathlib.Core.Bool.{true, false, false≢true}
use mathlib.Core.List.{List, [], ◌∷◌, map}
use mathlib.Core.Option.{some}
use Rattle.masks.specs.Mask.{has, add, del}
use Rattle.protocol.specs.Parts.{Tile, tile_of, invalid, valid, shared, exclusive, modified, nothing, empty, one, load_req, wb_guard_req, inv_fwd, wb_req, on_noc1, on_noc2, on_noc3, shared_by, owned_by, absent, idle, awaiting_acks, clear_for_eviction, Bench, bench_of, Call, load, store, evict, taking, to_tile, from_tile, memory_step, memory_ack, home_eviction}
use Rattle.protocol.specs.Tile.{load_at}
use Rattle.protocol.specs.Home.{move, range, inv_ack, serve}
use Rattle.protocol.specs.Bench.{fresh, push, front, rest, on_tile1, send_one, send_to, send, outcome, posted, kind_of, settle, at_tile, at_word, circle, first_of, eligible, arbitrate, noc1, pop_noc1, served, take_front, take_chosen, taking_on, noc2, noc3, step}
use Rattle.protocol.specs.Calls.{call_table, call_from, is_delivery}
use Rattle.protocol.specs.Answers.{sent_on, sent_to, answer_of, is_accepted, has_kind, refusal, acceptance}
use Rattle.protocol.specs.Runs.{kept, after, rules, runs, history, waits_for_by, waits_for_after, waits_for_since, waits_for}
use Rattle.protocol.specs.Demand3.{is_waiting, waits, tiles_of, one_if, is_empty, memory_delivery, from_delivery, to_delivery, next_delivery, Quiet, is_request, request_at_front, takes_by, takes_tile, takes_another, passes_over, passed_over, is_misfit}
use Rattle.protocol.specs.Order1.{holds, may_write, names, AnswersNeither}
use Rattle.protocol.proofs.Tests.{false_true}

asking : Tile
asking = tile_of invalid nothing (one (load_req 0)) empty empty

-- in circle order after the last taken, tile 0, tile 1 is the first of three that ask
after_the_last : arbitrate 0 0 (asking ∷ asking ∷ asking ∷ []) ≡ some 1
unfolding asking arbitrate circle range first_of eligible
after_the_last = refl

-- tile 1 asks, is taken, and becomes the last taken
last_taken : Bench → ℕ
last_taken (bench_of h l k mem out back ts) = l

taken_is_last : last_taken (after taking (after (load 1 0) (fresh 3 []))) ≡ 1
unfolding last_taken after kept step taking_on take_chosen take_front served serve posted kind_of outcome send send_to send_one push front rest on_tile1 settle at_tile at_word load_at fresh noc1 pop_noc1 arbitrate circle range first_of eligible has
taken_is_last = refl

-- of the tiles 0, 1 and 2 owed, tile 0 acknowledges: the mask stays, two are still owed, and nothing is sent
mask_stays : inv_ack 0 (awaiting_acks false [] 7 7 clear_for_eviction) ≡ some (move (awaiting_acks false [] 7 6 clear_for_eviction) [])
unfolding inv_ack has del
mask_stays = refl

-- the nine calls by number, and which of them are deliveries; a write-back is sent on NoC3 and NoC1; invalidations of tiles 0 and 2
calls : List Call
calls = load 1 2 ∷ store 1 2 3 ∷ evict 1 ∷ taking ∷ to_tile 1 ∷ from_tile 1 ∷ memory_step ∷ memory_ack ∷ home_eviction ∷ []

by_number : (map (λ tag. call_from call_table tag 1 2 3) (range 16 9) ≡ calls) × (map is_delivery calls ≡ false ∷ false ∷ false ∷ true ∷ true ∷ true ∷ true ∷ true ∷ false ∷ [])
    × (sent_on (on_noc3 1 (wb_req []) ∷ on_noc1 1 wb_guard_req ∷ []) ≡ 6) × (sent_to (on_noc2 0 inv_fwd ∷ on_noc2 2 inv_fwd ∷ []) ≡ 5)
unfolding calls range is_delivery sent_on sent_to add has
by_number = (refl, refl, refl, refl)

-- tiles 1 and 2 of three ask, and wait; the next delivery is the taking, which takes tile 1 and passes tile 2 over; a guard is no request
tile_2_passed : (map (λ t. waits t (history rules (load 1 0 ∷ load 2 0 ∷ []) (fresh 3 []))) (range 0 3) ≡ false ∷ true ∷ true ∷ []) × (next_delivery (runs rules (load 1 0 ∷ load 2 0 ∷ []) (fresh 3 [])) ≡ taking)
    × (map (λ t. passed_over rules t (taking ∷ []) (runs rules (load 1 0 ∷ load 2 0 ∷ []) (fresh 3 []))) (range 0 3) ≡ 0 ∷ 0 ∷ 1 ∷ []) × (is_request (some wb_guard_req) ≡ false)
unfolding waits is_waiting waits_for waits_for_since waits_for_after waits_for_by history has_kind runs next_delivery to_delivery from_delivery memory_delivery is_empty passed_over passes_over takes_tile takes_another takes_by request_at_front is_request tiles_of one_if is_accepted answer_of after kept step taking_on take_chosen take_front served serve posted kind_of outcome send send_to send_one push front rest on_tile1 settle at_tile at_word load_at fresh noc1 noc2 noc3 pop_noc1 arbitrate circle range first_of eligible has
tile_2_passed = (refl, refl, refl, refl)

-- a bench with a request on NoC1 is not quiet
not_quiet : Quiet (bench_of (idle absent) 0 0 [] empty empty (asking ∷ [])) → ⊥
unfolding asking is_empty tiles_of noc1
not_quiet q = false_true (ap is_empty (q.empty_noc1 0))

-- of tiles in I, S, E and M three hold the line and two may write; the mask 5 names tiles 0 and 2, an owner itself
who_holds : (map (λ c. holds (tile_of c nothing empty empty empty) ∷ may_write (tile_of c nothing empty empty empty) ∷ []) (invalid ∷ valid shared [] ∷ valid exclusive [] ∷ valid modified [] ∷ [])
    ≡ (false ∷ false ∷ []) ∷ (true ∷ false ∷ []) ∷ (true ∷ true ∷ []) ∷ (true ∷ true ∷ []) ∷ [])
    × (map (names (shared_by 5)) (range 0 3) ≡ true ∷ false ∷ true ∷ []) × (map (names (owned_by 1)) (range 0 2) ≡ false ∷ true ∷ [])
unfolding range holds may_write names has
who_holds = (refl, refl, refl)

-- refusals 8 and 9 count as misfits, and no other
misfits : map is_misfit (refusal 0 ∷ refusal 7 ∷ refusal 8 ∷ refusal 9 ∷ []) ≡ false ∷ false ∷ true ∷ true ∷ []
unfolding is_misfit
misfits = refl

-- an answer of kind 1 or 2 answers a load or a store
not_neither : (AnswersNeither (acceptance 1 0 []) → ⊥) × (AnswersNeither (acceptance 2 0 []) → ⊥)
unfolding has_kind
not_neither = ((λ x. false≢true (sym x.0)), (λ x. false≢true (sym x.1)))
