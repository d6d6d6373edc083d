-- Order 1 on numbers: one run of two tiles, computed, with the stores and loads that 01's beats do not show. Assumes nothing.
use Prim.Native.Nat.{ℕ}
use mathlib.Core.Path.{◌≡◌, refl}
use mathlib.Core.List.{List, [], ◌∷◌}
use Rattle.masks.specs.Mask.{has, add, del}
use Rattle.protocol.specs.Tile.{load_at, store_at, evict_at, fill, receive, received, deliver_to}
use Rattle.protocol.specs.Home.{range, among, members, grant_shared, grant_message, granted_line, grant, asked_for, ask_owner, invalidate_to, invalidate, leave, serve, write_back, ack_words, ack_dirty, load_ack_s, load_ack_i, store_ack, cleared, inv_ack, acknowledged, evict_line}
use Rattle.protocol.specs.Parts.{Call, load, store, evict, taking, to_tile, from_tile, memory_step, memory_ack, home_eviction}
use Rattle.protocol.specs.Bench.{fresh, push, front, rest, on_tile1, on_tile2, on_tile3, send_one, send_to, send, outcome, posted, kind_of, settle, at_tile, at_word, circle, first_of, eligible, arbitrate, noc1, pop_noc1, served, take_front, take_chosen, taking_on, noc3, pop_noc3, written_back, fitted, accept_reply, from_tile_on, memory_serves, memory_step_on, accept_ack, memory_ack_on, home_eviction_on, step}
use Rattle.protocol.specs.Answers.{answer_of, has_kind}
use Rattle.protocol.specs.Runs.{kept, after, rules, history, waits_for_by, waits_for_after}
use Rattle.protocol.specs.Beats.{gives, Check, call, call_sending, tile_state, home_word, memory_word, Hold, word0}
use Rattle.protocol.specs.Order1.{stored_word, word_by, word_after, word_since, last_written}

unfoldable run : List Check
run =
    -- a line from memory
    call (load 0 0) (gives 3 0) ∷
    call taking (gives 3 0) ∷
    call memory_step (gives 3 0) ∷
    call memory_ack (gives 3 0) ∷
    call (to_tile 0) (gives 1 7) ∷
    -- a store in E, then one of the other tile: STORE_FWD brings its data
    call (store 0 1 5) (gives 2 0) ∷
    call (store 1 0 9) (gives 3 0) ∷
    call taking (gives 3 1) ∷
    call (to_tile 0) (gives 3 0) ∷
    call (from_tile 0) (gives 3 0) ∷
    call (to_tile 1) (gives 2 0) ∷
    call (load 1 1) (gives 1 5) ∷
    call (load 1 0) (gives 1 9) ∷
    -- LOAD_FWD brings the data, and the line leaves dirty
    call (load 0 1) (gives 3 0) ∷
    call taking (gives 3 0) ∷
    call (to_tile 1) (gives 3 0) ∷
    call (from_tile 1) (gives 3 0) ∷
    call (to_tile 0) (gives 1 5) ∷
    call home_eviction (gives 3 0) ∷
    call (to_tile 0) (gives 3 0) ∷
    call (to_tile 1) (gives 3 0) ∷
    call (from_tile 0) (gives 0 0) ∷
    call (from_tile 1) (gives 3 0) ∷
    call memory_step (gives 3 0) ∷
    call memory_ack (gives 0 0) ∷
    call (load 0 1) (gives 3 0) ∷
    call taking (gives 3 0) ∷
    call memory_step (gives 3 0) ∷
    call memory_ack (gives 3 0) ∷
    call (to_tile 0) (gives 1 5) ∷
    -- a write-back comes in at an idle home, and the line leaves dirty
    call (store 0 1 6) (gives 2 0) ∷
    call (evict 0) (gives 3 0) ∷
    call (from_tile 0) (gives 0 0) ∷
    call taking (gives 0 0) ∷
    call home_eviction (gives 3 0) ∷
    call memory_step (gives 3 0) ∷
    call memory_ack (gives 0 0) ∷
    call (load 0 1) (gives 3 0) ∷
    call taking (gives 3 0) ∷
    call memory_step (gives 3 0) ∷
    call memory_ack (gives 3 0) ∷
    call (to_tile 0) (gives 1 6) ∷
    -- a write-back comes in while the home waits for the owner
    call (store 0 1 3) (gives 2 0) ∷
    call (load 1 1) (gives 3 0) ∷
    call taking (gives 3 1) ∷
    call (evict 0) (gives 3 0) ∷
    call (from_tile 0) (gives 0 0) ∷
    call (to_tile 0) (gives 3 0) ∷
    call (from_tile 0) (gives 3 0) ∷
    call (to_tile 1) (gives 1 3) ∷
    call taking (gives 0 0) ∷
    -- an owner in E is in S after LOAD_FWD: its store must ask
    call (load 0 1) (gives 3 0) ∷
    call taking (gives 3 0) ∷
    call (to_tile 1) (gives 3 0) ∷
    call (from_tile 1) (gives 3 0) ∷
    call (to_tile 0) (gives 1 3) ∷
    call (store 1 1 8) (gives 3 0) ∷
    []

-- the answers are these
answers : Hold run (fresh 2 (word0 7))
unfolding run has add del load_at store_at evict_at fill receive received deliver_to range among members grant_shared grant_message granted_line grant asked_for ask_owner invalidate_to invalidate leave serve write_back ack_words ack_dirty load_ack_s load_ack_i store_ack cleared inv_ack acknowledged evict_line fresh push front rest on_tile1 on_tile2 on_tile3 send_one send_to send outcome posted kind_of settle at_tile at_word circle first_of eligible arbitrate noc1 pop_noc1 served take_front take_chosen taking_on noc3 pop_noc3 written_back fitted accept_reply from_tile_on memory_serves memory_step_on accept_ack memory_ack_on home_eviction_on step kept after answer_of Hold word0
answers = (refl, (refl, (refl, (refl, (refl, (refl, (refl, (refl, (refl, (refl, (refl, (refl, (refl, (refl, (refl, (refl, (refl, (refl, (refl, (refl, (refl, (refl, (refl, (refl, (refl, (refl, (refl, (refl, (refl, (refl, (refl, (refl, (refl, (refl, (refl, (refl, (refl, (refl, (refl, (refl, (refl, (refl, (refl, (refl, (refl, (refl, (refl, (refl, (refl, (refl, (refl, (refl, (refl, (refl, (refl, (refl, (refl, tt)))))))))))))))))))))))))))))))))))))))))))))))))))))))))

-- and the words last written by its stores of kind 2 are 9 and 3, where memory had 7 and 0
unfoldable calls : List Check → List Call
calls [] = []
calls (call c r ∷ cs) = c ∷ calls cs
calls (call_sending c r ms ∷ cs) = c ∷ calls cs
calls (tile_state t s ∷ cs) = calls cs
calls (home_word w v ∷ cs) = calls cs
calls (memory_word w v ∷ cs) = calls cs

abbrev last_of : ℕ → ℕ
last_of w = last_written (word0 7) (history rules (calls run) (fresh 2 (word0 7))) w

last_words : (last_of 0 ≡ 9) × (last_of 1 ≡ 3) × (last_of 2 ≡ 0)
unfolding run calls has_kind history waits_for_by waits_for_after stored_word word_by word_after word_since last_written has add del load_at store_at evict_at fill receive received deliver_to range among members grant_shared grant_message granted_line grant asked_for ask_owner invalidate_to invalidate leave serve write_back ack_words ack_dirty load_ack_s load_ack_i store_ack cleared inv_ack acknowledged evict_line fresh push front rest on_tile1 on_tile2 on_tile3 send_one send_to send outcome posted kind_of settle at_tile at_word circle first_of eligible arbitrate noc1 pop_noc1 served take_front take_chosen taking_on noc3 pop_noc3 written_back fitted accept_reply from_tile_on memory_serves memory_step_on accept_ack memory_ack_on home_eviction_on step kept after answer_of Hold word0
last_words = (refl, refl, refl)
