-- Document 01, 'Beats on the bench', P1 to P9: one run, as one list of what is done and looked at, each with what 01 expects.
use Rattle.std.specs.Prelude.{ℕ, ◌≡◌, false, List, [], ◌∷◌, get_or}
use Rattle.std.proofs.Math.Option.{some}
use Rattle.numbers.specs.States.{state_i, state_s, state_e, state_m}
use Rattle.numbers.specs.Kinds.{kind_other, kind_loaded, kind_stored, kind_sent}
use Rattle.numbers.specs.Refusals.{no_refusal, no_tile_refusal, no_word_refusal, nothing_there_refusal}
use Rattle.protocol.specs.declared.Answer.{Answer}
use Rattle.protocol.specs.Parts.{Words, exclusive, cache_state, load_fwd, inv_fwd, data_ack, load_fwd_ack_s, load_fwd_ack_i, Message, on_noc2, on_noc3, Tile, tile_of, Line, absent, present, Home, idle, awaiting_load, awaiting_owner, awaiting_acks, awaiting_store, Bench, bench_of, Call, load, store, evict, taking, to_tile, from_tile, memory_step, memory_ack, home_eviction, Result, refused, accepted}
use Rattle.protocol.specs.Bench.{fresh, tile_at, step}
use Rattle.protocol.specs.Answers.{answer_of}
use Rattle.protocol.specs.Runs.{after}
use Rattle.protocol.specs.Demand3.{tiles_of}

-- what a call is to answer: refusal number, kind and value
abbrev pub gives : ℕ → ℕ → List ℕ
gives k v = no_refusal ∷ k ∷ v ∷ []

abbrev pub refuses : ℕ → List ℕ
refuses n = n ∷ kind_other ∷ 0 ∷ []

abbrev pub said_by : Answer → List ℕ
said_by r = r.refusal ∷ r.kind ∷ r.value ∷ []

-- one thing of the run, with what is expected: a call is made and its answer looked at (refusal, kind, value); the same with the
-- messages that it sends; a tile's state; a word of the home's line; a word of memory
pub data Check : Type 0 where
  call : Call → List ℕ → Check
  call_sending : Call → List ℕ → List Message → Check
  tile_state : ℕ → ℕ → Check
  home_word : ℕ → ℕ → Check
  memory_word : ℕ → ℕ → Check

unfoldable pub state_of : Tile → ℕ
state_of (tile_of c p q1 q2 q3) = cache_state c

unfoldable pub line_words : Line → Words
line_words absent = []
line_words (present d ws x) = ws

unfoldable pub home_words : Home → Words
home_words (idle x) = line_words x
home_words (awaiting_load t x) = line_words x
home_words (awaiting_owner d ws o c) = ws
home_words (awaiting_acks d ws m owed c) = ws
home_words (awaiting_store x) = line_words x

unfoldable pub home_of : Bench → Home
home_of (bench_of h l k mem out back ts) = h

unfoldable pub memory_of : Bench → Words
memory_of (bench_of h l k mem out back ts) = mem

unfoldable pub messages_of : Result Bench → List Message
messages_of (refused n) = []
messages_of (accepted k v b ms) = ms

-- each call is made on the bench that the last one left
unfoldable pub Hold : List Check → Bench → Type 0
Hold [] b = Unit {0}
Hold (call c r ∷ cs) b = (said_by (answer_of (step c b)) ≡ r) × Hold cs (after c b)
Hold (call_sending c r ms ∷ cs) b = (said_by (answer_of (step c b)) ≡ r) × (messages_of (step c b) ≡ ms) × Hold cs (after c b)
Hold (tile_state t s ∷ cs) b = (state_of (tile_at (tiles_of b) t) ≡ s) × Hold cs b
Hold (home_word w v ∷ cs) b = (get_or (home_words (home_of b)) w 0 ≡ v) × Hold cs b
Hold (memory_word w v ∷ cs) b = (get_or (memory_of b) w 0 ≡ v) × Hold cs b

-- a line whose word 0 is v
unfoldable pub word0 : ℕ → Words
word0 v = v ∷ 0 ∷ 0 ∷ 0 ∷ 0 ∷ 0 ∷ 0 ∷ 0 ∷ []

unfoldable pub beats : List Check
beats =
    -- P1 tile 0 loads word 0: taking, memory step, memory ack, delivery give 7, state E
    call (load 0 0) (gives kind_sent 0) ∷
    call taking (gives kind_sent 0) ∷
    call memory_step (gives kind_sent 0) ∷
    call memory_ack (gives kind_sent 0) ∷
    call (to_tile 0) (gives kind_loaded 7) ∷
    tile_state 0 state_e ∷
    -- P2 tile 0 stores 9: kind 2, M, no message
    call_sending (store 0 0 9) (gives kind_stored 0) [] ∷
    tile_state 0 state_m ∷
    -- P3 tile 1 loads: forward and ack; both S, answer 9
    call (load 1 0) (gives kind_sent 0) ∷
    call_sending taking (gives kind_sent 1) (on_noc2 0 load_fwd ∷ []) ∷
    call_sending (to_tile 0) (gives kind_sent 0) (on_noc3 0 (load_fwd_ack_s (some (word0 9))) ∷ []) ∷
    call (from_tile 0) (gives kind_sent 0) ∷
    call (to_tile 1) (gives kind_loaded 9) ∷
    tile_state 0 state_s ∷
    tile_state 1 state_s ∷
    -- P4 tile 1 stores 4: tile 0 invalidated; tile 1 M; home still 9
    call (store 1 0 4) (gives kind_sent 0) ∷
    call_sending taking (gives kind_sent 1) (on_noc2 0 inv_fwd ∷ []) ∷
    call (to_tile 0) (gives kind_sent 0) ∷
    tile_state 0 state_i ∷
    call (from_tile 0) (gives kind_sent 0) ∷
    call (to_tile 1) (gives kind_stored 0) ∷
    tile_state 1 state_m ∷
    home_word 0 9 ∷
    -- P5 tile 1 evicts and loads: taking is 7 until its write-back is in
    call (evict 1) (gives kind_sent 0) ∷
    call (load 1 0) (gives kind_sent 0) ∷
    call taking (refuses nothing_there_refusal) ∷
    call (from_tile 1) (gives kind_other 0) ∷
    -- P6 then takings answer 0, value 1 and 3, value 1; load gives 4, state E
    call taking (gives kind_other 1) ∷
    call taking (gives kind_sent 1) ∷
    call (to_tile 1) (gives kind_loaded 4) ∷
    tile_state 1 state_e ∷
    -- P7 tile 1 evicts silently, tile 0 loads: ack I, grant E, 4
    call_sending (evict 1) (gives kind_other 0) [] ∷
    call (load 0 0) (gives kind_sent 0) ∷
    call taking (gives kind_sent 0) ∷
    call_sending (to_tile 1) (gives kind_sent 0) (on_noc3 1 load_fwd_ack_i ∷ []) ∷
    call_sending (from_tile 1) (gives kind_sent 0) (on_noc2 0 (data_ack exclusive false (word0 4)) ∷ []) ∷
    call (to_tile 0) (gives kind_loaded 4) ∷
    tile_state 0 state_e ∷
    -- P8 home eviction: memory word 0 becomes 4
    call home_eviction (gives kind_sent 0) ∷
    call (to_tile 0) (gives kind_sent 0) ∷
    call (from_tile 0) (gives kind_sent 0) ∷
    memory_word 0 7 ∷
    call memory_step (gives kind_sent 0) ∷
    memory_word 0 4 ∷
    call memory_ack (gives kind_other 0) ∷
    -- P9 tile 2: 2. Word 8: 3. Both: 2. Tile 1, word 7: accepted
    call (load 2 0) (refuses no_tile_refusal) ∷
    call (load 1 8) (refuses no_word_refusal) ∷
    call (load 2 8) (refuses no_tile_refusal) ∷
    call (load 1 7) (gives kind_sent 0) ∷
    []

-- two tiles, memory word 0 = 7
abbrev pub BeatsStatement : Type 0
BeatsStatement = Hold beats (fresh 2 (word0 7))
