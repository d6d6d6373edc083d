-- Document 01, 'The bench': what the tiles, the home, the memory and the queues between them hold.
-- The types leave no room for most of what 01 calls malformed: a tile in I has no words, an L2 line that is not valid has
-- no directory, the home waits for the owner only with an owner. What types do not say (tile numbers, words below 8, eight
-- words in a line) is said of lent words (crate layout, specs/Range).
use Rattle.std.specs.Prelude.{ℕ, Bool, List}
use Rattle.std.proofs.Math.Option.{Option}
use Rattle.numbers.specs.States.{state_i, state_s, state_e, state_m}

-- a line's eight 64-bit words
abbrev pub Words : Type 0
Words = List ℕ

-- 01's way: first in, first out, at most two messages
pub data Queue (A : Type 0) : Type 0 where
  empty : Queue A
  one : A → Queue A
  two : A → A → Queue A

-- what is done with a line that only the home holds: it is granted to a store
pub data Write : Type 0 where
  storing : Write

-- what a request is for
pub data Access : Type 0 where
  reading : Access
  writing : Write → Access

-- a request that the home acts for: its tile, and what it asks
pub data Task (A : Type 0) : Type 0 where
  task : ℕ → A → Task A

-- 01's states S, E and M
pub data State : Type 0 where
  shared exclusive modified : State

-- a tile's state with its words: I has none
pub data Cache : Type 0 where
  invalid : Cache
  valid : State → Words → Cache

-- their numbers: I=0, S=1, E=2, M=3
unfoldable pub state_number : State → ℕ
state_number shared = state_s
state_number exclusive = state_e
state_number modified = state_m

unfoldable pub cache_state : Cache → ℕ
cache_state invalid = state_i
cache_state (valid s ws) = state_number s

-- a tile's waiting load (word) or store (word, value)
pub data Waiting : Type 0 where
  nothing : Waiting
  for_load : ℕ → Waiting
  for_store : ℕ → ℕ → Waiting

-- NoC1, tile to home: types 31 and 2 with their word, and 13
pub data Request : Type 0 where
  load_req store_req : ℕ → Request
  wb_guard_req : Request

-- NoC2, home to tile: types 16, 17, 18, and 29 with its state, L2 miss and words
pub data Forward : Type 0 where
  load_fwd store_fwd inv_fwd : Forward
  data_ack : State → Bool → Words → Forward

-- NoC3, tile to home: type 12; 21 in state S, with data or without, and in state I; 22, with data or without; 23
pub data Reply : Type 0 where
  wb_req : Words → Reply
  load_fwd_ack_s : Option Words → Reply
  load_fwd_ack_i : Reply
  store_fwd_ack : Option Words → Reply
  inv_fwd_ack : Reply

-- home to memory: types 19 and 20
pub data ToMemory : Type 0 where
  load_mem : ToMemory
  store_mem : Words → ToMemory

-- memory to home: types 24 and 25
pub data FromMemory : Type 0 where
  load_mem_ack : Words → FromMemory
  store_mem_ack : FromMemory

-- a message and the queue that takes it: of tile t on NoC1, NoC2 or NoC3, or to or from memory
pub data Message : Type 0 where
  on_noc1 : ℕ → Request → Message
  on_noc2 : ℕ → Forward → Message
  on_noc3 : ℕ → Reply → Message
  to_memory : ToMemory → Message
  from_memory : FromMemory → Message

-- state and words, the waiting access, NoC1, NoC2, NoC3
pub data Tile : Type 0 where
  tile_of : Cache → Waiting → Queue Request → Queue Forward → Queue Reply → Tile

-- the directory: I, S with the mask of sharers, E with the owner
pub data Directory : Type 0 where
  uncached : Directory
  shared_by : ℕ → Directory
  owned_by : ℕ → Directory

-- the home's line: not valid; or valid, with dirty, words and directory
pub data Line : Type 0 where
  absent : Line
  present : Bool → Words → Directory → Line

-- on whose behalf the home waits for the owner: a tile's request or an eviction
pub data Cause : Type 0 where
  request : Task Access → Cause
  eviction : Cause

-- on whose behalf it waits for invalidations: a tile's store or an eviction
pub data Clearing : Type 0 where
  clear_for : Task Write → Clearing
  clear_for_eviction : Clearing

-- idle; or waiting for memory load (for a request); for the owner (dirty, words, owner, cause), directory E;
-- for invalidations (dirty, words, mask, tiles still owed, cause), directory S; for memory store
pub data Home : Type 0 where
  idle : Line → Home
  awaiting_load : Task Access → Line → Home
  awaiting_owner : Bool → Words → ℕ → Cause → Home
  awaiting_acks : Bool → Words → ℕ → ℕ → Clearing → Home
  awaiting_store : Line → Home

-- home; last tile taken; marks, a mask; memory; queues to and from memory; tiles
pub data Bench : Type 0 where
  bench_of : Home → ℕ → ℕ → Words → Queue ToMemory → Queue FromMemory → List Tile → Bench

-- the calls; a load has tile and word, a store tile, word and value
pub data Call : Type 0 where
  load : ℕ → ℕ → Call
  store : ℕ → ℕ → ℕ → Call
  evict : ℕ → Call
  taking : Call
  to_tile : ℕ → Call
  from_tile : ℕ → Call
  memory_step : Call
  memory_ack : Call
  home_eviction : Call

-- what a rule gives: a refusal number; or kind, value, the state after it and the messages that it sends, in order
pub data Result (A : Type 0) : Type 0 where
  refused : ℕ → Result A
  accepted : ℕ → ℕ → A → List Message → Result A
