-- Document 01: 'A bench is well formed when T, tile numbers (masks too), words and states are in range'. States, and what suits
-- what, the types of the rules leave no choice about; the rest is said here, part by part.
use Rattle.std.specs.Prelude.{ℕ, ◌≤◌, ◌<◌, ◌^◌, ◌≡◌, List, [], ◌∷◌, length}
use Rattle.std.proofs.Math.Option.{Option, some, none}
use Rattle.numbers.specs.Limits.{most_tiles, words_in_line}
use Rattle.protocol.specs.Parts.{Words, Queue, empty, one, two, Cache, invalid, valid, Waiting, nothing, for_load, for_store, Request, load_req, store_req, wb_guard_req, Forward, load_fwd, store_fwd, inv_fwd, data_ack, Reply, wb_req, load_fwd_ack_s, load_fwd_ack_i, store_fwd_ack, inv_fwd_ack, ToMemory, load_mem, store_mem, FromMemory, load_mem_ack, store_mem_ack, Tile, tile_of, Directory, uncached, shared_by, owned_by, Line, absent, present, Cause, request, eviction, Clearing, clear_for, clear_for_eviction, Home, idle, awaiting_load, awaiting_owner, awaiting_acks, awaiting_store, Bench, bench_of, task}

-- a line's words are eight
abbrev pub Eight : Words → Type 0
Eight ws = length ws ≡ words_in_line

-- Messages: word numbers below 8, data of eight words.
abbrev pub RequestIn : Request → Type 0
RequestIn (load_req w) = w < words_in_line
RequestIn (store_req w) = w < words_in_line
RequestIn wb_guard_req = Unit {0}

abbrev pub ForwardIn : Forward → Type 0
ForwardIn load_fwd = Unit {0}
ForwardIn store_fwd = Unit {0}
ForwardIn inv_fwd = Unit {0}
ForwardIn (data_ack r miss ws) = Eight ws

-- data, where an ack has any
abbrev pub DataIn : Option Words → Type 0
DataIn none = Unit {0}
DataIn (some ws) = Eight ws

abbrev pub ReplyIn : Reply → Type 0
ReplyIn (wb_req ws) = Eight ws
ReplyIn (load_fwd_ack_s x) = DataIn x
ReplyIn load_fwd_ack_i = Unit {0}
ReplyIn (store_fwd_ack x) = DataIn x
ReplyIn inv_fwd_ack = Unit {0}

abbrev pub ToMemoryIn : ToMemory → Type 0
ToMemoryIn load_mem = Unit {0}
ToMemoryIn (store_mem ws) = Eight ws

abbrev pub FromMemoryIn : FromMemory → Type 0
FromMemoryIn (load_mem_ack ws) = Eight ws
FromMemoryIn store_mem_ack = Unit {0}

-- every message of a queue (01's way)
abbrev pub QueueIn : {A : Type 0} → (A → Type 0) → Queue A → Type 0
QueueIn P empty = Unit {0}
QueueIn P (one a) = P a
QueueIn P (two a b) = P a × P b

-- Tiles: eight words, and the word that the tile waits for below 8.
abbrev pub CacheIn : Cache → Type 0
CacheIn invalid = Unit {0}
CacheIn (valid r ws) = Eight ws

abbrev pub WaitingIn : Waiting → Type 0
WaitingIn nothing = Unit {0}
WaitingIn (for_load w) = w < words_in_line
WaitingIn (for_store w v) = w < words_in_line

abbrev pub TileIn : Tile → Type 0
TileIn (tile_of c p q1 q2 q3) = CacheIn c × WaitingIn p × QueueIn RequestIn q1 × QueueIn ForwardIn q2 × QueueIn ReplyIn q3

abbrev pub TilesIn : List Tile → Type 0
TilesIn [] = Unit {0}
TilesIn (x ∷ ts) = TileIn x × TilesIn ts

-- The home: tile numbers below n and masks below 2^n.
abbrev pub DirectoryIn : ℕ → Directory → Type 0
DirectoryIn n uncached = Unit {0}
DirectoryIn n (shared_by m) = m < 2 ^ n
DirectoryIn n (owned_by o) = o < n

abbrev pub LineIn : ℕ → Line → Type 0
LineIn n absent = Unit {0}
LineIn n (present d ws x) = DirectoryIn n x

abbrev pub CauseIn : ℕ → Cause → Type 0
CauseIn n (request (task r a)) = r < n
CauseIn n eviction = Unit {0}

abbrev pub ClearingIn : ℕ → Clearing → Type 0
ClearingIn n (clear_for (task r z)) = r < n
ClearingIn n clear_for_eviction = Unit {0}

abbrev pub HomeIn : ℕ → Home → Type 0
HomeIn n (idle x) = LineIn n x
HomeIn n (awaiting_load (task r a) x) = (r < n) × LineIn n x
HomeIn n (awaiting_owner d ws o c) = (o < n) × CauseIn n c
HomeIn n (awaiting_acks d ws m u c) = (m < 2 ^ n) × (u < 2 ^ n) × ClearingIn n c
HomeIn n (awaiting_store x) = LineIn n x

-- and its line, where it holds one, has eight words
abbrev pub LineEight : Line → Type 0
LineEight absent = Unit {0}
LineEight (present d ws x) = Eight ws

abbrev pub HomeEight : Home → Type 0
HomeEight (idle x) = LineEight x
HomeEight (awaiting_load (task r a) x) = LineEight x
HomeEight (awaiting_owner d ws o c) = Eight ws
HomeEight (awaiting_acks d ws m u c) = Eight ws
HomeEight (awaiting_store x) = LineEight x

-- A bench of n tiles, 1 to 64: home h, last taken l, marks k, memory mem, queues to and from memory, tiles ts.
pub record BenchIn (n : ℕ) (h : Home) (l k : ℕ) (mem : Words) (out : Queue ToMemory) (back : Queue FromMemory) (ts : List Tile) : Type 0 where
  pub some_tile : 1 ≤ n
  pub tiles_fit : n ≤ most_tiles
  pub home_in : HomeIn n h
  pub home_eight : HomeEight h
  pub last_in : l < n
  pub marks_in : k < 2 ^ n
  pub memory_eight : Eight mem
  pub out_in : QueueIn ToMemoryIn out
  pub back_in : QueueIn FromMemoryIn back
  pub tiles_given : length ts ≡ n
  pub tiles_in : TilesIn ts

abbrev pub InRange : ℕ → Bench → Type 0
InRange n (bench_of h l k mem out back ts) = BenchIn n h l k mem out back ts
