-- The numbers of each part of a bench, as docs/LAYOUT.md gives them. What a part does not use is 0.
use Rattle.std.specs.Prelude.{ℕ, Bool, true, false, List, [], ◌∷◌, ◌++◌, length}
use Rattle.std.proofs.Math.Option.{some, none}
use Rattle.numbers.specs.Types.{no_message_type, load_req_type, store_req_type, wbguard_req_type, load_fwd_type, store_fwd_type, inv_fwd_type, data_ack_type, wb_req_type, load_fwdack_type, store_fwdack_type, inv_fwdack_type, load_mem_type, store_mem_type, load_mem_ack_type, store_mem_ack_type}
use Rattle.numbers.specs.States.{state_i, state_s}
use Rattle.layout.specs.Codes.{phase_idle, phase_loading_for_load, phase_loading_for_store, phase_owner_for_load, phase_owner_for_store, phase_owner_for_eviction, phase_acks_for_store, phase_acks_for_eviction, phase_storing, directory_i, directory_s, directory_e, waits_for_nothing, waits_for_load, waits_for_store}
use Rattle.layout.specs.declared.rows.Row.{Row}
use Rattle.layout.specs.declared.rows.Pair.{Pair}
use Rattle.layout.specs.declared.rows.TileBlock.{TileBlock}
use Rattle.layout.specs.declared.rows.HomeBlock.{HomeBlock}
use Rattle.layout.specs.Blocks.{tile_block_words, home_block_words}
use Rattle.protocol.specs.Parts.{Words, Queue, empty, one, two, reading, writing, Cache, invalid, valid, state_number, cache_state, Waiting, nothing, for_load, for_store, Request, load_req, store_req, wb_guard_req, Forward, load_fwd, store_fwd, inv_fwd, data_ack, Reply, wb_req, load_fwd_ack_s, load_fwd_ack_i, store_fwd_ack, inv_fwd_ack, ToMemory, load_mem, store_mem, FromMemory, load_mem_ack, store_mem_ack, Tile, tile_of, Directory, uncached, shared_by, owned_by, Line, absent, present, request, eviction, clear_for, clear_for_eviction, Home, idle, awaiting_load, awaiting_owner, awaiting_acks, awaiting_store, Bench, bench_of, task, storing}

abbrev pub zeros : Words
zeros = 0 ∷ 0 ∷ 0 ∷ 0 ∷ 0 ∷ 0 ∷ 0 ∷ 0 ∷ []

abbrev pub row : ℕ → ℕ → ℕ → ℕ → Words → Row
row a b c d ws = record { n0 = a; n1 = b; n2 = c; n3 = d; words = ws }

abbrev pub no_row : Row
no_row = row no_message_type 0 0 0 zeros

-- flags: 0 or 1
unfoldable pub flag : Bool → ℕ
flag false = 0
flag true = 1

-- A message: type, word, state, a flag (L2 miss of DATA_ACK; of an ack, that it has data), data.
unfoldable pub enc_request : Request → Row
enc_request (load_req w) = row load_req_type w 0 0 zeros
enc_request (store_req w) = row store_req_type w 0 0 zeros
enc_request wb_guard_req = row wbguard_req_type 0 0 0 zeros

unfoldable pub enc_forward : Forward → Row
enc_forward load_fwd = row load_fwd_type 0 0 0 zeros
enc_forward store_fwd = row store_fwd_type 0 0 0 zeros
enc_forward inv_fwd = row inv_fwd_type 0 0 0 zeros
enc_forward (data_ack r miss ws) = row data_ack_type 0 (state_number r) (flag miss) ws

unfoldable pub enc_reply : Reply → Row
enc_reply (wb_req ws) = row wb_req_type 0 0 0 ws
enc_reply (load_fwd_ack_s none) = row load_fwdack_type 0 state_s 0 zeros
enc_reply (load_fwd_ack_s (some ws)) = row load_fwdack_type 0 state_s 1 ws
enc_reply load_fwd_ack_i = row load_fwdack_type 0 state_i 0 zeros
enc_reply (store_fwd_ack none) = row store_fwdack_type 0 state_i 0 zeros
enc_reply (store_fwd_ack (some ws)) = row store_fwdack_type 0 state_i 1 ws
enc_reply inv_fwd_ack = row inv_fwdack_type 0 state_i 0 zeros

unfoldable pub enc_to_memory : ToMemory → Row
enc_to_memory load_mem = row load_mem_type 0 0 0 zeros
enc_to_memory (store_mem ws) = row store_mem_type 0 0 0 ws

unfoldable pub enc_from_memory : FromMemory → Row
enc_from_memory (load_mem_ack ws) = row load_mem_ack_type 0 0 0 ws
enc_from_memory store_mem_ack = row store_mem_ack_type 0 0 0 zeros

-- A queue (01's way): its first message, then its second; a free place is all 0, and so has type 0.
unfoldable pub enc_queue : {A : Type 0} → (A → Row) → Queue A → Pair
enc_queue f empty = record { a = no_row; b = no_row }
enc_queue f (one x) = record { a = f x; b = no_row }
enc_queue f (two x y) = record { a = f x; b = f y }

-- A tile's head: state, what it waits for, its word, its value, the tile's words.
unfoldable pub cache_words : Cache → Words
cache_words invalid = zeros
cache_words (valid r ws) = ws

unfoldable pub waiting_number : Waiting → ℕ
waiting_number nothing = waits_for_nothing
waiting_number (for_load w) = waits_for_load
waiting_number (for_store w v) = waits_for_store

unfoldable pub waiting_word : Waiting → ℕ
waiting_word nothing = 0
waiting_word (for_load w) = w
waiting_word (for_store w v) = w

unfoldable pub waiting_value : Waiting → ℕ
waiting_value nothing = 0
waiting_value (for_load w) = 0
waiting_value (for_store w v) = v

unfoldable pub enc_head : Cache → Waiting → Row
enc_head c p = row (cache_state c) (waiting_number p) (waiting_word p) (waiting_value p) (cache_words c)

unfoldable pub enc_tile : Tile → TileBlock
enc_tile (tile_of c p q1 q2 q3) =
    record { head = enc_head c p; noc1 = enc_queue enc_request q1; noc2 = enc_queue enc_forward q2; noc3 = enc_queue enc_reply q3 }

-- The home's line: valid, dirty, directory, its holders (the mask of sharers in S, the owner in E), the line's words.
unfoldable pub directory_number : Directory → ℕ
directory_number uncached = directory_i
directory_number (shared_by m) = directory_s
directory_number (owned_by o) = directory_e

unfoldable pub holders : Directory → ℕ
holders uncached = 0
holders (shared_by m) = m
holders (owned_by o) = o

unfoldable pub enc_line : Line → Row
enc_line absent = no_row
enc_line (present d ws x) = row 1 (flag d) (directory_number x) (holders x) ws

unfoldable pub line_of : Home → Line
line_of (idle l) = l
line_of (awaiting_load (task r a) l) = l
line_of (awaiting_owner d ws o c) = present d ws (owned_by o)
line_of (awaiting_acks d ws m owed c) = present d ws (shared_by m)
line_of (awaiting_store l) = l

-- The phase.
unfoldable pub phase_number : Home → ℕ
phase_number (idle l) = phase_idle
phase_number (awaiting_load (task r reading) l) = phase_loading_for_load
phase_number (awaiting_load (task r (writing storing)) l) = phase_loading_for_store
phase_number (awaiting_owner d ws o (request (task r reading))) = phase_owner_for_load
phase_number (awaiting_owner d ws o (request (task r (writing storing)))) = phase_owner_for_store
phase_number (awaiting_owner d ws o eviction) = phase_owner_for_eviction
phase_number (awaiting_acks d ws m owed (clear_for (task r storing))) = phase_acks_for_store
phase_number (awaiting_acks d ws m owed clear_for_eviction) = phase_acks_for_eviction
phase_number (awaiting_store l) = phase_storing

-- the tile whose request it is
unfoldable pub requester : Home → ℕ
requester (idle l) = 0
requester (awaiting_load (task r a) l) = r
requester (awaiting_owner d ws o (request (task r a))) = r
requester (awaiting_owner d ws o eviction) = 0
requester (awaiting_acks d ws m owed (clear_for (task r storing))) = r
requester (awaiting_acks d ws m owed clear_for_eviction) = 0
requester (awaiting_store l) = 0

-- the tiles still owed
unfoldable pub owed_tiles : Home → ℕ
owed_tiles (idle l) = 0
owed_tiles (awaiting_load (task r a) l) = 0
owed_tiles (awaiting_owner d ws o c) = 0
owed_tiles (awaiting_acks d ws m owed c) = owed
owed_tiles (awaiting_store l) = 0

-- The home's block, of a bench of n tiles. Its control row: last tile taken, marks, requester, owed tiles, the memory's words.
unfoldable pub enc_home : ℕ → Home → ℕ → ℕ → Words → Queue ToMemory → Queue FromMemory → HomeBlock
enc_home n h l k mem out back =
    record { count = n; phase = phase_number h; line = enc_line (line_of h); control = row l k (requester h) (owed_tiles h) mem; out = enc_queue enc_to_memory out; back = enc_queue enc_from_memory back }

-- The words of a bench: the home's block, then a block for each tile.
unfoldable pub enc_tiles : List Tile → List ℕ
enc_tiles [] = []
enc_tiles (t ∷ ts) = tile_block_words (enc_tile t) ++ enc_tiles ts

unfoldable pub encode : Bench → List ℕ
encode (bench_of h l k mem out back ts) = home_block_words (enc_home (length ts) h l k mem out back) ++ enc_tiles ts
