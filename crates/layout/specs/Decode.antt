-- What numbers stand for. Every number is read as something in range: whether the numbers are those of a bench is asked by
-- encoding what was read and comparing (docs/PROVED.md has 01's well-formedness point by point).
use Rattle.std.specs.Prelude.{ℕ, suc, ◌+◌, ◌%◌, ◌^◌, Bool, cond, not, List, [], ◌∷◌, eqb}
use Rattle.std.proofs.Math.Option.{Option, some, none}
use Rattle.numbers.specs.Types.{no_message_type, load_req_type, store_req_type, load_fwd_type, store_fwd_type, inv_fwd_type, wb_req_type, load_fwdack_type, store_fwdack_type, load_mem_type, load_mem_ack_type}
use Rattle.numbers.specs.States.{state_i, state_s, state_e}
use Rattle.numbers.specs.Limits.{words_in_line}
use Rattle.layout.specs.Places.{tile_size, home_size}
use Rattle.layout.specs.Codes.{phase_idle, phase_loading_for_load, phase_loading_for_store, phase_owner_for_load, phase_owner_for_store, phase_owner_for_eviction, phase_acks_for_store, phase_acks_for_eviction, directory_i, directory_s, waits_for_nothing, waits_for_load}
use Rattle.layout.specs.declared.rows.Row.{Row}
use Rattle.layout.specs.declared.rows.Pair.{Pair}
use Rattle.layout.specs.declared.rows.TileBlock.{TileBlock}
use Rattle.layout.specs.declared.rows.HomeBlock.{HomeBlock}
use Rattle.layout.specs.Blocks.{tile_block_at, home_block_at, message_type, message_word, message_state, message_flag, head_state, head_waiting, head_word, head_value, line_valid, line_dirty, line_directory_number, line_holders, control_last_taken, control_marks, control_requester, control_owed}
use Rattle.protocol.specs.Parts.{Words, Queue, empty, one, two, reading, writing, State, shared, exclusive, modified, Cache, invalid, valid, Waiting, nothing, for_load, for_store, Request, load_req, store_req, wb_guard_req, Forward, load_fwd, store_fwd, inv_fwd, data_ack, Reply, wb_req, load_fwd_ack_s, load_fwd_ack_i, store_fwd_ack, inv_fwd_ack, ToMemory, load_mem, store_mem, FromMemory, load_mem_ack, store_mem_ack, Tile, tile_of, Directory, uncached, shared_by, owned_by, Line, absent, present, request, eviction, clear_for, clear_for_eviction, Home, idle, awaiting_load, awaiting_owner, awaiting_acks, awaiting_store, Bench, bench_of, task, storing}

unfoldable pub is_set : ℕ → Bool
is_set x = not (eqb x 0)

unfoldable pub dec_state : ℕ → State
dec_state s = cond (eqb s state_s) shared (cond (eqb s state_e) exclusive modified)

unfoldable pub dec_request : Row → Request
dec_request r = cond (eqb (message_type r) load_req_type) (load_req (message_word r % words_in_line)) (cond (eqb (message_type r) store_req_type) (store_req (message_word r % words_in_line)) wb_guard_req)

unfoldable pub dec_forward : Row → Forward
dec_forward r = cond (eqb (message_type r) load_fwd_type) load_fwd (cond (eqb (message_type r) store_fwd_type) store_fwd (cond (eqb (message_type r) inv_fwd_type) inv_fwd (data_ack (dec_state (message_state r)) (is_set (message_flag r)) r.words)))

unfoldable pub ack_data : Row → Option Words
ack_data r = cond (eqb (message_flag r) 0) none (some r.words)

unfoldable pub dec_reply : Row → Reply
dec_reply r =
    cond (eqb (message_type r) wb_req_type) (wb_req r.words)
    (cond (eqb (message_type r) load_fwdack_type) (cond (eqb (message_state r) state_i) load_fwd_ack_i (load_fwd_ack_s (ack_data r)))
    (cond (eqb (message_type r) store_fwdack_type) (store_fwd_ack (ack_data r)) inv_fwd_ack))

unfoldable pub dec_to_memory : Row → ToMemory
dec_to_memory r = cond (eqb (message_type r) load_mem_type) load_mem (store_mem r.words)

unfoldable pub dec_from_memory : Row → FromMemory
dec_from_memory r = cond (eqb (message_type r) load_mem_ack_type) (load_mem_ack r.words) store_mem_ack

unfoldable pub dec_queue : {A : Type 0} → (Row → A) → Pair → Queue A
dec_queue g q = cond (eqb (message_type q.a) no_message_type) empty (cond (eqb (message_type q.b) no_message_type) (one (g q.a)) (two (g q.a) (g q.b)))

unfoldable pub dec_cache : Row → Cache
dec_cache r = cond (eqb (head_state r) state_i) invalid (valid (dec_state (head_state r)) r.words)

unfoldable pub dec_waiting : Row → Waiting
dec_waiting r = cond (eqb (head_waiting r) waits_for_nothing) nothing (cond (eqb (head_waiting r) waits_for_load) (for_load (head_word r % words_in_line)) (for_store (head_word r % words_in_line) (head_value r)))

unfoldable pub dec_tile : TileBlock → Tile
dec_tile x = tile_of (dec_cache x.head) (dec_waiting x.head) (dec_queue dec_request x.noc1) (dec_queue dec_forward x.noc2) (dec_queue dec_reply x.noc3)

-- of a bench of n tiles: masks below 2^n, tile numbers below n
unfoldable pub dec_directory : ℕ → ℕ → ℕ → Directory
dec_directory n d x = cond (eqb d directory_i) uncached (cond (eqb d directory_s) (shared_by (x % 2 ^ n)) (owned_by (x % n)))

unfoldable pub dec_line : ℕ → Row → Line
dec_line n r = cond (eqb (line_valid r) 0) absent (present (is_set (line_dirty r)) r.words (dec_directory n (line_directory_number r) (line_holders r)))

-- phase p, requester r and owed tiles u, with the line's row x
unfoldable pub dec_home : ℕ → ℕ → Row → ℕ → ℕ → Home
dec_home n p x r u =
    cond (eqb p phase_idle) (idle (dec_line n x))
    (cond (eqb p phase_loading_for_load) (awaiting_load (task (r % n) reading) (dec_line n x))
    (cond (eqb p phase_loading_for_store) (awaiting_load (task (r % n) (writing storing)) (dec_line n x))
    (cond (eqb p phase_owner_for_load) (awaiting_owner (is_set (line_dirty x)) x.words (line_holders x % n) (request (task (r % n) reading)))
    (cond (eqb p phase_owner_for_store) (awaiting_owner (is_set (line_dirty x)) x.words (line_holders x % n) (request (task (r % n) (writing storing))))
    (cond (eqb p phase_owner_for_eviction) (awaiting_owner (is_set (line_dirty x)) x.words (line_holders x % n) eviction)
    (cond (eqb p phase_acks_for_store) (awaiting_acks (is_set (line_dirty x)) x.words (line_holders x % 2 ^ n) (u % 2 ^ n) (clear_for (task (r % n) storing)))
    (cond (eqb p phase_acks_for_eviction) (awaiting_acks (is_set (line_dirty x)) x.words (line_holders x % 2 ^ n) (u % 2 ^ n) clear_for_eviction)
    (awaiting_store (dec_line n x)))))))))

-- the tiles whose blocks stand from place i on
unfoldable pub dec_tiles : List ℕ → ℕ → ℕ → List Tile
dec_tiles l i ℕ.zero = []
dec_tiles l i (suc n) = dec_tile (tile_block_at l i) ∷ dec_tiles l (i + tile_size) n

-- the home's block and the tiles, as a bench of as many tiles as the block says
unfoldable pub bench_from : HomeBlock → List Tile → Bench
bench_from x ts =
    bench_of (dec_home x.count x.phase x.line (control_requester x.control) (control_owed x.control)) (control_last_taken x.control % x.count) (control_marks x.control % 2 ^ x.count) x.control.words
    (dec_queue dec_to_memory x.out) (dec_queue dec_from_memory x.back) ts

unfoldable pub decoded : List ℕ → Bench
decoded l = bench_from (home_block_at l) (dec_tiles l home_size (home_block_at l).count)
