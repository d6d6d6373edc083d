-- The words of a bench at the places and with the codes that have names, computed. Assumes nothing.
use mathlib.Core.Path.{◌≡◌, refl}
use mathlib.Core.Bool.{true}
use mathlib.Core.List.{[], ◌∷◌, map}
use lib.ListN.{get_or, drop}
use Rattle.protocol.specs.Parts.{state_number, cache_state, valid, exclusive, modified, for_store, one, two, load_req, data_ack, inv_fwd_ack, load_mem, load_mem_ack, store_mem_ack, tile_of, absent, request, eviction, clear_for, clear_for_eviction, idle, awaiting_load, awaiting_owner, awaiting_acks, awaiting_store, Bench, bench_of, reading, writing, storing, task}
use Rattle.protocol.specs.Home.{range}
use Rattle.layout.specs.Places.{message_type_place, message_word_place, message_state_place, message_flag_place, row_data_place, tile_state_place, tile_waiting_place, tile_word_place, tile_value_place, tile_line_place, tile_noc1_place, tile_noc2_place, tile_noc3_place, home_tile_count_place, home_phase_place, home_valid_place, home_dirty_place, home_directory_place, home_holders_place, home_line_place, home_last_taken_place, home_marks_place, home_requester_place, home_owed_place, home_memory_place, home_to_memory_place, home_from_memory_place, home_size}
use Rattle.layout.specs.Blocks.{row_words, pair_words, tile_block_words, home_block_words}
use Rattle.layout.specs.Encode.{flag, enc_request, enc_forward, enc_reply, enc_to_memory, enc_from_memory, enc_queue, cache_words, waiting_number, waiting_word, waiting_value, enc_head, enc_tile, directory_number, holders, enc_line, line_of, phase_number, requester, owed_tiles, enc_home, enc_tiles, encode}

bench : Bench
bench = bench_of (awaiting_acks true (range 100 8) 25 24 (clear_for (task 23 storing))) 21 22 (range 200 8) (one load_mem) (two (load_mem_ack (range 300 8)) store_mem_ack) (tile_of (valid modified (range 400 8)) (for_store 5 77) (one (load_req 3)) (one (data_ack exclusive true (range 500 8))) (one inv_fwd_ack) ∷ [])

places : (map (λ i. get_or (encode bench) i 0) (home_tile_count_place ∷ home_phase_place ∷ home_valid_place ∷ home_dirty_place ∷ home_directory_place ∷ home_holders_place ∷ home_line_place ∷ home_last_taken_place ∷ home_marks_place ∷ home_requester_place ∷ home_owed_place ∷ home_memory_place ∷ home_to_memory_place ∷ home_from_memory_place ∷ []) ≡ 1 ∷ 6 ∷ 1 ∷ 1 ∷ 1 ∷ 25 ∷ 100 ∷ 21 ∷ 22 ∷ 23 ∷ 24 ∷ 200 ∷ 19 ∷ 24 ∷ [])
    × (map (λ i. get_or (drop home_size (encode bench)) i 0) (tile_state_place ∷ tile_waiting_place ∷ tile_word_place ∷ tile_value_place ∷ tile_line_place ∷ tile_noc1_place ∷ tile_noc2_place ∷ tile_noc3_place ∷ []) ≡ 3 ∷ 2 ∷ 5 ∷ 77 ∷ 400 ∷ 31 ∷ 29 ∷ 23 ∷ [])
    × (map (λ i. get_or (row_words (enc_forward (data_ack exclusive true (range 500 8)))) i 0) (message_type_place ∷ message_word_place ∷ message_state_place ∷ message_flag_place ∷ row_data_place ∷ []) ≡ 29 ∷ 0 ∷ 2 ∷ 1 ∷ 500 ∷ [])
    × (map phase_number (idle absent ∷ awaiting_load (task 0 reading) absent ∷ awaiting_load (task 0 (writing storing)) absent ∷ awaiting_owner true [] 0 (request (task 0 reading)) ∷ awaiting_owner true [] 0 (request (task 0 (writing storing))) ∷ awaiting_owner true [] 0 eviction ∷ awaiting_acks true [] 0 0 (clear_for (task 0 storing)) ∷ awaiting_acks true [] 0 0 clear_for_eviction ∷ awaiting_store absent ∷ []) ≡ range 0 9)
unfolding bench range state_number cache_state row_words pair_words tile_block_words home_block_words flag enc_request enc_forward enc_reply enc_to_memory enc_from_memory enc_queue cache_words waiting_number waiting_word waiting_value enc_head enc_tile directory_number holders enc_line line_of phase_number requester owed_tiles enc_home enc_tiles encode
places = (refl, refl, refl, refl)
