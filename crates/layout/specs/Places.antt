-- Where the parts of a bench stand in its words (docs/LAYOUT.md): places in a row, in a tile's block and in the home's, and their sizes.
use Rattle.std.specs.Prelude.{ℕ}

-- A row: four numbers and eight words.
abbrev pub row_size : ℕ
row_size = 12

-- where a row's eight words stand
abbrev pub row_data_place : ℕ
row_data_place = 4

-- A message is a row: type, word, state, a flag, and its data; a queue (01's way) two rows, its first message and
-- its second.
abbrev pub message_type_place : ℕ
message_type_place = 0

abbrev pub message_word_place : ℕ
message_word_place = 1

abbrev pub message_state_place : ℕ
message_state_place = 2

abbrev pub message_flag_place : ℕ
message_flag_place = 3

-- the second message of a queue
abbrev pub second_place : ℕ
second_place = 12

abbrev pub queue_size : ℕ
queue_size = 24

-- A tile's block: state, what the tile waits for with its word and value, its line, and its three queues.
abbrev pub tile_state_place : ℕ
tile_state_place = 0

abbrev pub tile_waiting_place : ℕ
tile_waiting_place = 1

abbrev pub tile_word_place : ℕ
tile_word_place = 2

abbrev pub tile_value_place : ℕ
tile_value_place = 3

abbrev pub tile_line_place : ℕ
tile_line_place = 4

abbrev pub tile_noc1_place : ℕ
tile_noc1_place = 12

abbrev pub tile_noc2_place : ℕ
tile_noc2_place = 36

abbrev pub tile_noc3_place : ℕ
tile_noc3_place = 60

abbrev pub tile_size : ℕ
tile_size = 84

-- The home's block, at the front: tile count, phase; the line's row (valid, dirty, directory, holders, words); the
-- control row (last taken, marks, requester, owed tiles, memory's words); the queues to and from memory.
abbrev pub home_tile_count_place : ℕ
home_tile_count_place = 0

abbrev pub home_phase_place : ℕ
home_phase_place = 1

abbrev pub home_line_row_place : ℕ
home_line_row_place = 2

abbrev pub home_valid_place : ℕ
home_valid_place = 2

abbrev pub home_dirty_place : ℕ
home_dirty_place = 3

abbrev pub home_directory_place : ℕ
home_directory_place = 4

-- the mask of sharers in S, the owner in E
abbrev pub home_holders_place : ℕ
home_holders_place = 5

abbrev pub home_line_place : ℕ
home_line_place = 6

abbrev pub home_control_row_place : ℕ
home_control_row_place = 14

abbrev pub home_last_taken_place : ℕ
home_last_taken_place = 14

abbrev pub home_marks_place : ℕ
home_marks_place = 15

abbrev pub home_requester_place : ℕ
home_requester_place = 16

abbrev pub home_owed_place : ℕ
home_owed_place = 17

abbrev pub home_memory_place : ℕ
home_memory_place = 18

abbrev pub home_to_memory_place : ℕ
home_to_memory_place = 26

abbrev pub home_from_memory_place : ℕ
home_from_memory_place = 50

abbrev pub home_size : ℕ
home_size = 74
