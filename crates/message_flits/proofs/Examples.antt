-- Fields of messages of tile 13, which is x 5, y 1, and of memory, computed from document 01, 'Flits of a bench'. Assumes nothing.
use mathlib.Core.Path.{◌≡◌, refl}
use mathlib.Core.List.{[], ◌∷◌}
use Rattle.flits.specs.Table.{row_of}
use Rattle.layout.specs.Encode.{row, zeros}
use Rattle.message_flits.specs.Fields.{destination, source, message_tag, word_address, message_address, message_size, message_source, message_miss, message_header, message_fields, data_count, message_data, kept_word, kept_flag, kept_data, kept_row}

-- a load of word 7 of the last line, from the tile to the home
load_request : message_fields 0xFFFFFFFFFFC0 1 13 (row 31 7 0 0 zeros) ≡ record { opcode = 31; tag = 13; to = record { chip = 0; x = 0; y = 0; port = 0 }; state = 0; miss = 0; address54 = 0; last = 0; address = 0xFFFFFFFFFFF8; vector = 0; icache = 0; size = 4; from = record { chip = 0; x = 5; y = 1; port = 0 } }
unfolding message_fields message_header message_tag destination message_miss message_address word_address message_size message_source source row_of
load_request = refl

-- a grant of E after a memory load, from the home to the tile
grant : message_fields 0x80001040 2 13 (row 29 0 2 1 (7 ∷ 0 ∷ 0 ∷ 0 ∷ 0 ∷ 0 ∷ 0 ∷ 0 ∷ [])) ≡ record { opcode = 29; tag = 13; to = record { chip = 0; x = 5; y = 1; port = 0 }; state = 2; miss = 1; address54 = 0; last = 0; address = 0; vector = 0; icache = 0; size = 0; from = record { chip = 0; x = 0; y = 0; port = 0 } }
unfolding message_fields message_header message_tag destination message_miss message_address word_address message_size message_source source row_of
grant = refl

-- a load of the line, from the home to memory
memory_load : message_fields 0x80001040 4 0 (row 19 0 0 0 zeros) ≡ record { opcode = 19; tag = 0; to = record { chip = 0; x = 0; y = 0; port = 2 }; state = 0; miss = 0; address54 = 0; last = 0; address = 0x80001040; vector = 0; icache = 0; size = 7; from = record { chip = 0; x = 0; y = 0; port = 0 } }
unfolding message_fields message_header message_tag destination message_miss message_address word_address message_size message_source source row_of
memory_load = refl

-- what a bench keeps of that load request, and of an ack with its data
kept : (kept_row (message_fields 0xFFFFFFFFFFC0 1 13 (row 31 7 0 0 zeros)) [] ≡ row 31 7 0 0 zeros)
    × (kept_row (message_fields 0 3 13 (row 22 0 0 1 zeros)) (message_data (row 22 0 0 1 zeros)) ≡ row 22 0 0 1 zeros)
unfolding kept_row kept_word kept_flag kept_data message_data data_count message_fields message_header message_tag destination message_miss message_address word_address message_size message_source source row_of
kept = (refl, refl)
