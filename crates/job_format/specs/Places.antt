-- Places and sizes in a job (01, 'Jobs'), in bytes.
use Rattle.std.specs.Prelude.{ℕ, ◌+◌}
use Rattle.numbers.specs.Limits.{word_bytes}

-- ---- a field: a tag byte, a length of two bytes, the value

abbrev pub length_offset : ℕ
length_offset = 1

abbrev pub length_bytes : ℕ
length_bytes = 2

abbrev pub head_bytes : ℕ
head_bytes = length_offset + length_bytes

-- ---- the values of the header: tile count, line address, eight words of memory

abbrev pub tile_count_bytes : ℕ
tile_count_bytes = 1

abbrev pub line_address_bytes : ℕ
line_address_bytes = 6

abbrev pub memory_bytes : ℕ
memory_bytes = 64

-- ---- the value of a call: as many of tile, word and stored word as it has

abbrev pub tile_number_offset : ℕ
tile_number_offset = 0

abbrev pub tile_number_bytes : ℕ
tile_number_bytes = 1

abbrev pub word_number_offset : ℕ
word_number_offset = 1

abbrev pub word_number_bytes : ℕ
word_number_bytes = 1

abbrev pub stored_word_offset : ℕ
stored_word_offset = 2

abbrev pub load_bytes : ℕ
load_bytes = tile_number_bytes + word_number_bytes

abbrev pub store_bytes : ℕ
store_bytes = load_bytes + word_bytes

-- ---- the header: how many fields, where their values stand, and where the first call stands

abbrev pub header_fields : ℕ
header_fields = 3

abbrev pub tile_count_offset : ℕ
tile_count_offset = head_bytes

abbrev pub line_address_offset : ℕ
line_address_offset = tile_count_offset + tile_count_bytes + head_bytes

abbrev pub memory_offset : ℕ
memory_offset = line_address_offset + line_address_bytes + head_bytes

abbrev pub header_bytes : ℕ
header_bytes = memory_offset + memory_bytes
