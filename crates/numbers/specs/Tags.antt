-- Tags of a job's fields (01, 'Jobs'). A call's tag is its number everywhere.
use Rattle.std.specs.Prelude.{ℕ}

abbrev pub tag_tiles : ℕ
tag_tiles = 1

abbrev pub tag_line : ℕ
tag_line = 2

abbrev pub tag_memory : ℕ
tag_memory = 3

abbrev pub tag_load : ℕ
tag_load = 16

abbrev pub tag_store : ℕ
tag_store = 17

abbrev pub tag_evict : ℕ
tag_evict = 18

abbrev pub tag_taking : ℕ
tag_taking = 19

abbrev pub tag_to_tile : ℕ
tag_to_tile = 20

abbrev pub tag_from_tile : ℕ
tag_from_tile = 21

abbrev pub tag_memory_step : ℕ
tag_memory_step = 22

abbrev pub tag_memory_ack : ℕ
tag_memory_ack = 23

abbrev pub tag_home_eviction : ℕ
tag_home_eviction = 24
