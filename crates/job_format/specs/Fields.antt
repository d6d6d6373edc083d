-- The tags of a job's fields and the tests on one field (01, 'Jobs').
use Rattle.std.specs.Prelude.{ℕ, ◌+◌, ◌%◌, Bool, cond, true, ◌&&◌, ◌||◌, List, [], ◌∷◌, eqb, ltb, leb, length, Result, Ok, Err}
use Rattle.numbers.specs.Limits.{most_tiles, line_bytes}
use Rattle.numbers.specs.Refusals.{no_refusal, job_cut_refusal, job_tag_refusal, job_length_refusal, job_place_refusal, job_value_refusal, refusal_number}
use Rattle.numbers.specs.declared.refusals.Refusal.{Refusal}
use Rattle.numbers.specs.Tags.{tag_tiles, tag_line, tag_memory, tag_load, tag_home_eviction}
use Rattle.protocol.specs.Calls.{Arguments, no_argument, tile_only, tile_and_word, tile_word_and_value, CallRow, call_table}
use Rattle.job_format.specs.Places.{head_bytes, tile_count_bytes, line_address_bytes, memory_bytes, tile_number_bytes, load_bytes, store_bytes, header_fields}
use Rattle.job_format.specs.Bytes.{big_at, tag_at, length_at, next_at}

-- ---- tags

-- those of the header, and those of the calls
unfoldable pub is_tag : ℕ → Bool
is_tag tag = (leb tag_tiles tag && leb tag tag_memory) || (leb tag_load tag && leb tag tag_home_eviction)

-- how long a call's value is: by what the call carries, in its row of the calls' table; 0 of a tag that the table does not have
abbrev pub argument_bytes : Arguments → ℕ
argument_bytes no_argument = 0
argument_bytes tile_only = tile_number_bytes
argument_bytes tile_and_word = load_bytes
argument_bytes tile_word_and_value = store_bytes

abbrev pub call_bytes : List CallRow → ℕ → ℕ
call_bytes [] tag = 0
call_bytes (r ∷ rs) tag = cond (eqb tag r.tag) (argument_bytes r.arguments) (call_bytes rs tag)

-- how long the value of each tag is
unfoldable pub value_length : ℕ → ℕ
value_length tag =
    cond (eqb tag tag_tiles) tile_count_bytes
    (cond (eqb tag tag_line) line_address_bytes
    (cond (eqb tag tag_memory) memory_bytes (call_bytes call_table tag)))

-- ---- the tests on the field at a place, `before` fields standing before it

-- the place: the header's tags in their order, then calls only
unfoldable pub tag_in_place : ℕ → ℕ → Bool
tag_in_place before tag = cond (ltb before header_fields) (eqb tag (before + tag_tiles)) (leb tag_load tag)

-- the value, which a tile count and a line address can have wrong: 1 to 64 tiles; low six bits 0
unfoldable pub good_value : List ℕ → ℕ → Bool
good_value job at =
    cond (eqb (tag_at job at) tag_tiles)
    (leb 1 (big_at tile_count_bytes job (at + head_bytes)) && leb (big_at tile_count_bytes job (at + head_bytes)) most_tiles)
    (cond (eqb (tag_at job at) tag_line) (eqb (big_at line_address_bytes job (at + head_bytes) % line_bytes) 0) true)

-- the number of a test that fails; else what the later tests give
abbrev or_else : Bool → ℕ → ℕ → ℕ
or_else test number later = cond test later number

-- the refusal of a field by its tests, in their order
unfoldable pub first_failed : Bool → Bool → Bool → Bool → Bool → Bool → ℕ
first_failed head tag len whole place value =
    or_else head job_cut_refusal
    (or_else tag job_tag_refusal
    (or_else len job_length_refusal
    (or_else whole job_cut_refusal
    (or_else place job_place_refusal
    (or_else value job_value_refusal
    no_refusal)))))

unfoldable pub field_refusal : List ℕ → ℕ → ℕ → ℕ
field_refusal job at before =
    first_failed
    (leb (at + head_bytes) (length job))
    (is_tag (tag_at job at))
    (eqb (length_at job at) (value_length (tag_at job at)))
    (leb (next_at job at) (length job))
    (tag_in_place before (tag_at job at))
    (good_value job at)

-- what the code answers of a field, in those numbers
abbrev pub told_field : Result Unit Refusal → ℕ
told_field (Ok u) = no_refusal
told_field (Err r) = refusal_number r
