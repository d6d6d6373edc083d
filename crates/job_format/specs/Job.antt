-- What an accepted job holds (01, 'Jobs'): its header and its calls.
use Rattle.std.specs.Prelude.{ℕ, suc, ◌+◌, ◌*◌, cond, List, [], ◌∷◌, ltb, length}
use Rattle.numbers.specs.Limits.{words_in_line, word_bytes}
use Rattle.job_format.specs.Places.{head_bytes, tile_count_offset, tile_count_bytes, line_address_offset, line_address_bytes, memory_offset, header_bytes}
use Rattle.job_format.specs.Places.{tile_number_offset, tile_number_bytes, word_number_offset, word_number_bytes, stored_word_offset}
use Rattle.job_format.specs.Bytes.{big_at, tag_at, next_at}
use Rattle.job_format.specs.Fields.{value_length}
use Rattle.job_format.specs.declared.calls.JobCall.{JobCall}

-- ---- the header

unfoldable pub tile_count_of : List ℕ → ℕ
tile_count_of job = big_at tile_count_bytes job tile_count_offset

unfoldable pub line_address_of : List ℕ → ℕ
line_address_of job = big_at line_address_bytes job line_address_offset

unfoldable pub memory_word_of : List ℕ → ℕ → ℕ
memory_word_of job word = cond (ltb word words_in_line) (big_at word_bytes job (memory_offset + word * word_bytes)) 0

unfoldable pub memory_words_of : List ℕ → List ℕ
memory_words_of job =
    memory_word_of job 0 ∷ memory_word_of job 1 ∷ memory_word_of job 2 ∷ memory_word_of job 3 ∷ memory_word_of job 4 ∷ memory_word_of job 5 ∷ memory_word_of job 6 ∷ memory_word_of job 7 ∷ []

-- ---- the calls

-- the numbers of a call: its tag, and of tile, word and value those that the call has, 0 for the others
pub record CallNumbers : Type 0 where
  pub tag : ℕ
  pub tile : ℕ
  pub word : ℕ
  pub value : ℕ

-- the argument of so many bytes at `within` of the value, of `size` bytes, of the field at a place; 0 where the value ends before it
unfoldable pub argument_at : List ℕ → ℕ → ℕ → ℕ → ℕ → ℕ
argument_at job at size within count = cond (ltb within size) (big_at count job (at + head_bytes + within)) 0

-- the call in the field at a place
unfoldable pub call_numbers_at : List ℕ → ℕ → CallNumbers
call_numbers_at job at =
    record {
      tag = tag_at job at;
      tile = argument_at job at (value_length (tag_at job at)) tile_number_offset tile_number_bytes;
      word = argument_at job at (value_length (tag_at job at)) word_number_offset word_number_bytes;
      value = argument_at job at (value_length (tag_at job at)) stored_word_offset word_bytes;
    }

-- the calls from a place on; the first number is at least as many as there can be
unfoldable pub calls_from : ℕ → List ℕ → ℕ → List CallNumbers
calls_from ℕ.zero job at = []
calls_from (suc n) job at = cond (ltb at (length job)) (call_numbers_at job at ∷ calls_from n job (next_at job at)) []

unfoldable pub calls_of : List ℕ → List CallNumbers
calls_of job = calls_from (length job) job header_bytes

-- ---- one call read at any place: past the job's end there is none, and the next place is the same
unfoldable pub job_call_at : List ℕ → ℕ → JobCall
job_call_at job at =
    cond (ltb at (length job))
    (record {
      tag = (call_numbers_at job at).tag;
      tile = (call_numbers_at job at).tile;
      word = (call_numbers_at job at).word;
      value = (call_numbers_at job at).value;
      next = next_at job at;
    })
    (record { tag = 0; tile = 0; word = 0; value = 0; next = at })

unfoldable pub call_numbers_of : JobCall → CallNumbers
call_numbers_of c = record { tag = c.tag; tile = c.tile; word = c.word; value = c.value }
