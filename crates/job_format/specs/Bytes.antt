-- The bytes of a job (01, 'Jobs'), read as big-endian numbers, and the parts of a field, which is named by the place of its first byte.
-- What stands past a job's end is read as 0.
use Rattle.std.specs.Prelude.{ℕ, suc, ◌+◌, ◌*◌, List, get_or}
use Rattle.job_format.specs.Places.{length_offset, length_bytes, head_bytes}

abbrev pub byte_values : ℕ
byte_values = 256

-- the number that so many bytes from a place on are, big-endian
unfoldable pub big_at : ℕ → List ℕ → ℕ → ℕ
big_at ℕ.zero job at = 0
big_at (suc count) job at = big_at count job at * byte_values + get_or job (at + count) 0

-- a field's tag, the length that it gives, and the place of the next field
abbrev pub tag_at : List ℕ → ℕ → ℕ
tag_at job at = get_or job at 0

abbrev pub length_at : List ℕ → ℕ → ℕ
length_at job at = big_at length_bytes job (at + length_offset)

abbrev pub next_at : List ℕ → ℕ → ℕ
next_at job at = at + head_bytes + length_at job at
