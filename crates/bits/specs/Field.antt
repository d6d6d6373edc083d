-- Fields of a word, by the place of the lowest bit and the width in bits. Bits are counted from 0, the lowest.
use Rattle.std.specs.Prelude.{cond, ℕ, ◌+◌, ◌*◌, ◌/◌, ◌%◌, ◌^◌, leb}

abbrev pub word_bits : ℕ
word_bits = 64

-- the field of `width` bits from `place` on
abbrev pub cut : ℕ → ℕ → ℕ → ℕ
cut word place width = word / 2 ^ place % 2 ^ width

-- the word with that field replaced by a value, of which only `width` bits count: the bits above it, the field, the bits below it
unfoldable pub put : ℕ → ℕ → ℕ → ℕ → ℕ
put word place width value =
    word / 2 ^ (place + width) * 2 ^ (place + width) + (value % 2 ^ width * 2 ^ place + word % 2 ^ place)

-- the same in a word of 64 bits: a field that does not lie inside is not set
abbrev pub put64 : ℕ → ℕ → ℕ → ℕ → ℕ
put64 word place width value = cond (leb (place + width) word_bits) (put word place width value) word
