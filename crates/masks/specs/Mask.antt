-- Sets of tiles as plain numbers: tile t is in the mask m where bit t of m is 1.
use Rattle.std.specs.Prelude.{Bool, cond, ℕ, ◌+◌, ◌-◌, ◌/◌, ◌%◌, ◌^◌, eqb, ltb}
use Rattle.bits.specs.Field.{word_bits}

-- tile t is in
unfoldable pub has : ℕ → ℕ → Bool
has m t = eqb (m / 2 ^ t % 2) 1

-- m with tile t
unfoldable pub add : ℕ → ℕ → ℕ
add m t = cond (has m t) m (m + 2 ^ t)

-- m without tile t
unfoldable pub del : ℕ → ℕ → ℕ
del m t = cond (has m t) (m - 2 ^ t) m

-- m with tile t in a word of 64 bits: no tile of 64 or above can be added
abbrev pub add64 : ℕ → ℕ → ℕ
add64 m t = cond (ltb t word_bits) (add m t) m
