-- The first tile of a mask from a given tile on.
use Rattle.std.specs.Prelude.{cond, ℕ, suc, ◌-◌}
use Rattle.bits.specs.Field.{word_bits}
use Rattle.masks.specs.Mask.{has}

-- the first of n tiles from tile i on that is in the mask m; 64 for none
unfoldable pub first_in : ℕ → ℕ → ℕ → ℕ
first_in m i ℕ.zero = word_bits
first_in m i (suc n) = cond (has m i) i (first_in m (suc i) n)

-- of the 64 tiles that a word can name
unfoldable pub next : ℕ → ℕ → ℕ
next m from = first_in m from (word_bits - from)
