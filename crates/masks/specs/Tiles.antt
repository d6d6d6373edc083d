-- The tiles of a mask as a list.
use Rattle.std.specs.Prelude.{cond, ℕ, suc, ◌-◌, List, [], ◌∷◌}
use Rattle.bits.specs.Field.{word_bits}
use Rattle.masks.specs.Mask.{has}

-- those of n tiles from tile i on that are in the mask m, in rising order
unfoldable pub tiles_in : ℕ → ℕ → ℕ → List ℕ
tiles_in m i ℕ.zero = []
tiles_in m i (suc n) = cond (has m i) (i ∷ tiles_in m (suc i) n) (tiles_in m (suc i) n)

-- of the 64 tiles that a word can name, from a tile on
unfoldable pub tiles_from : ℕ → ℕ → List ℕ
tiles_from m from = tiles_in m from (word_bits - from)
