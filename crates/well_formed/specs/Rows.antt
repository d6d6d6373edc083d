-- A device of the proofs: no public promise rests on it alone. Parts of the tests of a row and of an empty queue, as the code has them.
use Rattle.std.specs.Prelude.{ℕ, ◌+◌, Bool, ◌&&◌, List, eqb}
use Rattle.layout.specs.declared.rows.Row.{Row}
use Rattle.layout.specs.Places.{second_place}
use Rattle.layout.specs.Blocks.{row_at, message_word, message_state, message_flag}
use Rattle.layout.specs.Encode.{zeros, no_row}
use Rattle.layout.specs.Canonical.{same, same_row}

-- an empty queue
unfoldable pub none_at : List ℕ → ℕ → Bool
none_at l i = same_row no_row (row_at l i) && same_row no_row (row_at l (i + second_place))

-- all behind the word number is 0
unfoldable pub clear_behind : Row → Bool
clear_behind r = eqb 0 (message_state r) && (eqb 0 (message_flag r) && same zeros r.words)

-- all but the type is 0
unfoldable pub bare : Row → Bool
bare r = eqb 0 (message_word r) && clear_behind r

-- the numbers between type and data are 0
unfoldable pub only_data : Row → Bool
only_data r = eqb 0 (message_word r) && (eqb 0 (message_state r) && eqb 0 (message_flag r))
