-- A device of the proofs: no public promise rests on it alone. A queue of a bench in numbers, its first message and its second.
use Rattle.std.specs.Prelude.{ℕ, ◌+◌, Bool, List, cond, eqb, get_or}
use Rattle.numbers.specs.Types.{no_message_type}
use Rattle.layout.specs.Places.{row_size}
use Rattle.layout.specs.Blocks.{message_type}
use Rattle.layout.specs.declared.rows.Row.{Row}
use Rattle.layout.specs.declared.rows.Pair.{Pair}
use Rattle.layout.specs.Encode.{no_row, row}

-- a queue has room while its second place is free
unfoldable pub has_room : Pair → Bool
has_room q = eqb (message_type q.b) no_message_type

-- the first free place of a queue with room, which stands at a place of the words
unfoldable pub free_place : List ℕ → ℕ → ℕ
free_place l at = cond (eqb (get_or l at 0) no_message_type) at (at + row_size)

-- a message put on a queue with room, at its first free place; the other place stays
unfoldable pub push_row : Pair → Row → Pair
push_row q m = cond (eqb (message_type q.a) no_message_type) (record { a = m; b = q.b }) (record { a = q.a; b = m })

-- a message without data put: its numbers alone, over a free place, whose words are 0
unfoldable pub push_numbers : Pair → ℕ → ℕ → ℕ → ℕ → Pair
push_numbers q a b c d =
    cond (eqb (message_type q.a) no_message_type) (record { a = row a b c d q.a.words; b = q.b }) (record { a = q.a; b = row a b c d q.b.words })

-- the front taken off; a second place that is free stays
unfoldable pub pop_row : Pair → Pair
pop_row q = cond (eqb (message_type q.b) no_message_type) (record { a = no_row; b = q.b }) (record { a = q.b; b = no_row })
