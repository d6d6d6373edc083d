-- Kinds of an answer (01: 'kind 1 with the loaded word, 2 store written, 3 message sent, 0 otherwise').
use Rattle.std.specs.Prelude.{ℕ}
use Rattle.numbers.specs.declared.kinds.Kind.{Kind}
use Rattle.numbers.specs.declared.kinds.Kind.TheVariants.{Other, Loaded, Stored, Sent}

abbrev pub kind_other : ℕ
kind_other = 0

abbrev pub kind_loaded : ℕ
kind_loaded = 1

abbrev pub kind_stored : ℕ
kind_stored = 2

abbrev pub kind_sent : ℕ
kind_sent = 3

-- the number of each kind that the code names
abbrev pub kind_number : Kind → ℕ
kind_number Other = kind_other
kind_number Loaded = kind_loaded
kind_number Stored = kind_stored
kind_number Sent = kind_sent
