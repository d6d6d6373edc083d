-- The round trips: a message read and written again, and a message written and read back. First as calls, then as statements.
use Rattle.std.specs.Prelude.{◌≡◌, cond, List, ◌++◌, ℕ, ◌+◌, ◌^◌, ◌<◌, eqb, leb, length, get_or, take}
use Rattle.bits.specs.Field.{word_bits}
use Rattle.lists.specs.Over.{over}
use Rattle.numbers.specs.Refusals.{no_refusal, no_room_refusal}
use Rattle.flit_rules.specs.declared.Header.{Header}
use Rattle.flit_rules.specs.Table.{row_of, header_extra}
use Rattle.flit_rules.specs.Reading.{ReadAnswer, read_of, data_of, read_refusal, read_accepted, read_refused}
use Rattle.flit_rules.specs.Writing.{WriteAnswer, write_refusal, flits_of}

-- ---- the calls

-- the refusal of copying the front message of s to a place: that of the read, or that its flits do not fit
unfoldable pub copy_refusal : List ℕ → ℕ → ℕ → ℕ
copy_refusal s room at =
    cond (eqb (read_refusal s) no_refusal) (cond (leb (at + (read_of s).used) room) no_refusal no_room_refusal) (read_refusal s)

unfoldable pub copied_of : List ℕ → ℕ → ℕ → WriteAnswer
copied_of s room at =
    record { refusal = copy_refusal s room at; flits = cond (eqb (copy_refusal s room at) no_refusal) (read_of s).used 0 }

-- the buffer then holds the very flits that were read
unfoldable pub copy_buffer : List ℕ → List ℕ → ℕ → List ℕ
copy_buffer s b at = cond (eqb (copy_refusal s (length b) at) no_refusal) (over b at (take (read_of s).used s)) b

-- a message written reads back as itself
unfoldable pub echo_of : Header → ℕ → ℕ → ℕ → ReadAnswer
echo_of h count room at =
    cond (eqb (write_refusal h count room at) no_refusal)
    (read_accepted h (header_extra (row_of h.opcode) + count + 1) (header_extra (row_of h.opcode) + 1))
    (read_refused (write_refusal h count room at))

-- ---- the statements, of every list of flits and every message

-- the fields and data of an accepted message, written again, are exactly the flits that were read
abbrev pub ReadWriteStatement : Type 0
ReadWriteStatement =
    (s : List ℕ) → read_refusal s ≡ no_refusal → ((k : ℕ) → get_or s k 0 < 2 ^ word_bits)
    → flits_of (read_of s).header (data_of s) ≡ take (read_of s).used s

-- and writing them is refused only for want of room
abbrev pub RewriteStatement : Type 0
RewriteStatement =
    (s : List ℕ) → read_refusal s ≡ no_refusal → (room at : ℕ)
    → write_refusal (read_of s).header (length (data_of s)) room at ≡ cond (leb (at + (read_of s).used) room) no_refusal no_room_refusal

-- a message that is written reads back as itself, whatever stands behind it
abbrev pub WriteReadStatement : Type 0
WriteReadStatement =
    (h : Header) (words rest : List ℕ) (room at : ℕ) → write_refusal h (length words) room at ≡ no_refusal
    → read_of (flits_of h words ++ rest)
    ≡ read_accepted h (header_extra (row_of h.opcode) + length words + 1) (header_extra (row_of h.opcode) + 1)

-- and with its data
abbrev pub WriteDataStatement : Type 0
WriteDataStatement =
    (h : Header) (words rest : List ℕ) (room at : ℕ) → write_refusal h (length words) room at ≡ no_refusal
    → data_of (flits_of h words ++ rest) ≡ words
