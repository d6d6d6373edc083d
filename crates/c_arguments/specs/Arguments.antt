-- What the functions for C are given in lent words.
use Rattle.std.specs.Prelude.{ℕ, cond, List, eqb, length, get_or}
use Rattle.numbers.specs.Limits.{words_in_line}
use Rattle.numbers.specs.Refusals.{malformed_refusal}
use Rattle.flits.specs.Words.{Header}
use Rattle.flits.specs.Writing.{WriteAnswer, written_of, buffer_of}
use Rattle.protocol.specs.Parts.{Bench, Result, refused}
use Rattle.calls.specs.Calls.{start_on}
use Rattle.messages.specs.declared.Sent.{Sent}
use Rattle.message_flits.specs.Fields.{message_fields, message_data}

-- ---- a start with lent memory words: other than eight are refused 1, first of all

unfoldable pub start_from : List ℕ → ℕ → List ℕ → Result Bench
start_from l n mem = cond (eqb (length mem) words_in_line) (start_on l n mem) (refused malformed_refusal)

-- ---- the fields of a message: their places, how many there are, and the fields that words give

abbrev pub field_type : ℕ
field_type = 0

abbrev pub field_tag : ℕ
field_tag = 1

abbrev pub field_to_chip : ℕ
field_to_chip = 2

abbrev pub field_to_x : ℕ
field_to_x = 3

abbrev pub field_to_y : ℕ
field_to_y = 4

abbrev pub field_to_port : ℕ
field_to_port = 5

abbrev pub field_state : ℕ
field_state = 6

abbrev pub field_miss : ℕ
field_miss = 7

abbrev pub field_address_5_4 : ℕ
field_address_5_4 = 8

abbrev pub field_last : ℕ
field_last = 9

abbrev pub field_address : ℕ
field_address = 10

abbrev pub field_vector : ℕ
field_vector = 11

abbrev pub field_icache : ℕ
field_icache = 12

abbrev pub field_size : ℕ
field_size = 13

abbrev pub field_from_chip : ℕ
field_from_chip = 14

abbrev pub field_from_x : ℕ
field_from_x = 15

abbrev pub field_from_y : ℕ
field_from_y = 16

abbrev pub field_from_port : ℕ
field_from_port = 17

abbrev pub field_count : ℕ
field_count = 18

abbrev pub fields_from : List ℕ → Header
fields_from l =
    record {
      opcode = get_or l field_type 0;
      tag = get_or l field_tag 0;
      to = record { chip = get_or l field_to_chip 0; x = get_or l field_to_x 0; y = get_or l field_to_y 0; port = get_or l field_to_port 0 };
      state = get_or l field_state 0;
      miss = get_or l field_miss 0;
      address54 = get_or l field_address_5_4 0;
      last = get_or l field_last 0;
      address = get_or l field_address 0;
      vector = get_or l field_vector 0;
      icache = get_or l field_icache 0;
      size = get_or l field_size 0;
      from = record { chip = get_or l field_from_chip 0; x = get_or l field_from_x 0; y = get_or l field_from_y 0; port = get_or l field_from_port 0 };
    }

-- ---- a message written from lent fields: other than 18 are refused 1, first of all

abbrev pub write_refused : ℕ → WriteAnswer
write_refused n = record { refusal = n; flits = 0 }

unfoldable pub written_from : List ℕ → ℕ → ℕ → ℕ → WriteAnswer
written_from fields count room at = cond (eqb (length fields) field_count) (written_of (fields_from fields) count room at) (write_refused malformed_refusal)

unfoldable pub buffer_from : List ℕ → List ℕ → List ℕ → ℕ → List ℕ
buffer_from fields words b at = cond (eqb (length fields) field_count) (buffer_of (fields_from fields) words b at) b

-- ---- the flits of a message that was sent, of the line with this address, at a place of a buffer

abbrev pub sent_written : ℕ → Sent → ℕ → ℕ → WriteAnswer
sent_written line m room at = written_of (message_fields line m.queue m.tile m.row) (length (message_data m.row)) room at

abbrev pub sent_buffer : ℕ → Sent → List ℕ → ℕ → List ℕ
sent_buffer line m b at = buffer_of (message_fields line m.queue m.tile m.row) (message_data m.row) b at
