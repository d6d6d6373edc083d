-- The messages that a call sent, out of the words after it; and their flits, written and read back: the statements. Their proofs are
-- proofs/Messages.antt and proofs/ReadsBack.antt.
use Rattle.std.specs.Prelude.{ℕ, ◌+◌, ◌%◌, ◌^◌, ◌≤◌, ◌<◌, ◌≡◌, List, map, length, get_or, drop}
use Rattle.numbers.specs.Limits.{line_bytes}
use Rattle.numbers.specs.Refusals.{no_refusal}
use Rattle.flits.specs.Words.{address_bits}
use Rattle.flits.specs.Table.{row_of, header_extra}
use Rattle.flits.specs.Reading.{read_of, data_of, read_accepted}
use Rattle.flits.specs.Writing.{written_of, buffer_of}
use Rattle.protocol.specs.Parts.{Message, Bench, Call, accepted}
use Rattle.layout.specs.Blocks.{message_type}
use Rattle.layout.specs.declared.rows.Row.{Row}
use Rattle.calls.specs.Calls.{step_on, answer_to, after_call}
use Rattle.messages.specs.Queues.{sent_queues}
use Rattle.messages.specs.Rows.{sent_message, numbers_of_message, no_sent}
use Rattle.message_flits.specs.Fields.{message_fields, message_data, kept_row, Carried}

-- The two numbers of an answer, sent on s, to the tiles m, give in the words l the messages ms: as many, in the order of sending, each with
-- its queue, its tile and its row; and none behind them.
pub record Gives (l : List ℕ) (s m : ℕ) (ms : List Message) : Type 0 where
  pub number : length (sent_queues s m) ≡ length ms
  pub each : (i : ℕ) → sent_message l s m i ≡ get_or (map numbers_of_message ms) i no_sent

-- those of an accepted call, out of the words that it left
abbrev pub SentByCallStatement : Type 0
SentByCallStatement =
    (l : List ℕ) (c : Call) (k v : ℕ) (b : Bench) (ms : List Message) → step_on l c ≡ accepted k v b ms
    → Gives (after_call c l) (answer_to c l).sent (answer_to c l).tiles ms

-- a line address: a multiple of 64 that 48 bits hold
pub record LineAddress (line : ℕ) : Type 0 where
  pub narrow : line < 2 ^ address_bits
  pub whole : line % line_bytes ≡ 0

-- the flits that the message m takes
abbrev pub flit_count : Row → ℕ
flit_count m = header_extra (row_of (message_type m)) + length (message_data m) + 1

-- The message m on queue q of tile t, written at the place `at` of the buffer b: accepted, with so many flits; read at that place
-- it has its fields and its data; and these are all of the message.
pub record ReadsBack (line q t : ℕ) (m : Row) (b : List ℕ) (at : ℕ) : Type 0 where
  pub written : written_of (message_fields line q t m) (length (message_data m)) (length b) at ≡ record { refusal = no_refusal; flits = flit_count m }
  pub fields : read_of (drop at (buffer_of (message_fields line q t m) (message_data m) b at)) ≡ read_accepted (message_fields line q t m) (flit_count m) (header_extra (row_of (message_type m)) + 1)
  pub words : data_of (drop at (buffer_of (message_fields line q t m) (message_data m) b at)) ≡ message_data m
  pub message : kept_row (message_fields line q t m) (message_data m) ≡ m

-- every message of its queue and in range, at every line address, where there is room for its flits
abbrev pub ReadsBackStatement : Type 0
ReadsBackStatement =
    (line q t : ℕ) (m : Row) → LineAddress line → Carried q t m → (b : List ℕ) (at : ℕ) → at + flit_count m ≤ length b → ReadsBack line q t m b at
