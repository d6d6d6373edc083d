-- Writing a message at a place of a lent buffer (01, 'Flit words', 'Refusal numbers').
use Rattle.std.specs.Prelude.{Bool, cond, List, [], ◌∷◌, ◌++◌, ℕ, ◌+◌, eqb, ltb, leb, length, Result, Ok, Err}
use Rattle.lists.specs.Over.{over}
use Rattle.numbers.specs.declared.refusals.Refusal.{Refusal}
use Rattle.numbers.specs.Refusals.{refusal_number, no_refusal, unknown_type_refusal, wrong_length_refusal, unknown_port_refusal, bad_field_refusal, no_room_refusal}
use Rattle.flit_rules.specs.declared.Header.{Header}
use Rattle.flit_rules.specs.declared.TypeRow.{TypeRow}
use Rattle.flit_rules.specs.Words.{flit1_of, flit2_of, flit3_of}
use Rattle.flit_rules.specs.Table.{row_of, header_extra}
use Rattle.flit_rules.specs.Rules.{in_table, length_allowed, ports_listed, fields_allowed}
use Rattle.flit_rules.specs.Reading.{lowest}

-- the refusals of a message with `count` data words at the place `at` of a buffer of `room` flits
abbrev pub write_refusals : TypeRow → Header → ℕ → ℕ → ℕ → List (ℕ × Bool)
write_refusals row h count room at =
    (unknown_type_refusal, in_table row)
    -- data count wrong
    ∷ (wrong_length_refusal, length_allowed row (header_extra row + count))
    ∷ (unknown_port_refusal, ports_listed row h)
    ∷ (bad_field_refusal, fields_allowed row (ltb 0 count) h)
    -- place outside the buffer, or too little room there
    ∷ (no_room_refusal, leb (at + (header_extra row + count + 1)) room)
    ∷ []

unfoldable pub write_refusal : Header → ℕ → ℕ → ℕ → ℕ
write_refusal h count room at = lowest (write_refusals (row_of h.opcode) h count room at)

-- the flits of a message: one or three header flits, then the data
abbrev pub header_flits : Bool → Header → ℕ → List ℕ
header_flits three h following = flit1_of h following ∷ cond three (flit2_of h ∷ flit3_of h ∷ []) []

unfoldable pub flits_of : Header → List ℕ → List ℕ
flits_of h words = header_flits (row_of h.opcode).three h (header_extra (row_of h.opcode) + length words) ++ words

-- what a write answers, in numbers: refusal number 0 with the flits written; or the number, and 0
pub record WriteAnswer : Type 0 where
  pub refusal : ℕ
  pub flits : ℕ

-- the answer, and the buffer after the call: a refusal leaves all of it
unfoldable pub written_of : Header → ℕ → ℕ → ℕ → WriteAnswer
written_of h count room at =
    record {
      refusal = write_refusal h count room at;
      flits = cond (eqb (write_refusal h count room at) no_refusal) (header_extra (row_of h.opcode) + count + 1) 0;
    }

unfoldable pub buffer_of : Header → List ℕ → List ℕ → ℕ → List ℕ
buffer_of h words b at = cond (eqb (write_refusal h (length words) (length b) at) no_refusal) (over b at (flits_of h words)) b

-- what the code answers, in those numbers
abbrev pub told_written : Result ℕ Refusal → WriteAnswer
told_written (Ok n) = record { refusal = no_refusal; flits = n }
told_written (Err r) = record { refusal = refusal_number r; flits = 0 }
