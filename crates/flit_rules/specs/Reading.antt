-- Reading the front message of lent flits (01, 'Flit words', 'Refusal numbers').
use Rattle.std.specs.Prelude.{Bool, cond, List, [], ◌∷◌, ℕ, ◌+◌, ◌-◌, eqb, ltb, length, get_or, take, drop, Result, Ok, Err}
use Rattle.numbers.specs.declared.refusals.Refusal.{Refusal}
use Rattle.numbers.specs.Refusals.{refusal_number, no_refusal, no_flit_refusal, unknown_type_refusal, wrong_length_refusal, flits_missing_refusal, unknown_port_refusal, reserved_set_refusal, bad_field_refusal}
use Rattle.flit_rules.specs.declared.Node.{Node}
use Rattle.flit_rules.specs.declared.Header.{Header}
use Rattle.flit_rules.specs.declared.TypeRow.{TypeRow}
use Rattle.flit_rules.specs.declared.Read.{Read}
use Rattle.flit_rules.specs.Words.{opcode_of, length_of, header_of_flits}
use Rattle.flit_rules.specs.Table.{row_of, header_extra}
use Rattle.flit_rules.specs.Rules.{in_table, length_allowed, ports_listed, reserved_clear, fields_allowed}

-- refusal numbers with their tests, in rising order: the number of the first test that fails, 0 where all hold
abbrev pub lowest : List (ℕ × Bool) → ℕ
lowest [] = no_refusal
lowest (t ∷ ts) = cond t.1 (lowest ts) t.0

-- flit 1 of the front message, its row of the table, and flits 2 and 3, which are 0 for a type with one header flit
abbrev pub front_flit1 : List ℕ → ℕ
front_flit1 s = get_or s 0 0

abbrev pub front_row : List ℕ → TypeRow
front_row s = row_of (opcode_of (front_flit1 s))

abbrev pub front_flit2 : List ℕ → ℕ
front_flit2 s = cond (front_row s).three (get_or s 1 0) 0

abbrev pub front_flit3 : List ℕ → ℕ
front_flit3 s = cond (front_row s).three (get_or s 2 0) 0

abbrev pub front_header : List ℕ → Header
front_header s = header_of_flits (front_flit1 s) (front_flit2 s) (front_flit3 s)

-- the refusals of a front message with these header flits, of `count` flits in all
abbrev pub read_refusals : TypeRow → Header → ℕ → ℕ → ℕ → ℕ → List (ℕ × Bool)
read_refusals row h count flit1 flit2 flit3 =
    (no_flit_refusal, ltb 0 count)
    ∷ (unknown_type_refusal, in_table row)
    ∷ (wrong_length_refusal, length_allowed row (length_of flit1))
    -- the length counts the flits after the first
    ∷ (flits_missing_refusal, ltb (length_of flit1) count)
    ∷ (unknown_port_refusal, ports_listed row h)
    ∷ (reserved_set_refusal, reserved_clear row flit1 flit2 flit3)
    ∷ (bad_field_refusal, fields_allowed row (ltb (header_extra row) (length_of flit1)) h)
    ∷ []

unfoldable pub read_refusal : List ℕ → ℕ
read_refusal s = lowest (read_refusals (front_row s) (front_header s) (length s) (front_flit1 s) (front_flit2 s) (front_flit3 s))

-- what a read answers, in numbers
pub record ReadAnswer : Type 0 where
  pub refusal : ℕ
  pub header : Header
  pub used : ℕ
  pub start : ℕ

-- a refusal gives its number, and no fields, count or data
abbrev pub no_node : Node
no_node = record { chip = 0; x = 0; y = 0; port = 0 }

abbrev pub no_header : Header
no_header =
    record {
      opcode = 0;
      tag = 0;
      to = no_node;
      state = 0;
      miss = 0;
      address54 = 0;
      last = 0;
      address = 0;
      vector = 0;
      icache = 0;
      size = 0;
      from = no_node;
    }

abbrev pub read_refused : ℕ → ReadAnswer
read_refused n = record { refusal = n; header = no_header; used = 0; start = 0 }

-- the flits used, of which the data start behind the header flits
abbrev pub read_accepted : Header → ℕ → ℕ → ReadAnswer
read_accepted h used start = record { refusal = no_refusal; header = h; used = used; start = start }

abbrev pub read_answer : ℕ → Header → ℕ → ℕ → ReadAnswer
read_answer n h used start = cond (eqb n no_refusal) (read_accepted h used start) (read_refused n)

unfoldable pub read_of : List ℕ → ReadAnswer
read_of s = read_answer (read_refusal s) (front_header s) (length_of (front_flit1 s) + 1) (header_extra (front_row s) + 1)

-- the data: the flits used from the start on, or none
unfoldable pub data_of : List ℕ → List ℕ
data_of s = take ((read_of s).used - (read_of s).start) (drop (read_of s).start s)

-- ---- what the code answers, in those numbers

abbrev pub told_refusal : {A : Type 0} → Result A Refusal → ℕ
told_refusal (Ok x) = no_refusal
told_refusal (Err r) = refusal_number r

abbrev pub told_read : Result Read Refusal → ReadAnswer
told_read (Ok r) = read_accepted r.header r.used r.start
told_read (Err r) = read_refused (refusal_number r)
