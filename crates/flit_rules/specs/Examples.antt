-- 01's own messages and beats in flits, and one refusal of each number where two apply, as statements that antt computes.
use Rattle.std.specs.Prelude.{◌≡◌, List, [], ◌∷◌, ℕ, ◌-◌, length}
use Rattle.numbers.specs.Types.{load_req_type, load_mem_type, load_fwd_type, inv_fwdack_type, load_mem_ack_type, data_ack_type}
use Rattle.numbers.specs.States.{state_i, state_e, state_m}
use Rattle.numbers.specs.Ports.{port_west, port_east, port_north}
use Rattle.numbers.specs.Refusals.{no_refusal, no_flit_refusal, unknown_type_refusal, wrong_length_refusal, flits_missing_refusal, unknown_port_refusal, reserved_set_refusal, bad_field_refusal, no_room_refusal}
use Rattle.flit_rules.specs.declared.Node.{Node}
use Rattle.flit_rules.specs.declared.Header.{Header}
use Rattle.flit_rules.specs.Table.{line_size, no_size, all_sublines}
use Rattle.flit_rules.specs.Reading.{no_node, read_refusal, read_refused, read_accepted, read_of, data_of}
use Rattle.flit_rules.specs.Writing.{write_refusal, flits_of}
use Rattle.flit_rules.specs.RoundTrips.{copied_of, copy_buffer, echo_of}

-- a message of three header flits: type, tag, destination, address, vector, icache bit, size, source
abbrev three_flits : ℕ → ℕ → Node → ℕ → ℕ → ℕ → ℕ → Node → Header
three_flits opcode tag to address vector icache size from =
    record {
      opcode = opcode;
      tag = tag;
      to = to;
      state = 0;
      miss = 0;
      address54 = 0;
      last = 0;
      address = address;
      vector = vector;
      icache = icache;
      size = size;
      from = from;
    }

-- a message of one, to the home: type, tag, state, L2 miss, address_5_4, last; and an address, which it has not
abbrev with_address : ℕ → ℕ → ℕ → ℕ → ℕ → ℕ → ℕ → Header
with_address opcode tag state miss address54 last address =
    record {
      opcode = opcode;
      tag = tag;
      to = no_node;
      state = state;
      miss = miss;
      address54 = address54;
      last = last;
      address = address;
      vector = 0;
      icache = 0;
      size = 0;
      from = no_node;
    }

abbrev one_flit : ℕ → ℕ → ℕ → ℕ → ℕ → ℕ → Header
one_flit opcode tag state miss address54 last = with_address opcode tag state miss address54 last 0

-- these flits alone read as the message with these data, and the message is written as them
abbrev pub IsMessage : List ℕ → Header → List ℕ → Type 0
IsMessage flits h words =
    (read_of flits ≡ read_accepted h (length flits) (length flits - length words))
    × (data_of flits ≡ words)
    × (flits_of h words ≡ flits)
    × (write_refusal h (length words) (length flits) 0 ≡ no_refusal)

-- ---- the four messages of 01's job listing: line 0x80001040, memory 7 then zeros

abbrev memory : Node
memory = record { chip = 0; x = 0; y = 0; port = port_west }

abbrev sevens : List ℕ
sevens = 7 ∷ 0 ∷ 0 ∷ 0 ∷ 0 ∷ 0 ∷ 0 ∷ 0 ∷ []

abbrev pub ListingFlitsStatement : Type 0
ListingFlitsStatement =
    IsMessage (0x000000000087C000 ∷ 0x0000800010400400 ∷ 0 ∷ []) (three_flits load_req_type 0 no_node 0x80001040 0 0 4 no_node) []
    × IsMessage (0x000000008084C000 ∷ 0x0000800010400700 ∷ 0 ∷ []) (three_flits load_mem_type 0 memory 0x80001040 0 0 line_size no_node) []
    × IsMessage (0x0000000002060000 ∷ sevens) (one_flit load_mem_ack_type 0 0 0 0 0) sevens
    × IsMessage (0x0000000002074028 ∷ sevens) (one_flit data_ack_type 0 state_e 1 0 0) sevens

-- ---- every field with a number of its own

abbrev node_a : Node
node_a = record { chip = 1; x = 2; y = 3; port = port_east }

abbrev node_b : Node
node_b = record { chip = 6; x = 7; y = 8; port = port_north }

abbrev pub FieldsStatement : Type 0
FieldsStatement =
    IsMessage (0x0004080D00840140 ∷ 0x000080001040F000 ∷ 0x00181C2140000000 ∷ []) (three_flits load_fwd_type 5 node_a 0x80001040 all_sublines 0 no_size node_b) []
    × IsMessage (0x000000000087C000 ∷ 0x0000800010410D00 ∷ 0 ∷ []) (three_flits load_req_type 0 no_node 0x80001041 0 1 5 no_node) []
    × IsMessage (0x000000000207403C ∷ sevens) (one_flit data_ack_type 0 state_m 1 2 0) sevens

-- ---- P10: flit 000000000005C041 alone reads as INV_FWDACK, tag 1; with bit 0 clear: 16

abbrev inv_fwd_ack : Header
inv_fwd_ack = one_flit inv_fwdack_type 1 state_i 0 0 1

abbrev pub P10Statement : Type 0
P10Statement = (read_of (0x5C041 ∷ []) ≡ read_accepted inv_fwd_ack 1 1) × (read_of (0x5C040 ∷ []) ≡ read_refused bad_field_refusal)

-- ---- DATA_ACK with 9 flits read; with 8: 13

abbrev pub DataAckStatement : Type 0
DataAckStatement =
    ((read_of (0x2074028 ∷ sevens)).used ≡ 9)
    × (read_of (0x2074028 ∷ 7 ∷ 0 ∷ 0 ∷ 0 ∷ 0 ∷ 0 ∷ 0 ∷ []) ≡ read_refused flits_missing_refusal)

-- ---- LOAD_FWDACK in state I: with length 0 only, else 16

abbrev pub LoadFwdAckStatement : Type 0
LoadFwdAckStatement = (read_refusal (0x54001 ∷ []) ≡ no_refusal) × (read_refusal (0x2054001 ∷ sevens) ≡ bad_field_refusal)

-- ---- of several refusals the lowest wins: in each line the next number applies too

abbrev pub ReadOrderStatement : Type 0
ReadOrderStatement =
    (read_refusal [] ≡ no_flit_refusal)
    -- type 40, length 1
    × (read_refusal (0x4A0000 ∷ []) ≡ unknown_type_refusal)
    -- LOAD_REQ, length 3
    × (read_refusal (0xC7C000 ∷ []) ≡ wrong_length_refusal)
    -- LOAD_REQ to port 1, its first flit alone
    × (read_refusal (0x4087C000 ∷ []) ≡ flits_missing_refusal)
    -- and whole, with options
    × (read_refusal (0x4087C001 ∷ 0x0000800010400400 ∷ 0 ∷ []) ≡ unknown_port_refusal)
    -- LOAD_MEM of size 3 with the highest reserved bit of flit 2, of flit 3, and with none
    × (read_refusal (0x8084C000 ∷ 0x0000800010400380 ∷ 0 ∷ []) ≡ reserved_set_refusal)
    × (read_refusal (0x8084C000 ∷ 0x0000800010400300 ∷ 0x20000000 ∷ []) ≡ reserved_set_refusal)
    × (read_refusal (0x8084C000 ∷ 0x0000800010400300 ∷ 0 ∷ []) ≡ bad_field_refusal)

abbrev strange : Node
strange = record { chip = 0; x = 0; y = 0; port = 1 }

abbrev pub WriteOrderStatement : Type 0
WriteOrderStatement =
    -- type 40 with data
    (write_refusal (three_flits 40 0 no_node 0 0 0 4 no_node) 3 9 0 ≡ unknown_type_refusal)
    -- LOAD_REQ to port 1 with data
    × (write_refusal (three_flits load_req_type 0 strange 0 0 0 8 no_node) 8 11 0 ≡ wrong_length_refusal)
    -- LOAD_REQ to port 1 of a size too wide
    × (write_refusal (three_flits load_req_type 0 strange 0 0 0 8 no_node) 0 3 0 ≡ unknown_port_refusal)
    -- a size, a tag and an address too wide, where there is too little room; and an address on one header flit
    × (write_refusal (three_flits load_req_type 0 no_node 0 0 0 8 no_node) 0 3 1 ≡ bad_field_refusal)
    × (write_refusal (three_flits load_req_type 256 no_node 0 0 0 4 no_node) 0 3 1 ≡ bad_field_refusal)
    × (write_refusal (three_flits load_req_type 0 no_node 0x1000000000000 0 0 4 no_node) 0 3 1 ≡ bad_field_refusal)
    × (write_refusal (with_address inv_fwdack_type 1 state_i 0 0 1 64) 0 0 0 ≡ bad_field_refusal)
    -- one flit too little, and just enough
    × (write_refusal (three_flits load_req_type 0 no_node 0 0 0 4 no_node) 0 3 1 ≡ no_room_refusal)
    × (write_refusal (three_flits load_req_type 0 no_node 0 0 0 4 no_node) 0 4 1 ≡ no_refusal)

-- ---- copied and read back at the second flit of a buffer of two, and of one

abbrev pub RoundTripsStatement : Type 0
RoundTripsStatement =
    (copied_of (0x5C041 ∷ 9 ∷ []) 2 1 ≡ record { refusal = no_refusal; flits = 1 })
    × (copy_buffer (0x5C041 ∷ 9 ∷ []) (7 ∷ 8 ∷ []) 1 ≡ 7 ∷ 0x5C041 ∷ [])
    × (copied_of (0x5C041 ∷ 9 ∷ []) 1 1 ≡ record { refusal = no_room_refusal; flits = 0 })
    × (copied_of (0x5C040 ∷ 9 ∷ []) 1 1 ≡ record { refusal = bad_field_refusal; flits = 0 })
    × (copy_buffer (0x5C040 ∷ 9 ∷ []) (7 ∷ 8 ∷ []) 1 ≡ 7 ∷ 8 ∷ [])
    × (echo_of inv_fwd_ack 0 2 1 ≡ read_accepted inv_fwd_ack 1 1)
    × (echo_of inv_fwd_ack 0 1 1 ≡ read_refused no_room_refusal)
