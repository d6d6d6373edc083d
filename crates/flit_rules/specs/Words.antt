-- Flit words (01, from 001 tables 1 to 8): where each field of a message stands. A flit is 64 bits.
-- `Header` holds the fields of any message; 01's type is `opcode`, its address_5_4 `address54`, the destination `to`, the source `from`.
use Rattle.std.specs.Prelude.{ℕ, ◌+◌, ◌-◌, List, [], ◌∷◌, get_or}
use Rattle.bits.specs.Field.{cut, put}
use Rattle.flit_rules.specs.declared.Node.{Node}
use Rattle.flit_rules.specs.declared.Header.{Header}

-- bits hi..lo of a word, and a word with them set: `bits 63 50 w` is 01's 63..50
abbrev pub bits : ℕ → ℕ → ℕ → ℕ
bits hi lo w = cut w lo (hi + 1 - lo)

abbrev pub set_bits : ℕ → ℕ → ℕ → ℕ → ℕ
set_bits hi lo v w = put w lo (hi + 1 - lo) v

-- chip 63..50, x 49..42, y 41..34, port 33..30: the destination in flit 1, the source in flit 3
abbrev pub node_of : ℕ → Node
node_of w = record { chip = bits 63 50 w; x = bits 49 42 w; y = bits 41 34 w; port = bits 33 30 w }

abbrev pub set_node : Node → ℕ → ℕ
set_node n w = set_bits 63 50 n.chip (set_bits 49 42 n.x (set_bits 41 34 n.y (set_bits 33 30 n.port w)))

-- flit 1: the destination, length 29..22, type 21..14, tag 13..6, options 5..0
abbrev pub length_of : ℕ → ℕ
length_of flit1 = bits 29 22 flit1

abbrev pub opcode_of : ℕ → ℕ
opcode_of flit1 = bits 21 14 flit1

abbrev pub options_of : ℕ → ℕ
options_of flit1 = bits 5 0 flit1

-- the options: state 5..4, L2 miss 3, address_5_4 2..1, last 0.
-- flit 2: address 63..16, sub-line vector 15..12, icache bit 11, size 10..8, 7..0 reserved.
-- flit 3: the source, 29..0 reserved
unfoldable pub header_of_flits : ℕ → ℕ → ℕ → Header
header_of_flits flit1 flit2 flit3 =
    record {
      opcode = opcode_of flit1;
      tag = bits 13 6 flit1;
      to = node_of flit1;
      state = bits 5 4 flit1;
      miss = bits 3 3 flit1;
      address54 = bits 2 1 flit1;
      last = bits 0 0 flit1;
      address = bits 63 16 flit2;
      vector = bits 15 12 flit2;
      icache = bits 11 11 flit2;
      size = bits 10 8 flit2;
      from = node_of flit3;
    }

-- the header flits of a message; its length counts the flits that follow the first
unfoldable pub flit1_of : Header → ℕ → ℕ
flit1_of h following =
    set_node h.to
    (set_bits 29 22 following
    (set_bits 21 14 h.opcode
    (set_bits 13 6 h.tag
    (set_bits 5 4 h.state (set_bits 3 3 h.miss (set_bits 2 1 h.address54 (set_bits 0 0 h.last 0)))))))

unfoldable pub flit2_of : Header → ℕ
flit2_of h =
    set_bits 63 16 h.address (set_bits 15 12 h.vector (set_bits 11 11 h.icache (set_bits 10 8 h.size 0)))

unfoldable pub flit3_of : Header → ℕ
flit3_of h = set_node h.from 0

-- the widths of the fields, which a message to write must keep
abbrev pub chip_bits : ℕ
chip_bits = 14

abbrev pub x_bits : ℕ
x_bits = 8

abbrev pub y_bits : ℕ
y_bits = 8

abbrev pub tag_bits : ℕ
tag_bits = 8

abbrev pub state_bits : ℕ
state_bits = 2

abbrev pub miss_bits : ℕ
miss_bits = 1

abbrev pub address54_bits : ℕ
address54_bits = 2

abbrev pub last_bits : ℕ
last_bits = 1

abbrev pub address_bits : ℕ
address_bits = 48

abbrev pub vector_bits : ℕ
vector_bits = 4

abbrev pub icache_bits : ℕ
icache_bits = 1

abbrev pub size_bits : ℕ
size_bits = 3

-- ---- the 18 fields of a message as words, in the order of `Header`

abbrev pub words_of_header : Header → List ℕ
words_of_header h =
    h.opcode ∷ h.tag ∷ h.to.chip ∷ h.to.x ∷ h.to.y ∷ h.to.port
    ∷ h.state ∷ h.miss ∷ h.address54 ∷ h.last ∷ h.address ∷ h.vector ∷ h.icache ∷ h.size
    ∷ h.from.chip ∷ h.from.x ∷ h.from.y ∷ h.from.port ∷ []

abbrev pub header_of_words : List ℕ → Header
header_of_words l =
    record {
      opcode = get_or l 0 0;
      tag = get_or l 1 0;
      to = record { chip = get_or l 2 0; x = get_or l 3 0; y = get_or l 4 0; port = get_or l 5 0 };
      state = get_or l 6 0;
      miss = get_or l 7 0;
      address54 = get_or l 8 0;
      last = get_or l 9 0;
      address = get_or l 10 0;
      vector = get_or l 11 0;
      icache = get_or l 12 0;
      size = get_or l 13 0;
      from = record { chip = get_or l 14 0; x = get_or l 15 0; y = get_or l 16 0; port = get_or l 17 0 };
    }
