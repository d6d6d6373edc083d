-- What a message must keep (01, 'Flit words'), by the number of the refusal that is given where it does not.
use Rattle.std.specs.Prelude.{Bool, true, not, ◌&&◌, ◌||◌, List, [], ◌∷◌, ℕ, ◌^◌, eqb, ltb, leb}
use Rattle.numbers.specs.Ports.{port_processor, port_west, port_south, port_east, port_north}
use Rattle.numbers.specs.Queues.{no_queue_number}
use Rattle.flit_rules.specs.declared.Header.{Header}
use Rattle.flit_rules.specs.declared.TypeRow.{TypeRow}
use Rattle.flit_rules.specs.Words.{bits, options_of, chip_bits, x_bits, y_bits, tag_bits, state_bits, miss_bits, address54_bits, last_bits, address_bits, vector_bits, icache_bits, size_bits}

-- every test of a list holds
abbrev pub all_from : Bool → List Bool → Bool
all_from b [] = b
all_from b (t ∷ ts) = all_from (b && t) ts

abbrev pub all : List Bool → Bool
all [] = true
all (t ∷ ts) = all_from t ts

-- 11: type not in the table
abbrev pub in_table : TypeRow → Bool
in_table row = not (eqb row.network no_queue_number)

-- 12: length not of this type; it counts the flits that follow the first
abbrev pub length_allowed : TypeRow → ℕ → Bool
length_allowed row following = eqb following row.short || eqb following row.long

-- 14: port not listed
abbrev pub port_listed : ℕ → Bool
port_listed port =
    eqb port port_processor || eqb port port_west || eqb port port_south || eqb port port_east || eqb port port_north

-- the destination's always, the source's on three header flits
unfoldable pub ports_listed : TypeRow → Header → Bool
ports_listed row h = port_listed h.to.port && (not row.three || port_listed h.from.port)

-- 15: reserved bit set: options of a type that has none, 7..0 of flit 2, 29..0 of flit 3
unfoldable pub reserved_clear : TypeRow → ℕ → ℕ → ℕ → Bool
reserved_clear row flit1 flit2 flit3 =
    all ((row.options || eqb (options_of flit1) 0) ∷ eqb (bits 7 0 flit2) 0 ∷ eqb (bits 29 0 flit3) 0 ∷ [])

-- 16: a field too wide
abbrev pub field_fits : ℕ → ℕ → Bool
field_fits width v = ltb v (2 ^ width)

-- each field by its width
abbrev pub width_tests : Header → List Bool
width_tests h =
    -- flit 1; ports are 14's, and the type is in the table
    field_fits chip_bits h.to.chip
    ∷ field_fits x_bits h.to.x
    ∷ field_fits y_bits h.to.y
    ∷ field_fits tag_bits h.tag
    -- its options
    ∷ field_fits state_bits h.state
    ∷ field_fits miss_bits h.miss
    ∷ field_fits address54_bits h.address54
    ∷ field_fits last_bits h.last
    -- flit 2
    ∷ field_fits address_bits h.address
    ∷ field_fits vector_bits h.vector
    ∷ field_fits icache_bits h.icache
    ∷ field_fits size_bits h.size
    -- flit 3
    ∷ field_fits chip_bits h.from.chip
    ∷ field_fits x_bits h.from.x
    ∷ field_fits y_bits h.from.y
    ∷ []

abbrev pub fields_narrow : Header → Bool
fields_narrow h = all (width_tests h)

-- 16: a field that the type does not have is 0. Of size, vector, icache bit and options the row says so
abbrev pub absent_tests : Header → List Bool
absent_tests h =
    eqb h.address 0
    ∷ eqb h.from.chip 0
    ∷ eqb h.from.x 0
    ∷ eqb h.from.y 0
    ∷ eqb h.from.port 0
    ∷ []

abbrev pub absent_clear : TypeRow → Header → Bool
absent_clear row h = row.three || all (absent_tests h)

-- 16: a field not allowed for its type. `carries` says that there is data
abbrev pub suit_tests : TypeRow → Bool → Header → List Bool
suit_tests row carries h =
    -- size
    leb row.least h.size
    ∷ leb h.size row.most
    -- sub-line vector
    ∷ eqb h.vector row.vector
    -- icache bit
    ∷ leb h.icache row.icache
    -- a line address has its low six bits 0
    ∷ (not row.line || eqb (bits 5 0 h.address) 0)
    -- state, without data and with data
    ∷ leb row.low h.state
    ∷ (not carries || leb row.full h.state)
    ∷ leb h.state row.high
    -- L2 miss, address_5_4, last
    ∷ leb h.miss row.miss
    ∷ leb h.address54 row.address54
    ∷ eqb h.last row.last
    ∷ []

abbrev pub fields_suit : TypeRow → Bool → Header → Bool
fields_suit row carries h = all (suit_tests row carries h)

unfoldable pub fields_allowed : TypeRow → Bool → Header → Bool
fields_allowed row carries h = fields_narrow h && absent_clear row h && fields_suit row carries h
