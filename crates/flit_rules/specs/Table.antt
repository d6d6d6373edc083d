-- 01's table of types, a line here for each of its lines and in its order: lengths, size, vector and network allowed, the options' rules.
use Rattle.std.specs.Prelude.{Bool, true, false, cond, ◌||◌, List, [], ◌∷◌, ℕ, ◌+◌, eqb}
use Rattle.numbers.specs.Types.{load_req_type, store_req_type, wb_req_type, store_mem_type, load_mem_type, wbguard_req_type, load_fwd_type, store_fwd_type, inv_fwd_type, load_fwdack_type, store_fwdack_type, inv_fwdack_type, load_mem_ack_type, store_mem_ack_type, nodata_ack_type, data_ack_type}
use Rattle.numbers.specs.States.{state_i, state_s, state_m}
use Rattle.numbers.specs.Queues.{no_queue_number, noc1_queue, noc2_queue, noc3_queue}
use Rattle.numbers.specs.Limits.{words_in_line}
use Rattle.flit_rules.specs.declared.TypeRow.{TypeRow}

-- the length counts the flits that follow the first: two more header flits where the type has three, and the words of a line where there
-- is data
abbrev pub extra_flits : ℕ
extra_flits = 2

-- the flits of a message are at most eleven
abbrev pub most_flits : ℕ
most_flits = 1 + extra_flits + words_in_line

-- sizes: of a message that carries or asks for a line, of one that carries and asks for nothing, and the largest
abbrev pub line_size : ℕ
line_size = 7

abbrev pub no_size : ℕ
no_size = 0

abbrev pub most_size : ℕ
most_size = 7

-- sub-line vectors: of a forward, all four; of any other type, none
abbrev pub all_sublines : ℕ
all_sublines = 15

abbrev pub no_subline : ℕ
no_subline = 0

-- the largest address_5_4
abbrev pub most_address54 : ℕ
most_address54 = 3

-- ---- rows by their header flits

-- three header flits: network, length, sizes from and to, vector, largest icache bit, line address or any
abbrev pub three_flit_row : ℕ → ℕ → ℕ → ℕ → ℕ → ℕ → Bool → TypeRow
three_flit_row network following from to vector icache line =
    record {
      network = network;
      three = true;
      short = following;
      long = following;
      least = from;
      most = to;
      vector = vector;
      icache = icache;
      line = line;
      options = false;
      low = 0;
      full = 0;
      high = 0;
      miss = 0;
      address54 = 0;
      last = 0;
    }

-- one header flit with options: network, the two lengths, least state without and with data, largest state, what last is, largest L2 miss
-- and address_5_4
abbrev pub one_flit_row : ℕ → ℕ → ℕ → ℕ → ℕ → ℕ → ℕ → ℕ → ℕ → TypeRow
one_flit_row network short long low full high last miss address54 =
    record {
      network = network;
      three = false;
      short = short;
      long = long;
      least = 0;
      most = 0;
      vector = 0;
      icache = 0;
      line = false;
      options = true;
      low = low;
      full = full;
      high = high;
      miss = miss;
      address54 = address54;
      last = last;
    }

-- one header flit, options reserved: network, length
abbrev pub bare_row : ℕ → ℕ → TypeRow
bare_row network following =
    record {
      network = network;
      three = false;
      short = following;
      long = following;
      least = 0;
      most = 0;
      vector = 0;
      icache = 0;
      line = false;
      options = false;
      low = 0;
      full = 0;
      high = 0;
      miss = 0;
      address54 = 0;
      last = 0;
    }

-- a type that is not in the table
abbrev pub absent_row : TypeRow
absent_row = bare_row no_queue_number 0

-- ---- rows by the rules of 01's lines

-- any address, any size: the largest icache bit
abbrev pub request_row : ℕ → TypeRow
request_row icache = three_flit_row noc1_queue extra_flits 0 most_size no_subline icache false

-- line address: network, length, size, vector
abbrev pub line_row : ℕ → ℕ → ℕ → ℕ → TypeRow
line_row network following size vector = three_flit_row network following size size vector 0 true

-- 21 to 23, on which last is 1 and miss and address_5_4 are 0: the two lengths, least state without data and with data, largest state
abbrev pub ack_row : ℕ → ℕ → ℕ → ℕ → ℕ → TypeRow
ack_row short long low full high = one_flit_row noc3_queue short long low full high 1 0 0

-- 28 and 29, on which last is 0: length, least state
abbrev pub reply_row : ℕ → ℕ → TypeRow
reply_row following low = one_flit_row noc2_queue following following low low state_m 0 1 most_address54

-- ---- the table

pub record TableLine : Type 0 where
  pub types : List ℕ
  pub row : TypeRow

abbrev pub of_types : List ℕ → TypeRow → TableLine
of_types types row = record { types = types; row = row }

abbrev pub table_lines : List TableLine
table_lines =
    -- length 2, any address, any size; icache bit may be 1 on type 31
    of_types (load_req_type ∷ []) (request_row 1)
    ∷ of_types (store_req_type ∷ []) (request_row 0)
    -- length 10, size 7, line address, data
    ∷ of_types (wb_req_type ∷ []) (line_row noc3_queue (extra_flits + words_in_line) line_size no_subline)
    ∷ of_types (store_mem_type ∷ []) (line_row noc2_queue (extra_flits + words_in_line) line_size no_subline)
    -- length 2, size 7, line address
    ∷ of_types (load_mem_type ∷ []) (line_row noc2_queue extra_flits line_size no_subline)
    -- length 2, size 0, line address
    ∷ of_types (wbguard_req_type ∷ []) (line_row noc1_queue extra_flits no_size no_subline)
    -- length 2, size 0, vector 15, line address
    ∷ of_types (load_fwd_type ∷ store_fwd_type ∷ inv_fwd_type ∷ []) (line_row noc2_queue extra_flits no_size all_sublines)
    -- length 0 or 8, state S; I with length 0 only
    ∷ of_types (load_fwdack_type ∷ []) (ack_row 0 words_in_line state_i state_s state_s)
    -- length 0 or 8, state I
    ∷ of_types (store_fwdack_type ∷ []) (ack_row 0 words_in_line state_i state_i state_i)
    -- length 0, state I
    ∷ of_types (inv_fwdack_type ∷ []) (ack_row 0 0 state_i state_i state_i)
    -- length 8, options reserved
    ∷ of_types (load_mem_ack_type ∷ []) (bare_row noc3_queue words_in_line)
    -- length 0, options reserved
    ∷ of_types (store_mem_ack_type ∷ []) (bare_row noc3_queue 0)
    -- length 0, any state
    ∷ of_types (nodata_ack_type ∷ []) (reply_row 0 state_i)
    -- length 8, state S, E or M
    ∷ of_types (data_ack_type ∷ []) (reply_row words_in_line state_s)
    ∷ []

abbrev pub is_one_of : ℕ → List ℕ → Bool
is_one_of t [] = false
is_one_of t (k ∷ ks) = eqb t k || is_one_of t ks

abbrev pub find_row : ℕ → List TableLine → TypeRow
find_row t [] = absent_row
find_row t (l ∷ ls) = cond (is_one_of t l.types) l.row (find_row t ls)

-- the row of a type
unfoldable pub row_of : ℕ → TypeRow
row_of t = find_row t table_lines

-- the header flits after the first
abbrev pub header_extra : TypeRow → ℕ
header_extra row = cond row.three extra_flits 0
