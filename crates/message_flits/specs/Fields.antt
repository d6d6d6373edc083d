-- Document 01, 'Flits of a bench': the fields and data of the message m on queue q, by its number and tile t, of a bench whose line has this
-- address. A bench keeps only a message's type, word, state, miss and data; the rest follows from here, and from the flit table (`row_of`)
-- where that leaves no choice.
use Rattle.std.specs.Prelude.{ℕ, ◌+◌, ◌*◌, ◌/◌, ◌%◌, ◌^◌, ◌<◌, cond, List, eqb, ltb, leb, length, take}
use Rattle.flits.specs.Words.{Node, Header, address_bits}
use Rattle.flits.specs.Table.{TypeRow, row_of, header_extra}
use Rattle.numbers.specs.Limits.{most_tiles, words_in_line, word_bytes}
use Rattle.numbers.specs.Ports.{port_processor, port_west}
use Rattle.numbers.specs.Queues.{noc1_queue, noc2_queue, noc3_queue, to_memory_queue, from_memory_queue}
use Rattle.layout.specs.Blocks.{message_type, message_word, message_state, message_flag}
use Rattle.layout.specs.declared.rows.Row.{Row}
use Rattle.layout.specs.Range.{RequestIn, ForwardIn, ReplyIn, ToMemoryIn, FromMemoryIn}
use Rattle.protocol.specs.Parts.{Words, Request, Forward, Reply, ToMemory, FromMemory}
use Rattle.layout.specs.Encode.{zeros, row, enc_request, enc_forward, enc_reply, enc_to_memory, enc_from_memory}

-- tiles in a row of the mesh; the size that a request for a word has
abbrev pub mesh_width : ℕ
mesh_width = 8

abbrev pub request_size : ℕ
request_size = 4

abbrev pub node : ℕ → ℕ → ℕ → Node
node x y port = record { chip = 0; x = x; y = y; port = port }

-- Tile t is chip 0, x = t mod 8, y = t div 8, port 0.
abbrev pub tile_node : ℕ → Node
tile_node t = node (t % mesh_width) (t / mesh_width) port_processor

-- Home is 0,0,0, port 0; memory 0,0,0, port 2.
abbrev pub home_node : Node
home_node = node 0 0 port_processor

abbrev pub memory_node : Node
memory_node = node 0 0 port_west

-- NoC1 and NoC3 lead from the tile to the home, NoC2 from the home to the tile
unfoldable pub destination : ℕ → ℕ → Node
destination q t = cond (eqb q noc2_queue) (tile_node t) (cond (eqb q to_memory_queue) memory_node home_node)

unfoldable pub source : ℕ → ℕ → Node
source q t = cond (eqb q noc2_queue) home_node (cond (eqb q to_memory_queue) home_node (cond (eqb q from_memory_queue) memory_node (tile_node t)))

-- Tag is the tile whose way carries the message, 0 for memory.
unfoldable pub message_tag : ℕ → ℕ → ℕ
message_tag q t = cond (leb q noc3_queue) t 0

-- Requests carry line address plus 8 x word; what is no line address or no word gives an address that no flit holds
unfoldable pub word_address : ℕ → ℕ → ℕ
word_address line w =
    cond (ltb line (2 ^ address_bits)) (cond (ltb w words_in_line) (line + word_bytes * w) (2 ^ address_bits)) (2 ^ address_bits)

-- of the types with three header flits, requests are those that are not bound to a line address
unfoldable pub message_address : TypeRow → ℕ → ℕ → ℕ
message_address e line w = cond e.three (cond e.line line (word_address line w)) 0

-- requests have size 4; else the table's one size
unfoldable pub message_size : TypeRow → ℕ
message_size e = cond e.three (cond e.line e.least request_size) 0

unfoldable pub message_source : TypeRow → ℕ → ℕ → Node
message_source e q t = cond e.three (source q t) (node 0 0 port_processor)

-- Grants after a memory load set L2 miss: the flag of a type that can have it
unfoldable pub message_miss : TypeRow → ℕ → ℕ
message_miss e flag = cond (eqb e.miss 0) 0 flag

-- address_5_4 is 0, the icache bit is 0; vector and last are the table's
unfoldable pub message_header : TypeRow → ℕ → ℕ → ℕ → Row → Header
message_header e line q t m =
    record {
      opcode = message_type m;
      tag = message_tag q t;
      to = destination q t;
      state = message_state m;
      miss = message_miss e (message_flag m);
      address54 = 0;
      last = e.last;
      address = message_address e line (message_word m);
      vector = e.vector;
      icache = 0;
      size = message_size e;
      from = message_source e q t;
    }

unfoldable pub message_fields : ℕ → ℕ → ℕ → Row → Header
message_fields line q t m = message_header (row_of (message_type m)) line q t m

-- the data: eight words where the type's one length has them, or where its flag says so; else none
unfoldable pub data_count : TypeRow → ℕ → ℕ
data_count e flag = cond (eqb e.short e.long) (cond (eqb e.long (header_extra e)) 0 words_in_line) (cond (eqb flag 0) 0 words_in_line)

unfoldable pub message_data : Row → List ℕ
message_data m = take (data_count (row_of (message_type m)) (message_flag m)) m.words

-- What a bench keeps of fields and data.
unfoldable pub kept_word : TypeRow → ℕ → ℕ
kept_word e address = cond e.three (cond e.line 0 (address / word_bytes % words_in_line)) 0

unfoldable pub kept_flag : TypeRow → ℕ → ℕ → ℕ
kept_flag e miss count = cond (eqb e.miss 0) (cond (eqb e.short e.long) 0 (cond (eqb count 0) 0 1)) miss

unfoldable pub kept_data : List ℕ → Words
kept_data ws = cond (eqb (length ws) 0) zeros ws

unfoldable pub kept_row : Header → List ℕ → Row
kept_row h ws = row h.opcode (kept_word (row_of h.opcode) h.address) h.state (kept_flag (row_of h.opcode) h.miss (length ws)) (kept_data ws)

-- the row of a message on its queue, of a bench of at most 64 tiles
pub data Carried : ℕ → ℕ → Row → Type 0 where
  on_noc1 : (t : ℕ) (m : Request) → t < most_tiles → RequestIn m → Carried noc1_queue t (enc_request m)
  on_noc2 : (t : ℕ) (m : Forward) → t < most_tiles → ForwardIn m → Carried noc2_queue t (enc_forward m)
  on_noc3 : (t : ℕ) (m : Reply) → t < most_tiles → ReplyIn m → Carried noc3_queue t (enc_reply m)
  to_memory : (m : ToMemory) → ToMemoryIn m → Carried to_memory_queue 0 (enc_to_memory m)
  from_memory : (m : FromMemory) → FromMemoryIn m → Carried from_memory_queue 0 (enc_from_memory m)
