-- The rows of the messages that a call sent, in the words after it: each is the last of its queue.
use Rattle.std.specs.Prelude.{ℕ, ◌+◌, ◌-◌, ◌*◌, cond, List, eqb, ltb, leb, length, get_or}
use Rattle.numbers.specs.Limits.{most_tiles}
use Rattle.numbers.specs.Queues.{no_queue_number, noc1_queue, noc2_queue, noc3_queue, to_memory_queue, from_memory_queue}
use Rattle.numbers.specs.Types.{no_message_type}
use Rattle.layout.specs.Places.{queue_size, tile_noc1_place, home_to_memory_place, home_from_memory_place}
use Rattle.layout.specs.declared.rows.Row.{Row}
use Rattle.layout.specs.declared.rows.Pair.{Pair}
use Rattle.layout.specs.Blocks.{tile_place, pair_at, message_type}
use Rattle.layout.specs.Encode.{no_row, enc_request, enc_forward, enc_reply, enc_to_memory, enc_from_memory}
use Rattle.protocol.specs.Parts.{Message, on_noc1, on_noc2, on_noc3, to_memory, from_memory}
use Rattle.calls.specs.Calls.{tile_count}
use Rattle.layout.specs.declared.queues.BenchQueue.{BenchQueue}
use Rattle.messages.specs.Queues.{no_queue, sent_queues}
use Rattle.messages.specs.declared.Sent.{Sent}

-- no queue of a bench of at most 64 tiles stands behind this place
abbrev pub places_end : ℕ
places_end = tile_place most_tiles

-- the last message of a queue of two rows: a free place has no type
unfoldable pub last_row : Pair → Row
last_row q = cond (eqb (message_type q.b) no_message_type) q.a q.b

-- of the queue that stands at a place of the words, none where they are too short
unfoldable pub last_row_at : List ℕ → ℕ → Row
last_row_at l at = cond (leb (at + queue_size) (length l)) (last_row (pair_at l at)) no_row

-- of NoC1, NoC2 or NoC3 of a tile, none where the bench has no such tile
unfoldable pub tile_row : List ℕ → ℕ → ℕ → Row
tile_row l q t =
    cond (ltb t most_tiles)
    (cond (ltb t (tile_count l)) (last_row_at l (tile_place t + tile_noc1_place + queue_size * (q - noc1_queue))) no_row) no_row

-- of any queue
unfoldable pub row_on : List ℕ → ℕ → ℕ → Row
row_on l q t =
    cond (eqb q no_queue_number) no_row
    (cond (leb q noc3_queue) (tile_row l q t)
    (cond (eqb q to_memory_queue) (last_row_at l home_to_memory_place) (cond (eqb q from_memory_queue) (last_row_at l home_from_memory_place) no_row)))

unfoldable pub sent_at : List ℕ → BenchQueue → Sent
sent_at l p = record { queue = p.queue; tile = p.tile; row = row_on l p.queue p.tile }

-- the i-th message of an answer, sent on s, to the tiles m
unfoldable pub sent_message : List ℕ → ℕ → ℕ → ℕ → Sent
sent_message l s m i = sent_at l (get_or (sent_queues s m) i no_queue)

-- the numbers of a message: its queue, its tile (0 for memory) and its row
unfoldable pub numbers_of_message : Message → Sent
numbers_of_message (on_noc1 t m) = record { queue = noc1_queue; tile = t; row = enc_request m }
numbers_of_message (on_noc2 t m) = record { queue = noc2_queue; tile = t; row = enc_forward m }
numbers_of_message (on_noc3 t m) = record { queue = noc3_queue; tile = t; row = enc_reply m }
numbers_of_message (to_memory m) = record { queue = to_memory_queue; tile = 0; row = enc_to_memory m }
numbers_of_message (from_memory m) = record { queue = from_memory_queue; tile = 0; row = enc_from_memory m }

abbrev pub no_sent : Sent
no_sent = record { queue = no_queue_number; tile = 0; row = no_row }
