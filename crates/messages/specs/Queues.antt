-- On which queues, and of which tiles, the messages of a call were sent, by the two numbers of its answer (crate protocol,
-- specs/Answers.antt). Each is the last on its queue after the call.
use Rattle.std.specs.Prelude.{ℕ, cond, List, [], ◌∷◌, eqb, leb, ltb, Option, Some, None}
use Rattle.numbers.specs.Limits.{most_tiles}
use Rattle.numbers.specs.Queues.{no_queue_number, noc1_queue, noc3_queue, from_memory_queue, noc3_then_noc1_queues}
use Rattle.protocol.specs.Home.{members}
use Rattle.layout.specs.declared.queues.BenchQueue.{BenchQueue}

abbrev pub bench_queue : ℕ → ℕ → BenchQueue
bench_queue q t = record { queue = q; tile = t }

abbrev pub no_queue : BenchQueue
no_queue = bench_queue no_queue_number 0

-- the queue q of tile t, where there can be such a tile
unfoldable pub tile_queue : ℕ → ℕ → BenchQueue
tile_queue q t = cond (ltb t most_tiles) (bench_queue q t) no_queue

-- the queue q of a tile, if there is one
unfoldable pub queue_of_tile : ℕ → Option ℕ → BenchQueue
queue_of_tile q None = no_queue
queue_of_tile q (Some t) = bench_queue q t

-- the queue q of every tile of a list
unfoldable pub queue_of_each : ℕ → List ℕ → List BenchQueue
queue_of_each q [] = []
queue_of_each q (t ∷ ts) = bench_queue q t ∷ queue_of_each q ts

-- NoC3, then NoC1, of the first tile of a list
unfoldable pub noc3_then_noc1 : List ℕ → List BenchQueue
noc3_then_noc1 [] = []
noc3_then_noc1 (t ∷ ts) = bench_queue noc3_queue t ∷ bench_queue noc1_queue t ∷ []

-- the queues of an answer's messages, in order of sending: NoC1 to NoC3 of the mask's tiles in rising order; to memory; from memory; NoC3,
-- then NoC1, of the mask's tile
unfoldable pub sent_queues : ℕ → ℕ → List BenchQueue
sent_queues s m =
    cond (eqb s no_queue_number) []
    (cond (leb s noc3_queue) (queue_of_each s (members m most_tiles))
    (cond (leb s from_memory_queue) (bench_queue s 0 ∷ []) (cond (eqb s noc3_then_noc1_queues) (noc3_then_noc1 (members m most_tiles)) [])))
