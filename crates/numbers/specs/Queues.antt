-- Queues (01's ways) by number: the networks of a tile, and the two of the memory.
use Rattle.std.specs.Prelude.{ℕ}
use Rattle.numbers.specs.declared.queues.Queues.{Queues}
use Rattle.numbers.specs.declared.queues.Queues.TheVariants.{Nothing, Noc1, Noc2, Noc3, ToMemory, FromMemory, Noc3ThenNoc1}

abbrev pub no_queue_number : ℕ
no_queue_number = 0

abbrev pub noc1_queue : ℕ
noc1_queue = 1

abbrev pub noc2_queue : ℕ
noc2_queue = 2

abbrev pub noc3_queue : ℕ
noc3_queue = 3

abbrev pub to_memory_queue : ℕ
to_memory_queue = 4

abbrev pub from_memory_queue : ℕ
from_memory_queue = 5

-- a write-back and its guard, of one tile: two queues of one answer
abbrev pub noc3_then_noc1_queues : ℕ
noc3_then_noc1_queues = 6

-- the number of the queues that a call sends on
abbrev pub queues_number : Queues → ℕ
queues_number Nothing = no_queue_number
queues_number Noc1 = noc1_queue
queues_number Noc2 = noc2_queue
queues_number Noc3 = noc3_queue
queues_number ToMemory = to_memory_queue
queues_number FromMemory = from_memory_queue
queues_number Noc3ThenNoc1 = noc3_then_noc1_queues
