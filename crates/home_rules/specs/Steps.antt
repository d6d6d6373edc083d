-- A device of the proofs: no public promise rests on it alone. The home's steps on its block: its moves (Moves.antt) applied, and the
-- memory's step. A message for tiles has still to be put on NoC2 of every tile of the mask `to`; one to or from memory is on its queue.
use Rattle.std.specs.Prelude.{ℕ, cond, List, eqb, Result, Ok, Err}
use Rattle.numbers.specs.Types.{no_message_type, data_ack_type, load_mem_type, store_mem_type, load_mem_ack_type, store_mem_ack_type}
use Rattle.numbers.specs.Queues.{no_queue_number, noc2_queue, from_memory_queue, queues_number}
use Rattle.numbers.specs.Kinds.{kind_other, kind_sent, kind_number}
use Rattle.numbers.specs.declared.refusals.Refusal.{Refusal}
use Rattle.numbers.specs.Refusals.{no_refusal, nothing_there_refusal, queue_full_refusal, refusal_number}
use Rattle.layout.specs.Blocks.{message_type, message_state, message_flag, line_valid, line_dirty, line_directory_number, line_holders, control_last_taken, control_marks, control_requester, control_owed}
use Rattle.layout.specs.declared.rows.Row.{Row}
use Rattle.layout.specs.declared.rows.Pair.{Pair}
use Rattle.layout.specs.declared.rows.HomeBlock.{HomeBlock}
use Rattle.layout.specs.Encode.{row, no_row, zeros}
use Rattle.layout.specs.Queues.{push_row, pop_row}
use Rattle.home_rules.specs.declared.moves.HomeNumbers.{HomeNumbers}
use Rattle.home_rules.specs.declared.moves.HomeMove.{HomeMove}
use Rattle.home_rules.specs.declared.moves.LineSource.{LineSource}
use Rattle.home_rules.specs.declared.moves.LineSource.TheVariants.{Stay, Clear, OfMessage}
use Rattle.home_rules.specs.Moves as moves
use Rattle.home_rules.specs.declared.moves.Sending.{Sending}
use Rattle.home_rules.specs.declared.moves.Sending.TheVariants.{Silent, Memory, Tiles}
use Rattle.home_rules.specs.Moves.{numbers_of, kind_of, queues_of, tiles_of}

-- A step of the home: what it answers, the block after it, and the message for the tiles of the mask `to`.
pub record HomeStep : Type 0 where
  pub refusal : ℕ
  pub kind : ℕ
  pub home : HomeBlock
  pub sent : ℕ
  pub to : ℕ
  pub forward : Row

abbrev pub block_of : ℕ → ℕ → Row → Row → Pair → Pair → HomeBlock
block_of n p x c out back = record { count = n; phase = p; line = x; control = c; out = out; back = back }

abbrev pub step_of : ℕ → ℕ → HomeBlock → ℕ → ℕ → Row → HomeStep
step_of r k x s to f = record { refusal = r; kind = k; home = x; sent = s; to = to; forward = f }

-- refused with number r: the block is as it was
unfoldable pub refused_step : HomeBlock → ℕ → HomeStep
refused_step x r = step_of r kind_other x no_queue_number 0 no_row

-- a message for every tile of a mask
unfoldable pub forward_step : HomeBlock → ℕ → Row → HomeStep
forward_step x to f = step_of no_refusal kind_sent x noc2_queue to f

-- the numbers of a block by which the home decides
unfoldable pub numbers_in : HomeBlock → HomeNumbers
numbers_in x =
    numbers_of x.phase (line_valid x.line) (line_dirty x.line) (line_directory_number x.line) (line_holders x.line) (control_last_taken x.control) (control_marks x.control) (control_requester x.control) (control_owed x.control) (message_type x.out.b)

-- a block with other numbers; with other words of its line; with a message more on the queue to memory
unfoldable pub with_numbers : HomeNumbers → HomeBlock → HomeBlock
with_numbers y x =
    block_of x.count y.phase (row y.valid y.dirty y.directory y.holders x.line.words)
    (row y.last y.marks y.requester y.owed x.control.words) x.out x.back

unfoldable pub with_words : List ℕ → HomeBlock → HomeBlock
with_words ws x =
    block_of x.count x.phase (row (line_valid x.line) (line_dirty x.line) (line_directory_number x.line) (line_holders x.line) ws) x.control x.out x.back

unfoldable pub with_outgoing : Row → HomeBlock → HomeBlock
with_outgoing m x = block_of x.count x.phase x.line x.control (push_row x.out m) x.back

-- the line's words after a move, by where they come from: as they were, all 0, or those of the message, ws
unfoldable pub words_from : LineSource → List ℕ → List ℕ → List ℕ
words_from Stay kept ws = kept
words_from Clear kept ws = zeros
words_from OfMessage kept ws = ws

-- a message of type o to memory: STORE_MEM has the line's words
unfoldable pub memory_put : ℕ → HomeBlock → HomeBlock
memory_put o x = with_outgoing (row o 0 0 0 (cond (eqb o store_mem_type) x.line.words zeros)) x

-- what a move sends to memory, put on its queue
unfoldable pub outgoing_put : Sending → HomeBlock → HomeBlock
outgoing_put Silent x = x
outgoing_put (Memory o) x = memory_put o x
outgoing_put (Tiles to m state miss) x = x

-- the message for tiles: DATA_ACK has the line's words
unfoldable pub forward_row : ℕ → ℕ → ℕ → HomeBlock → Row
forward_row m state miss x = row m 0 state miss (cond (eqb m data_ack_type) x.line.words zeros)

-- what a move has for tiles
unfoldable pub forward_of : Sending → HomeBlock → Row
forward_of Silent x = no_row
forward_of (Memory o) x = no_row
forward_of (Tiles to m state miss) x = forward_row m state miss x

-- A move applied to a block, where ws are the words of the message that it answers. A refusal leaves the block as it was.
unfoldable pub line_after_move : HomeBlock → List ℕ → HomeMove → HomeBlock
line_after_move x ws m = with_words (words_from m.source x.line.words ws) (with_numbers m.home x)

unfoldable pub move_applied : HomeBlock → List ℕ → Result HomeMove Refusal → HomeStep
move_applied x ws (Ok m) = step_of no_refusal (kind_number (kind_of m.sends)) (outgoing_put m.sends (line_after_move x ws m)) (queues_number (queues_of m.sends)) (tiles_of m.sends) (forward_of m.sends (line_after_move x ws m))
move_applied x ws (Err r) = refused_step x (refusal_number r)

-- Taking of tile t, whose NoC1 front is m, and delivery from it, whose NoC3 front is m (all 0: none).
unfoldable pub taking_step : HomeBlock → ℕ → Row → HomeStep
taking_step x t m = move_applied x m.words (moves.take_front (numbers_in x) t (message_type m))

unfoldable pub reply_step : HomeBlock → ℕ → Row → HomeStep
reply_step x t m = move_applied x m.words (moves.accept_reply (numbers_in x) t (message_type m) (message_state m) (message_flag m))

-- Memory ack: the front of the queue from memory is taken off.
unfoldable pub without_ack : HomeBlock → HomeBlock
without_ack x = block_of x.count x.phase x.line x.control x.out (pop_row x.back)

unfoldable pub memory_ack_step : HomeBlock → HomeStep
memory_ack_step x = move_applied (without_ack x) x.back.a.words (moves.memory_ack (numbers_in x) (message_type x.back.a))

-- Home eviction answers no message.
unfoldable pub eviction_step : HomeBlock → HomeStep
eviction_step x = move_applied x zeros (moves.evict_line (numbers_in x))

-- Memory step: LOAD_MEM reads, STORE_MEM replaces; each is acknowledged.
unfoldable pub with_memory : HomeBlock → List ℕ → Pair → Pair → HomeBlock
with_memory x mem out back =
    block_of x.count x.phase x.line (row (control_last_taken x.control) (control_marks x.control) (control_requester x.control) (control_owed x.control) mem) out back

unfoldable pub memory_answers : HomeBlock → List ℕ → Row → HomeStep
memory_answers x mem m = cond (eqb (message_type x.back.b) no_message_type) (step_of no_refusal kind_sent (with_memory x mem (pop_row x.out) (push_row x.back m)) from_memory_queue 0 no_row) (refused_step x queue_full_refusal)

unfoldable pub memory_step : HomeBlock → HomeStep
memory_step x =
    cond (eqb (message_type x.out.a) no_message_type) (refused_step x nothing_there_refusal)
    (cond (eqb (message_type x.out.a) load_mem_type) (memory_answers x x.control.words (row load_mem_ack_type 0 0 0 x.control.words))
    (memory_answers x x.out.a.words (row store_mem_ack_type 0 0 0 zeros)))
