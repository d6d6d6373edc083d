-- A device of the proofs: no public promise rests on it alone. A tile's steps on its block: its moves (Moves.antt) applied.
use Rattle.std.specs.Prelude.{ℕ, Bool, cond, List, eqb, get_or, set, Result, Ok, Err}
use Rattle.numbers.specs.Types.{wb_req_type, wbguard_req_type}
use Rattle.numbers.specs.States.{state_i, state_m}
use Rattle.numbers.specs.Kinds.{kind_other, kind_number}
use Rattle.numbers.specs.Queues.{no_queue_number, queues_number}
use Rattle.numbers.specs.declared.refusals.Refusal.{Refusal}
use Rattle.numbers.specs.Refusals.{no_refusal, queue_full_refusal, refusal_number}
use Rattle.layout.specs.Blocks.{message_type, message_state, head_state, head_waiting, head_word, head_value}
use Rattle.layout.specs.Codes.{waits_for_nothing}
use Rattle.layout.specs.declared.rows.Row.{Row}
use Rattle.layout.specs.declared.rows.Pair.{Pair}
use Rattle.layout.specs.declared.rows.TileBlock.{TileBlock}
use Rattle.layout.specs.Encode.{zeros, row}
use Rattle.layout.specs.Queues.{push_row, push_numbers, pop_row}
use Rattle.tile_rules.specs.declared.moves.TileNumbers.{TileNumbers}
use Rattle.tile_rules.specs.declared.moves.TileMove.{TileMove}
use Rattle.tile_rules.specs.declared.moves.TileMove.TheVariants.{Read, Request, Store, Drop, WriteBack, Reply, FillLoad, FillStore}
use Rattle.tile_rules.specs.Moves as moves
use Rattle.tile_rules.specs.Moves.{numbers_of}

-- a step in the paper's numbers: what it answers, and the block after it
pub record TileStep : Type 0 where
  pub refusal : ℕ
  pub kind : ℕ
  pub value : ℕ
  pub sent : ℕ
  pub tile : TileBlock

abbrev pub refused_step : ℕ → TileBlock → TileStep
refused_step n x = record { refusal = n; kind = kind_other; value = 0; sent = no_queue_number; tile = x }

-- s: on which queues it sent
abbrev pub accepted_step : ℕ → ℕ → ℕ → TileBlock → TileStep
accepted_step k v s x = record { refusal = no_refusal; kind = k; value = v; sent = s; tile = x }

-- a tile with another head, and with other queues
abbrev pub tile_block : Row → Pair → Pair → Pair → TileBlock
tile_block h p q r = record { head = h; noc1 = p; noc2 = q; noc3 = r }

-- the numbers of a block by which a tile decides
unfoldable pub numbers_in : TileBlock → TileNumbers
numbers_in x = numbers_of (head_state x.head) (head_waiting x.head) (head_word x.head) (head_value x.head) (message_type x.noc1.b) (message_type x.noc2.a) (message_state x.noc2.a) (message_type x.noc3.b)

-- a block with other numbers of its head; with another state; with other words; with a message more on NoC1, one less on NoC2, one more on NoC3
abbrev pub with_numbers : ℕ → ℕ → ℕ → ℕ → TileBlock → TileBlock
with_numbers a b c d x = tile_block (row a b c d x.head.words) x.noc1 x.noc2 x.noc3

abbrev pub with_state : ℕ → TileBlock → TileBlock
with_state s x = with_numbers s (head_waiting x.head) (head_word x.head) (head_value x.head) x

abbrev pub with_line : List ℕ → TileBlock → TileBlock
with_line ws x = tile_block (row (head_state x.head) (head_waiting x.head) (head_word x.head) (head_value x.head) ws) x.noc1 x.noc2 x.noc3

abbrev pub with_noc1 : Pair → TileBlock → TileBlock
with_noc1 q x = tile_block x.head q x.noc2 x.noc3

abbrev pub without_forward : TileBlock → TileBlock
without_forward x = tile_block x.head x.noc1 (pop_row x.noc2) x.noc3

abbrev pub with_noc3 : Pair → TileBlock → TileBlock
with_noc3 q x = tile_block x.head x.noc1 x.noc2 q

-- a message sent: a request, a reply without data, and one with the line
abbrev pub request_sent : ℕ → ℕ → TileBlock → TileBlock
request_sent k w x = with_noc1 (push_numbers x.noc1 k w 0 0) x

abbrev pub reply_sent : ℕ → ℕ → TileBlock → TileBlock
reply_sent k r x = with_noc3 (push_numbers x.noc3 k 0 r 0) x

abbrev pub line_sent : ℕ → ℕ → ℕ → TileBlock → TileBlock
line_sent k r f x = with_noc3 (push_row x.noc3 (row k 0 r f x.head.words)) x

-- the acts: a request, and the tile waits; a word stored; the line dropped, and written back; a forward answered; the line comes in for a
-- load, and for a store
abbrev pub request_made : ℕ → ℕ → ℕ → ℕ → TileBlock → TileBlock
request_made k u w v x = request_sent k w (with_numbers (head_state x.head) u w v x)

abbrev pub with_word : ℕ → ℕ → TileBlock → TileBlock
with_word w v x = with_line (set x.head.words w v) x

abbrev pub word_stored : ℕ → ℕ → TileBlock → TileBlock
word_stored w v x = with_word w v (with_state state_m x)

abbrev pub line_dropped : TileBlock → TileBlock
line_dropped x = with_line zeros (with_state state_i x)

abbrev pub line_written_back : TileBlock → TileBlock
line_written_back x = line_dropped (request_sent wbguard_req_type 0 (line_sent wb_req_type 0 0 x))

abbrev pub reply_put : ℕ → ℕ → Bool → TileBlock → TileBlock
reply_put k r d x = cond d (line_sent k r 1 x) (reply_sent k r x)

abbrev pub state_after_reply : ℕ → TileBlock → TileBlock
state_after_reply s x = cond (eqb s state_i) (line_dropped x) (with_state s x)

abbrev pub forward_answered : ℕ → ℕ → ℕ → Bool → TileBlock → TileBlock
forward_answered s k r d x = without_forward (state_after_reply s (reply_put k r d x))

abbrev pub line_filled : ℕ → TileBlock → TileBlock
line_filled s x = with_line x.noc2.a.words (with_numbers s waits_for_nothing 0 0 x)

abbrev pub load_filled : ℕ → TileBlock → TileBlock
load_filled s x = without_forward (line_filled s x)

abbrev pub store_filled : ℕ → ℕ → TileBlock → TileBlock
store_filled w v x = without_forward (with_word w v (line_filled state_m x))

-- a move, and the word that it loads
abbrev pub after_move : TileMove → TileBlock → TileBlock
after_move (Read w) x = x
after_move (Request k u w v) x = request_made k u w v x
after_move (Store w v) x = word_stored w v x
after_move Drop x = line_dropped x
after_move WriteBack x = line_written_back x
after_move (Reply s k r d) x = forward_answered s k r d x
after_move (FillLoad s w) x = load_filled s x
after_move (FillStore w v) x = store_filled w v x

abbrev pub loaded_value : TileMove → TileBlock → ℕ
loaded_value (Read w) x = get_or x.head.words w 0
loaded_value (Request k u w v) x = 0
loaded_value (Store w v) x = 0
loaded_value Drop x = 0
loaded_value WriteBack x = 0
loaded_value (Reply s k r d) x = 0
loaded_value (FillLoad s w) x = get_or x.head.words w 0
loaded_value (FillStore w v) x = 0

-- a move made, and its answer
abbrev pub move_made : TileMove → TileBlock → TileStep
move_made m x =
    accepted_step (kind_number (moves.move_kind m)) (loaded_value m (after_move m x)) (queues_number (moves.move_queues m)) (after_move m x)

-- a move applied to a block: refused, or made where there is room
unfoldable pub move_applied : TileBlock → Result TileMove Refusal → TileStep
move_applied x (Err r) = refused_step (refusal_number r) x
move_applied x (Ok m) = cond (moves.has_room_on (numbers_in x) (moves.move_queues m)) (move_made m x) (refused_step queue_full_refusal x)

-- the four by tag: load, store, evict, else delivery to the tile
unfoldable pub tile_step_on : ℕ → ℕ → ℕ → TileBlock → TileStep
tile_step_on tag w v x = move_applied x (moves.step (numbers_in x) tag w v)
