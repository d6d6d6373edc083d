-- Equality of rows and blocks as a test, field by field; and whether a block is the encoding of what it is read as.
use Rattle.std.specs.Prelude.{ℕ, ◌%◌, ◌^◌, Bool, cond, true, false, ◌&&◌, List, [], ◌∷◌, eqb}
use Rattle.numbers.specs.Types.{no_message_type}
use Rattle.numbers.specs.Queues.{noc1_queue, noc2_queue, noc3_queue, to_memory_queue, from_memory_queue}
use Rattle.layout.specs.Blocks.{message_type, control_last_taken, control_marks, control_requester, control_owed}
use Rattle.layout.specs.declared.rows.Row.{Row}
use Rattle.layout.specs.declared.rows.Pair.{Pair}
use Rattle.layout.specs.declared.rows.TileBlock.{TileBlock}
use Rattle.layout.specs.declared.rows.HomeBlock.{HomeBlock}
use Rattle.layout.specs.Encode.{no_row, row, enc_request, enc_forward, enc_reply, enc_to_memory, enc_from_memory, enc_head, enc_line, line_of, phase_number, requester, owed_tiles}
use Rattle.layout.specs.Decode.{dec_request, dec_forward, dec_reply, dec_to_memory, dec_from_memory, dec_cache, dec_waiting, dec_home}

-- two lists of numbers, element by element
unfoldable pub same : List ℕ → List ℕ → Bool
same [] [] = true
same [] (y ∷ ys) = false
same (x ∷ xs) [] = false
same (x ∷ xs) (y ∷ ys) = eqb x y && same xs ys

unfoldable pub same_row : Row → Row → Bool
same_row x y = eqb x.n0 y.n0 && (eqb x.n1 y.n1 && (eqb x.n2 y.n2 && (eqb x.n3 y.n3 && same x.words y.words)))

unfoldable pub same_pair : Pair → Pair → Bool
same_pair x y = same_row x.a y.a && same_row x.b y.b

-- a message of a queue, by its number, in the numbers of what it is read as; likewise a whole queue
unfoldable pub canon_message : ℕ → Row → Row
canon_message queue r =
    cond (eqb queue noc1_queue) (enc_request (dec_request r))
    (cond (eqb queue noc2_queue) (enc_forward (dec_forward r))
    (cond (eqb queue noc3_queue) (enc_reply (dec_reply r)) (cond (eqb queue to_memory_queue) (enc_to_memory (dec_to_memory r)) (enc_from_memory (dec_from_memory r)))))

unfoldable pub canon_queue : ℕ → Pair → Pair
canon_queue queue q =
    cond (eqb (message_type q.a) no_message_type) (record { a = no_row; b = no_row })
    (cond (eqb (message_type q.b) no_message_type) (record { a = canon_message queue q.a; b = no_row }) (record { a = canon_message queue q.a; b = canon_message queue q.b }))

unfoldable pub tile_ok : TileBlock → Bool
tile_ok x =
    same_row (enc_head (dec_cache x.head) (dec_waiting x.head)) x.head
    && (same_pair (canon_queue noc1_queue x.noc1) x.noc1 && (same_pair (canon_queue noc2_queue x.noc2) x.noc2 && same_pair (canon_queue noc3_queue x.noc3) x.noc3))

-- the home's control row, with phase p and the line's row x
unfoldable pub canon_control : ℕ → ℕ → Row → Row → Row
canon_control n p x k = row (control_last_taken k % n) (control_marks k % 2 ^ n) (requester (dec_home n p x (control_requester k) (control_owed k))) (owed_tiles (dec_home n p x (control_requester k) (control_owed k))) k.words

unfoldable pub home_ok : HomeBlock → Bool
home_ok x =
    eqb (phase_number (dec_home x.count x.phase x.line (control_requester x.control) (control_owed x.control))) x.phase
    && (same_row (enc_line (line_of (dec_home x.count x.phase x.line (control_requester x.control) (control_owed x.control)))) x.line
    && (same_row (canon_control x.count x.phase x.line x.control) x.control && (same_pair (canon_queue to_memory_queue x.out) x.out && same_pair (canon_queue from_memory_queue x.back) x.back)))
