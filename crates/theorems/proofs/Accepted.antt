-- Every message of a bench, of its queue and in range, is accepted by the flit writer, and what is written reads back as that
-- message. Assumes nothing.
use Prim.Native.Nat.{ℕ, ◌+◌, ◌*◌, ◌/◌, ◌%◌, ◌^◌, ◌≤◌, ◌<◌}
use mathlib.Core.Path.{◌≡◌, refl}
use mathlib.Core.Bool.{Bool, true, false}
use mathlib.Core.Option.{some, none}
use native.Mathlib.Omega.{arith}
use lib.Dec.{eqb, ltb}
use lib.ListN.{length, take}
use lib.Seq.{length-take-le, take_all}
use borrow.Author.Tests.{lt-ltb, le-leb, eq-eqb}
use Rattle.flits.specs.Table.{row_of}
use Rattle.flits.specs.Rules.{ports_listed, fields_allowed}
use Rattle.flits.specs.Writing.{write_refusal}
use Rattle.layout.specs.declared.rows.Row.{Row}
use Rattle.protocol.specs.Parts.{Words, State, shared, exclusive, modified, Request, load_req, store_req, wb_guard_req, Forward, load_fwd, store_fwd, inv_fwd, data_ack, Reply, wb_req, load_fwd_ack_s, load_fwd_ack_i, store_fwd_ack, inv_fwd_ack, ToMemory, load_mem, store_mem, FromMemory, load_mem_ack, store_mem_ack, state_number}
use Rattle.layout.specs.Range.{RequestIn, ForwardIn, ReplyIn, ToMemoryIn, FromMemoryIn}
use Rattle.layout.specs.Encode.{row, flag, enc_request, enc_forward, enc_reply, enc_to_memory, enc_from_memory}
use Rattle.theorems.specs.Messages.{LineAddress, flit_count}
use Rattle.message_flits.specs.Fields.{destination, source, message_tag, word_address, message_address, message_size, message_source, message_miss, message_header, message_fields, data_count, message_data, kept_word, kept_flag, kept_data, kept_row, Carried, on_noc1, on_noc2, on_noc3, to_memory, from_memory}

-- ---- the facts about the numbers of a message that the writer's tests ask for
right_state : (r : State) → (1 ≤ state_number r) × (state_number r ≤ 3)
unfolding state_number
right_state shared = (omega arith, omega arith)
right_state exclusive = (omega arith, omega arith)
right_state modified = (omega arith, omega arith)

flag_bit : (b : Bool) → flag b ≤ 1
unfolding flag
flag_bit true = omega arith
flag_bit false = omega arith

module _ (line : ℕ) (is : LineAddress line) (room at : ℕ) where
  line_narrow : ltb line (2 ^ 48) ≡ true
  line_narrow = lt-ltb line (2 ^ 48) is.narrow

  line_whole : eqb (line / 1 % 64) 0 ≡ true
  line_whole = eq-eqb (line / 1 % 64) 0 (omega (arith, is.whole))

  word_narrow : (w : ℕ) → w < 8 → ltb (line + 8 * w) (2 ^ 48) ≡ true
  word_narrow w h = lt-ltb (line + 8 * w) (2 ^ 48) (omega (arith, is.narrow, is.whole))

  module _ (t : ℕ) (below : t < 64) where
    x_narrow : ltb (t % 8) 256 ≡ true
    x_narrow = lt-ltb (t % 8) 256 (omega arith)

    y_narrow : ltb (t / 8) 256 ≡ true
    y_narrow = lt-ltb (t / 8) 256 (omega arith)

    tag_narrow : ltb t 256 ≡ true
    tag_narrow = lt-ltb t 256 (omega arith)

  abbrev Accepted : ℕ → ℕ → Row → Type 0
  Accepted q t m = at + flit_count m ≤ room → write_refusal (message_fields line q t m) (length (message_data m)) room at ≡ 0

  request_accepted : (t : ℕ) (m : Request) → t < 64 → RequestIn m → Accepted 1 t (enc_request m)
  unfolding write_refusal message_fields message_header message_data data_count enc_request row_of destination source message_source message_tag message_address word_address message_size message_miss ports_listed fields_allowed
  request_accepted t (load_req w) below in_range fits = simp (x_narrow t below, y_narrow t below, tag_narrow t below, line_narrow, lt-ltb w 8 in_range, word_narrow w in_range, le-leb (at + 3) room fits)
  request_accepted t (store_req w) below in_range fits = simp (x_narrow t below, y_narrow t below, tag_narrow t below, line_narrow, lt-ltb w 8 in_range, word_narrow w in_range, le-leb (at + 3) room fits)
  request_accepted t wb_guard_req below in_range fits = simp (x_narrow t below, y_narrow t below, tag_narrow t below, line_narrow, line_whole, le-leb (at + 3) room fits)

  data_accepted : (t : ℕ) → t < 64 → (s f : ℕ) → (1 ≤ s) × (s ≤ 3) → f ≤ 1 → (ws : Words) → length ws ≡ 8 → Accepted 2 t (row 29 0 s f ws)
  unfolding write_refusal message_fields message_header message_data data_count row_of destination source message_source message_tag message_address word_address message_size message_miss ports_listed fields_allowed
  data_accepted t below s f state bit ws eight fits =
      let e : length (take 8 ws) ≡ 8 = length-take-le 8 ws (omega arith) in
      let room-there : at + 9 ≤ room = omega arith in
      simp (x_narrow t below, y_narrow t below, tag_narrow t below, e, lt-ltb s 4 (omega (arith, state.1)), lt-ltb f 2 (omega arith), le-leb 1 s state.0, le-leb s 3 state.1, le-leb f 1 bit, le-leb (at + 9) room room-there)

  forward_accepted : (t : ℕ) (m : Forward) → t < 64 → ForwardIn m → Accepted 2 t (enc_forward m)
  unfolding write_refusal message_fields message_header message_data data_count enc_forward row_of destination source message_source message_tag message_address word_address message_size message_miss ports_listed fields_allowed
  forward_accepted t load_fwd below in_range fits = simp (x_narrow t below, y_narrow t below, tag_narrow t below, line_narrow, line_whole, le-leb (at + 3) room fits)
  forward_accepted t store_fwd below in_range fits = simp (x_narrow t below, y_narrow t below, tag_narrow t below, line_narrow, line_whole, le-leb (at + 3) room fits)
  forward_accepted t inv_fwd below in_range fits = simp (x_narrow t below, y_narrow t below, tag_narrow t below, line_narrow, line_whole, le-leb (at + 3) room fits)
  forward_accepted t (data_ack r miss ws) below in_range fits = data_accepted t below (state_number r) (flag miss) (right_state r) (flag_bit miss) ws in_range fits

  reply_accepted : (t : ℕ) (m : Reply) → t < 64 → ReplyIn m → Accepted 3 t (enc_reply m)
  unfolding write_refusal message_fields message_header message_data data_count enc_reply row_of destination source message_source message_tag message_address word_address message_size message_miss ports_listed fields_allowed
  reply_accepted t (wb_req ws) below in_range fits =
      let e : length (take 8 ws) ≡ 8 = length-take-le 8 ws (omega arith) in
      let there : at + 11 ≤ room = omega arith in
      simp (x_narrow t below, y_narrow t below, tag_narrow t below, line_narrow, line_whole, e, le-leb (at + 11) room there)
  reply_accepted t (load_fwd_ack_s none) below in_range fits = simp (tag_narrow t below, le-leb (at + 1) room fits)
  reply_accepted t (load_fwd_ack_s (some ws)) below in_range fits =
      let e : length (take 8 ws) ≡ 8 = length-take-le 8 ws (omega arith) in
      let there : at + 9 ≤ room = omega arith in
      simp (tag_narrow t below, e, le-leb (at + 9) room there)
  reply_accepted t load_fwd_ack_i below in_range fits = simp (tag_narrow t below, le-leb (at + 1) room fits)
  reply_accepted t (store_fwd_ack none) below in_range fits = simp (tag_narrow t below, le-leb (at + 1) room fits)
  reply_accepted t (store_fwd_ack (some ws)) below in_range fits =
      let e : length (take 8 ws) ≡ 8 = length-take-le 8 ws (omega arith) in
      let there : at + 9 ≤ room = omega arith in
      simp (tag_narrow t below, e, le-leb (at + 9) room there)
  reply_accepted t inv_fwd_ack below in_range fits = simp (tag_narrow t below, le-leb (at + 1) room fits)

  out_accepted : (m : ToMemory) → ToMemoryIn m → Accepted 4 0 (enc_to_memory m)
  unfolding write_refusal message_fields message_header message_data data_count enc_to_memory row_of destination source message_source message_tag message_address word_address message_size message_miss ports_listed fields_allowed
  out_accepted load_mem in_range fits = simp (line_narrow, line_whole, le-leb (at + 3) room fits)
  out_accepted (store_mem ws) in_range fits =
      let e : length (take 8 ws) ≡ 8 = length-take-le 8 ws (omega arith) in
      let there : at + 11 ≤ room = omega arith in
      simp (line_narrow, line_whole, e, le-leb (at + 11) room there)

  back_accepted : (m : FromMemory) → FromMemoryIn m → Accepted 5 0 (enc_from_memory m)
  unfolding write_refusal message_fields message_header message_data data_count enc_from_memory row_of destination source message_source message_tag message_address word_address message_size message_miss ports_listed fields_allowed
  back_accepted (load_mem_ack ws) in_range fits =
      let e : length (take 8 ws) ≡ 8 = length-take-le 8 ws (omega arith) in
      let there : at + 9 ≤ room = omega arith in
      simp (e, le-leb (at + 9) room there)
  back_accepted store_mem_ack in_range fits = simp (le-leb (at + 1) room fits)

  -- every message of its queue and in range, where there is room
  pub carried_accepted : (q t : ℕ) (m : Row) → Carried q t m → Accepted q t m
  carried_accepted q t m (on_noc1 _ r below in_range) = request_accepted t r below in_range
  carried_accepted q t m (on_noc2 _ r below in_range) = forward_accepted t r below in_range
  carried_accepted q t m (on_noc3 _ r below in_range) = reply_accepted t r below in_range
  carried_accepted q t m (to_memory r in_range) = out_accepted r in_range
  carried_accepted q t m (from_memory r in_range) = back_accepted r in_range

  -- ---- and what it is read as

  word_back : (w : ℕ) → w < 8 → (line + 8 * w) / 8 % 8 ≡ w
  word_back w h = omega (arith, is.whole)

  full : (ws : Words) → length ws ≡ 8 → take 8 ws ≡ ws
  full ws h = take_all 8 ws (omega arith)

  eight_some : (ws : Words) → length ws ≡ 8 → eqb (length ws) 0 ≡ false
  eight_some ws h = rw h

  abbrev Kept : ℕ → ℕ → Row → Type 0
  Kept q t m = kept_row (message_fields line q t m) (message_data m) ≡ m

  request_kept : (t : ℕ) (m : Request) → RequestIn m → Kept 1 t (enc_request m)
  unfolding kept_row kept_word kept_flag kept_data message_fields message_header message_data data_count enc_request row_of message_address word_address message_miss
  request_kept t (load_req w) in_range = simp (line_narrow, lt-ltb w 8 in_range, word_back w in_range)
  request_kept t (store_req w) in_range = simp (line_narrow, lt-ltb w 8 in_range, word_back w in_range)
  request_kept t wb_guard_req in_range = refl

  data_kept : (t s f : ℕ) (ws : Words) → length ws ≡ 8 → Kept 2 t (row 29 0 s f ws)
  unfolding kept_row kept_word kept_flag kept_data message_fields message_header message_data data_count row_of message_address message_miss
  data_kept t s f ws in_range = simp (full ws in_range, eight_some ws in_range)

  forward_kept : (t : ℕ) (m : Forward) → ForwardIn m → Kept 2 t (enc_forward m)
  unfolding kept_row kept_word kept_flag kept_data message_fields message_header message_data data_count enc_forward row_of message_address message_miss
  forward_kept t load_fwd in_range = refl
  forward_kept t store_fwd in_range = refl
  forward_kept t inv_fwd in_range = refl
  forward_kept t (data_ack r miss ws) in_range = data_kept t (state_number r) (flag miss) ws in_range

  reply_kept : (t : ℕ) (m : Reply) → ReplyIn m → Kept 3 t (enc_reply m)
  unfolding kept_row kept_word kept_flag kept_data message_fields message_header message_data data_count enc_reply row_of message_address message_miss
  reply_kept t (wb_req ws) in_range = simp (full ws in_range, eight_some ws in_range)
  reply_kept t (load_fwd_ack_s none) in_range = refl
  reply_kept t (load_fwd_ack_s (some ws)) in_range = simp (full ws in_range, eight_some ws in_range)
  reply_kept t load_fwd_ack_i in_range = refl
  reply_kept t (store_fwd_ack none) in_range = refl
  reply_kept t (store_fwd_ack (some ws)) in_range = simp (full ws in_range, eight_some ws in_range)
  reply_kept t inv_fwd_ack in_range = refl

  out_kept : (m : ToMemory) → ToMemoryIn m → Kept 4 0 (enc_to_memory m)
  unfolding kept_row kept_word kept_flag kept_data message_fields message_header message_data data_count enc_to_memory row_of message_address message_miss
  out_kept load_mem in_range = refl
  out_kept (store_mem ws) in_range = simp (full ws in_range, eight_some ws in_range)

  back_kept : (m : FromMemory) → FromMemoryIn m → Kept 5 0 (enc_from_memory m)
  unfolding kept_row kept_word kept_flag kept_data message_fields message_header message_data data_count enc_from_memory row_of message_address message_miss
  back_kept (load_mem_ack ws) in_range = simp (full ws in_range, eight_some ws in_range)
  back_kept store_mem_ack in_range = refl

  -- the fields and data of a message of its queue and in range are that message's
  pub carried_kept : (q t : ℕ) (m : Row) → Carried q t m → Kept q t m
  carried_kept q t m (on_noc1 _ r below in_range) = request_kept t r in_range
  carried_kept q t m (on_noc2 _ r below in_range) = forward_kept t r in_range
  carried_kept q t m (on_noc3 _ r below in_range) = reply_kept t r in_range
  carried_kept q t m (to_memory r in_range) = out_kept r in_range
  carried_kept q t m (from_memory r in_range) = back_kept r in_range
