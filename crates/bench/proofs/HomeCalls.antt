-- The calls at the home, on words: what the code does is document 01's step. Assumes nothing.
use Prim.Native.Nat.{ℕ, suc, ◌+◌, ◌*◌, ◌%◌, ◌^◌, ◌≤◌, ◌<◌}
use mathlib.Core.Path.{◌≡◌, refl, ap, sym, ◌∙◌, subst}
use mathlib.Core.Bool.{Bool, cond, true, false, ◌&&◌}
use mathlib.Core.List.{List}
use mathlib.Core.Option.{Option, some, none}
use native.Mathlib.Omega.{arith}
use native.Mathlib.Nat.{mod-lt}
use lib.Dec.{eqb, ltb}
use lib.ListN.{length, get_or, set, drop, length-set}
use lib.Seq.{get_or-set_same, get_or-set_other}
use borrow.Author.Tests.{lt-ltb, le-ltb, ltb-true, ltb-false, eqb-true, eqb-false, ne_eqb}
use Rattle.lists.specs.Over.{over}
use Rattle.masks.specs.Mask.{has}
use Rattle.layout.specs.declared.rows.Row.{Row}
use Rattle.layout.specs.declared.rows.Pair.{Pair}
use Rattle.layout.specs.declared.rows.TileBlock.{TileBlock}
use Rattle.layout.specs.declared.rows.HomeBlock.{HomeBlock}
use Rattle.layout.specs.Blocks as blocks
use Rattle.layout.specs.Blocks.{bench_words, home_block_at, tile_block_words, TileFull}
use Rattle.layout.proofs.Reading.{tile_full}
use Rattle.protocol.specs.Parts.{Words, Queue, ToMemory, FromMemory, Tile, tile_of, Line, Home, idle, awaiting_load, awaiting_owner, awaiting_acks, awaiting_store, reading, writing, request, eviction, clear_for, clear_for_eviction, bench_of, Call, taking, from_tile, memory_step, memory_ack, home_eviction, refused, task, storing}
use Rattle.protocol.specs.Bench as rules
use Rattle.protocol.specs.Bench.{fresh_tile, tile_at, step, front, rest, noc1, noc3, pop_noc1, pop_noc3, from_tile_on, taking_on, take_chosen, arbitrate}
use Rattle.layout.specs.Encode.{enc_request, enc_forward, enc_reply, enc_queue, enc_tile, enc_home}
use Rattle.layout.specs.Decode.{dec_tiles, decoded, bench_from, dec_home, dec_line, dec_queue, dec_to_memory, dec_from_memory, is_set}
use Rattle.layout.proofs.Canonical.{home_canonical}
use Rattle.layout.specs.Queues.{has_room, pop_row}
use Rattle.tile_rules.specs.Steps.{tile_block}
use Rattle.tile_rules.proofs.Rules.{rest_queue}
use Rattle.home_rules.specs.declared.moves.HomeNumbers.{HomeNumbers}
use Rattle.std.specs.Prelude as std
use Rattle.std.specs.Prelude.{Result, Some, None, Ok, Err}
use Rattle.numbers.specs.declared.refusals.Refusal.{Refusal}
use Rattle.numbers.specs.declared.refusals.Refusal.TheVariants.{NoTile, NotIdle, NothingThere}
use Rattle.numbers.specs.Refusals.{refusal_number}
use Rattle.home_rules.specs.declared.moves.HomeMove.{HomeMove}
use Rattle.home_rules.specs.Moves as moves
use Rattle.home_rules.specs.Steps as numbers
use Rattle.home_rules.specs.Steps.{HomeStep}
use Rattle.layout.specs.Range.{HomeIn}
use Rattle.home_rules.specs.Results.{HomeResult, spread, enc_step, enc_front, Sends, taken_home, accepted_home, stepped_home, acked_home, evicted_home}
use Rattle.home_rules.proofs.Rules.{first_row, take_is, accept_is, step_is, ack_is, evict_is}
use Rattle.home_rules.proofs.Spread.{take_spread, accept_spread, step_spread, ack_spread, evict_spread}
use Rattle.home_rules.proofs.Sends.{take_sends, accept_sends, step_sends, ack_sends, evict_sends}
use Rattle.layout.proofs.Round.{line_read, home_read, request_typed, reply_typed}
use Rattle.protocol.specs.declared.Answer.{Answer}
use Rattle.calls.specs.Calls.{well_formed, step_on, words_after}
use Rattle.protocol.specs.Calls.{home_calls, call_from}
use Rattle.protocol.specs.Answers.{refusal, answer_of}
use Rattle.arbiter.specs.RoundRobin.{ready_from, chosen}
use Rattle.home_words.specs.Forwards.{has_rooms}
use Rattle.tile_words.proofs.InPlace.{put_noc1, put_noc3}
use Rattle.home_words.proofs.Places.{pop_full}
use Rattle.home_words.specs.Commits.{popped, answering, Committed}
use Rattle.arbiter.specs.Takings.{decision, taking_of, taking_decision}
use Rattle.arbiter.specs.Decisions.{reply_move, from_tile_decision, memory_ack_decision, eviction_decision, decision_of}
use Rattle.bench.specs.Serves.{Serves}
use Rattle.calls.proofs.Laid.{Laid, laid_tile, write_tile}
use Rattle.calls.proofs.Decoded.{found, count, laid_out}
use Rattle.calls.proofs.Meets.{Meets}
use Rattle.home_words.proofs.Sending.{all_room, rooms_tiles}
use Rattle.home_words.proofs.Committed.{committed, not_made}
use Rattle.bench.proofs.Moved.{as_accept, as_take, on_ack, on_evict}
use Rattle.bench.proofs.Searched.{option_of, choice, searched, choice_below, ready_chosen}

-- the calls at the home alone: 0 memory step, 1 memory ack, else home eviction
unfoldable alone : ℕ → Call
alone c = cond (eqb c 0) memory_step (cond (eqb c 1) memory_ack home_eviction)

unfoldable home_step_on : ℕ → HomeBlock → HomeStep
home_step_on c x = cond (eqb c 0) (numbers.memory_step x) (cond (eqb c 1) (numbers.memory_ack_step x) (numbers.eviction_step x))

-- a tile without the front of its NoC1, or of its NoC3
unfoldable popped1 : TileBlock → TileBlock
popped1 x = tile_block x.head (pop_row x.noc1) x.noc2 x.noc3

unfoldable popped3 : TileBlock → TileBlock
popped3 x = tile_block x.head x.noc1 x.noc2 (pop_row x.noc3)

-- a home in another phase than 0 is not idle
waiting : (p : ℕ) (x : Row) (q u : ℕ) → eqb p 0 ≡ false → (t k : ℕ) (mem : Words) (o : Queue ToMemory) (b : Queue FromMemory) (us : List Tile) (m : ℕ) → step taking (bench_of (dec_home m p x q u) t k mem o b us) ≡ refused 6
unfolding step taking_on dec_home
waiting p x q u e t k mem o b us m = rw e (go (eqb p 1) (eqb p 2) (eqb p 3) (eqb p 4) (eqb p 5) (eqb p 6) (eqb p 7))
  where
    go : (b1 b2 b3 b4 b5 b6 b7 : Bool) →
        taking_on (bench_of (cond b1 (awaiting_load (task (q % m) reading) (dec_line m x)) (cond b2 (awaiting_load (task (q % m) (writing storing)) (dec_line m x)) (cond b3 (awaiting_owner (is_set x.n1) x.words (x.n3 % m) (request (task (q % m) reading)))
        (cond b4 (awaiting_owner (is_set x.n1) x.words (x.n3 % m) (request (task (q % m) (writing storing)))) (cond b5 (awaiting_owner (is_set x.n1) x.words (x.n3 % m) eviction)
        (cond b6 (awaiting_acks (is_set x.n1) x.words (x.n3 % 2 ^ m) (u % 2 ^ m) (clear_for (task (q % m) storing))) (cond b7 (awaiting_acks (is_set x.n1) x.words (x.n3 % 2 ^ m) (u % 2 ^ m) clear_for_eviction) (awaiting_store (dec_line m x)))))))))
        t k mem o b us) ≡ refused 6
    go true b2 b3 b4 b5 b6 b7 = refl
    go false true b3 b4 b5 b6 b7 = refl
    go false false true b4 b5 b6 b7 = refl
    go false false false true b5 b6 b7 = refl
    go false false false false true b6 b7 = refl
    go false false false false false true b7 = refl
    go false false false false false false true = refl
    go false false false false false false false = refl

-- what words are read as, part by part
module _ (l : List ℕ) (h : well_formed l ≡ true) where
  abbrev n : ℕ
  n = get_or l 0 0

  abbrev ts : List Tile
  ts = dec_tiles l 74 n

  abbrev r : List ℕ
  r = drop (bench_words n) l

  abbrev H : HomeBlock
  H = home_block_at l

  abbrev home : Home
  home = dec_home n H.phase H.line H.control.n2 H.control.n3

  abbrev last : ℕ
  last = H.control.n0 % n

  abbrev marks : ℕ
  marks = H.control.n1 % 2 ^ n

  abbrev memory : Words
  memory = H.control.words

  abbrev out : Queue ToMemory
  out = dec_queue dec_to_memory H.out

  abbrev back : Queue FromMemory
  back = dec_queue dec_from_memory H.back

  read_as : decoded l ≡ bench_of home last marks memory out back ts
  unfolding decoded bench_from home_block_at
  read_as = refl

  block : H ≡ enc_home n home last marks memory out back
  unfolding home_block_at
  block = sym (home_canonical (home_block_at l) (found l h).home)

  some_tile : 0 < n
  some_tile = (found l h).some

  tiles_counted : length ts ≡ n
  tiles_counted = count l 74 n

  laid : Laid l H ts r
  laid = laid_out l (found l h)

  room_as : (to : ℕ) → has_rooms true l 74 0 to n ≡ all_room ts 0 to n
  room_as to = rooms_tiles H r to n 0 true l ts laid (omega (arith, tiles_counted))

  -- memory step, memory ack, home eviction
  result : ℕ → HomeResult
  result c = cond (eqb c 0) (stepped_home home last marks memory out back) (cond (eqb c 1) (acked_home home last marks memory out back) (evicted_home n home last marks memory out back))

  in_range : HomeIn n home
  in_range = home_read n H.phase H.line H.control.n2 H.control.n3 some_tile

  result_sends : (c : ℕ) → Sends n (result c)
  unfolding result
  result_sends c = go (eqb c 0) (eqb c 1)
    where
      go : (a b : Bool) → Sends n (cond a (stepped_home home last marks memory out back) (cond b (acked_home home last marks memory out back) (evicted_home n home last marks memory out back)))
      go true b = step_sends n home last marks memory out back
      go false true = ack_sends n home in_range last marks memory out back
      go false false = evict_sends n home in_range last marks memory out back

  abbrev B : HomeBlock
  B = enc_home n home last marks memory out back

  -- the block that a refusal would give back
  abbrev before : ℕ → HomeBlock
  before c = cond (eqb c 0) B (cond (eqb c 1) (enc_home n home last marks memory out (rest back)) B)

  result_is : (c : ℕ) → home_step_on c H ≡ enc_step n (before c) (result c)
  unfolding result home_step_on
  result_is c = ap (home_step_on c) block ∙ go (eqb c 0) (eqb c 1)
    where
      go : (a b : Bool) → cond a (numbers.memory_step B) (cond b (numbers.memory_ack_step B) (numbers.eviction_step B))
          ≡ enc_step n (cond a B (cond b (enc_home n home last marks memory out (rest back)) B)) (cond a (stepped_home home last marks memory out back) (cond b (acked_home home last marks memory out back) (evicted_home n home last marks memory out back)))
      go true b = step_is n home last marks memory out back
      go false true = ack_is n home last marks memory out back
      go false false = evict_is n (found l h).most last marks memory out back home in_range

  result_step : (c : ℕ) → step (alone c) (decoded l) ≡ spread 0 (result c) ts
  unfolding result alone step
  result_step c = ap (step (alone c)) read_as ∙ go (eqb c 0) (eqb c 1)
    where
      go : (a b : Bool) → step (cond a memory_step (cond b memory_ack home_eviction)) (bench_of home last marks memory out back ts)
          ≡ spread 0 (cond a (stepped_home home last marks memory out back) (cond b (acked_home home last marks memory out back) (evicted_home n home last marks memory out back))) ts
      go true b = step_spread home last marks memory out back ts
      go false true = ack_spread home last marks memory out back ts
      go false false = evict_spread home last marks memory out back ts ∙ ap (λ (z : ℕ). spread 0 (evicted_home z home last marks memory out back) ts) tiles_counted

  home_done : (c : ℕ) (s : HomeStep) → s ≡ home_step_on c H → (a : Answer) (m : List ℕ) → Committed l l n 0 s a m → Meets l (step_on l (alone c)) a m
  home_done c s is a m made =
      committed l l (alone c) 0 s a m h (result c) (before c) H ts tiles_counted laid (result_sends c) (is ∙ result_is c) (result_step c) (room_as s.to) made

  -- a tile without the front of a queue
  pop1 : (x : Tile) → popped1 (enc_tile x) ≡ enc_tile (pop_noc1 x)
  unfolding popped1 enc_tile pop_noc1
  pop1 (tile_of c p q1 q2 q3) = ap (λ (z : Pair). tile_block (enc_tile (tile_of c p q1 q2 q3)).head z (enc_queue enc_forward q2) (enc_queue enc_reply q3)) (rest_queue enc_request request_typed q1)

  pop3 : (x : Tile) → popped3 (enc_tile x) ≡ enc_tile (pop_noc3 x)
  unfolding popped3 enc_tile pop_noc3
  pop3 (tile_of c p q1 q2 q3) = ap (λ (z : Pair). tile_block (enc_tile (tile_of c p q1 q2 q3)).head (enc_queue enc_request q1) (enc_queue enc_forward q2) z) (rest_queue enc_reply reply_typed q3)

  front1 : (x : Tile) → (enc_tile x).noc1.a ≡ enc_front enc_request (front (noc1 x))
  unfolding enc_tile noc1
  front1 (tile_of c p q1 q2 q3) = first_row enc_request q1

  front3 : (x : Tile) → (enc_tile x).noc3.a ≡ enc_front enc_reply (front (noc3 x))
  unfolding enc_tile noc3
  front3 (tile_of c p q1 q2 q3) = first_row enc_reply q3

  same2_1 : (x : Tile) → (enc_tile (pop_noc1 x)).noc2 ≡ (enc_tile x).noc2
  unfolding enc_tile pop_noc1
  same2_1 (tile_of c p q1 q2 q3) = refl

  same2_3 : (x : Tile) → (enc_tile (pop_noc3 x)).noc2 ≡ (enc_tile x).noc2
  unfolding enc_tile pop_noc3
  same2_3 (tile_of c p q1 q2 q3) = refl

  -- the control row holds what it is read as
  last_is : H.control.n0 ≡ last
  unfolding enc_home
  last_is = ap (λ (z : HomeBlock). z.control.n0) block

  marks_are : H.control.n1 ≡ marks
  unfolding enc_home
  marks_are = ap (λ (z : HomeBlock). z.control.n1) block

  pub last_below : H.control.n0 < n
  last_below = rw last_is (mod-lt H.control.n0 some_tile)

  chosen_by_rules : arbitrate last marks ts ≡ option_of (choice l H.control.n1 H.control.n0 n)
  chosen_by_rules =
      searched l H ts r laid marks last n tiles_counted (found l h).most (mod-lt H.control.n0 some_tile)
      ∙ ap (λ (z : ℕ). option_of (choice l z last n)) (sym marks_are) ∙ ap (λ (z : ℕ). option_of (choice l H.control.n1 z n)) (sym last_is)

  pub found_here : (t : ℕ) → t < n → t ≡ choice l H.control.n1 H.control.n0 n → arbitrate last marks ts ≡ some t
  unfolding option_of
  found_here t b e = chosen_by_rules ∙ ap option_of (sym e) ∙ rw (lt-ltb t 64 (omega (arith, (found l h).most)))

  pub found_none : 64 ≤ choice l H.control.n1 H.control.n0 n → arbitrate last marks ts ≡ none
  unfolding option_of
  found_none b = chosen_by_rules ∙ rw (le-ltb (choice l H.control.n1 H.control.n0 n) 64 b)

  pub chosen_below : choice l H.control.n1 H.control.n0 n < 64 → choice l H.control.n1 H.control.n0 n < n
  chosen_below = choice_below l H.control.n1 H.control.n0 n last_below

  refused_by : (c : Call) (k : ℕ) → step c (decoded l) ≡ refused k → Meets l (step_on l c) (refusal k) l
  unfolding step_on answer_of words_after
  refused_by c k e = rw (h, e) (record { answer = refl; words = refl })

  idle_home : H.phase ≡ 0 → home ≡ idle (dec_line n H.line)
  unfolding dec_home
  idle_home z = rw z

  -- 7: no tile can be taken
  pub none_taken : H.phase ≡ 0 → 64 ≤ choice l H.control.n1 H.control.n0 n → Meets l (step_on l taking) (refusal 7) l
  unfolding step taking_on take_chosen
  none_taken z b =
      refused_by taking 7 (ap (step taking) (read_as ∙ ap (λ (q : Home). bench_of q last marks memory out back ts) (idle_home z))
      ∙ ap (λ (o : Option ℕ). take_chosen o (dec_line n H.line) marks memory out back ts) (found_none b))

  -- 6: home not idle
  pub not_idle : (H.phase ≡ 0 → ⊥) → Meets l (step_on l taking) (refusal 6) l
  not_idle wrong = refused_by taking 6 (ap (step taking) read_as ∙ waiting H.phase H.line H.control.n2 H.control.n3 (ne_eqb H.phase 0 wrong) last marks memory out back ts n)

  -- 2: no such tile
  pub no_from : (t : ℕ) → n ≤ t → Meets l (step_on l (from_tile t)) (refusal 2) l
  unfolding step from_tile_on
  no_from t b = refused_by (from_tile t) 2 (ap (step (from_tile t)) read_as ∙ rw (le-ltb t (length ts) (rw tiles_counted b)))

  module _ (t : ℕ) (below : t < n) where
    abbrev x : Tile
    x = tile_at ts t

    inside : t < length ts
    inside = rw tiles_counted below

    abbrev place : ℕ
    place = 74 + 84 * t

    tile_block_lem : blocks.tile_block_at l place ≡ enc_tile x
    tile_block_lem = laid_tile l H ts r laid t inside

    -- the same room on NoC2 with tile t replaced by one with the same NoC2
    room_with : (y : Tile) → (enc_tile y).noc2 ≡ (enc_tile x).noc2 → (to j i : ℕ) → all_room (set ts t y) i to j ≡ all_room ts i to j
    unfolding all_room
    room_with y e to ℕ.zero i = refl
    room_with y e to (suc j) i = ap (λ (z : Pair). cond (has to i) (has_room z) true && all_room (set ts t y) (suc i) to j) (here (eqb i t) refl) ∙ ap (λ (z : Bool). cond (has to i) (has_room (enc_tile (tile_at ts i)).noc2) true && z) (room_with y e to j (suc i))
      where
        here : (b : Bool) → eqb i t ≡ b → (enc_tile (tile_at (set ts t y) i)).noc2 ≡ (enc_tile (tile_at ts i)).noc2
        here true q =
            let z : i ≡ t = eqb-true i t q in
            rw z (ap (λ (u : Tile). (enc_tile u).noc2) (get_or-set_same ts t y fresh_tile inside) ∙ e)
        here false q = ap (λ (u : Tile). (enc_tile u).noc2) (get_or-set_other ts t i y fresh_tile (eqb-false i t q))

    whole : place + 84 ≤ length l
    whole = omega (arith, (found l h).enough)

    -- tile t with the front of a queue taken off in place
    laid_with : (y : Tile) (b : TileBlock) (k : List ℕ) → b ≡ enc_tile y → TileFull b → k ≡ over l place (tile_block_words b) → Laid k H (set ts t y) r
    laid_with y b k e f w =
        subst (λ (z : List ℕ). Laid z H (set ts t y) r) (sym (w ∙ ap (λ (z : TileBlock). over l place (tile_block_words z)) e)) (write_tile l H ts r laid t y inside (subst TileFull e f))

    laid_1 : Laid (popped l (Some (place + 12))) H (set ts t (pop_noc1 x)) r
    unfolding popped popped1 blocks.tile_block_at
    laid_1 =
        let f = tile_full l place whole in
        let g = pop_full (blocks.pair_at l (place + 12)) f.noc1_full in
        laid_with (pop_noc1 x) (popped1 (blocks.tile_block_at l place)) _ (ap popped1 tile_block_lem ∙ pop1 x) (record { head_full = f.head_full; noc1_full = g; noc2_full = f.noc2_full; noc3_full = f.noc3_full })
        ((put_noc1 l _ place whole (pop_row (blocks.pair_at l (place + 12))) g refl).words)

    laid_3 : Laid (popped l (Some (place + 60))) H (set ts t (pop_noc3 x)) r
    unfolding popped popped3 blocks.tile_block_at
    laid_3 =
        let f = tile_full l place whole in
        let g = pop_full (blocks.pair_at l (place + 60)) f.noc3_full in
        laid_with (pop_noc3 x) (popped3 (blocks.tile_block_at l place)) _ (ap popped3 tile_block_lem ∙ pop3 x) (record { head_full = f.head_full; noc1_full = f.noc1_full; noc2_full = f.noc2_full; noc3_full = g })
        ((put_noc3 l _ place whole (pop_row (blocks.pair_at l (place + 60))) g refl).words)

    -- the front of a queue, read in place
    row_1 : blocks.row_at l (place + 12) ≡ (enc_tile x).noc1.a
    unfolding blocks.tile_block_at blocks.pair_at
    row_1 = ap (λ (z : TileBlock). z.noc1.a) tile_block_lem

    row_3 : blocks.row_at l (place + 60) ≡ (enc_tile x).noc3.a
    unfolding blocks.tile_block_at blocks.pair_at
    row_3 = ap (λ (z : TileBlock). z.noc3.a) tile_block_lem

    from_step : step (from_tile t) (decoded l) ≡ rules.accept_reply t (front (noc3 x)) home last marks memory out back (set ts t (pop_noc3 x))
    unfolding step from_tile_on
    from_step = ap (step (from_tile t)) read_as ∙ rw (lt-ltb t (length ts) inside)

    -- delivery from tile t
    pub from_done : (s : HomeStep) → s ≡ numbers.reply_step H t (blocks.row_at l (place + 60)) → (a : Answer) (m : List ℕ) →
        Committed l (popped l (Some (place + 60))) n 0 s a m → Meets l (step_on l (from_tile t)) a m
    from_done s is a m made =
        let y : Tile = pop_noc3 x in
        let numbers-are : s ≡ enc_step n B (accepted_home t (front (noc3 x)) home last marks memory out back) =
        is ∙ ap (numbers.reply_step H t) (row_3 ∙ front3 x) ∙ ap (λ (z : HomeBlock). numbers.reply_step z t (enc_front enc_reply (front (noc3 x)))) block
        ∙ accept_is n t (found l h).most below (front (noc3 x)) home in_range last marks memory out back in
        let by-step : step (from_tile t) (decoded l) ≡ spread 0 (accepted_home t (front (noc3 x)) home last marks memory out back) (set ts t y) = from_step ∙ accept_spread t (front (noc3 x)) home last marks memory out back (set ts t y) in
        committed l _ (from_tile t) 0 s a m h (accepted_home t (front (noc3 x)) home last marks memory out back) B H (set ts t y) (length-set ts t y ∙ tiles_counted) laid_3
        (accept_sends n t (front (noc3 x)) home in_range last marks memory out back) numbers-are by-step (room_as s.to ∙ sym (room_with y (same2_3 x) s.to n 0)) made

    -- taking of tile t, where it is the one found
    abbrev line : Line
    line = dec_line n H.line

    module _ (idle-now : H.phase ≡ 0) (chosen : t ≡ choice l H.control.n1 H.control.n0 n) where
      home_idle : home ≡ idle line
      unfolding dec_home
      home_idle = rw idle-now

      block_idle : H ≡ enc_home n (idle line) last marks memory out back
      block_idle = block ∙ ap (λ (z : Home). enc_home n z last marks memory out back) home_idle

      take_step : step taking (decoded l) ≡ rules.take_front t (front (noc1 x)) line marks memory out back (set ts t (pop_noc1 x))
      unfolding step taking_on take_chosen
      take_step = ap (step taking) (read_as ∙ ap (λ (z : Home). bench_of z last marks memory out back ts) home_idle) ∙ ap (λ (o : Option ℕ). take_chosen o line marks memory out back ts) (found_here t below chosen)

      pub take_done : (s : HomeStep) → s ≡ numbers.taking_step H t (blocks.row_at l (place + 12)) → (a : Answer) (m : List ℕ) →
          Committed l (popped l (Some (place + 12))) n t s a m → Meets l (step_on l taking) a m
      take_done s is a m made =
          let y : Tile = pop_noc1 x in
          let numbers-are : s ≡ enc_step n (enc_home n (idle line) last marks memory out back) (taken_home n t (front (noc1 x)) line marks memory out back) =
          is ∙ ap (numbers.taking_step H t) (row_1 ∙ front1 x) ∙ ap (λ (z : HomeBlock). numbers.taking_step z t (enc_front enc_request (front (noc1 x)))) block_idle
          ∙ take_is n t (found l h).most below (front (noc1 x)) line (line_read n H.line some_tile) last marks memory out back in
          let cnt : length (set ts t y) ≡ n = length-set ts t y ∙ tiles_counted in
          let by-step : step taking (decoded l) ≡ spread t (taken_home n t (front (noc1 x)) line marks memory out back) (set ts t y) =
          take_step ∙ take_spread t (front (noc1 x)) line marks memory out back (set ts t y) ∙ ap (λ (z : ℕ). spread t (taken_home z t (front (noc1 x)) line marks memory out back) (set ts t y)) cnt in
          committed l _ taking t s a m h (taken_home n t (front (noc1 x)) line marks memory out back) (enc_home n (idle line) last marks memory out back) H (set ts t y) cnt laid_1
          (take_sends n t below (front (noc1 x)) line (line_read n H.line some_tile) marks memory out back) numbers-are by-step (room_as s.to ∙ sym (room_with y (same2_1 x) s.to n 0)) made

pub last_there : (l : List ℕ) → well_formed l ≡ true → get_or l 14 0 < get_or l 0 0
unfolding home_block_at blocks.row_at
last_there l h = last_below l h

-- the calls as the code makes them, by their turns
module _ (l : List ℕ) (h : well_formed l ≡ true) (a : Answer) (m : List ℕ) where
  abbrev tiles : ℕ
  tiles = get_or l 0 0

  abbrev X : HomeNumbers
  X = numbers.numbers_in (home_block_at l)

  -- a call that is refused
  refuses : (r : Refusal) (c : Call) → Meets l (step_on l c) (refusal (refusal_number r)) l → Serves l tiles (Err r) a m → Meets l (step_on l c) a m
  refuses r c by w = record { answer = w.0 ∙ by.answer; words = w.1 ∙ by.words }

  -- a decision, by its move, which may be refused
  decided : (v : ℕ) (p : std.Option ℕ) (q : Result HomeMove Refusal) → Serves l tiles (decision v p q) a m → Committed l (popped l p) tiles v (answering l p q) a m
  decided v p (Ok q) made = made
  decided v p (Err r) w = not_made l tiles v p r a m w.0 w.1

  -- taking: of tile t, which the round robin chose
  takes : (t : ℕ) → t ≡ chosen (ready_from 0 l (get_or l 15 0) 0 tiles) (get_or l 14 0) → get_or l 1 0 ≡ 0 → Serves l tiles (taking_of l tiles t) a m → Meets l (step_on l taking) a m
  unfolding home_block_at blocks.row_at
  takes t e idle-now = go (ltb t tiles) refl
    where
      found_by : t ≡ choice l (get_or l 15 0) (get_or l 14 0) tiles
      found_by = e ∙ ready_chosen l (get_or l 15 0) tiles (get_or l 14 0) (found l h).most (last_there l h)

      go : (b : Bool) → ltb t tiles ≡ b →
          Serves l tiles (cond b (decision t (Some (74 + 84 * t + 12)) (moves.take_front X t (get_or l (74 + 84 * t + 12) 0))) (Err NothingThere)) a m → Meets l (step_on l taking) a m
      go true b made =
          take_done l h t (ltb-true t tiles b) idle-now found_by _ (as_take l (found l h).long (74 + 84 * t + 12) t (omega arith)) a m (decided t (Some (74 + 84 * t + 12)) _ made)
      go false b made =
          refuses NothingThere taking (none_taken l h idle-now (past (ltb (choice l (get_or l 15 0) (get_or l 14 0) tiles) 64) refl)) made
        where
          past : (d : Bool) → ltb (choice l (get_or l 15 0) (get_or l 14 0) tiles) 64 ≡ d → 64 ≤ choice l (get_or l 15 0) (get_or l 14 0) tiles
          past true q =
              let z : choice l (get_or l 15 0) (get_or l 14 0) tiles < tiles = chosen_below l h (ltb-true _ _ q) in
              absurd (omega (arith, z, found_by, ltb-false t tiles b))
          past false q = ltb-false _ _ q

  taking_serves : Serves l tiles (taking_decision l tiles) a m → Meets l (step_on l taking) a m
  unfolding taking_decision home_block_at
  taking_serves = go (eqb (get_or l 1 0) 0) refl
    where
      go : (b : Bool) → eqb (get_or l 1 0) 0 ≡ b → Serves l tiles (cond b (taking_of l tiles (chosen (ready_from 0 l (get_or l 15 0) 0 tiles) (get_or l 14 0))) (Err NotIdle)) a m → Meets l (step_on l taking) a m
      go true b made = takes _ refl (eqb-true (get_or l 1 0) 0 b) made
      go false b made = refuses NotIdle taking (not_idle l h (eqb-false (get_or l 1 0) 0 b)) made

  from_serves : (t : ℕ) → Serves l tiles (from_tile_decision l tiles t) a m → Meets l (step_on l (from_tile t)) a m
  unfolding from_tile_decision
  from_serves t = go (ltb t tiles) refl
    where
      go : (b : Bool) → ltb t tiles ≡ b → Serves l tiles (cond b (decision 0 (Some (74 + 84 * t + 60)) (reply_move l t (74 + 84 * t + 60))) (Err NoTile)) a m → Meets l (step_on l (from_tile t)) a m
      go true b made = from_done l h t (ltb-true t tiles b) _ (as_accept l (found l h).long (74 + 84 * t + 60) t (omega arith)) a m (decided 0 (Some (74 + 84 * t + 60)) _ made)
      go false b made = refuses NoTile (from_tile t) (no_from l h t (ltb-false t tiles b)) made

  ack_serves : Serves l tiles (memory_ack_decision l) a m → Meets l (step_on l memory_ack) a m
  unfolding memory_ack_decision alone home_step_on
  ack_serves made = home_done l h 1 _ refl a m (on_ack l (found l h).long tiles 0 a m (decided 0 (Some 50) _ made))

  evict_serves : Serves l tiles (eviction_decision l) a m → Meets l (step_on l home_eviction) a m
  unfolding eviction_decision alone home_step_on
  evict_serves made = home_done l h 2 _ refl a m (on_evict l (found l h).long tiles 0 a m (decided 0 None _ made))

  pub memory_serves_lem : (c t : ℕ) → c ≡ 22 → Committed l l tiles 0 (numbers.memory_step (home_block_at l)) a m → Meets l (step_on l (call_from home_calls c t 0 0)) a m
  unfolding alone home_step_on
  memory_serves_lem c t e made = rw e (home_done l h 0 _ refl a m made)

  pub serves : (c t : ℕ) → (c ≡ 22 → ⊥) → Serves l tiles (decision_of l tiles c t) a m → Meets l (step_on l (call_from home_calls c t 0 0)) a m
  unfolding decision_of
  serves c t other = go (eqb c 19) (eqb c 21) (eqb c 22) (ne_eqb c 22 other) (eqb c 23)
    where
      go : (b d e : Bool) → e ≡ false → (f : Bool) → Serves l tiles (cond b (taking_decision l tiles) (cond d (from_tile_decision l tiles t) (cond f (memory_ack_decision l) (eviction_decision l)))) a m →
          Meets l (step_on l (cond b taking (cond d (from_tile t) (cond e memory_step (cond f memory_ack home_eviction))))) a m
      go true d e q f made = taking_serves made
      go false true e q f made = from_serves t made
      go false false e q true made = rw q (ack_serves made)
      go false false e q false made = rw q (evict_serves made)
