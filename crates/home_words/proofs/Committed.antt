-- The three ways in which a home step is committed, and that each is the rules' step. Assumes nothing.
use Prim.Native.Nat.{ℕ, suc, ◌+◌, ◌≤◌, ◌<◌}
use mathlib.Core.Path.{◌≡◌, refl, ap, sym, ◌∙◌, subst}
use mathlib.Core.Bool.{Bool, true, false, false≢true, and-true}
use mathlib.Core.List.{List, ◌++◌}
use native.Mathlib.Omega.{arith}
use lib.Dec.{eqb}
use lib.ListN.{length, get_or, take, drop}
use borrow.Author.Tests.{eqb-true, eqb-false}
use Rattle.lists.specs.Over.{over}
use Rattle.layout.specs.declared.rows.HomeBlock.{HomeBlock}
use Rattle.layout.specs.Blocks.{bench_words, home_block_at, home_block_words, row_at, pair_at}
use Rattle.protocol.specs.Parts.{Tile, Call}
use Rattle.protocol.specs.Bench.{step}
use Rattle.layout.specs.Decode.{decoded}
use Rattle.layout.specs.Queues.{has_room}
use Rattle.home_rules.specs.Results.{HomeResult, spread, enc_step, Sends}
use Rattle.protocol.specs.declared.Answer.{Answer}
use Rattle.protocol.specs.Answers.{answer_of}
use Rattle.calls.specs.Calls.{well_formed, step_on, words_after}
use Rattle.protocol.specs.Answers.{refusal}
use Rattle.home_words.specs.Forwards.{has_room_for, has_rooms, forward_put_all}
use Rattle.std.specs.Prelude.{Option, Ok, Err}
use Rattle.numbers.specs.declared.refusals.Refusal.{Refusal}
use Rattle.numbers.specs.declared.refusals.Refusal.TheVariants.{Malformed, NoTile, NoWord, TileWaits, NoLine, NotIdle, NothingThere, Misfit, QueueFull, NoFlit, UnknownType, WrongLength, FlitsMissing, UnknownPort, ReservedSet, BadField, NoRoom, JobCut, JobTag, JobLength, JobPlace, JobValue, JobTooLong}
use Rattle.numbers.specs.Refusals.{refusal_number}
use Rattle.numbers.specs.declared.kinds.Kind.{Kind}
use Rattle.numbers.specs.declared.queues.Queues.{Queues}
use Rattle.numbers.specs.Kinds.{kind_number}
use Rattle.numbers.specs.Queues.{queues_number}
use Rattle.home_words.specs.Commits.{home_answer, popped, front_words, answering, Finishes, Committed}
use Rattle.layout.specs.declared.rows.Row.{Row}
use Rattle.masks.proofs.MaskLaws.{has_none}
use Rattle.layout.specs.Encode.{zeros, row, no_row}
use Rattle.home_rules.specs.declared.moves.HomeMove.{HomeMove}
use Rattle.home_rules.specs.declared.moves.Sending.{Sending}
use Rattle.home_rules.specs.declared.moves.Sending.TheVariants.{Silent, Memory, Tiles}
use Rattle.home_rules.specs.Moves.{kind_of, queues_of, tiles_of}
use Rattle.home_rules.specs.Steps.{HomeStep, step_of, refused_step, outgoing_put, forward_row, forward_of, line_after_move, move_applied, memory_answers, memory_step}
use Rattle.home_words.specs.InPlace.{HomePut, move_made, memory_stepped}
use Rattle.home_words.proofs.InPlace.{front_is, placed}
use borrow.Author.Tests.{eq-eqb, ne_eqb}
use Rattle.calls.proofs.Laid.{Laid}
use Rattle.calls.proofs.Decoded.{found}
use Rattle.calls.proofs.Meets.{Meets}
use Rattle.home_words.proofs.Sending.{all_room}
use Rattle.home_words.proofs.Finished.{none_told, refused_by, no_room, finished}

module _ (l k : List ℕ) (n v : ℕ) (s : HomeStep) (a : Answer) (m : List ℕ) where
  pub is_refused : (s.refusal ≡ 0 → ⊥) → a ≡ refusal s.refusal → m ≡ l → Committed l k n v s a m
  is_refused wrong e w = record { refusing = λ _. (e, w); no_room = λ z. absurd (wrong z); done = λ z. absurd (wrong z) }

  pub is_full : s.refusal ≡ 0 → has_rooms true l 74 0 s.to n ≡ false → a ≡ refusal 9 → m ≡ l → Committed l k n v s a m
  is_full z f e w = record { refusing = λ wrong. absurd (wrong z); no_room = λ _ _. (e, w); done = λ _ t. absurd (false≢true (sym f ∙ t)) }

  pub is_done : s.refusal ≡ 0 → has_rooms true l 74 0 s.to n ≡ true → a ≡ home_answer s v → Finishes k n s m → Committed l k n v s a m
  is_done z t e w = record { refusing = λ wrong. absurd (wrong z); no_room = λ _ f. absurd (false≢true (sym f ∙ t)); done = λ _ _. (e, w) }

-- a move made on the home's words t, which are u then, and its message put on the queues of its tiles
module _ (l t u : List ℕ) (long : 74 ≤ length l) (front : t ≡ take 74 l) (whole : length u ≡ 74) (n : ℕ) (ws : List ℕ) (q : HomeMove) (made : home_block_at u ≡ move_made ws q (home_block_at t)) where
  abbrev y : HomeBlock
  y = line_after_move (home_block_at l) ws q

  is_made : home_block_at u ≡ outgoing_put q.sends y
  is_made = made ∙ ap (move_made ws q) (front_is l t long front)

  put : HomePut l (outgoing_put q.sends y) (u ++ drop 74 l)
  put = placed l u (outgoing_put q.sends y) whole is_made

  same_line : (s : Sending) → forward_of s (outgoing_put s y) ≡ forward_of s y
  unfolding outgoing_put forward_of
  same_line Silent = refl
  same_line (Memory o) = refl
  same_line (Tiles to o state miss) = refl

  -- to tiles, of which there may be none
  sent : (f : Row) (m : List ℕ) → f ≡ forward_of q.sends y → m ≡ forward_put_all (u ++ drop 74 l) 74 0 (tiles_of q.sends) f n → length f.words ≡ 8 → Finishes l n (move_applied (home_block_at l) ws (Ok q)) m
  unfolding move_applied
  sent f m g w n8 =
      record {
        words = w ∙ ap (λ (z : List ℕ). forward_put_all z 74 0 (tiles_of q.sends) f n) put.words ∙ ap (λ (z : Row). forward_put_all (over l 0 (home_block_words (outgoing_put q.sends y))) 74 0 (tiles_of q.sends) z n) g;
        home = put.full;
        row = subst (λ (z : Row). length z.words ≡ 8) g n8;
      }

  pub finishes_tiles : (to o state miss : ℕ) (f : Row) (m : List ℕ) → q.sends ≡ Tiles to o state miss → f ≡ forward_row o state miss (home_block_at u) → m ≡ forward_put_all (u ++ drop 74 l) 74 0 to f n → length f.words ≡ 8 →
      Finishes l n (move_applied (home_block_at l) ws (Ok q)) m
  unfolding forward_of
  finishes_tiles to o state miss f m e g w n8 =
      sent f m (g ∙ ap (λ (s : Sending). forward_of s (home_block_at u)) (sym e) ∙ ap (forward_of q.sends) is_made ∙ same_line q.sends) (w ∙ ap (λ (s : Sending). forward_put_all (u ++ drop 74 l) 74 0 (tiles_of s) f n) (sym e)) n8

  pub finishes_alone : ((to o state miss : ℕ) → q.sends ≡ Tiles to o state miss → ⊥) → Finishes l n (move_applied (home_block_at l) ws (Ok q)) (u ++ drop 74 l)
  unfolding forward_of
  finishes_alone other = go q.sends refl
    where
      go : (s : Sending) → q.sends ≡ s → Finishes l n (move_applied (home_block_at l) ws (Ok q)) (u ++ drop 74 l)
      go Silent e = sent no_row _ (ap (λ (s : Sending). forward_of s y) (sym e)) (sym (none_told _ 74 0 no_row n) ∙ ap (λ (s : Sending). forward_put_all (u ++ drop 74 l) 74 0 (tiles_of s) no_row n) (sym e)) refl
      go (Memory o) e = sent no_row _ (ap (λ (s : Sending). forward_of s y) (sym e)) (sym (none_told _ 74 0 no_row n) ∙ ap (λ (s : Sending). forward_put_all (u ++ drop 74 l) 74 0 (tiles_of s) no_row n) (sym e)) refl
      go (Tiles to o state miss) e = absurd (other to o state miss e)

-- a move that answers the front message at a place: refused for want of room, or made
module _ (l : List ℕ) (n v : ℕ) (p : Option ℕ) (q : HomeMove) (to : ℕ) (is : to ≡ tiles_of q.sends) (room : Bool) (asked : room ≡ has_rooms true l 74 0 to n) where
  abbrev rooms : Bool
  rooms = has_rooms true l 74 0 (tiles_of q.sends) n

  told_room : room ≡ rooms
  told_room = asked ∙ ap (λ (z : ℕ). has_rooms true l 74 0 z n) is

  pub move_full : room ≡ false → Committed l (popped l p) n v (answering l p (Ok q)) (refusal 9) l
  unfolding answering move_applied
  move_full e = is_full l (popped l p) n v (answering l p (Ok q)) (refusal 9) l refl (sym told_room ∙ e) refl refl

  -- the front message is taken off first
  module _ (k m : List ℕ) (ws : List ℕ) (made : Finishes k n (move_applied (home_block_at k) ws (Ok q)) m) where
    took : ws ≡ front_words l p → k ≡ popped l p → Finishes (popped l p) n (answering l p (Ok q)) m
    unfolding answering
    took e f =
        subst (λ (z : List ℕ). Finishes z n (move_applied (home_block_at z) (front_words l p) (Ok q)) m) f
        (subst (λ (z : List ℕ). Finishes k n (move_applied (home_block_at k) z (Ok q)) m) e made)

    pub move_done : room ≡ true → ws ≡ front_words l p → k ≡ popped l p → (kind : Kind) (sent : Queues) → kind ≡ kind_of q.sends → sent ≡ queues_of q.sends
        → Committed l (popped l p) n v (answering l p (Ok q)) (record { refusal = 0; kind = kind_number kind; value = v; sent = queues_number sent; tiles = to }) m
    unfolding answering move_applied
    move_done t e f kind sent c d =
        is_done l (popped l p) n v (answering l p (Ok q)) _ m refl (sym told_room ∙ t) (λ i. record { refusal = 0; kind = kind_number (c i); value = v; sent = queues_number (d i); tiles = is i }) (took e f)

-- a refusal has a number above 0
pub refusal_above : (r : Refusal) → 0 < refusal_number r
refusal_above Malformed = omega arith
refusal_above NoTile = omega arith
refusal_above NoWord = omega arith
refusal_above TileWaits = omega arith
refusal_above NoLine = omega arith
refusal_above NotIdle = omega arith
refusal_above NothingThere = omega arith
refusal_above Misfit = omega arith
refusal_above QueueFull = omega arith
refusal_above NoFlit = omega arith
refusal_above UnknownType = omega arith
refusal_above WrongLength = omega arith
refusal_above FlitsMissing = omega arith
refusal_above UnknownPort = omega arith
refusal_above ReservedSet = omega arith
refusal_above BadField = omega arith
refusal_above NoRoom = omega arith
refusal_above JobCut = omega arith
refusal_above JobTag = omega arith
refusal_above JobLength = omega arith
refusal_above JobPlace = omega arith
refusal_above JobValue = omega arith
refusal_above JobTooLong = omega arith

-- a move that is refused
pub not_made : (l : List ℕ) (n v : ℕ) (p : Option ℕ) (r : Refusal) (a : Answer) (m : List ℕ) → a ≡ refusal (refusal_number r) → m ≡ l → Committed l (popped l p) n v (answering l p (Err r)) a m
unfolding answering move_applied refused_step
not_made l n v p r a m e w = is_refused l (popped l p) n v (answering l p (Err r)) a m (λ z. omega (arith, refusal_above r)) e w

-- a step that sends to no tile has room
rooms_none : (a : Bool) (l : List ℕ) (at i j : ℕ) → has_rooms a l at i 0 j ≡ a
unfolding has_rooms has_room_for
rooms_none a l at i ℕ.zero = refl
rooms_none a l at i (suc j) = rw (has_none i, and-true a) (rooms_none a l (at + 84) (i + 1) j)

-- the memory's step
module _ (l : List ℕ) (n : ℕ) (ws : List ℕ) (r : Row) where
  pub memory_full : has_room (pair_at l 50) ≡ false → Committed l l n 0 (memory_answers (home_block_at l) ws r) (refusal 9) l
  unfolding memory_answers home_block_at has_room refused_step
  memory_full e = rw e (is_refused l l n 0 (refused_step (home_block_at l) 9) (refusal 9) l (λ z. omega arith) refl refl)

  pub memory_done : (t u : List ℕ) → 74 ≤ length l → t ≡ take 74 l → length u ≡ 74 → home_block_at u ≡ memory_stepped ws r (home_block_at t) → has_room (pair_at l 50) ≡ true
      → Committed l l n 0 (memory_answers (home_block_at l) ws r) (record { refusal = 0; kind = 3; value = 0; sent = 5; tiles = 0 }) (u ++ drop 74 l)
  unfolding memory_answers home_block_at has_room
  memory_done t u long front whole made e =
      let B : HomeBlock = memory_stepped ws r (home_block_at l) in
      let h = placed l u B whole (made ∙ ap (memory_stepped ws r) (front_is l t long front)) in
      rw e (is_done l l n 0 (step_of 0 3 B 5 0 no_row) _ _ refl (rooms_none true l 74 0 n) refl
      (record { words = h.words ∙ sym (none_told (over l 0 (home_block_words B)) 74 0 no_row n); home = h.full; row = refl }))

module _ (l m : List ℕ) (n : ℕ) (a : Answer) where
  pub memory_empty : get_or l 26 0 ≡ 0 → a ≡ refusal 7 → Committed l l n 0 (memory_step (home_block_at l)) a l
  unfolding memory_step home_block_at pair_at row_at refused_step
  memory_empty e f = rw (eq-eqb (get_or l 26 0) 0 e) (is_refused l l n 0 (refused_step (home_block_at l) 7) a l (λ z. omega arith) f refl)

  pub memory_reads : (ws : List ℕ) (r : Row) → get_or l 26 0 ≡ 19 → ws ≡ take 8 (drop 18 l) → r ≡ row 24 0 0 0 ws → Committed l l n 0 (memory_answers (home_block_at l) ws r) a m → Committed l l n 0 (memory_step (home_block_at l)) a m
  unfolding memory_step home_block_at pair_at row_at
  memory_reads ws r z e q p = subst (λ (s : HomeStep). Committed l l n 0 s a m) (sym (simp (z, q, e))) p

  pub memory_stores : (ws : List ℕ) (r : Row) → (get_or l 26 0 ≡ 0 → ⊥) → (get_or l 26 0 ≡ 19 → ⊥) → ws ≡ take 8 (drop 30 l) → r ≡ row 25 0 0 0 zeros → Committed l l n 0 (memory_answers (home_block_at l) ws r) a m → Committed l l n 0 (memory_step (home_block_at l)) a m
  unfolding memory_step home_block_at pair_at row_at
  memory_stores ws r y z e q p = subst (λ (s : HomeStep). Committed l l n 0 s a m) (sym (simp (ne_eqb _ _ y, ne_eqb _ _ z, q, e))) p

-- a committed step is the call's step: R is the home's result, ts the tiles on which it acts
module _ (l k : List ℕ) (c : Call) (v : ℕ) (s : HomeStep) (a : Answer) (m : List ℕ) (h : well_formed l ≡ true) (R : HomeResult) (B G : HomeBlock) (ts : List Tile) where
  abbrev n : ℕ
  n = get_or l 0 0

  abbrev r : List ℕ
  r = drop (bench_words n) l

  pub committed : length ts ≡ n → Laid k G ts r → Sends n R → s ≡ enc_step n B R → step c (decoded l) ≡ spread v R ts → has_rooms true l 74 0 s.to n ≡ all_room ts 0 s.to n → Committed l k n v s a m →
      Meets l (step_on l c) a m
  unfolding step_on answer_of words_after
  committed cnt lay snd is by rm made = rw (h, by) (go (eqb s.refusal 0) refl (has_rooms true l 74 0 s.to n) refl)
    where
      small : n ≤ 64
      small = (found l h).most

      go : (z : Bool) → eqb s.refusal 0 ≡ z → (b : Bool) → has_rooms true l 74 0 s.to n ≡ b → Meets l (spread v R ts) a m
      go false ez b eb =
          let w = made.refusing (eqb-false s.refusal 0 ez) in
          rw (refused_by n small B s v ts cnt R snd is (eqb-false s.refusal 0 ez)) (record { answer = w.0; words = w.1 })
      go true ez false eb =
          let w = made.no_room (eqb-true s.refusal 0 ez) eb in
          rw (no_room n small B s v ts cnt R snd is (eqb-true s.refusal 0 ez) (sym rm ∙ eb)) (record { answer = w.0; words = w.1 })
      go true ez true eb =
          let w = made.done (eqb-true s.refusal 0 ez) eb in
          let f = finished n small B s v ts cnt k r G lay w.1.home w.1.row R snd is (eqb-true s.refusal 0 ez) (sym rm ∙ eb) in
          rw f.by_rules (record { answer = w.0 ∙ (λ i. record { refusal = 0; kind = s.kind; value = v; sent = sym f.on i; tiles = sym f.to i }); words = w.1.words ∙ f.words })
