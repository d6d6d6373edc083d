-- Writing a part of the home's block is writing the whole block with that part changed. Assumes nothing.
use Prim.Native.Nat.{ℕ, ◌+◌, ◌≤◌}
use mathlib.Core.Path.{◌≡◌, refl, ap, sym, ◌∙◌, subst}
use mathlib.Core.List.{List, [], ◌∷◌, ◌++◌, append_assoc, append-nil}
use native.Mathlib.Omega.{arith}
use lib.ListN.{length, set, take, drop, length-append}
use lib.Seq.{take_all}
use Rattle.lists.specs.Over.{over}
use Rattle.lists.proofs.OverLaws.{then_over}
use Rattle.layout.specs.declared.rows.Row.{Row}
use Rattle.layout.specs.declared.rows.Pair.{Pair}
use Rattle.layout.specs.declared.rows.HomeBlock.{HomeBlock}
use Rattle.layout.specs.Blocks.{pair_at, home_block_at, row_words, pair_words, home_block_words, PairFull, HomeFull}
use Rattle.layout.proofs.Over.{sets_over, home_words_lem, length_row, length_pair, length_home}
use Rattle.layout.proofs.Reading.{home_full, home_front, over_behind, over_front}
use Rattle.layout.specs.Queues.{push_row, pop_row}
use Rattle.layout.proofs.Parts.{over_read}
use Rattle.home_rules.specs.Steps.{block_of, with_words, with_outgoing, without_ack, with_memory}
use Rattle.home_words.specs.InPlace.{HomePut, with_phase, with_control, with_memory_words, without_request, with_answer}

-- one piece of what was written, written again
over_inner : (l P X vs Q : List ℕ) (a : ℕ) → length P ≡ a → length X ≡ length vs → over (over l 0 (P ++ (X ++ Q))) a vs ≡ over l 0 (P ++ (vs ++ Q))
unfolding over
over_inner l P X vs Q a n m =
    let D : List ℕ = drop (0 + length (P ++ (X ++ Q))) l in
    let same : 0 + length (P ++ (X ++ Q)) ≡ 0 + length (P ++ (vs ++ Q)) = simp length-append (omega arith) in
    let apart : P ++ (X ++ Q) ++ D ≡ P ++ (X ++ (Q ++ D)) = simp append_assoc in
    let together : P ++ (vs ++ (Q ++ D)) ≡ P ++ (vs ++ Q) ++ D = simp append_assoc in
    let place : a ≡ length P + 0 = omega arith in
    ap (λ (z : List ℕ). over z a vs) apart ∙ ap (λ (z : ℕ). over (P ++ (X ++ (Q ++ D))) z vs) place ∙ over_behind P (X ++ (Q ++ D)) 0 vs ∙ ap (λ (z : List ℕ). P ++ z) (over_front X vs (Q ++ D) m)
    ∙ together ∙ ap (λ (z : ℕ). P ++ (vs ++ Q) ++ drop z l) same

-- the block that stands there, written again
self : (l : List ℕ) → 74 ≤ length l → over l 0 (home_block_words (home_block_at l)) ≡ l
self l h = ap (over l 0) (home_words_lem l h) ∙ over_read l 0 74 h

-- a block written over another
pub home_home : (l : List ℕ) (x y : HomeBlock) → HomeFull x → HomeFull y → over (over l 0 (home_block_words x)) 0 (home_block_words y) ≡ over l 0 (home_block_words y)
home_home l x y f g =
    ap (λ (z : List ℕ). over (over l 0 z) 0 (home_block_words y)) (sym (append-nil (home_block_words x)))
    ∙ over_inner l [] (home_block_words x) (home_block_words y) [] 0 refl (length_home x f ∙ sym (length_home y g)) ∙ ap (over l 0) (append-nil (home_block_words y))

pub home_read : (l m : List ℕ) (x : HomeBlock) → HomePut l x m → home_block_at m ≡ x
unfolding over
home_read l m x p = ap home_block_at p.words ∙ home_front x _ p.full

-- the home's words are the front of a bench's; and written back there
pub front_is : (l t : List ℕ) → 74 ≤ length l → t ≡ take 74 l → home_block_at t ≡ home_block_at l
front_is l t h e = ap home_block_at (e ∙ sym (home_words_lem l h) ∙ sym (append-nil (home_block_words (home_block_at l)))) ∙ home_front (home_block_at l) [] (home_full l h)

pub placed : (l u : List ℕ) (x : HomeBlock) → length u ≡ 74 → home_block_at u ≡ x → HomePut l x (u ++ drop 74 l)
unfolding over
placed l u x n e =
    let fits : 74 ≤ length u = omega arith in
    let behind : 0 + length u ≡ 74 = omega arith in
    let whole : home_block_words (home_block_at u) ≡ u = home_words_lem u fits ∙ take_all 74 u (omega arith) in
    let put : HomePut l (home_block_at u) (u ++ drop 74 l) = record { words = ap (λ (k : ℕ). u ++ drop k l) (sym behind) ∙ sym (ap (over l 0) whole); full = home_full u fits } in
    subst (λ (z : HomeBlock). HomePut l z (u ++ drop 74 l)) e put

module _ (l m : List ℕ) (h : 74 ≤ length l) where
  abbrev x : HomeBlock
  x = home_block_at l

  H : HomeFull x
  H = home_full l h

  -- the words A, X and B of the block, with X replaced by vs
  part : (A X B vs : List ℕ) (i : ℕ) → A ++ (X ++ B) ≡ home_block_words x → length A ≡ i → length X ≡ length vs → m ≡ over l i vs → m ≡ over l 0 (A ++ (vs ++ B))
  part A X B vs i q a n e = e ∙ ap (λ (z : List ℕ). over z i vs) (sym (self l h) ∙ ap (over l 0) (sym q)) ∙ over_inner l A X vs B i a n

  abbrev queues : List ℕ
  queues = pair_words x.out ++ pair_words x.back

  line_length : length (row_words x.line) ≡ 12
  line_length = length_row x.line H.line_full

  control_length : length (row_words x.control) ≡ 12
  control_length = length_row x.control H.control_full

  pub put_phase : (p a b c d : ℕ) → m ≡ over l 1 (p ∷ a ∷ b ∷ c ∷ d ∷ []) → HomePut l (with_phase p a b c d x) m
  unfolding home_block_words row_words
  put_phase p a b c d e =
      record {
        words = part (x.count ∷ []) (x.phase ∷ x.line.n0 ∷ x.line.n1 ∷ x.line.n2 ∷ x.line.n3 ∷ []) (x.line.words ++ (row_words x.control ++ queues)) (p ∷ a ∷ b ∷ c ∷ d ∷ []) 1 refl refl refl e;
        full = record { line_full = H.line_full; control_full = H.control_full; out_full = H.out_full; back_full = H.back_full };
      }

  pub put_control : (a b c d : ℕ) → m ≡ over l 14 (a ∷ b ∷ c ∷ d ∷ []) → HomePut l (with_control a b c d x) m
  unfolding home_block_words row_words
  put_control a b c d e =
      record {
        words = part (x.count ∷ x.phase ∷ row_words x.line) (x.control.n0 ∷ x.control.n1 ∷ x.control.n2 ∷ x.control.n3 ∷ []) (x.control.words ++ queues) (a ∷ b ∷ c ∷ d ∷ []) 14 refl (omega (arith, line_length)) refl e;
        full = record { line_full = H.line_full; control_full = H.control_full; out_full = H.out_full; back_full = H.back_full };
      }

  pub put_words : (ws : List ℕ) → length ws ≡ 8 → m ≡ over l 6 ws → HomePut l (with_words ws x) m
  unfolding home_block_words row_words with_words
  put_words ws n e =
      record {
        words = part (x.count ∷ x.phase ∷ x.line.n0 ∷ x.line.n1 ∷ x.line.n2 ∷ x.line.n3 ∷ []) x.line.words (row_words x.control ++ queues) ws 6 refl refl (H.line_full ∙ sym n) e;
        full = record { line_full = n; control_full = H.control_full; out_full = H.out_full; back_full = H.back_full };
      }

  -- what is before the memory's words, and before its queues
  apart : (r s : List ℕ) → row_words x.line ++ r ++ s ≡ row_words x.line ++ (r ++ s)
  apart r s = append_assoc (row_words x.line) r s

  pub put_memory_lem : (ws : List ℕ) → length ws ≡ 8 → m ≡ over l 18 ws → HomePut l (with_memory_words ws x) m
  unfolding home_block_words row_words with_memory
  put_memory_lem ws n e =
      let four : List ℕ = x.control.n0 ∷ x.control.n1 ∷ x.control.n2 ∷ x.control.n3 ∷ [] in
      let A : List ℕ = x.count ∷ x.phase ∷ (row_words x.line ++ four) in
      let a : length A ≡ 18 = simp length-append (omega (arith, line_length)) in
      record {
        words = part A x.control.words queues ws 18 (ap (λ (z : List ℕ). x.count ∷ x.phase ∷ z) (apart four (x.control.words ++ queues))) a (H.control_full ∙ sym n) e
            ∙ ap (λ (z : List ℕ). over l 0 (x.count ∷ x.phase ∷ z)) (apart four (ws ++ queues));
        full = record { line_full = H.line_full; control_full = n; out_full = H.out_full; back_full = H.back_full };
      }

  pub put_out : (q : Pair) → PairFull q → m ≡ over l 26 (pair_words q) → HomePut l (block_of x.count x.phase x.line x.control q x.back) m
  unfolding home_block_words
  put_out q f e =
      let A : List ℕ = x.count ∷ x.phase ∷ (row_words x.line ++ row_words x.control) in
      let a : length A ≡ 26 = simp length-append (omega (arith, line_length, control_length)) in
      record {
        words = part A (pair_words x.out) (pair_words x.back) (pair_words q) 26 (ap (λ (z : List ℕ). x.count ∷ x.phase ∷ z) (apart (row_words x.control) queues)) a (length_pair x.out H.out_full ∙ sym (length_pair q f)) e
            ∙ ap (λ (z : List ℕ). over l 0 (x.count ∷ x.phase ∷ z)) (apart (row_words x.control) (pair_words q ++ pair_words x.back));
        full = record { line_full = H.line_full; control_full = H.control_full; out_full = f; back_full = H.back_full };
      }

  pub put_back : (q : Pair) → PairFull q → m ≡ over l 50 (pair_words q) → HomePut l (block_of x.count x.phase x.line x.control x.out q) m
  unfolding home_block_words
  put_back q f e =
      let C : List ℕ = row_words x.control ++ pair_words x.out in
      let A : List ℕ = x.count ∷ x.phase ∷ (row_words x.line ++ C) in
      let n : length (pair_words x.out) ≡ 24 = length_pair x.out H.out_full in
      let a : length A ≡ 50 = simp length-append (omega (arith, line_length, control_length)) in
      let whole : (z : List ℕ) → A ++ (z ++ []) ≡ x.count ∷ x.phase ∷ (row_words x.line ++ (row_words x.control ++ (pair_words x.out ++ z))) = λ z. simp (append_assoc, append-nil) in
      record {
        words = part A (pair_words x.back) [] (pair_words q) 50 (whole (pair_words x.back)) a (length_pair x.back H.back_full ∙ sym (length_pair q f)) e ∙ ap (over l 0) (whole (pair_words q));
        full = record { line_full = H.line_full; control_full = H.control_full; out_full = H.out_full; back_full = f };
      }

  -- as the code writes them
  pub phase_stores : (k : List ℕ) (p a b c d : ℕ) → k ≡ set l 1 p → m ≡ over k 2 (a ∷ b ∷ c ∷ d ∷ []) → HomePut l (with_phase p a b c d x) m
  phase_stores k p a b c d e q = put_phase p a b c d (then_over l k m 1 2 (p ∷ []) (a ∷ b ∷ c ∷ d ∷ []) (omega arith) refl (e ∙ sets_over l 1 (p ∷ []) (omega arith)) q)

  pub filed_at : (r : Row) → PairFull (push_row (pair_at l 26) r) → m ≡ over l 26 (pair_words (push_row (pair_at l 26) r)) → HomePut l (with_outgoing r x) m
  unfolding with_outgoing home_block_at
  filed_at r f e = put_out (push_row (pair_at l 26) r) f e

  pub served_at : PairFull (pop_row (pair_at l 26)) → m ≡ over l 26 (pair_words (pop_row (pair_at l 26))) → HomePut l (without_request x) m
  unfolding home_block_at
  served_at f e = put_out (pop_row (pair_at l 26)) f e

  pub answered_at : (r : Row) → PairFull (push_row (pair_at l 50) r) → m ≡ over l 50 (pair_words (push_row (pair_at l 50) r)) → HomePut l (with_answer r x) m
  unfolding home_block_at
  answered_at r f e = put_back (push_row (pair_at l 50) r) f e

  pub acked_at : PairFull (pop_row (pair_at l 50)) → m ≡ over l 50 (pair_words (pop_row (pair_at l 50))) → HomePut l (without_ack x) m
  unfolding without_ack home_block_at
  acked_at f e = put_back (pop_row (pair_at l 50)) f e
