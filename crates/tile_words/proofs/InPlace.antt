-- Laws of a tile's block changed in place: writing a part of it is writing the whole block with that part changed. Assumes nothing.
use Prim.Native.Nat.{ℕ, ◌+◌, ◌≤◌, ◌<◌}
use mathlib.Core.Path.{◌≡◌, refl, ap, sym, ◌∙◌}
use mathlib.Core.List.{List, [], ◌∷◌, ◌++◌, append_assoc}
use native.Mathlib.Omega.{arith}
use native.Mathlib.Nat.{add-zero}
use lib.ListN.{length, get_or, set, take, drop, length-set, get_or-eq_default}
use lib.Seq.{length-take-le, get_or-take, get_or-drop, set_out}
use Rattle.lists.specs.Over.{over}
use Rattle.layout.specs.declared.rows.Pair.{Pair}
use Rattle.layout.specs.declared.rows.TileBlock.{TileBlock}
use Rattle.layout.specs.Blocks.{head_state, row_at, pair_at, tile_block_at, row_words, pair_words, tile_block_words, PairFull}
use Rattle.layout.proofs.Over.{join, row_words_lem, pair_words_lem, tile_words, length_pair}
use Rattle.layout.proofs.Reading.{row_full, pair_full, tile_full, tile_at_lem}
use Rattle.layout.proofs.Parts.{over_read, kept_behind, kept_before, row_numbers, set_part}
use Rattle.tile_rules.specs.Steps.{with_numbers, with_state, with_line, with_word, with_noc1, with_noc3}
use Rattle.tile_words.specs.InPlace.{TilePut}

-- what stands there then
pub put_read : (l m : List ℕ) (i : ℕ) (x : TileBlock) → i + 84 ≤ length l → TilePut l i x m → tile_block_at m i ≡ x
unfolding over
put_read l m i x h p = ap (λ (r : List ℕ). tile_block_at r i) p.words ∙ tile_at_lem (take i l) _ x i (length-take-le i l (omega arith)) p.full

pub state_in : (l : List ℕ) → get_or l 0 0 ≡ head_state (tile_block_at l 0).head
unfolding tile_block_at row_at
state_in l = refl

module _ (l m : List ℕ) (i : ℕ) (h : i + 84 ≤ length l) where
  abbrev x : TileBlock
  x = tile_block_at l i

  -- nothing written
  pub put_same : TilePut l i x l
  put_same = record { words = sym (ap (over l i) (tile_words l i h) ∙ over_read l i 84 h); full = tile_full l i h }

  rest1 : pair_words (pair_at l (i + 12)) ++ (pair_words (pair_at l (i + 36)) ++ pair_words (pair_at l (i + 60))) ≡ take 72 (drop (i + 12) l)
  rest1 =
      join l (i + 12) (i + 36) 24 48 (omega arith) (pair_words_lem l (i + 12) (omega arith))
      (join l (i + 36) (i + 60) 24 24 (omega arith) (pair_words_lem l (i + 36) (omega arith)) (pair_words_lem l (i + 60) (omega arith)))

  rest2 : pair_words (pair_at l (i + 36)) ++ pair_words (pair_at l (i + 60)) ≡ take 48 (drop (i + 36) l)
  rest2 = join l (i + 36) (i + 60) 24 24 (omega arith) (pair_words_lem l (i + 36) (omega arith)) (pair_words_lem l (i + 60) (omega arith))

  pub put_numbers : (a b c d : ℕ) → m ≡ over l i (a ∷ b ∷ c ∷ d ∷ []) → TilePut l i (with_numbers a b c d x) m
  unfolding tile_block_at tile_block_words row_words row_at
  put_numbers a b c d e =
      record {
        words = e ∙ kept_behind l i (i + 4) 80 (a ∷ b ∷ c ∷ d ∷ []) refl (omega arith)
            ∙ ap (λ (r : List ℕ). over l i (a ∷ b ∷ c ∷ d ∷ r)) (sym (join l (i + 4) (i + 12) 8 72 (omega arith) refl rest1));
        full = record { head_full = row_full l i (omega arith); noc1_full = pair_full l (i + 12) (omega arith); noc2_full = pair_full l (i + 36) (omega arith); noc3_full = pair_full l (i + 60) (omega arith) };
      }

  pub put_state : (s : ℕ) → m ≡ set l i s → TilePut l i (with_state s x) m
  unfolding tile_block_at row_at
  put_state s e =
      put_numbers s (get_or l (i + 1) 0) (get_or l (i + 2) 0) (get_or l (i + 3) 0)
      (e ∙ ap (λ (j : ℕ). set l j s) (sym (add-zero i)) ∙ set_part l i 4 0 s (omega arith) (omega arith) ∙ ap (λ (r : List ℕ). over l i (set r 0 s)) (sym (row_numbers l i (omega arith))))

  pub put_line : (ws : List ℕ) → length ws ≡ 8 → m ≡ over l (i + 4) ws → TilePut l i (with_line ws x) m
  unfolding tile_block_at tile_block_words row_words row_at
  put_line ws n e =
      let four : get_or l i 0 ∷ get_or l (i + 1) 0 ∷ get_or l (i + 2) 0 ∷ get_or l (i + 3) 0 ∷ [] ≡ take 4 (drop i l) = row_numbers l i (omega arith) in
      record {
        words = e ∙ kept_behind l (i + 4) (i + 12) 72 ws (omega arith) (omega arith) ∙ kept_before l i (i + 4) 4 (ws ++ take 72 (drop (i + 12) l)) refl (omega arith)
            ∙ ap (λ (r : List ℕ). over l i (r ++ (ws ++ take 72 (drop (i + 12) l)))) (sym four)
            ∙ ap (λ (r : List ℕ). over l i (get_or l i 0 ∷ get_or l (i + 1) 0 ∷ get_or l (i + 2) 0 ∷ get_or l (i + 3) 0 ∷ (ws ++ r))) (sym rest1);
        full = record { head_full = n; noc1_full = pair_full l (i + 12) (omega arith); noc2_full = pair_full l (i + 36) (omega arith); noc3_full = pair_full l (i + 60) (omega arith) };
      }

  pub put_word : (w v : ℕ) → w < 8 → m ≡ set l (i + 4 + w) v → TilePut l i (with_line (set x.head.words w v) x) m
  unfolding tile_block_at row_at
  put_word w v b e = put_line (set (take 8 (drop (i + 4) l)) w v) (length-set (take 8 (drop (i + 4) l)) w v ∙ row_full l i (omega arith)) (e ∙ set_part l (i + 4) 8 w v b (omega arith))

  -- a queue written over
  pub put_noc1 : (p : Pair) → PairFull p → m ≡ over l (i + 12) (pair_words p) → TilePut l i (with_noc1 p x) m
  unfolding tile_block_at tile_block_words
  put_noc1 p f e =
      let n : length (pair_words p) ≡ 24 = length_pair p f in
      record {
        words = e ∙ kept_behind l (i + 12) (i + 36) 48 (pair_words p) (omega arith) (omega arith) ∙ kept_before l i (i + 12) 12 (pair_words p ++ take 48 (drop (i + 36) l)) refl (omega arith)
            ∙ ap (λ (r : List ℕ). over l i (r ++ (pair_words p ++ take 48 (drop (i + 36) l)))) (sym (row_words_lem l i (omega arith)))
            ∙ ap (λ (r : List ℕ). over l i (row_words (row_at l i) ++ (pair_words p ++ r))) (sym rest2);
        full = record { head_full = row_full l i (omega arith); noc1_full = f; noc2_full = pair_full l (i + 36) (omega arith); noc3_full = pair_full l (i + 60) (omega arith) };
      }

  pub put_noc2 : (p : Pair) → PairFull p → m ≡ over l (i + 36) (pair_words p) → TilePut l i (record { head = x.head; noc1 = x.noc1; noc2 = p; noc3 = x.noc3 }) m
  unfolding tile_block_at tile_block_words
  put_noc2 p f e =
      let n : length (pair_words p) ≡ 24 = length_pair p f in
      let H : List ℕ = row_words (row_at l i) in
      let P : List ℕ = pair_words (pair_at l (i + 12)) in
      let before : H ++ P ≡ take 36 (drop i l) = join l i (i + 12) 12 24 refl (row_words_lem l i (omega arith)) (pair_words_lem l (i + 12) (omega arith)) in
      let Y : List ℕ = pair_words p ++ pair_words (pair_at l (i + 60)) in
      record {
        words = e ∙ kept_behind l (i + 36) (i + 60) 24 (pair_words p) (omega arith) (omega arith)
            ∙ ap (λ (r : List ℕ). over l (i + 36) (pair_words p ++ r)) (sym (pair_words_lem l (i + 60) (omega arith)))
            ∙ kept_before l i (i + 36) 36 Y refl (omega arith) ∙ ap (λ (r : List ℕ). over l i (r ++ Y)) (sym before) ∙ ap (over l i) (append_assoc H P Y);
        full = record { head_full = row_full l i (omega arith); noc1_full = pair_full l (i + 12) (omega arith); noc2_full = f; noc3_full = pair_full l (i + 60) (omega arith) };
      }

  pub put_noc3 : (p : Pair) → PairFull p → m ≡ over l (i + 60) (pair_words p) → TilePut l i (with_noc3 p x) m
  unfolding tile_block_at tile_block_words
  put_noc3 p f e =
      let n : length (pair_words p) ≡ 24 = length_pair p f in
      let H : List ℕ = row_words (row_at l i) in
      let P : List ℕ = pair_words (pair_at l (i + 12)) in
      let Q : List ℕ = pair_words (pair_at l (i + 36)) in
      let before : H ++ (P ++ Q) ≡ take 60 (drop i l) =
      join l i (i + 12) 12 48 refl (row_words_lem l i (omega arith)) (join l (i + 12) (i + 36) 24 24 (omega arith) (pair_words_lem l (i + 12) (omega arith)) (pair_words_lem l (i + 36) (omega arith))) in
      record {
        words = e ∙ kept_before l i (i + 60) 60 (pair_words p) refl (omega arith) ∙ ap (λ (r : List ℕ). over l i (r ++ pair_words p)) (sym before)
            ∙ ap (over l i) (append_assoc H (P ++ Q) (pair_words p) ∙ ap (λ (r : List ℕ). H ++ r) (append_assoc P Q (pair_words p)));
        full = record { head_full = row_full l i (omega arith); noc1_full = pair_full l (i + 12) (omega arith); noc2_full = pair_full l (i + 36) (omega arith); noc3_full = f };
      }

  -- no word of the line from word 8 on
  pub word_beyond : (w v : ℕ) → 8 ≤ w → x ≡ with_word w v x
  unfolding tile_block_at row_at
  word_beyond w v b =
      let n : length (take 8 (drop (i + 4) l)) ≡ 8 = row_full l i (omega arith) in
      ap (λ (ws : List ℕ). with_line ws (tile_block_at l i)) (sym (set_out (take 8 (drop (i + 4) l)) w v (omega arith)))

  -- a word of the line, and none beyond it
  pub word_some : (w : ℕ) → w < 8 → get_or l (i + 4 + w) 0 ≡ get_or x.head.words w 0
  unfolding tile_block_at row_at
  word_some w b = sym (get_or-take 8 (drop (i + 4) l) w 0 b ∙ get_or-drop (i + 4) l w 0)

  pub word_none : (w : ℕ) → 8 ≤ w → 0 ≡ get_or x.head.words w 0
  unfolding tile_block_at row_at
  word_none w b =
      let n : length (take 8 (drop (i + 4) l)) ≡ 8 = row_full l i (omega arith) in
      sym (get_or-eq_default (take 8 (drop (i + 4) l)) 0 (omega arith))
