-- The words that a start writes are the encoding of a fresh bench. Assumes nothing.
use Prim.Native.Nat.{ℕ, suc, ◌+◌, ◌-◌, ◌*◌, ◌≤◌, ◌<◌}
use mathlib.Core.Path.{◌≡◌, refl, ap, sym, ◌∙◌, subst}
use mathlib.Core.List.{List, [], ◌∷◌, ◌++◌, append_assoc}
use mathlib.Core.Logic.{◌⊎◌, inl, inr}
use native.Mathlib.Omega.{arith}
use lib.ListN.{length, take, drop, replicate, set, length-append, length-replicate, replicate-append-replicate}
use lib.Seq.{length-take-le, drop-drop}
use borrow.Rule.Slice.PartMut.{put_mid}
use Rattle.std.proofs.lemmas.List.{length-drop}
use borrow.Author.Tests.{lt-ltb, le-ltb, le-leb, lt-leb}
use Rattle.lists.specs.Over.{over}
use Rattle.lists.proofs.OverLaws.{then_over}
use Rattle.layout.specs.declared.rows.Row.{Row}
use Rattle.layout.specs.Blocks.{bench_words, home_block_words, tile_block_words, pair_words, row_words}
use Rattle.layout.proofs.Over.{sets_over, length_row}
use Rattle.protocol.specs.Parts.{Words, empty, idle, absent, cache_state}
use Rattle.protocol.specs.Bench.{fresh_tile, fresh}
use Rattle.layout.specs.Encode.{row, enc_tile, enc_head, enc_queue, cache_words, waiting_number, waiting_word, waiting_value, enc_tiles, enc_home, enc_line, line_of, phase_number, requester, owed_tiles, encode}
use Rattle.protocol.specs.Answers.{sent_on, sent_to, answer_of, refusal}
use Rattle.protocol.specs.declared.Answer.{Answer}
use Rattle.calls.specs.Calls.{start_on, words_started}

-- a part filled with 0
pub cleared : (l ys : List ℕ) (at k n : ℕ) → at + n ≤ length l → k ≡ n → ys ≡ replicate (length (take k (drop at l))) 0 → put_mid at k l ys ≡ over l at (replicate n 0)
unfolding over
cleared l ys at k n h e f =
    let part : length (take k (drop at l)) ≡ n = length-take-le k (drop at l) (omega (arith, length-drop at l)) ∙ e in
    let behind : drop k (drop at l) ≡ drop (at + length (replicate n 0)) l = drop-drop k at l ∙ ap (λ (j : ℕ). drop (at + j) l) (e ∙ sym (length-replicate {A = ℕ} n 0)) in
    ap (λ (z : List ℕ). take at l ++ (z ++ drop k (drop at l))) (f ∙ ap (λ (j : ℕ). replicate j 0) part) ∙ ap (λ (z : List ℕ). take at l ++ (replicate n 0 ++ z)) behind

-- n fresh tiles are 84 n zeros
fresh_tiles : (n : ℕ) → enc_tiles (replicate n fresh_tile) ≡ replicate (84 * n) 0
unfolding enc_tiles enc_tile enc_head enc_queue cache_state cache_words waiting_number waiting_word waiting_value tile_block_words pair_words row_words
fresh_tiles ℕ.zero = refl
fresh_tiles (suc n) =
    let e : 84 + 84 * n ≡ 84 * suc n = omega arith in
    ap (λ (z : List ℕ). tile_block_words (enc_tile fresh_tile) ++ z) (fresh_tiles n) ∙ replicate-append-replicate 84 (84 * n) 0 ∙ ap (λ (k : ℕ). replicate k 0) e

-- the words of a fresh bench, in the pieces written
fresh_words : (n : ℕ) (mem : Words) → (n ∷ replicate 13 0) ++ (row_words (row (n - 1) 0 0 0 mem) ++ replicate (48 + 84 * n) 0) ≡ encode (fresh n mem)
unfolding encode fresh enc_home enc_line line_of phase_number requester owed_tiles enc_queue home_block_words pair_words row_words
fresh_words n mem =
    let R : List ℕ = enc_tiles (replicate n fresh_tile) in
    ap (λ (z : List ℕ). (n ∷ replicate 13 0) ++ (row_words (row (n - 1) 0 0 0 mem) ++ z)) (sym (replicate-append-replicate 48 (84 * n) 0) ∙ ap (λ (z : List ℕ). replicate 48 0 ++ z) (sym (fresh_tiles n)))
    ∙ ap (λ (z : List ℕ). (n ∷ replicate 13 0) ++ ((n - 1) ∷ 0 ∷ 0 ∷ 0 ∷ z)) (sym (append_assoc mem (replicate 48 0) R))
    ∙ ap (λ (k : ℕ). home_block_words (enc_home k (idle absent) (n - 1) 0 mem empty empty) ++ R) (sym (length-replicate n fresh_tile))

-- the four pieces written one after the other, each on what the last one left
pub started_words : (n : ℕ) (mem l m1 m2 m3 m4 : List ℕ) → 74 + 84 * n ≤ length l → length mem ≡ 8 → m1 ≡ set l 0 n → m2 ≡ over m1 1 (replicate 13 0) →
    m3 ≡ over m2 14 (row_words (row (n - 1) 0 0 0 mem)) → m4 ≡ over m3 26 (replicate (74 + 84 * n - 26) 0) → m4 ≡ encode (fresh n mem) ++ drop (bench_words n) l
unfolding over
started_words n mem l m1 m2 m3 m4 h full e1 e2 e3 e4 =
    let k : 74 + 84 * n - 26 ≡ 48 + 84 * n = omega arith in
    let R : List ℕ = row_words (row (n - 1) 0 0 0 mem) in
    let Z : List ℕ = replicate (48 + 84 * n) 0 in
    let r : length R ≡ 12 = length_row (row (n - 1) 0 0 0 mem) full in
    let z : length Z ≡ 48 + 84 * n = length-replicate {A = ℕ} (48 + 84 * n) 0 in
    let first : m1 ≡ over l 0 (n ∷ []) = e1 ∙ sets_over l 0 (n ∷ []) (omega arith) in
    let all : m4 ≡ over l 0 ((n ∷ replicate 13 0) ++ (R ++ Z)) =
    then_over l m3 m4 0 26 ((n ∷ replicate 13 0) ++ R) Z (omega arith) (omega (arith, length-append (n ∷ replicate 13 0) R)) (then_over l m2 m3 0 14 (n ∷ replicate 13 0) R (omega arith) refl (then_over l m1 m2 0 1 (n ∷ []) (replicate 13 0) (omega arith) refl first e2) e3) (e4 ∙ ap (λ (j : ℕ). over m3 26 (replicate j 0)) k)
    ∙ ap (over l 0) (append_assoc (n ∷ replicate 13 0) R Z) in
    let long : 0 + length ((n ∷ replicate 13 0) ++ (R ++ Z)) ≡ bench_words n = simp length-append (omega arith) in
    all ∙ ap (λ (j : ℕ). ((n ∷ replicate 13 0) ++ (R ++ Z)) ++ drop j l) long ∙ ap (λ (w : List ℕ). w ++ drop (bench_words n) l) (fresh_words n mem)

-- the start's two equations
module _ (l : List ℕ) (n : ℕ) (mem : Words) where
  abbrev Starts : Answer → List ℕ → Type 0
  Starts a m = (a ≡ answer_of (start_on l n mem)) × (m ≡ words_started l n (start_on l n mem))

  pub start_done : (m1 m2 m3 m4 : List ℕ) (x : Row) → 0 < n → n ≤ 64 → 74 + 84 * n ≤ length l → m1 ≡ set l 0 n → m2 ≡ over m1 1 (replicate 13 0) →
      x ≡ row (n - 1) 0 0 0 mem → length x.words ≡ 8 → m3 ≡ over m2 14 (row_words x) → m4 ≡ over m3 26 (replicate (74 + 84 * n - 26) 0) → Starts (record { refusal = 0; kind = 0; value = 0; sent = 0; tiles = 0 }) m4
  unfolding start_on answer_of words_started sent_on sent_to
  start_done m1 m2 m3 m4 x p q e e1 e2 is full e3 e4 =
      rw (lt-ltb 0 n p, le-leb n 64 q, le-leb (bench_words n) (length l) e) (refl, started_words n mem l m1 m2 m3 m4 e (subst (λ (r : Row). length r.words ≡ 8) is full) e1 e2 (e3 ∙ ap (λ (r : Row). over m2 14 (row_words r)) is) e4)

  pub start_short : 0 < n → n ≤ 64 → length l < 74 + 84 * n → Starts (refusal 1) l
  unfolding start_on answer_of words_started
  start_short p q e = rw (lt-ltb 0 n p, le-leb n 64 q, lt-leb (bench_words n) (length l) e) (refl, refl)

  -- 2: no tile, or too many
  pub start_uncounted : (n ≡ 0) ⊎ ((n ≡ 0 → ⊥) × (64 < n)) → Starts (refusal 2) l
  unfolding start_on answer_of words_started
  start_uncounted (inl z) = rw (le-ltb 0 n (omega arith)) (refl, refl)
  start_uncounted (inr h) = rw (lt-ltb 0 n (omega (arith, h.1)), lt-leb n 64 h.1) (refl, refl)
