-- Parts of the words written in place: what stands before and behind them is as it was. Assumes nothing.
use Prim.Native.Nat.{ℕ, ◌+◌, ◌≤◌, ◌<◌}
use mathlib.Core.Path.{◌≡◌, refl, ap, sym, ◌∙◌}
use mathlib.Core.Bool.{Bool, true, false, cond}
use mathlib.Core.List.{List, [], ◌∷◌, ◌++◌, append_assoc}
use native.Mathlib.Omega.{arith}
use lib.Dec.{eqb}
use lib.ListN.{length, get_or, set, take, drop, length-append, length-take, length-drop, length-set, take-append-drop}
use lib.Seq.{drop-drop, take-take, length-take-le, drop_at, take-set-lt, drop-set-add, take-set-le, drop-set-lt}
use borrow.Author.Tests.{eq-eqb, ne_eqb, eqb-true, eqb-false}
use Rattle.lists.specs.Over.{over}
use Rattle.lists.proofs.OverLaws.{length_over, over_over}
use Rattle.layout.specs.declared.rows.Row.{Row}
use Rattle.layout.specs.declared.rows.Pair.{Pair}
use Rattle.layout.specs.Blocks.{row_at, pair_at, row_words, pair_words, PairFull}
use Rattle.layout.proofs.Over.{row_words_lem, length_row, write_pair}
use Rattle.layout.proofs.Reading.{row_full}
use Rattle.layout.specs.Encode.{no_row, row}
use Rattle.layout.specs.Queues.{free_place, push_row, push_numbers, pop_row}

-- writing back what was read changes nothing
pub over_read : (l : List ℕ) (i n : ℕ) → i + n ≤ length l → over l i (take n (drop i l)) ≡ l
unfolding over
over_read l i n h =
    let e : length (take n (drop i l)) ≡ n = simp (length-take, length-drop) (omega arith) in
    ap (λ (k : ℕ). take i l ++ (take n (drop i l) ++ drop (i + k) l)) e
    ∙ ap (λ (r : List ℕ). take i l ++ (take n (drop i l) ++ r)) (sym (drop-drop n i l))
    ∙ ap (λ (r : List ℕ). take i l ++ r) (take-append-drop n (drop i l)) ∙ take-append-drop i l

drop_over : (l : List ℕ) (i j : ℕ) (vs : List ℕ) → i ≤ length l → j ≡ i + length vs → drop j (over l i vs) ≡ drop j l
unfolding over
drop_over l i j vs h e =
    let n : length (take i l ++ vs) ≡ j = simp length-append (ap (λ (k : ℕ). k + length vs) (length-take-le i l h) ∙ sym e) in
    ap (drop j) (sym (append_assoc (take i l) vs (drop (i + length vs) l))) ∙ drop_at (take i l ++ vs) (drop (i + length vs) l) j n ∙ ap (λ (k : ℕ). drop k l) (sym e)

-- words written, with what stands behind them, or before them, written back as it was read
pub kept_behind : (l : List ℕ) (i j n : ℕ) (vs : List ℕ) → j ≡ i + length vs → j + n ≤ length l → over l i vs ≡ over l i (vs ++ take n (drop j l))
kept_behind l i j n vs e h =
    let m : List ℕ = over l i vs in
    let same : length m ≡ length l = length_over l i vs (omega arith) in
    sym (over_read m j n (omega arith)) ∙ ap (λ (r : List ℕ). over m j (take n r)) (drop_over l i j vs (omega arith) e)
    ∙ over_over l i j vs (take n (drop j l)) (omega arith) e

pub kept_before : (l : List ℕ) (i j a : ℕ) (vs : List ℕ) → j ≡ i + a → j ≤ length l → over l j vs ≡ over l i (take a (drop i l) ++ vs)
kept_before l i j a vs e h =
    let n : length (take a (drop i l)) ≡ a = simp (length-take, length-drop) (omega arith) in
    ap (λ (m : List ℕ). over m j vs) (sym (over_read l i a (omega arith))) ∙ over_over l i j (take a (drop i l)) vs (omega arith) (omega arith)

-- written over the same part of lists that are alike outside it
over_same : (l m : List ℕ) (i n : ℕ) (vs : List ℕ) → length vs ≡ n → take i m ≡ take i l → drop (i + n) m ≡ drop (i + n) l → over m i vs ≡ over l i vs
unfolding over
over_same l m i n vs e p q =
    ap (λ (r : List ℕ). r ++ (vs ++ drop (i + length vs) m)) p
    ∙ ap (λ (r : List ℕ). take i l ++ (vs ++ r)) (ap (λ (k : ℕ). drop (i + k) m) e ∙ q ∙ ap (λ (k : ℕ). drop (i + k) l) (sym e))

-- the four numbers of a row
pub row_numbers : (l : List ℕ) (i : ℕ) → i + 12 ≤ length l → get_or l i 0 ∷ get_or l (i + 1) 0 ∷ get_or l (i + 2) 0 ∷ get_or l (i + 3) 0 ∷ [] ≡ take 4 (drop i l)
unfolding row_words row_at
row_numbers l i h = ap (take 4) (row_words_lem l i h) ∙ take-take 4 12 (drop i l) (omega arith)

-- one word of a part
pub set_part : (l : List ℕ) (i n w v : ℕ) → w < n → i + n ≤ length l → set l (i + w) v ≡ over l i (set (take n (drop i l)) w v)
set_part l i n w v b h =
    let m : List ℕ = set l (i + w) v in
    let same : length m ≡ length l = length-set l (i + w) v in
    let e : take n (drop i m) ≡ set (take n (drop i l)) w v = ap (take n) (drop-set-add i l w v) ∙ take-set-lt n (drop i l) w v b in
    sym (over_read m i n (omega arith)) ∙ ap (over m i) e ∙ over_same l m i n (set (take n (drop i l)) w v)
    (simp (length-set, length-take, length-drop) (omega arith)) (take-set-le i l (i + w) v (omega arith)) (drop-set-lt (i + n) l (i + w) v (omega arith))

-- a queue with one of its places written
pub first_put : (l m : List ℕ) (i : ℕ) (r : Row) → i + 24 ≤ length l → length r.words ≡ 8 → m ≡ over l i (row_words r) → m ≡ over l i (pair_words (record { a = r; b = row_at l (i + 12) }))
unfolding pair_words
first_put l m i r h n e =
    let k : length (row_words r) ≡ 12 = length_row r n in
    e ∙ kept_behind l i (i + 12) 12 (row_words r) (omega arith) (omega arith) ∙ ap (λ (z : List ℕ). over l i (row_words r ++ z)) (sym (row_words_lem l (i + 12) (omega arith)))

pub second_put : (l m : List ℕ) (i : ℕ) (r : Row) → i + 24 ≤ length l → m ≡ over l (i + 12) (row_words r) → m ≡ over l i (pair_words (record { a = row_at l i; b = r }))
unfolding pair_words
second_put l m i r h e =
    e ∙ kept_before l i (i + 12) 12 (row_words r) refl (omega arith) ∙ ap (λ (z : List ℕ). over l i (z ++ row_words r)) (sym (row_words_lem l i (omega arith)))

-- a row's numbers written, its words as they were
pub numbers_put : (l m : List ℕ) (i a b c d : ℕ) → i + 12 ≤ length l → m ≡ over l i (a ∷ b ∷ c ∷ d ∷ []) → m ≡ over l i (row_words (row a b c d (row_at l i).words))
unfolding row_words row_at
numbers_put l m i a b c d h e = e ∙ kept_behind l i (i + 4) 8 (a ∷ b ∷ c ∷ d ∷ []) refl (omega arith)

-- a queue with a message put, and with its front taken
push_first : (l m : List ℕ) (i : ℕ) (r : Row) → i + 24 ≤ length l → get_or l i 0 ≡ 0 → length r.words ≡ 8 → m ≡ over l i (row_words r) →
    (m ≡ over l i (pair_words (push_row (pair_at l i) r))) × PairFull (push_row (pair_at l i) r)
unfolding push_row pair_at row_at
push_first l m i r h e n e1 = rw (eq-eqb (get_or l i 0) 0 e) (first_put l m i r h n e1, record { first = n; second = row_full l (i + 12) (omega arith) })

push_second : (l m : List ℕ) (i : ℕ) (r : Row) → i + 24 ≤ length l → (get_or l i 0 ≡ 0 → ⊥) → length r.words ≡ 8 → m ≡ over l (i + 12) (row_words r) →
    (m ≡ over l i (pair_words (push_row (pair_at l i) r))) × PairFull (push_row (pair_at l i) r)
unfolding push_row pair_at row_at
push_second l m i r h e n e1 = rw (ne_eqb (get_or l i 0) 0 e) (second_put l m i r h e1, record { first = row_full l i (omega arith); second = n })

note_first : (l m : List ℕ) (i a b c d : ℕ) → i + 24 ≤ length l → get_or l i 0 ≡ 0 → m ≡ over l i (a ∷ b ∷ c ∷ d ∷ []) →
    (m ≡ over l i (pair_words (push_numbers (pair_at l i) a b c d))) × PairFull (push_numbers (pair_at l i) a b c d)
unfolding push_numbers pair_at row_at
note_first l m i a b c d h e e1 =
    let n = row_full l i (omega arith) in
    rw (eq-eqb (get_or l i 0) 0 e) (first_put l m i (row a b c d (row_at l i).words) h n (numbers_put l m i a b c d (omega arith) e1), record { first = n; second = row_full l (i + 12) (omega arith) })

note_second : (l m : List ℕ) (i a b c d : ℕ) → i + 24 ≤ length l → (get_or l i 0 ≡ 0 → ⊥) → m ≡ over l (i + 12) (a ∷ b ∷ c ∷ d ∷ []) →
    (m ≡ over l i (pair_words (push_numbers (pair_at l i) a b c d))) × PairFull (push_numbers (pair_at l i) a b c d)
unfolding push_numbers pair_at row_at
note_second l m i a b c d h e e1 =
    let n = row_full l (i + 12) (omega arith) in
    rw (ne_eqb (get_or l i 0) 0 e) (second_put l m i (row a b c d (row_at l (i + 12)).words) h (numbers_put l m (i + 12) a b c d (omega arith) e1), record { first = row_full l i (omega arith); second = n })

-- both at the first free place
module _ (l m : List ℕ) (i p : ℕ) (h : i + 24 ≤ length l) (e : p ≡ free_place l i) where
  pub pushed : (r : Row) → length r.words ≡ 8 → m ≡ over l p (row_words r) → (m ≡ over l i (pair_words (push_row (pair_at l i) r))) × PairFull (push_row (pair_at l i) r)
  unfolding free_place
  pushed r n w = go (eqb (get_or l i 0) 0) refl
    where
      go : (b : Bool) → eqb (get_or l i 0) 0 ≡ b → (m ≡ over l i (pair_words (push_row (pair_at l i) r))) × PairFull (push_row (pair_at l i) r)
      go true q = push_first l m i r h (eqb-true (get_or l i 0) 0 q) n (w ∙ ap (λ (k : ℕ). over l k (row_words r)) (e ∙ ap (λ (b : Bool). cond b i (i + 12)) q))
      go false q = push_second l m i r h (eqb-false (get_or l i 0) 0 q) n (w ∙ ap (λ (k : ℕ). over l k (row_words r)) (e ∙ ap (λ (b : Bool). cond b i (i + 12)) q))

  pub noted : (a b c d : ℕ) → m ≡ over l p (a ∷ b ∷ c ∷ d ∷ []) → (m ≡ over l i (pair_words (push_numbers (pair_at l i) a b c d))) × PairFull (push_numbers (pair_at l i) a b c d)
  unfolding free_place
  noted a b c d w = go (eqb (get_or l i 0) 0) refl
    where
      go : (t : Bool) → eqb (get_or l i 0) 0 ≡ t → (m ≡ over l i (pair_words (push_numbers (pair_at l i) a b c d))) × PairFull (push_numbers (pair_at l i) a b c d)
      go true q = note_first l m i a b c d h (eqb-true (get_or l i 0) 0 q) (w ∙ ap (λ (k : ℕ). over l k (a ∷ b ∷ c ∷ d ∷ [])) (e ∙ ap (λ (t : Bool). cond t i (i + 12)) q))
      go false q = note_second l m i a b c d h (eqb-false (get_or l i 0) 0 q) (w ∙ ap (λ (k : ℕ). over l k (a ∷ b ∷ c ∷ d ∷ [])) (e ∙ ap (λ (t : Bool). cond t i (i + 12)) q))

pub pop_last : (l m : List ℕ) (i : ℕ) (z : Row) → i + 24 ≤ length l → get_or l (i + 12) 0 ≡ 0 → z ≡ no_row → m ≡ over l i (row_words z) →
    (m ≡ over l i (pair_words (pop_row (pair_at l i)))) × PairFull (pop_row (pair_at l i))
unfolding pop_row pair_at row_at
pop_last l m i z h a k e =
    rw (eq-eqb (get_or l (i + 12) 0) 0 a) (first_put l m i no_row h refl (e ∙ ap (λ (r : Row). over l i (row_words r)) k), record { first = refl; second = row_full l (i + 12) (omega arith) })

pub pop_front : (l l1 l2 : List ℕ) (i : ℕ) (b z : Row) → i + 24 ≤ length l → (get_or l (i + 12) 0 ≡ 0 → ⊥) → b ≡ row_at l (i + 12) → l1 ≡ over l i (row_words b) → z ≡ no_row →
    l2 ≡ over l1 (i + 12) (row_words z) → (l2 ≡ over l i (pair_words (pop_row (pair_at l i)))) × PairFull (pop_row (pair_at l i))
unfolding pop_row pair_at row_at
pop_front l l1 l2 i b z h a e e1 k e2 =
    let p : Pair = record { a = row_at l (i + 12); b = no_row } in
    let f : PairFull p = record { first = row_full l (i + 12) (omega arith); second = refl } in
    rw (ne_eqb (get_or l (i + 12) 0) 0 a) (write_pair l l1 l2 i p h f (e1 ∙ ap (λ (r : Row). over l i (row_words r)) e) (e2 ∙ ap (λ (r : Row). over l1 (i + 12) (row_words r)) k), f)
