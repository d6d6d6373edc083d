-- Laws of a list written over from a place, and of rows and blocks read and written. Assumes nothing.
use Prim.Native.Nat.{ℕ, suc, ◌+◌, ◌≤◌, ◌<◌}
use mathlib.Core.Path.{◌≡◌, refl, ap, sym, ◌∙◌, subst}
use mathlib.Core.List.{List, [], ◌∷◌, ◌++◌, append_assoc}
use native.Mathlib.Omega.{arith}
use native.Mathlib.Nat.{add_assoc}
use native.Mathlib.Numerals.{add-one}
use lib.ListN.{length, get_or, set, take, drop, length-append}
use lib.Seq.{sets, sets-eq, paste, paste-suc, drop-drop, drop-cons, take-add, take_all, take-length}
use Rattle.lists.specs.Over.{over}
use Rattle.lists.proofs.OverLaws.{then_over}
use Rattle.layout.specs.declared.rows.Row.{Row}
use Rattle.layout.specs.declared.rows.Pair.{Pair}
use Rattle.layout.specs.declared.rows.TileBlock.{TileBlock}
use Rattle.layout.specs.declared.rows.HomeBlock.{HomeBlock}
use Rattle.layout.specs.Blocks.{row_at, pair_at, tile_block_at, home_block_at, row_words, pair_words, tile_block_words, home_block_words, PairFull, TileFull, HomeFull}

pub sets_over : (l : List ℕ) (i : ℕ) (vs : List ℕ) → i + length vs ≤ length l → sets l i vs ≡ over l i vs
unfolding over
sets_over l i vs h = sets-eq vs l i h ∙ append_assoc (take i l) vs (drop (i + length vs) l)

-- n numbers read one after the other from place j
abbrev pub reads : ℕ → List ℕ → ℕ → List ℕ
reads ℕ.zero l j = []
reads (suc n) l j = get_or l j 0 ∷ reads n l (suc j)

take_drop : (n : ℕ) (l : List ℕ) (j : ℕ) → j + n ≤ length l → take n (drop j l) ≡ reads n l j
take_drop ℕ.zero l j h = refl
take_drop (suc n) l j h =
    let k : j < length l = omega arith in
    rw (drop-cons l j 0 k) (ap (λ (r : List ℕ). get_or l j 0 ∷ r) (take_drop n l (suc j) (omega arith)))

-- One turn of a loop that writes numbers one after the other, and its end.
pub write_turn : (l m d : List ℕ) (at i : ℕ) → i < length d → at + i < length l → m ≡ paste l at d i → set m (at + i) (get_or d i 0) ≡ paste l at d (i + 1)
write_turn l m d at i h k e = rw add-one (ap (λ (r : List ℕ). set r (at + i) (get_or d i 0)) e ∙ paste-suc l at d i 0 k h)

pub write_end : (l m d : List ℕ) (at i : ℕ) → i ≡ length d → m ≡ paste l at d i → m ≡ over l at d
unfolding over
write_end l m d at i k e =
    subst (λ (j : ℕ). m ≡ paste l at d j) k e ∙ ap (λ (r : List ℕ). take at l ++ r ++ drop (at + length d) l) (take-length d) ∙ append_assoc (take at l) d (drop (at + length d) l)

-- two parts that stand one after the other
pub join : (l : List ℕ) (i j m n : ℕ) {xs ys : List ℕ} → j ≡ i + m → xs ≡ take m (drop i l) → ys ≡ take n (drop j l) → xs ++ ys ≡ take (m + n) (drop i l)
join l i j m n {xs} {ys} e p q = rw (p, q, e) (ap (λ (r : List ℕ). take m (drop i l) ++ take n r) (sym (drop-drop m i l)) ∙ sym (take-add m n (drop i l)))

-- the words of what is read at a place are the words that stand there
pub row_words_lem : (l : List ℕ) (i : ℕ) → i + 12 ≤ length l → row_words (row_at l i) ≡ take 12 (drop i l)
unfolding row_at row_words
row_words_lem l i h = join l i (i + 4) 4 8 refl (sym (simp (← add-one, add_assoc) at (take_drop 4 l i (omega arith)))) refl

pub pair_words_lem : (l : List ℕ) (i : ℕ) → i + 24 ≤ length l → pair_words (pair_at l i) ≡ take 24 (drop i l)
unfolding pair_at pair_words
pair_words_lem l i h = join l i (i + 12) 12 12 refl (row_words_lem l i (omega arith)) (row_words_lem l (i + 12) (omega arith))

pub tile_words : (l : List ℕ) (i : ℕ) → i + 84 ≤ length l → tile_block_words (tile_block_at l i) ≡ take 84 (drop i l)
unfolding tile_block_at tile_block_words
tile_words l i h =
    join l i (i + 12) 12 72 refl (row_words_lem l i (omega arith))
    (join l (i + 12) (i + 36) 24 48 (omega arith) (pair_words_lem l (i + 12) (omega arith))
    (join l (i + 36) (i + 60) 24 24 (omega arith) (pair_words_lem l (i + 36) (omega arith)) (pair_words_lem l (i + 60) (omega arith))))

pub home_words_lem : (l : List ℕ) → 74 ≤ length l → home_block_words (home_block_at l) ≡ take 74 l
unfolding home_block_at home_block_words
home_words_lem l h =
    join l 0 2 2 72 refl (sym (take_drop 2 l 0 (omega arith)))
    (join l 2 14 12 60 refl (row_words_lem l 2 (omega arith))
    (join l 14 26 12 48 refl (row_words_lem l 14 (omega arith))
    (join l 26 50 24 24 refl (pair_words_lem l 26 (omega arith)) (pair_words_lem l 50 (omega arith)))))

-- the first eight elements of a list, and a list of eight
pub first_eight : (l : List ℕ) → 8 ≤ length l → take 8 l ≡ get_or l 0 0 ∷ get_or l 1 0 ∷ get_or l 2 0 ∷ get_or l 3 0 ∷ get_or l 4 0 ∷ get_or l 5 0 ∷ get_or l 6 0 ∷ get_or l 7 0 ∷ []
first_eight l h = take_drop 8 l 0 (omega arith)

pub eight : (l : List ℕ) → length l ≡ 8 → l ≡ get_or l 0 0 ∷ get_or l 1 0 ∷ get_or l 2 0 ∷ get_or l 3 0 ∷ get_or l 4 0 ∷ get_or l 5 0 ∷ get_or l 6 0 ∷ get_or l 7 0 ∷ []
eight l h = sym (take_all 8 l (omega arith)) ∙ first_eight l (omega arith)

pub length_row : (r : Row) → length r.words ≡ 8 → length (row_words r) ≡ 12
unfolding row_words
length_row r n = rw n

pub write_row : (l l1 l2 : List ℕ) (i : ℕ) (r : Row) → i + 12 ≤ length l → l1 ≡ over l i (r.n0 ∷ r.n1 ∷ r.n2 ∷ r.n3 ∷ []) → l2 ≡ over l1 (i + 4) r.words → l2 ≡ over l i (row_words r)
unfolding row_words
write_row l l1 l2 i r h e1 e2 = then_over l l1 l2 i (i + 4) _ _ (omega arith) refl e1 e2

pub length_pair : (p : Pair) → PairFull p → length (pair_words p) ≡ 24
unfolding pair_words
length_pair p f = length-append (row_words p.a) (row_words p.b) ∙ rw (length_row p.a f.first, length_row p.b f.second)

pub write_pair : (l l1 l2 : List ℕ) (i : ℕ) (p : Pair) → i + 24 ≤ length l → PairFull p → l1 ≡ over l i (row_words p.a) → l2 ≡ over l1 (i + 12) (row_words p.b) → l2 ≡ over l i (pair_words p)
unfolding pair_words
write_pair l l1 l2 i p h f e1 e2 = then_over l l1 l2 i (i + 12) _ _ (omega arith) (rw (length_row p.a f.first)) e1 e2

pub length_tile : (x : TileBlock) → TileFull x → length (tile_block_words x) ≡ 84
unfolding tile_block_words
length_tile x f =
    simp length-append (rw (length_row x.head f.head_full, length_pair x.noc1 f.noc1_full, length_pair x.noc2 f.noc2_full, length_pair x.noc3 f.noc3_full))

pub write_tile : (l l1 l2 l3 l4 : List ℕ) (i : ℕ) (x : TileBlock) → i + 84 ≤ length l → TileFull x → l1 ≡ over l i (row_words x.head) →
    l2 ≡ over l1 (i + 12) (pair_words x.noc1) → l3 ≡ over l2 (i + 36) (pair_words x.noc2) → l4 ≡ over l3 (i + 60) (pair_words x.noc3) → l4 ≡ over l i (tile_block_words x)
unfolding tile_block_words
write_tile l l1 l2 l3 l4 i x h f e1 e2 e3 e4 =
    let n0 : length (row_words x.head) ≡ 12 = length_row x.head f.head_full in
    let n1 : length (pair_words x.noc1) ≡ 24 = length_pair x.noc1 f.noc1_full in
    let n2 : length (pair_words x.noc2) ≡ 24 = length_pair x.noc2 f.noc2_full in
    then_over l l3 l4 i (i + 60) _ _ (omega arith) (simp length-append (omega arith))
    (then_over l l2 l3 i (i + 36) _ _ (omega arith) (simp length-append (omega arith)) (then_over l l1 l2 i (i + 12) _ _ (omega arith) (omega arith) e1 e2) e3) e4
    ∙ ap (over l i) (simp append_assoc)

pub length_home : (x : HomeBlock) → HomeFull x → length (home_block_words x) ≡ 74
unfolding home_block_words
length_home x f =
    simp length-append (rw (length_row x.line f.line_full, length_row x.control f.control_full, length_pair x.out f.out_full, length_pair x.back f.back_full))

pub write_home : (l l1 l2 l3 l4 l5 : List ℕ) (x : HomeBlock) → 74 ≤ length l → HomeFull x → l1 ≡ over l 0 (x.count ∷ x.phase ∷ []) → l2 ≡ over l1 2 (row_words x.line) →
    l3 ≡ over l2 14 (row_words x.control) → l4 ≡ over l3 26 (pair_words x.out) → l5 ≡ over l4 50 (pair_words x.back) → l5 ≡ over l 0 (home_block_words x)
unfolding home_block_words
write_home l l1 l2 l3 l4 l5 x h f e1 e2 e3 e4 e5 =
    let n0 : length (row_words x.line) ≡ 12 = length_row x.line f.line_full in
    let n1 : length (row_words x.control) ≡ 12 = length_row x.control f.control_full in
    let n2 : length (pair_words x.out) ≡ 24 = length_pair x.out f.out_full in
    then_over l l4 l5 0 50 _ _ (omega arith) (simp length-append (omega arith))
    (then_over l l3 l4 0 26 _ _ (omega arith) (simp length-append (omega arith))
    (then_over l l2 l3 0 14 _ _ (omega arith) (simp length-append (omega arith)) (then_over l l1 l2 0 2 _ _ (omega arith) refl e1 e2) e3) e4) e5
    ∙ ap (over l 0) (simp append_assoc)
