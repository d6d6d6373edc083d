-- What is read where the words of a block stand is that block. Assumes nothing.
use Prim.Native.Nat.{ℕ, ◌+◌, ◌≤◌}
use mathlib.Core.Path.{◌≡◌, refl, ap, sym, ◌∙◌}
use mathlib.Core.List.{List, [], ◌∷◌, ◌++◌, append_assoc}
use native.Mathlib.Omega.{arith}
use native.Mathlib.Nat.{add_assoc}
use lib.ListN.{length, get_or, take, drop, length-append, length-take, length-drop}
use lib.Seq.{take-append-add, drop-append-add, get_or-append-add, take_at, drop_at}
use Rattle.lists.specs.Over.{over}
use Rattle.layout.specs.declared.rows.Row.{Row}
use Rattle.layout.specs.declared.rows.Pair.{Pair}
use Rattle.layout.specs.declared.rows.TileBlock.{TileBlock}
use Rattle.layout.specs.declared.rows.HomeBlock.{HomeBlock}
use Rattle.layout.specs.Blocks.{row_at, pair_at, tile_block_at, home_block_at, row_words, pair_words, tile_block_words, home_block_words, PairFull, TileFull, HomeFull}
use Rattle.layout.proofs.Over.{length_row, length_pair}

-- behind a list A, everything is read at places further on
module _ (A l : List ℕ) where
  get_behind : (i k : ℕ) → get_or (A ++ l) (length A + i + k) 0 ≡ get_or l (i + k) 0
  get_behind i k = rw (add_assoc (length A) i k) (get_or-append-add A l (i + k) 0)

  pub row_behind : (i : ℕ) → row_at (A ++ l) (length A + i) ≡ row_at l i
  unfolding row_at
  row_behind i =
      let p0 = get_or-append-add A l i 0 in
      let p1 = get_behind i 1 in
      let p2 = get_behind i 2 in
      let p3 = get_behind i 3 in
      let p4 : take 8 (drop (length A + i + 4) (A ++ l)) ≡ take 8 (drop (i + 4) l) = rw (add_assoc (length A) i 4) (ap (take 8) (drop-append-add A l (i + 4))) in
      λ j. record { n0 = p0 j; n1 = p1 j; n2 = p2 j; n3 = p3 j; words = p4 j }

  pub pair_behind : (i : ℕ) → pair_at (A ++ l) (length A + i) ≡ pair_at l i
  unfolding pair_at
  pair_behind i =
      let p = row_behind i in
      let q : row_at (A ++ l) (length A + i + 12) ≡ row_at l (i + 12) = rw (add_assoc (length A) i 12) (row_behind (i + 12)) in
      λ j. record { a = p j; b = q j }

  pub tile_behind : (i : ℕ) → tile_block_at (A ++ l) (length A + i) ≡ tile_block_at l i
  unfolding tile_block_at
  tile_behind i =
      let p = row_behind i in
      let q : pair_at (A ++ l) (length A + i + 12) ≡ pair_at l (i + 12) = rw (add_assoc (length A) i 12) (pair_behind (i + 12)) in
      let r : pair_at (A ++ l) (length A + i + 36) ≡ pair_at l (i + 36) = rw (add_assoc (length A) i 36) (pair_behind (i + 36)) in
      let s : pair_at (A ++ l) (length A + i + 60) ≡ pair_at l (i + 60) = rw (add_assoc (length A) i 60) (pair_behind (i + 60)) in
      λ j. record { head = p j; noc1 = q j; noc2 = r j; noc3 = s j }

-- at the front
pub row_front : (r : Row) (l : List ℕ) → length r.words ≡ 8 → row_at (row_words r ++ l) 0 ≡ r
unfolding row_at row_words
row_front r l n = let p = take_at r.words l 8 n in λ j. record { n0 = r.n0; n1 = r.n1; n2 = r.n2; n3 = r.n3; words = p j }

-- behind a list of n words
row_at_lem : (A l : List ℕ) (n : ℕ) → length A ≡ n → row_at (A ++ l) n ≡ row_at l 0
row_at_lem A l n e = ap (row_at (A ++ l)) (sym e ∙ omega arith) ∙ row_behind A l 0

pair_at_lem : (A l : List ℕ) (n : ℕ) → length A ≡ n → pair_at (A ++ l) n ≡ pair_at l 0
pair_at_lem A l n e = ap (pair_at (A ++ l)) (sym e ∙ omega arith) ∙ pair_behind A l 0

pub pair_front : (p : Pair) (l : List ℕ) → PairFull p → pair_at (pair_words p ++ l) 0 ≡ p
unfolding pair_at pair_words
pair_front p l f =
    let x : row_at (row_words p.a ++ row_words p.b ++ l) 0 ≡ p.a = rw append_assoc (row_front p.a (row_words p.b ++ l) f.first) in
    let y : row_at (row_words p.a ++ row_words p.b ++ l) 12 ≡ p.b =
    rw append_assoc (row_at_lem (row_words p.a) (row_words p.b ++ l) 12 (length_row p.a f.first) ∙ row_front p.b l f.second) in
    λ j. record { a = x j; b = y j }

pub tile_front : (x : TileBlock) (l : List ℕ) → TileFull x → tile_block_at (tile_block_words x ++ l) 0 ≡ x
unfolding tile_block_at tile_block_words
tile_front x l f =
    let H : List ℕ = row_words x.head in
    let P : List ℕ = pair_words x.noc1 in
    let Q : List ℕ = pair_words x.noc2 in
    let R : List ℕ = pair_words x.noc3 in
    let h : length H ≡ 12 = length_row x.head f.head_full in
    let p : length P ≡ 24 = length_pair x.noc1 f.noc1_full in
    let q : length Q ≡ 24 = length_pair x.noc2 f.noc2_full in
    let e0 : H ++ (P ++ (Q ++ R)) ++ l ≡ H ++ (P ++ (Q ++ (R ++ l))) = simp append_assoc in
    let e2 : H ++ (P ++ (Q ++ R)) ++ l ≡ H ++ P ++ (Q ++ (R ++ l)) = simp append_assoc in
    let e3 : H ++ (P ++ (Q ++ R)) ++ l ≡ H ++ P ++ Q ++ (R ++ l) = simp append_assoc in
    let a : row_at (H ++ (P ++ (Q ++ R)) ++ l) 0 ≡ x.head = ap (λ (y : List ℕ). row_at y 0) e0 ∙ row_front x.head _ f.head_full in
    let b : pair_at (H ++ (P ++ (Q ++ R)) ++ l) 12 ≡ x.noc1 = ap (λ (y : List ℕ). pair_at y 12) e0 ∙ pair_at_lem H _ 12 h ∙ pair_front x.noc1 _ f.noc1_full in
    let c : pair_at (H ++ (P ++ (Q ++ R)) ++ l) 36 ≡ x.noc2 =
    ap (λ (y : List ℕ). pair_at y 36) e2 ∙ pair_at_lem (H ++ P) _ 36 (simp length-append (omega arith)) ∙ pair_front x.noc2 _ f.noc2_full in
    let d : pair_at (H ++ (P ++ (Q ++ R)) ++ l) 60 ≡ x.noc3 =
    ap (λ (y : List ℕ). pair_at y 60) e3 ∙ pair_at_lem (H ++ P ++ Q) _ 60 (simp length-append (omega arith)) ∙ pair_front x.noc3 _ f.noc3_full in
    λ j. record { head = a j; noc1 = b j; noc2 = c j; noc3 = d j }

pub tile_at_lem : (A l : List ℕ) (x : TileBlock) (n : ℕ) → length A ≡ n → TileFull x → tile_block_at (A ++ (tile_block_words x ++ l)) n ≡ x
tile_at_lem A l x n e f = ap (tile_block_at (A ++ (tile_block_words x ++ l))) (sym e ∙ omega arith) ∙ tile_behind A (tile_block_words x ++ l) 0 ∙ tile_front x l f

pub home_front : (x : HomeBlock) (l : List ℕ) → HomeFull x → home_block_at (home_block_words x ++ l) ≡ x
unfolding home_block_at home_block_words
home_front x l f =
    let S : List ℕ = x.count ∷ x.phase ∷ [] in
    let H : List ℕ = row_words x.line in
    let K : List ℕ = row_words x.control in
    let P : List ℕ = pair_words x.out in
    let Q : List ℕ = pair_words x.back in
    let h : length H ≡ 12 = length_row x.line f.line_full in
    let k : length K ≡ 12 = length_row x.control f.control_full in
    let p : length P ≡ 24 = length_pair x.out f.out_full in
    let e0 : S ++ (H ++ (K ++ (P ++ Q))) ++ l ≡ S ++ (H ++ (K ++ (P ++ (Q ++ l)))) = simp append_assoc in
    let e1 : S ++ (H ++ (K ++ (P ++ Q))) ++ l ≡ S ++ H ++ (K ++ (P ++ (Q ++ l))) = simp append_assoc in
    let e2 : S ++ (H ++ (K ++ (P ++ Q))) ++ l ≡ S ++ H ++ K ++ (P ++ (Q ++ l)) = simp append_assoc in
    let e3 : S ++ (H ++ (K ++ (P ++ Q))) ++ l ≡ S ++ H ++ K ++ P ++ (Q ++ l) = simp append_assoc in
    let a : row_at (S ++ (H ++ (K ++ (P ++ Q))) ++ l) 2 ≡ x.line = ap (λ (y : List ℕ). row_at y 2) e0 ∙ row_at_lem S _ 2 refl ∙ row_front x.line _ f.line_full in
    let b : row_at (S ++ (H ++ (K ++ (P ++ Q))) ++ l) 14 ≡ x.control =
    ap (λ (y : List ℕ). row_at y 14) e1 ∙ row_at_lem (S ++ H) _ 14 (simp length-append (omega arith)) ∙ row_front x.control _ f.control_full in
    let c : pair_at (S ++ (H ++ (K ++ (P ++ Q))) ++ l) 26 ≡ x.out =
    ap (λ (y : List ℕ). pair_at y 26) e2 ∙ pair_at_lem (S ++ H ++ K) _ 26 (simp length-append (omega arith)) ∙ pair_front x.out _ f.out_full in
    let d : pair_at (S ++ (H ++ (K ++ (P ++ Q))) ++ l) 50 ≡ x.back =
    ap (λ (y : List ℕ). pair_at y 50) e3 ∙ pair_at_lem (S ++ H ++ K ++ P) _ 50 (simp length-append (omega arith)) ∙ pair_front x.back _ f.back_full in
    λ j. record { count = x.count; phase = x.phase; line = a j; control = b j; out = c j; back = d j }

-- what is read has rows of eight words
pub row_full : (l : List ℕ) (i : ℕ) → i + 12 ≤ length l → length (row_at l i).words ≡ 8
unfolding row_at
row_full l i h = simp (length-take, length-drop) (omega arith)

pub pair_full : (l : List ℕ) (i : ℕ) → i + 24 ≤ length l → PairFull (pair_at l i)
unfolding pair_at
pair_full l i h = record { first = row_full l i (omega arith); second = row_full l (i + 12) (omega arith) }

pub tile_full : (l : List ℕ) (i : ℕ) → i + 84 ≤ length l → TileFull (tile_block_at l i)
unfolding tile_block_at
tile_full l i h =
    record { head_full = row_full l i (omega arith); noc1_full = pair_full l (i + 12) (omega arith); noc2_full = pair_full l (i + 36) (omega arith); noc3_full = pair_full l (i + 60) (omega arith) }

pub home_full : (l : List ℕ) → 74 ≤ length l → HomeFull (home_block_at l)
unfolding home_block_at
home_full l h =
    record { line_full = row_full l 2 (omega arith); control_full = row_full l 14 (omega arith); out_full = pair_full l 26 (omega arith); back_full = pair_full l 50 (omega arith) }

-- a list written over behind another
pub over_behind : (A l : List ℕ) (i : ℕ) (vs : List ℕ) → over (A ++ l) (length A + i) vs ≡ A ++ over l i vs
unfolding over
over_behind A l i vs =
    rw (add_assoc (length A) i (length vs), take-append-add A l i, drop-append-add A l (i + length vs)) (append_assoc A (take i l) (vs ++ drop (i + length vs) l))

pub over_front : (xs vs l : List ℕ) → length xs ≡ length vs → over (xs ++ l) 0 vs ≡ vs ++ l
unfolding over
over_front xs vs l e = ap (λ (r : List ℕ). vs ++ r) (drop_at xs l (0 + length vs) (omega arith))
