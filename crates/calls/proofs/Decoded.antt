-- Words that pass the test are laid out as the bench that they are read as. Assumes nothing.
use Prim.Native.Nat.{ℕ, suc, ◌+◌, ◌*◌, ◌%◌, ◌^◌, ◌≤◌, ◌<◌}
use mathlib.Core.Path.{◌≡◌, refl, ap, sym, ◌∙◌, subst}
use mathlib.Core.Bool.{Bool, cond, true, false, ◌&&◌, false≢true}
use mathlib.Core.List.{List, ◌++◌, append_assoc}
use native.Mathlib.Omega.{arith}
use lib.Dec.{leb, ltb}
use lib.ListN.{length, get_or, take, drop, take-append-drop}
use lib.Seq.{drop-drop}
use borrow.Author.Tests.{leb-true, ltb-true}
use Rattle.layout.specs.declared.rows.HomeBlock.{HomeBlock}
use Rattle.layout.specs.Blocks as blocks
use Rattle.layout.specs.Blocks.{bench_words, tile_block_words, home_block_words, home_block_at, TileFull, HomeFull}
use Rattle.layout.proofs.Over.{tile_words, home_words_lem}
use Rattle.layout.proofs.Reading.{tile_full, home_full}
use Rattle.protocol.specs.Parts.{Tile}
use Rattle.layout.specs.Encode.{enc_tile, enc_tiles, enc_home, encode}
use Rattle.layout.specs.Decode.{dec_tile, dec_tiles, dec_home, dec_queue, dec_to_memory, dec_from_memory, bench_from}
use Rattle.layout.specs.Canonical.{tile_ok, home_ok}
use Rattle.layout.proofs.Canonical.{both_true, tile_canonical, home_canonical}
use Rattle.calls.specs.Calls.{tiles_ok, well_formed}
use Rattle.calls.proofs.Laid.{AllFull, Laid, laid_encode}

cond_true : (a b : Bool) → cond a b false ≡ true → (a ≡ true) × (b ≡ true)
cond_true true b h = (refl, h)
cond_true false b h = absurd (false≢true h)

-- what the test finds
pub record Found (l : List ℕ) : Type 0 where
  pub long : 74 ≤ length l
  pub some : 0 < get_or l 0 0
  pub most : get_or l 0 0 ≤ 64
  pub enough : 74 + 84 * get_or l 0 0 ≤ length l
  pub home : home_ok (home_block_at l) ≡ true
  pub tiles : tiles_ok true l 74 (get_or l 0 0) ≡ true

pub found : (l : List ℕ) → well_formed l ≡ true → Found l
unfolding well_formed
found l h =
    let a = cond_true (leb 74 (length l)) _ h in
    let b = cond_true (ltb 0 (get_or l 0 0)) _ a.1 in
    let c = cond_true (leb (get_or l 0 0) 64) _ b.1 in
    let d = cond_true (leb (bench_words (get_or l 0 0)) (length l)) _ c.1 in
    let e = both_true (home_ok (home_block_at l)) _ d.1 in
    record { long = leb-true _ _ a.0; some = ltb-true _ _ b.0; most = leb-true _ _ c.0; enough = leb-true _ _ d.0; home = e.0; tiles = e.1 }

before : (a : Bool) (l : List ℕ) (i n : ℕ) → tiles_ok a l i n ≡ true → a ≡ true
unfolding tiles_ok
before a l i ℕ.zero h = h
before a l i (suc n) h = (both_true a (tile_ok (blocks.tile_block_at l i)) (before (a && tile_ok (blocks.tile_block_at l i)) l (i + 84) n h)).0

this : (a : Bool) (l : List ℕ) (i n : ℕ) → tiles_ok a l i (suc n) ≡ true → tile_ok (blocks.tile_block_at l i) ≡ true
unfolding tiles_ok
this a l i n h = (both_true a (tile_ok (blocks.tile_block_at l i)) (before (a && tile_ok (blocks.tile_block_at l i)) l (i + 84) n h)).1

pub count : (l : List ℕ) (i n : ℕ) → length (dec_tiles l i n) ≡ n
unfolding dec_tiles
count l i ℕ.zero = refl
count l i (suc n) = ap suc (count l (i + 84) n)

-- the tiles' blocks
stand : (a : Bool) (l : List ℕ) (i n : ℕ) → i + 84 * n ≤ length l → tiles_ok a l i n ≡ true → drop i l ≡ enc_tiles (dec_tiles l i n) ++ drop (i + 84 * n) l
unfolding enc_tiles dec_tiles tiles_ok
stand a l i ℕ.zero h t = let e : i ≡ i + 84 * 0 = omega arith in ap (λ (j : ℕ). drop j l) e
stand a l i (suc n) h t =
    let e : i + 84 * suc n ≡ i + 84 + 84 * n = omega arith in
    let w : tile_block_words (enc_tile (dec_tile (blocks.tile_block_at l i))) ≡ take 84 (drop i l) = ap tile_block_words (tile_canonical (blocks.tile_block_at l i) (this a l i n t)) ∙ tile_words l i (omega arith) in
    sym (take-append-drop 84 (drop i l))
    ∙ ap (λ (z : List ℕ). take 84 (drop i l) ++ z) (drop-drop 84 i l ∙ stand (a && tile_ok (blocks.tile_block_at l i)) l (i + 84) n (omega arith) t)
    ∙ ap (λ (z : List ℕ). z ++ (enc_tiles (dec_tiles l (i + 84) n) ++ drop (i + 84 + 84 * n) l)) (sym w)
    ∙ sym (append_assoc (tile_block_words (enc_tile (dec_tile (blocks.tile_block_at l i)))) (enc_tiles (dec_tiles l (i + 84) n)) (drop (i + 84 + 84 * n) l))
    ∙ ap (λ (j : ℕ). tile_block_words (enc_tile (dec_tile (blocks.tile_block_at l i))) ++ enc_tiles (dec_tiles l (i + 84) n) ++ drop j l) (sym e)

eights : (a : Bool) (l : List ℕ) (i n : ℕ) → i + 84 * n ≤ length l → tiles_ok a l i n ≡ true → AllFull (dec_tiles l i n)
unfolding dec_tiles tiles_ok
eights a l i ℕ.zero h t = tt
eights a l i (suc n) h t =
    (rw (tile_canonical (blocks.tile_block_at l i) (this a l i n t)) (tile_full l i (omega arith)), eights (a && tile_ok (blocks.tile_block_at l i)) l (i + 84) n (omega arith) t)

pub laid_out : (l : List ℕ) → Found l → Laid l (home_block_at l) (dec_tiles l 74 (get_or l 0 0)) (drop (bench_words (get_or l 0 0)) l)
laid_out l f =
    record {
      is = sym (take-append-drop 74 l) ∙ ap (λ (z : List ℕ). z ++ drop 74 l) (sym (home_words_lem l f.long)) ∙ ap (λ (z : List ℕ). home_block_words (home_block_at l) ++ z) (stand true l 74 (get_or l 0 0) f.enough f.tiles);
      full = home_full l f.long;
      tiles = eights true l 74 (get_or l 0 0) f.enough f.tiles;
    }

-- laid out with the home's block as it was, the words are the encoding of the bench with these tiles
pub encoded : (l m : List ℕ) (ts : List Tile) (r : List ℕ) → Found l → length ts ≡ get_or l 0 0 → Laid m (home_block_at l) ts r → m ≡ encode (bench_from (home_block_at l) ts) ++ r
unfolding bench_from home_block_at
encoded l m ts r f n laid =
    laid_encode m _ _ _ _ _ _ ts r
    (subst (λ (k : ℕ). Laid m (enc_home k (dec_home (home_block_at l).count (home_block_at l).phase (home_block_at l).line (home_block_at l).control.n2 (home_block_at l).control.n3) ((home_block_at l).control.n0 % (home_block_at l).count) ((home_block_at l).control.n1 % 2 ^ (home_block_at l).count) (home_block_at l).control.words (dec_queue dec_to_memory (home_block_at l).out) (dec_queue dec_from_memory (home_block_at l).back)) ts r) (sym n)
    (subst (λ (H : HomeBlock). Laid m H ts r) (sym (home_canonical (home_block_at l) f.home)) laid))
