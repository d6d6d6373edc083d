-- How a bench is laid out in its words, and what reading and writing a block of it does. Assumes nothing.
use Prim.Native.Nat.{ℕ, suc, ◌+◌, ◌*◌, ◌≤◌, ◌<◌}
use mathlib.Core.Path.{◌≡◌, refl, ap, sym, ◌∙◌}
use mathlib.Core.List.{List, [], ◌∷◌, ◌++◌, append_assoc}
use native.Mathlib.Omega.{arith}
use lib.ListN.{length, set, length-append}
use Rattle.lists.specs.Over.{over}
use Rattle.layout.specs.declared.rows.HomeBlock.{HomeBlock}
use Rattle.layout.specs.Blocks as blocks
use Rattle.layout.specs.Blocks.{bench_words, tile_block_words, home_block_words, home_block_at, TileFull, HomeFull}
use Rattle.layout.proofs.Over.{length_tile, length_home}
use Rattle.layout.proofs.Reading.{tile_at_lem, tile_behind, home_front, over_behind, over_front}
use Rattle.protocol.specs.Parts.{Words, Queue, Tile, ToMemory, FromMemory, Home, bench_of}
use Rattle.protocol.specs.Bench.{tile_at}
use Rattle.layout.specs.Encode.{enc_tile, enc_tiles, enc_home, encode}

-- each tile's block has rows of eight words
abbrev pub AllFull : List Tile → Type 0
AllFull [] = Unit {0}
AllFull (x ∷ ts) = TileFull (enc_tile x) × AllFull ts

-- the words l are the home's block H, the tiles' blocks and the words behind the bench
pub record Laid (l : List ℕ) (H : HomeBlock) (ts : List Tile) (behind : List ℕ) : Type 0 where
  pub is : l ≡ home_block_words H ++ (enc_tiles ts ++ behind)
  pub full : HomeFull H
  pub tiles : AllFull ts

full_set : (ts : List Tile) (t : ℕ) (y : Tile) → AllFull ts → TileFull (enc_tile y) → AllFull (set ts t y)
full_set [] t y f g = f
full_set (x ∷ ts) ℕ.zero y f g = (g, f.1)
full_set (x ∷ ts) (suc t) y f g = (f.0, full_set ts t y f.1 g)

-- tile t replaced in the words is tile t replaced in the list
tiles_set : (ts : List Tile) (t : ℕ) (y : Tile) (r : List ℕ) → t < length ts → AllFull ts → TileFull (enc_tile y) →
    over (enc_tiles ts ++ r) (84 * t) (tile_block_words (enc_tile y)) ≡ enc_tiles (set ts t y) ++ r
unfolding enc_tiles
tiles_set [] t y r h f g = absurd (omega arith)
tiles_set (x ∷ ts) ℕ.zero y r h f g =
    rw append_assoc (over_front (tile_block_words (enc_tile x)) (tile_block_words (enc_tile y)) (enc_tiles ts ++ r) (length_tile (enc_tile x) f.0 ∙ sym (length_tile (enc_tile y) g)) ∙ sym (append_assoc (tile_block_words (enc_tile y)) (enc_tiles ts) r))
tiles_set (x ∷ ts) (suc t) y r h f g =
    let n : length (tile_block_words (enc_tile x)) ≡ 84 = length_tile (enc_tile x) f.0 in
    let e : 84 * suc t ≡ length (tile_block_words (enc_tile x)) + 84 * t = omega arith in
    rw append_assoc (ap (λ (i : ℕ). over (tile_block_words (enc_tile x) ++ (enc_tiles ts ++ r)) i (tile_block_words (enc_tile y))) e ∙ over_behind (tile_block_words (enc_tile x)) (enc_tiles ts ++ r) (84 * t) (tile_block_words (enc_tile y))
    ∙ ap (λ (z : List ℕ). tile_block_words (enc_tile x) ++ z) (tiles_set ts t y r (omega arith) f.1 g) ∙ sym (append_assoc (tile_block_words (enc_tile x)) (enc_tiles (set ts t y)) r))

-- the block read at tile t's place is tile t's
tiles_get : (ts : List Tile) (t : ℕ) (r : List ℕ) → t < length ts → AllFull ts → blocks.tile_block_at (enc_tiles ts ++ r) (84 * t) ≡ enc_tile (tile_at ts t)
unfolding enc_tiles
tiles_get [] t r h f = absurd (omega arith)
tiles_get (x ∷ ts) ℕ.zero r h f = rw append_assoc (tile_at_lem [] (enc_tiles ts ++ r) (enc_tile x) 0 refl f.0)
tiles_get (x ∷ ts) (suc t) r h f =
    let n : length (tile_block_words (enc_tile x)) ≡ 84 = length_tile (enc_tile x) f.0 in
    let e : 84 * suc t ≡ length (tile_block_words (enc_tile x)) + 84 * t = omega arith in
    rw append_assoc (ap (blocks.tile_block_at (tile_block_words (enc_tile x) ++ (enc_tiles ts ++ r))) e ∙ tile_behind (tile_block_words (enc_tile x)) (enc_tiles ts ++ r) (84 * t) ∙ tiles_get ts t r (omega arith) f.1)

pub length_tiles : (ts : List Tile) → AllFull ts → length (enc_tiles ts) ≡ 84 * length ts
unfolding enc_tiles
length_tiles [] f = refl
length_tiles (x ∷ ts) f =
    let n : length (tile_block_words (enc_tile x)) ≡ 84 = length_tile (enc_tile x) f.0 in
    let m : length (enc_tiles ts) ≡ 84 * length ts = length_tiles ts f.1 in
    length-append (tile_block_words (enc_tile x)) (enc_tiles ts) ∙ omega arith

module _ (l : List ℕ) (H : HomeBlock) (ts : List Tile) (r : List ℕ) (laid : Laid l H ts r) where
  pub laid_length : 74 + 84 * length ts ≤ length l
  laid_length =
      let n : length (home_block_words H) ≡ 74 = length_home H laid.full in
      let m : length (enc_tiles ts) ≡ 84 * length ts = length_tiles ts laid.tiles in
      rw laid.is (simp length-append (omega arith))

  pub laid_home : home_block_at l ≡ H
  laid_home = rw laid.is (home_front H (enc_tiles ts ++ r) laid.full)

  pub laid_tile : (t : ℕ) → t < length ts → blocks.tile_block_at l (74 + 84 * t) ≡ enc_tile (tile_at ts t)
  laid_tile t h =
      let e : 74 + 84 * t ≡ length (home_block_words H) + 84 * t = omega (arith, length_home H laid.full) in
      rw laid.is (ap (blocks.tile_block_at (home_block_words H ++ (enc_tiles ts ++ r))) e ∙ tile_behind (home_block_words H) (enc_tiles ts ++ r) (84 * t) ∙ tiles_get ts t r h laid.tiles)

  pub write_home : (G : HomeBlock) → HomeFull G → Laid (over l 0 (home_block_words G)) G ts r
  write_home G g =
      record { is = rw laid.is (over_front (home_block_words H) (home_block_words G) (enc_tiles ts ++ r) (length_home H laid.full ∙ sym (length_home G g))); full = g; tiles = laid.tiles }

  pub write_tile : (t : ℕ) (y : Tile) → t < length ts → TileFull (enc_tile y) → Laid (over l (74 + 84 * t) (tile_block_words (enc_tile y))) H (set ts t y) r
  write_tile t y h g =
      let e : 74 + 84 * t ≡ length (home_block_words H) + 84 * t = omega (arith, length_home H laid.full) in
      record {
        is = rw laid.is (ap (λ (i : ℕ). over (home_block_words H ++ (enc_tiles ts ++ r)) i (tile_block_words (enc_tile y))) e ∙ over_behind (home_block_words H) (enc_tiles ts ++ r) (84 * t) (tile_block_words (enc_tile y))
            ∙ ap (λ (z : List ℕ). home_block_words H ++ z) (tiles_set ts t y r h laid.tiles g));
        full = laid.full;
        tiles = full_set ts t y laid.tiles g;
      }

-- laid out as the encoding of a bench
pub laid_encode : (l : List ℕ) (h : Home) (t k : ℕ) (mem : Words) (out : Queue ToMemory) (back : Queue FromMemory) (ts : List Tile) (r : List ℕ) →
    Laid l (enc_home (length ts) h t k mem out back) ts r → l ≡ encode (bench_of h t k mem out back ts) ++ r
unfolding encode
laid_encode l h t k mem out back ts r laid = laid.is ∙ sym (append_assoc (home_block_words (enc_home (length ts) h t k mem out back)) (enc_tiles ts) r)
