-- Words are well formed exactly if they begin with the encoding of a bench in range, and then they are the encoding of what they
-- decode to. Assumes nothing.
use Prim.Native.Nat.{ℕ, suc, ◌+◌, ◌*◌, ◌≤◌, ◌<◌}
use mathlib.Core.Path.{◌≡◌, refl, ap, ap₂, sym, ◌∙◌, subst}
use mathlib.Core.Bool.{Bool, true, ◌&&◌}
use mathlib.Core.List.{List, [], ◌∷◌, ◌++◌, append_assoc}
use native.Mathlib.Omega.{arith}
use lib.ListN.{length, get_or, drop, length-append}
use lib.Seq.{drop_at}
use borrow.Author.Tests.{le-leb, lt-ltb}
use Rattle.layout.specs.declared.rows.HomeBlock.{HomeBlock}
use Rattle.layout.specs.Blocks as blocks
use Rattle.layout.specs.Blocks.{bench_words, home_block_words, home_block_at, HomeFull}
use Rattle.layout.proofs.Over.{length_home}
use Rattle.layout.proofs.Reading.{tile_full, home_full}
use Rattle.protocol.specs.Parts.{Words, Queue, Tile, ToMemory, FromMemory, Home, Bench, bench_of}
use Rattle.protocol.specs.Bench.{tile_at}
use Rattle.layout.specs.Encode.{enc_tile, enc_tiles, enc_home, encode}
use Rattle.layout.specs.Decode.{dec_tile, dec_tiles, bench_from, decoded}
use Rattle.layout.specs.Canonical.{tile_ok}
use Rattle.layout.specs.Range.{TilesIn, BenchIn, InRange}
use Rattle.layout.proofs.Laws.{both}
use Rattle.layout.proofs.RangeKept.{tile_in}
use Rattle.layout.proofs.Round.{tile_round, tile_passes, tile_eight, tile_read, home_passes, home_eight, bench_round, bench_read}
use Rattle.calls.specs.Calls.{tiles_ok, well_formed}
use Rattle.theorems.specs.WellFormed.{WellFormedStatement}
use Rattle.calls.proofs.Laid.{AllFull, Laid, length_tiles, laid_length, laid_home, laid_tile}
use Rattle.calls.proofs.Decoded.{Found, found, count, laid_out, encoded}

-- ---- from a bench to its words and back

-- what the test finds makes it pass
found_passes : (l : List ℕ) → Found l → well_formed l ≡ true
unfolding well_formed
found_passes l f = rw (le-leb 74 (length l) f.long, lt-ltb 0 (get_or l 0 0) f.some, le-leb (get_or l 0 0) 64 f.most, le-leb (bench_words (get_or l 0 0)) (length l) f.enough) (both f.home f.tiles)

tiles_pass : (a : Bool) (l : List ℕ) (i n : ℕ) → a ≡ true → ((t : ℕ) → t < n → tile_ok (blocks.tile_block_at l (i + 84 * t)) ≡ true) → tiles_ok a l i n ≡ true
unfolding tiles_ok
tiles_pass a l i ℕ.zero e f = e
tiles_pass a l i (suc n) e f =
    let first : i + 84 * 0 ≡ i = omega arith in
    tiles_pass (a && tile_ok (blocks.tile_block_at l i)) l (i + 84) n (both e (subst (λ (j : ℕ). tile_ok (blocks.tile_block_at l j) ≡ true) first (f 0 (omega arith))))
    (λ t h. let next : i + 84 * suc t ≡ i + 84 + 84 * t = omega arith in subst (λ (j : ℕ). tile_ok (blocks.tile_block_at l j) ≡ true) next (f (suc t) (omega arith)))

tiles_round : (l : List ℕ) (i : ℕ) (ts : List Tile) → TilesIn ts → ((t : ℕ) → t < length ts → blocks.tile_block_at l (i + 84 * t) ≡ enc_tile (tile_at ts t)) → dec_tiles l i (length ts) ≡ ts
unfolding dec_tiles
tiles_round l i [] h f = refl
tiles_round l i (x ∷ ts) h f =
    let first : i ≡ i + 84 * 0 = omega arith in
    ap₂ {C = List Tile} (λ y ys. y ∷ ys) (ap dec_tile (ap (blocks.tile_block_at l) first ∙ f 0 (omega arith)) ∙ tile_round x h.0)
    (tiles_round l (i + 84) ts h.1 (λ t b. let next : i + 84 + 84 * t ≡ i + 84 * suc t = omega arith in ap (blocks.tile_block_at l) next ∙ f (suc t) (omega arith)))

all_full : (ts : List Tile) → TilesIn ts → AllFull ts
all_full [] h = tt
all_full (x ∷ ts) h = (tile_eight x h.0, all_full ts h.1)

module _ (h : Home) (last k : ℕ) (mem : Words) (out : Queue ToMemory) (back : Queue FromMemory) (ts : List Tile) (r : List ℕ) (i : BenchIn (length ts) h last k mem out back ts) where
  abbrev b : Bench
  b = bench_of h last k mem out back ts

  abbrev l : List ℕ
  l = encode b ++ r

  abbrev H : HomeBlock
  H = enc_home (length ts) h last k mem out back

  full : HomeFull H
  full = home_eight (length ts) h last k mem out back i.home_eight i.memory_eight i.out_in i.back_in

  laid : Laid l H ts r
  unfolding encode
  laid = record { is = append_assoc (home_block_words H) (enc_tiles ts) r; full = full; tiles = all_full ts i.tiles_in }

  home_is : home_block_at l ≡ H
  home_is = laid_home l H ts r laid

  tile_is : (t : ℕ) → t < length ts → blocks.tile_block_at l (74 + 84 * t) ≡ enc_tile (tile_at ts t)
  tile_is = laid_tile l H ts r laid

  count_is : get_or l 0 0 ≡ length ts
  unfolding home_block_at enc_home
  count_is = ap (λ (x : HomeBlock). x.count) home_is

  enough : 74 + 84 * length ts ≤ length l
  enough = laid_length l H ts r laid

  passes : well_formed l ≡ true
  passes =
      found_passes l
      (record {
        long = omega (arith, enough);
        some = rw count_is i.some_tile;
        most = rw count_is i.tiles_fit;
        enough = rw count_is enough;
        home = rw home_is (home_passes (length ts) h last k mem out back ts i);
        tiles = rw count_is (tiles_pass true l 74 (length ts) refl (λ t b. ap tile_ok (tile_is t b) ∙ tile_passes (tile_at ts t) (tile_in ts t i.tiles_in)));
      })

  decodes_to : decoded l ≡ b
  unfolding decoded enc_home
  decodes_to =
      ap (λ (x : HomeBlock). bench_from x (dec_tiles l 74 x.count)) home_is ∙ ap (bench_from H) (tiles_round l 74 ts i.tiles_in tile_is)
      ∙ bench_round (length ts) h last k mem out back ts i ts

  size : length (encode b) ≡ bench_words (length ts)
  unfolding encode
  size =
      let n : length (home_block_words H) ≡ 74 = length_home H full in
      let m : length (enc_tiles ts) ≡ 84 * length ts = length_tiles ts (all_full ts i.tiles_in) in
      length-append (home_block_words H) (enc_tiles ts) ∙ omega arith

-- of the encoding of a bench in range, with r behind it
pub record Encodes (n : ℕ) (b : Bench) (r l : List ℕ) : Type 0 where
  pub is_well_formed : well_formed l ≡ true
  pub decodes : decoded l ≡ b
  pub counts : get_or l 0 0 ≡ n
  pub behind : drop (bench_words n) l ≡ r

-- an encoding takes exactly the words that its tiles need
pub length_encode : (n : ℕ) (b : Bench) → InRange n b → length (encode b) ≡ bench_words n
length_encode n (bench_of h last k mem out back ts) i =
    size h last k mem out back ts [] (subst (λ (m : ℕ). BenchIn m h last k mem out back ts) (sym i.tiles_given) i) ∙ ap bench_words i.tiles_given

pub encodes : (n : ℕ) (b : Bench) (r l : List ℕ) → InRange n b → l ≡ encode b ++ r → Encodes n b r l
encodes n (bench_of h last k mem out back ts) r l i e =
    let j = subst (λ (m : ℕ). BenchIn m h last k mem out back ts) (sym i.tiles_given) i in
    subst (Encodes n (bench_of h last k mem out back ts) r) (sym e)
    (record {
      is_well_formed = passes h last k mem out back ts r j;
      decodes = decodes_to h last k mem out back ts r j;
      counts = count_is h last k mem out back ts r j ∙ i.tiles_given;
      behind = drop_at (encode (bench_of h last k mem out back ts)) r (bench_words n) (length_encode n (bench_of h last k mem out back ts) i);
    })

-- ---- from words to a bench and back

tiles_read : (l : List ℕ) (i n : ℕ) → i + 84 * n ≤ length l → TilesIn (dec_tiles l i n)
unfolding dec_tiles
tiles_read l i ℕ.zero h = tt
tiles_read l i (suc n) h = (tile_read (blocks.tile_block_at l i) (tile_full l i (omega arith)), tiles_read l (i + 84) n (omega arith))

pub decoded_in : (l : List ℕ) → well_formed l ≡ true → InRange (get_or l 0 0) (decoded l)
unfolding decoded home_block_at
decoded_in l w =
    let f = found l w in
    bench_read (home_block_at l) (dec_tiles l 74 (get_or l 0 0)) f.some f.most (home_full l f.long) (count l 74 (get_or l 0 0)) (tiles_read l 74 (get_or l 0 0) f.enough)

pub decoded_encoded : (l : List ℕ) → well_formed l ≡ true → l ≡ encode (decoded l) ++ drop (bench_words (get_or l 0 0)) l
unfolding decoded home_block_at
decoded_encoded l w = let f = found l w in encoded l l (dec_tiles l 74 (get_or l 0 0)) (drop (bench_words (get_or l 0 0)) l) f (count l 74 (get_or l 0 0)) (laid_out l f)

pub well_formed_iff : WellFormedStatement
well_formed_iff l =
    record {
      in_range = decoded_in l;
      is_encoding = decoded_encoded l;
      is_well_formed = λ n b r i e. (encodes n b r l i e).is_well_formed;
      decodes = λ n b r i e. (encodes n b r l i e).decodes;
      counts = λ n b r i e. (encodes n b r l i e).counts;
      behind = λ n b r i e. (encodes n b r l i e).behind;
    }
