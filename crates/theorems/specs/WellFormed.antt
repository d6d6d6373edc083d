-- Which words are a bench: the statement. Its proof is proofs/WellFormed.antt.
use Rattle.std.specs.Prelude.{ℕ, ◌≡◌, true, List, ◌++◌, drop}
use Rattle.layout.specs.Blocks.{bench_words}
use Rattle.layout.specs.Encode.{encode}
use Rattle.layout.specs.Decode.{decoded}
use Rattle.layout.specs.Range.{InRange}
use Rattle.protocol.specs.Parts.{Bench}
use Rattle.calls.specs.Calls.{tile_count, well_formed}

-- Words are well formed exactly if they begin with the encoding of a bench in range, and then they are the encoding of what they
-- decode to, with the words behind it.
pub record WellFormedIff (l : List ℕ) : Type 0 where
  -- well-formed words decode to a bench in range, of as many tiles as they say
  pub in_range : well_formed l ≡ true → InRange (tile_count l) (decoded l)
  -- and are its encoding, followed by what stands behind the words that so many tiles need
  pub is_encoding : well_formed l ≡ true → l ≡ encode (decoded l) ++ drop (bench_words (tile_count l)) l
  -- the encoding of a bench in range, whatever stands behind it, is well formed
  pub is_well_formed : (n : ℕ) (b : Bench) (r : List ℕ) → InRange n b → l ≡ encode b ++ r → well_formed l ≡ true
  -- decodes to that bench
  pub decodes : (n : ℕ) (b : Bench) (r : List ℕ) → InRange n b → l ≡ encode b ++ r → decoded l ≡ b
  -- says the number of its tiles
  pub counts : (n : ℕ) (b : Bench) (r : List ℕ) → InRange n b → l ≡ encode b ++ r → tile_count l ≡ n
  -- and takes exactly the words that so many tiles need
  pub behind : (n : ℕ) (b : Bench) (r : List ℕ) → InRange n b → l ≡ encode b ++ r → drop (bench_words n) l ≡ r

abbrev pub WellFormedStatement : Type 0
WellFormedStatement = (l : List ℕ) → WellFormedIff l
