-- Document 01, 'The bench', on lent words. A call is refused 1 where the words are no bench, else it is document 01's step of the bench
-- that they are, with the answer in numbers and the bench after it in words. A refusal changes no word, and words behind the bench stay.
use Rattle.std.specs.Prelude.{ℕ, suc, ◌+◌, Bool, cond, true, false, ◌&&◌, List, [], ◌++◌, ltb, leb, length, get_or, drop}
use Rattle.numbers.specs.Refusals.{malformed_refusal, no_tile_refusal}
use Rattle.numbers.specs.Kinds.{kind_other}
use Rattle.numbers.specs.Limits.{most_tiles}
use Rattle.layout.specs.Places.{home_tile_count_place, home_size, tile_size}
use Rattle.layout.specs.Blocks.{bench_words, tile_block_at, home_block_at}
use Rattle.layout.specs.Encode.{encode}
use Rattle.layout.specs.Decode.{decoded}
use Rattle.layout.specs.Canonical.{tile_ok, home_ok}
use Rattle.protocol.specs.declared.Answer.{Answer}
use Rattle.protocol.specs.Parts.{Words, Bench, Call, Result, refused, accepted}
use Rattle.protocol.specs.Bench.{fresh, step}
use Rattle.protocol.specs.Answers.{answer_of}
use Rattle.protocol.specs.Runs.{Machine}

-- the tile count that words give
abbrev pub tile_count : List ℕ → ℕ
tile_count l = get_or l home_tile_count_place 0

-- n tile blocks from place i on are each the encoding of what they are read as, and a held before them
unfoldable pub tiles_ok : Bool → List ℕ → ℕ → ℕ → Bool
tiles_ok a l i ℕ.zero = a
tiles_ok a l i (suc n) = tiles_ok (a && tile_ok (tile_block_at l i)) l (i + tile_size) n

-- the words of a bench: tile count 1 to 64, at least as many words as it needs, and every block the encoding of what it is read as (crate
-- theorems: exactly if they begin with the encoding of a bench in range)
unfoldable pub well_formed : List ℕ → Bool
well_formed l =
    cond (leb home_size (length l))
    (cond (ltb 0 (tile_count l))
    (cond (leb (tile_count l) most_tiles)
    (cond (leb (bench_words (tile_count l)) (length l))
    (home_ok (home_block_at l) && tiles_ok true l home_size (tile_count l)) false) false) false)
    false

-- 1: bench malformed, or lent words fewer than T tiles need
unfoldable pub step_on : List ℕ → Call → Result Bench
step_on l c = cond (well_formed l) (step c (decoded l)) (refused malformed_refusal)

-- the lent words l after a step
unfoldable pub words_after : List ℕ → Result Bench → List ℕ
words_after l (refused n) = l
words_after l (accepted k v b ms) = encode b ++ drop (bench_words (tile_count l)) l

-- A call on words: its answer, and the words after it.
abbrev pub answer_to : Call → List ℕ → Answer
answer_to c l = answer_of (step_on l c)

abbrev pub after_call : Call → List ℕ → List ℕ
after_call c l = words_after l (step_on l c)

-- words that take calls, and show the bench that they are
abbrev pub lent_words : Machine
lent_words = record { State = List ℕ; answer = answer_to; next = after_call; view = decoded }

-- Start, of n tiles with the memory's words: 2, tile count not 1 to 64, then 1 by the number of words alone. It writes exactly the
-- words that n tiles need.
unfoldable pub start_on : List ℕ → ℕ → Words → Result Bench
start_on l n mem =
    cond (ltb 0 n)
    (cond (leb n most_tiles)
    (cond (leb (bench_words n) (length l)) (accepted kind_other 0 (fresh n mem) []) (refused malformed_refusal))
    (refused no_tile_refusal)) (refused no_tile_refusal)

unfoldable pub words_started : List ℕ → ℕ → Result Bench → List ℕ
words_started l n (refused k) = l
words_started l n (accepted k v b ms) = encode b ++ drop (bench_words n) l
