-- A list of calls on lent words is the list of the rules' steps: the statements. Their proofs are proofs/Calls.antt.
use Rattle.std.specs.Prelude.{ℕ, ◌≤◌, ◌≡◌, true, List, ◌++◌, length, drop}
use Rattle.numbers.specs.Limits.{most_tiles, words_in_line}
use Rattle.layout.specs.Blocks.{bench_words}
use Rattle.layout.specs.Encode.{encode}
use Rattle.layout.specs.Decode.{decoded}
use Rattle.protocol.specs.Parts.{Words, Bench, Call}
use Rattle.protocol.specs.Bench.{fresh}
use Rattle.protocol.specs.Runs.{rules, runs, history}
use Rattle.calls.specs.Calls.{tile_count, well_formed, lent_words, start_on, words_started}

-- The list of calls cs on the words l, which are the bench b with r behind it, is the list of the rules' steps.
pub record CallsAreSteps (l : List ℕ) (b : Bench) (r : List ℕ) (cs : List Call) : Type 0 where
  -- the words after it are those of the bench after it, and what stands behind stays
  pub after : runs lent_words cs l ≡ encode (runs rules cs b) ++ r
  -- they are well formed again, and decode to that bench
  pub is_well_formed : well_formed (runs lent_words cs l) ≡ true
  pub decodes : decoded (runs lent_words cs l) ≡ runs rules cs b
  -- every answer is the rules', with the messages sent
  pub is_history : history lent_words cs l ≡ history rules cs b

-- from all well-formed words
abbrev pub CallsStatement : Type 0
CallsStatement =
    (l : List ℕ) → well_formed l ≡ true → (cs : List Call) → CallsAreSteps l (decoded l) (drop (bench_words (tile_count l)) l) cs

-- and from the words that an accepted start leaves: of every number of tiles from 1 to 64, all memory words and all lent words that are
-- enough for so many tiles
abbrev pub StartedStatement : Type 0
StartedStatement =
    (n : ℕ) → 1 ≤ n → n ≤ most_tiles → (mem : Words) → length mem ≡ words_in_line → (l : List ℕ) → bench_words n ≤ length l
    → (cs : List Call) → CallsAreSteps (words_started l n (start_on l n mem)) (fresh n mem) (drop (bench_words n) l) cs
