-- Demand 3 of document 01 and order 1 of document 02 (crate protocol, specs/Demand3.antt and specs/Order1.antt), of the calls built: of every
-- number of tiles from 1 to 64, all memory words, all lent words that are enough for so many tiles, and every list of calls on the words that
-- the start leaves. Their proofs are proofs/Claims.antt.
use Rattle.std.specs.Prelude.{ℕ, ◌≤◌, ◌≡◌, List, length}
use Rattle.numbers.specs.Limits.{most_tiles, words_in_line}
use Rattle.layout.specs.Blocks.{bench_words}
use Rattle.protocol.specs.Parts.{Words, Call}
use Rattle.protocol.specs.Demand3.{Demand3From}
use Rattle.protocol.specs.Order1.{Order1From}
use Rattle.calls.specs.Calls.{lent_words, start_on, words_started}

abbrev pub Demand3OfCalls : Type 0
Demand3OfCalls =
    (n : ℕ) → 1 ≤ n → n ≤ most_tiles → (mem : Words) → length mem ≡ words_in_line → (l : List ℕ) → bench_words n ≤ length l
    → (cs : List Call) → Demand3From lent_words n (words_started l n (start_on l n mem)) cs

abbrev pub Order1OfCalls : Type 0
Order1OfCalls =
    (n : ℕ) → 1 ≤ n → n ≤ most_tiles → (mem : Words) → length mem ≡ words_in_line → (l : List ℕ) → bench_words n ≤ length l
    → (cs : List Call) → Order1From lent_words mem (words_started l n (start_on l n mem)) cs
