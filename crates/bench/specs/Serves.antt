-- A device of the proofs: no public promise rests on it alone. The home's decision committed to the words l of n tiles, with a the answer and
-- m the words after it.
use Rattle.std.specs.Prelude.{ℕ, ◌≡◌, List, Result, Ok, Err}
use Rattle.numbers.specs.declared.refusals.Refusal.{Refusal}
use Rattle.numbers.specs.Refusals.{refusal_number}
use Rattle.protocol.specs.declared.Answer.{Answer}
use Rattle.protocol.specs.Answers.{refusal}
use Rattle.home_words.specs.declared.commits.Decision.{Decision}
use Rattle.home_words.specs.Commits.{popped, answering, Committed}

abbrev pub Serves : List ℕ → ℕ → Result Decision Refusal → Answer → List ℕ → Type 0
Serves l n (Ok d) a m = Committed l (popped l d.place) n d.value (answering l d.place (Ok d.made)) a m
Serves l n (Err r) a m = (a ≡ refusal (refusal_number r)) × (m ≡ l)
