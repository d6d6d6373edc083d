-- What a call on words owes, as one record; the call on words that are no bench; and words behind a bench, computed. Assumes nothing.
use Prim.Native.Nat.{ℕ}
use mathlib.Core.Path.{◌≡◌, refl}
use mathlib.Core.Bool.{false}
use mathlib.Core.List.{List, [], ◌∷◌, ◌++◌}
use lib.ListN.{replicate}
use Rattle.layout.specs.Encode.{encode}
use Rattle.protocol.specs.declared.Answer.{Answer}
use Rattle.protocol.specs.Parts.{Bench, Call, Result, refused, accepted}
use Rattle.protocol.specs.Answers.{refusal, answer_of}
use Rattle.calls.specs.Calls.{well_formed, step_on, words_after, start_on, words_started}

-- a call's two equations, of words l: the answer a, and m the words after it
pub record Meets (l : List ℕ) (r : Result Bench) (a : Answer) (m : List ℕ) : Type 0 where
  pub answer : a ≡ answer_of r
  pub words : m ≡ words_after l r

pub malformed : (l : List ℕ) (c : Call) → well_formed l ≡ false → Meets l (step_on l c) (refusal 1) l
unfolding step_on answer_of words_after
malformed l c h = record { answer = rw h; words = rw h }

-- the word behind a bench of one tile stays; a start of 0 or 65 tiles is refused 2, one of too few words 1
behind : (b : Bench) → (words_after (replicate 158 1 ++ (5 ∷ [])) (accepted 0 0 b []) ≡ encode b ++ (5 ∷ [])) × (words_started (replicate 158 9 ++ (5 ∷ [])) 1 (accepted 0 0 b []) ≡ encode b ++ (5 ∷ [])) × (start_on [] 0 [] ≡ refused 2) × (start_on [] 65 [] ≡ refused 2) × (start_on (replicate 157 0) 1 [] ≡ refused 1)
unfolding words_after words_started start_on
behind b = (refl, refl, refl, refl, refl)
