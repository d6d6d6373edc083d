-- A list of calls on words is the list of the rules' steps. Assumes nothing.
use Prim.Native.Nat.{ℕ, ◌≤◌}
use mathlib.Core.Path.{◌≡◌, refl, ap, ap₂, ◌∙◌}
use mathlib.Core.List.{List, [], ◌∷◌, ◌++◌}
use lib.ListN.{length, drop}
use borrow.Author.Tests.{lt-ltb, le-leb}
use Rattle.layout.specs.Blocks.{bench_words}
use Rattle.layout.specs.Encode.{encode}
use Rattle.layout.specs.Decode.{decoded}
use Rattle.layout.specs.Range.{InRange}
use Rattle.layout.proofs.RangeKept.{after_in, runs_in, fresh_in}
use Rattle.protocol.specs.Parts.{Words, Bench, Call, Result, refused, accepted}
use Rattle.protocol.specs.Bench.{fresh, step}
use Rattle.protocol.specs.Answers.{answer_of}
use Rattle.protocol.specs.Runs.{kept, after, rules, runs, Event, event, history}
use Rattle.calls.specs.Calls.{tile_count, step_on, words_after, answer_to, after_call, lent_words, start_on, words_started}
use Rattle.theorems.specs.Calls.{CallsAreSteps, CallsStatement, StartedStatement}
use Rattle.theorems.proofs.WellFormed.{Encodes, encodes, decoded_in, decoded_encoded}

kept_words : (n : ℕ) (b : Bench) (r l : List ℕ) → l ≡ encode b ++ r → Encodes n b r l → (x : Result Bench) → words_after l x ≡ encode (kept b x) ++ r
unfolding words_after kept
kept_words n b r l e z (refused m) = e
kept_words n b r l e z (accepted k v x ms) = rw z.counts (ap (λ (s : List ℕ). encode x ++ s) z.behind)

-- one call on the words l of a bench b in range, with r behind it
module _ (n : ℕ) (b : Bench) (r l : List ℕ) (i : InRange n b) (e : l ≡ encode b ++ r) (c : Call) where
  pub on_step : step_on l c ≡ step c b
  unfolding step_on
  on_step = let z = encodes n b r l i e in rw (z.is_well_formed, z.decodes)

  pub on_answer : answer_to c l ≡ answer_of (step c b)
  on_answer = ap answer_of on_step

  pub on_words : after_call c l ≡ encode (after c b) ++ r
  unfolding after
  on_words = ap (words_after l) on_step ∙ kept_words n b r l e (encodes n b r l i e) (step c b)

-- lists of calls
words_run : (n : ℕ) (cs : List Call) (b : Bench) (r l : List ℕ) → InRange n b → l ≡ encode b ++ r → runs lent_words cs l ≡ encode (runs rules cs b) ++ r
unfolding runs
words_run n [] b r l i e = e
words_run n (c ∷ cs) b r l i e = words_run n cs (after c b) r (after_call c l) (after_in n c b i) (on_words n b r l i e c)

history_run : (n : ℕ) (cs : List Call) (b : Bench) (r l : List ℕ) → InRange n b → l ≡ encode b ++ r → history lent_words cs l ≡ history rules cs b
unfolding history
history_run n [] b r l i e = refl
history_run n (c ∷ cs) b r l i e =
    ap₂ {C = List Event} (λ x xs. event c x ∷ xs) (on_answer n b r l i e c) (history_run n cs (after c b) r (after_call c l) (after_in n c b i) (on_words n b r l i e c))

pub calls_are_steps : (n : ℕ) (b : Bench) (r l : List ℕ) (cs : List Call) → InRange n b → l ≡ encode b ++ r → CallsAreSteps l b r cs
calls_are_steps n b r l cs i e =
    let w = words_run n cs b r l i e in
    let z = encodes n (runs rules cs b) r (runs lent_words cs l) (runs_in n cs b i) w in
    record { after = w; is_well_formed = z.is_well_formed; decodes = z.decodes; is_history = history_run n cs b r l i e }

pub calls : CallsStatement
calls l w cs = calls_are_steps (tile_count l) (decoded l) (drop (bench_words (tile_count l)) l) l cs (decoded_in l w) (decoded_encoded l w)

-- the words that an accepted start leaves
pub start_words : (l : List ℕ) (n : ℕ) (mem : Words) → 1 ≤ n → n ≤ 64 → bench_words n ≤ length l → words_started l n (start_on l n mem) ≡ encode (fresh n mem) ++ drop (bench_words n) l
unfolding start_on words_started
start_words l n mem p q e = rw (lt-ltb 0 n p, le-leb n 64 q, le-leb (bench_words n) (length l) e)

pub started : StartedStatement
started n a b mem eight l enough cs =
    calls_are_steps n (fresh n mem) (drop (bench_words n) l) (words_started l n (start_on l n mem)) cs (fresh_in n mem a b eight) (start_words l n mem a b enough)
