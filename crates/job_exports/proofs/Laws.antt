-- A job's call: its answer, its words and its lines. Assumes nothing.
use Prim.Native.Nat.{ℕ}
use mathlib.Core.Path.{◌≡◌, ap, subst, ◌∙◌}
use mathlib.Core.List.{List, [], ◌∷◌}
use Rattle.protocol.specs.Parts.{Call}
use Rattle.protocol.specs.declared.Answer.{Answer}
use Rattle.calls.specs.Calls.{answer_to, after_call}
use Rattle.job_format.specs.declared.calls.JobCall.{JobCall}
use Rattle.job_format.specs.Job.{call_numbers_of}
use Rattle.job_rules.specs.Calls.{bench_call}
use Rattle.job_rules.specs.Buffers.{AllPlaced, buffers_after, places_after}
use Rattle.job_rules.specs.AnswerLines.{answer_lines}
use Rattle.job_rules.specs.Listing.{call_lines}
use Rattle.c_answers.specs.Reports.{reported}

-- a job's call
module _ (line number : ℕ) (l t : List ℕ) (p : ℕ) (out : List ℕ) where
  abbrev Ran : JobCall → ℕ → List ℕ → List ℕ → List ℕ → Type 0
  Ran j r l' t' out' =
      (r ≡ (answer_to (bench_call (call_numbers_of j)) l).refusal)
      × ((l' ≡ after_call (bench_call (call_numbers_of j)) l)
      × ((t' ≡ buffers_after t p (call_lines line number (bench_call (call_numbers_of j)) l))
      × (out' ≡ reported out (places_after t p (call_lines line number (bench_call (call_numbers_of j)) l) ∷ j.next ∷ []))))

  lines : {a : Answer} {l' : List ℕ} (c : Call) → a ≡ answer_to c l → l' ≡ after_call c l → answer_lines line number a l' ≡ call_lines line number c l
  unfolding call_lines
  lines c e w = rw (e, w)

  pub ran : {j k : JobCall} {a : Answer} {l' t' out' : List ℕ} {place r : ℕ} → j ≡ k → (a ≡ answer_to (bench_call (call_numbers_of j)) l) × (l' ≡ after_call (bench_call (call_numbers_of j)) l)
      → AllPlaced t t' p place (answer_lines line number a l') → (r ≡ a.refusal) × (out' ≡ reported out (place ∷ j.next ∷ [])) → Ran k r l' t' out'
  ran {j} {k} {a} {l'} {t'} {out'} {place} {r} e (answer, words) put (number, say) =
      let same = lines (bench_call (call_numbers_of j)) answer words in
      subst (λ (x : JobCall). Ran x r l' t' out') e (
        number ∙ ap (λ (x : Answer). x.refusal) answer,
        (
          words,
          (
            put.buffer ∙ ap (λ (x : List (List ℕ)). buffers_after t p x) same,
            say ∙ ap (λ (x : ℕ). reported out (x ∷ j.next ∷ [])) (put.place ∙ ap (λ (x : List (List ℕ)). places_after t p x) same),
          ),
        ),
      )
