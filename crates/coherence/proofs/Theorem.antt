-- Demand 3, whole: of every number of tiles from 1 to 64, all memory words and every list of calls. Assumes nothing.
use Prim.Native.Nat.{ℕ}
use mathlib.Core.Path.{◌≡◌, refl, ◌∙◌}
use mathlib.Core.Bool.{Bool, true, false}
use native.Mathlib.Nat.{le_trans}
use Rattle.protocol.specs.Parts.{Bench, Result}
use Rattle.protocol.specs.Bench.{fresh}
use Rattle.protocol.specs.Answers.{answer_of}
use Rattle.protocol.specs.Runs.{rules, runs, can_be_accepted, history, waits_for}
use Rattle.protocol.specs.Demand3.{is_misfit, waits, next_delivery, Demand3Statement}
use Rattle.coherence.proofs.Invariant.{Inv, Holds, fine_refused, fine}
use Rattle.protocol.proofs.Tests.{clash}
use Rattle.coherence.proofs.Calls.{step_fine}
use Rattle.coherence.proofs.Runs.{words_last, runs_inv}
use Rattle.coherence.proofs.Bound.{measure_bound}
use Rattle.coherence.proofs.Quiet.{settled, next_delivery_lem}
use Rattle.coherence.proofs.Bounded.{bounded_by}
use Rattle.coherence.proofs.Waiting.{waiting_in_tile}
use Rattle.coherence.proofs.Fair as fairness

never_misfits : {P : ℕ → ℕ → Bench → Type 0} {r : Result Bench} → Holds P r → is_misfit (answer_of r) ≡ false
unfolding answer_of is_misfit
never_misfits (fine_refused e) = e
never_misfits (fine p) = refl

pub demand3 : Demand3Statement
demand3 n one_up most mem eight cs =
    record {
      progress = λ t w. (next_delivery_lem b, accepted_next t w (can_be_accepted rules (next_delivery b) b) refl);
      bounded = λ ds e. le_trans (bounded_by ds b e) (measure_bound one_up i);
      quiet = λ f.
          let s = settled i (f (next_delivery b) (next_delivery_lem b)) in
          (λ t. waiting_in_tile n mem cs t ∙ s.1 t, s.0);
      fair = λ ds t. fairness.fair n mem one_up cs ds t;
      fits = λ c. never_misfits (step_fine c i);
      waiting = waiting_in_tile n mem cs;
    }
  where
    b : Bench
    b = runs rules cs (fresh n mem)

    i : Inv (words_last n mem cs) (waits_for (history rules cs (fresh n mem))) n b
    i = runs_inv n mem cs

    accepted_next : (t : ℕ) → waits t (history rules cs (fresh n mem)) ≡ true → (x : Bool) → can_be_accepted rules (next_delivery b) b ≡ x → can_be_accepted rules (next_delivery b) b ≡ true
    accepted_next t w true e = e
    accepted_next t w false e = clash w (waiting_in_tile n mem cs t ∙ (settled i e).1 t)
