-- What holds of the rules' bench holds of the words that are its encoding: demand 3 and order 1. Assumes nothing.
use Prim.Native.Nat.{ℕ, ◌+◌, ◌-◌, ◌*◌, ◌≤◌}
use mathlib.Core.Path.{◌≡◌, refl, ap, ap₂, sym, ◌∙◌, subst}
use mathlib.Core.Bool.{Bool, true, cond, ◌&&◌}
use mathlib.Core.List.{List, [], ◌∷◌, ◌++◌}
use lib.ListN.{drop}
use Rattle.layout.specs.Blocks.{bench_words}
use Rattle.layout.specs.Encode.{encode}
use Rattle.layout.specs.Decode.{decoded}
use Rattle.layout.specs.Range.{InRange}
use Rattle.layout.proofs.RangeKept.{after_in, runs_in, fresh_in}
use Rattle.protocol.specs.declared.Answer.{Answer}
use Rattle.protocol.specs.Parts.{Words, Bench, Call}
use Rattle.protocol.specs.Bench.{fresh, tile_at}
use Rattle.protocol.specs.Calls.{is_delivery, role_of}
use Rattle.protocol.specs.Answers.{is_accepted}
use Rattle.protocol.specs.Runs.{after, rules, runs, Event, history, can_be_accepted, waits_for}
use Rattle.protocol.specs.Demand3.{is_waiting, waiting_of, tiles_of, one_if, accepted_of, is_other, next_delivery, Quiet, request_at_front, takes_tile, takes_another, passes_over, passed_over, is_misfit, Demand3}
use Rattle.protocol.specs.Order1.{Coherent, last_written, GivesLast, Order1}
use Rattle.coherence.proofs.Theorem.{demand3}
use Rattle.coherence.proofs.Order1.{order1}
use Rattle.calls.specs.Calls.{after_call, lent_words, start_on, words_started}
use Rattle.theorems.specs.Claims.{Demand3OfCalls, Order1OfCalls}
use Rattle.theorems.proofs.WellFormed.{encodes}
use Rattle.theorems.proofs.Calls.{on_answer, on_words, started}

accepted_run : (n : ℕ) (f : Call → Bool) (ds : List Call) (b : Bench) (r l : List ℕ) → InRange n b → l ≡ encode b ++ r → accepted_of lent_words f ds l ≡ accepted_of rules f ds b
unfolding accepted_of can_be_accepted
accepted_run n f [] b r l i e = refl
accepted_run n f (c ∷ cs) b r l i e =
    ap₂ (λ (x : Answer) (y : ℕ). one_if (f c && is_accepted x) + y) (on_answer n b r l i e c) (accepted_run n f cs (after c b) r (after_call c l) (after_in n c b i) (on_words n b r l i e c))

passed_run : (n t : ℕ) (ds : List Call) (b : Bench) (r l : List ℕ) → InRange n b → l ≡ encode b ++ r → passed_over lent_words t ds l ≡ passed_over rules t ds b
unfolding passed_over passes_over
passed_run n t [] b r l i e = refl
passed_run n t (c ∷ cs) b r l i e =
    let x = (encodes n b r l i e).decodes in
    let y = on_answer n b r l i e c in
    let w = passed_run n t cs (after c b) r (after_call c l) (after_in n c b i) (on_words n b r l i e c) in
    λ j. cond (takes_tile t c (y j)) 0 (one_if (request_at_front t (x j) && takes_another t c (y j)) + w j)

-- the words l of a bench b in range, with r behind it, after the events es
module _ (n : ℕ) (b : Bench) (r l : List ℕ) (i : InRange n b) (e : l ≡ encode b ++ r) (es : List Event) where
  view : decoded l ≡ b
  view = (encodes n b r l i e).decodes

  can : (c : Call) → can_be_accepted lent_words c l ≡ can_be_accepted rules c b
  unfolding can_be_accepted
  can c = ap is_accepted (on_answer n b r l i e c)

  on_demand3 : Demand3 rules n es b → Demand3 lent_words n es l
  on_demand3 d =
      record {
        progress = λ t w.
            let p = d.progress t w in
            subst (λ (x : Bench). (is_delivery (next_delivery x) ≡ true) × (can_be_accepted lent_words (next_delivery x) l ≡ true)) (sym view) (p.0, can (next_delivery b) ∙ p.1);
        bounded = λ ds z. subst (λ (k : ℕ). k ≤ (n + 1) * (2 * n + 3)) (sym (accepted_run n is_delivery ds b r l i e)) (d.bounded ds (sym (accepted_run n is_other ds b r l i e) ∙ z));
        quiet = λ f. let q = d.quiet (λ c y. sym (can c) ∙ f c y) in (q.0, subst Quiet (sym view) q.1);
        fair = λ ds t. subst (λ (k : ℕ). k ≤ n - 1) (sym (passed_run n t ds b r l i e)) (d.fair ds t);
        fits = λ c. ap is_misfit (on_answer n b r l i e c) ∙ d.fits c;
        waiting = λ t. d.waiting t ∙ ap (λ (y : Bench). is_waiting (waiting_of (tile_at (tiles_of y) t))) (sym view);
      }

  on_order1 : (mem : Words) → Order1 rules mem es b → Order1 lent_words mem es l
  on_order1 mem o =
      record {
        coherent = subst Coherent (sym view) o.coherent;
        last_word = λ c. subst (GivesLast (last_written mem es) (waits_for es) (role_of c)) (sym (on_answer n b r l i e c)) (o.last_word c);
      }

pub demand3_of_calls : Demand3OfCalls
demand3_of_calls n a b mem eight l enough cs =
    let s = started n a b mem eight l enough cs in
    subst (λ (es : List Event). Demand3 lent_words n es (runs lent_words cs (words_started l n (start_on l n mem)))) (sym s.is_history)
    (on_demand3 n (runs rules cs (fresh n mem)) (drop (bench_words n) l) _ (runs_in n cs (fresh n mem) (fresh_in n mem a b eight)) s.after (history rules cs (fresh n mem)) (demand3 n a b mem eight cs))

pub order1_of_calls : Order1OfCalls
order1_of_calls n a b mem eight l enough cs =
    let s = started n a b mem eight l enough cs in
    subst (λ (es : List Event). Order1 lent_words mem es (runs lent_words cs (words_started l n (start_on l n mem)))) (sym s.is_history)
    (on_order1 n (runs rules cs (fresh n mem)) (drop (bench_words n) l) _ (runs_in n cs (fresh n mem) (fresh_in n mem a b eight)) s.after (history rules cs (fresh n mem)) mem (order1 n a b mem eight cs))
