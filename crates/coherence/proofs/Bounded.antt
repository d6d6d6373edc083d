-- Where no load, store, eviction or home eviction is accepted, no more deliveries are accepted than the measure says.
use Prim.Native.Nat.{◌+◌, ◌≤◌}
use mathlib.Core.Path.{◌≡◌, refl, sym, ap}
use mathlib.Core.Bool.{Bool, true, false, not, ◌&&◌, false≢true}
use mathlib.Core.List.{List, [], ◌∷◌}
use native.Mathlib.Omega.{arith}
use Rattle.protocol.specs.Parts.{Bench, Call, Result, refused, accepted}
use Rattle.protocol.specs.Bench.{step}
use Rattle.protocol.specs.Calls.{is_delivery}
use Rattle.protocol.specs.Answers.{answer_of, is_accepted}
use Rattle.protocol.specs.Runs.{rules, kept, after, can_be_accepted}
use Rattle.protocol.specs.Demand3.{one_if, accepted_of, is_other}
use Rattle.coherence.proofs.Weight.{measure}
use Rattle.coherence.proofs.Falls.{falls}

-- a call that is not accepted changes nothing
pub refused_same : (c : Call) (b : Bench) → can_be_accepted rules c b ≡ false → after c b ≡ b
unfolding can_be_accepted answer_of is_accepted after kept
refused_same c b z = go (step c b) z
  where
    go : (r : Result Bench) → is_accepted (answer_of r) ≡ false → kept b r ≡ b
    go (refused n) e = refl
    go (accepted k v d ms) e = absurd (false≢true (sym e))

pub bounded_by : (ds : List Call) (b : Bench) → accepted_of rules is_other ds b ≡ 0 → accepted_of rules is_delivery ds b ≤ measure b
unfolding accepted_of is_other one_if
bounded_by [] b h = omega arith
bounded_by (c ∷ cs) b h = go (is_delivery c) (can_be_accepted rules c b) refl refl h (λ e. bounded_by cs (after c b) e)
  where
    go : (d a : Bool) → is_delivery c ≡ d → can_be_accepted rules c b ≡ a → one_if (not d && a) + accepted_of rules is_other cs (after c b) ≡ 0 → (accepted_of rules is_other cs (after c b) ≡ 0 → accepted_of rules is_delivery cs (after c b) ≤ measure (after c b)) → one_if (d && a) + accepted_of rules is_delivery cs (after c b) ≤ measure b
    go true true d a e ih = omega (arith, ih (omega arith), falls c b d a)
    go true false d a e ih = omega (arith, ih (omega arith), ap measure (refused_same c b a))
    go false true d a e ih = omega arith
    go false false d a e ih = omega (arith, ih (omega arith), ap measure (refused_same c b a))
