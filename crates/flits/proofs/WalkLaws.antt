-- The walk of a recording, turn by turn. Assumes nothing.
use mathlib.Core.Path.{◌≡◌, sym, ap, ◌∙◌, subst}
use mathlib.Core.List.{List}
use Prim.Native.Nat.{ℕ, zero, suc, ◌+◌, ◌-◌, ◌≤◌, ◌<◌}
use native.Mathlib.Numerals.{add-one}
use native.Mathlib.Omega.{arith}
use lib.ListN.{length, drop, length-drop}
use borrow.Author.Tests.{eq-eqb, ne_eqb}
use Rattle.flit_rules.specs.Reading.{ReadAnswer, read_of, read_refusal}
use Rattle.flit_rules.proofs.ReadLaws.{refusal_of, used_le, used_pos}
use Rattle.flits.specs.Walk.{walk_from, walk_of}

-- an accepted message uses a flit at least, and lies inside
pub inside : (s : List ℕ) (at : ℕ) {r : ReadAnswer} → r ≡ read_of (drop at s) → r.refusal ≡ 0 → (0 < r.used) × (at + r.used ≤ length s)
inside s at {r} e z =
    let accepted : read_refusal (drop at s) ≡ 0 = sym (refusal_of (drop at s)) ∙ ap (λ (x : ReadAnswer). x.refusal) (sym e) ∙ z in
    let pos : 0 < (read_of (drop at s)).used = used_pos (drop at s) accepted in
    let le : (read_of (drop at s)).used ≤ length s - at = subst (λ (n : ℕ). (read_of (drop at s)).used ≤ n) (length-drop at s) (used_le (drop at s)) in
    rw e (omega arith)

pub walk_more : (n : ℕ) (s : List ℕ) (at count : ℕ) {r : ReadAnswer} → r ≡ read_of (drop at s) → r.refusal ≡ 0
    → walk_from (suc n) s at count ≡ walk_from n s (at + r.used) (count + 1)
unfolding walk_from
walk_more n s at count {r} e z =
    rw (eq-eqb (read_of (drop at s)).refusal 0 (ap (λ (x : ReadAnswer). x.refusal) (sym e) ∙ z))
    (λ i. walk_from n s (at + (sym e i).used) (sym (add-one count) i))

pub walk_stop : (n : ℕ) (s : List ℕ) (at count : ℕ) {r : ReadAnswer} → r ≡ read_of (drop at s) → (r.refusal ≡ 0 → ⊥)
    → record { messages = count; at = at; refusal = r.refusal } ≡ walk_from n s at count
unfolding walk_from
walk_stop zero s at count e z = λ i. record { messages = count; at = at; refusal = (e i).refusal }
walk_stop (suc n) s at count {r} e z =
    rw (ne_eqb (read_of (drop at s)).refusal 0 (λ q. z (ap (λ (x : ReadAnswer). x.refusal) e ∙ q)))
    (λ i. record { messages = count; at = at; refusal = (e i).refusal })

-- the loop's invariant: what is left of the walk gives the whole
abbrev pub Left : List ℕ → ℕ → ℕ → Type 0
Left s count at = (count ≤ at) × (at ≤ length s) × (walk_from (length s - count) s at count ≡ walk_of s)

pub left_start : (s : List ℕ) → Left s 0 0
unfolding walk_of
left_start s = (omega arith, omega arith, ap (λ (n : ℕ). walk_from n s 0 0) (less (length s)))
  where
    less : (n : ℕ) → n - 0 ≡ n
    less n = omega arith

pub left_more : (s : List ℕ) (count at : ℕ) → Left s count at → {r : ReadAnswer} → r ≡ read_of (drop at s) → r.refusal ≡ 0 → Left s (count + 1) (at + r.used)
left_more s count at inv {r} e z =
    let bounds = inside s at e z in
    let fuel : suc (length s - (count + 1)) ≡ length s - count = omega (arith, bounds.0, bounds.1, inv.0) in (
      omega (arith, bounds.0, inv.0),
      bounds.1,
      sym (walk_more (length s - (count + 1)) s at count e z) ∙ ap (λ (n : ℕ). walk_from n s at count) fuel ∙ inv.2,
    )
