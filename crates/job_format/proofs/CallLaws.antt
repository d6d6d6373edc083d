-- The calls of a job, one after the other: read at a place, and from a place on. Assumes nothing.
use Prim.Native.Nat.{ℕ, suc, ◌+◌, ◌≤◌, ◌<◌}
use mathlib.Core.Path.{◌≡◌, refl, ap, ap₂, sym, ◌∙◌}
use mathlib.Core.Bool.{cond}
use mathlib.Core.List.{List, [], ◌∷◌}
use native.Mathlib.Omega.{arith}
use lib.Dec.{ltb}
use lib.ListN.{length}
use borrow.Author.Tests.{lt-ltb, le-ltb}
use Rattle.job_format.specs.Bytes.{tag_at, next_at}
use Rattle.job_format.specs.Job.{CallNumbers, call_numbers_at, calls_from, job_call_at, call_numbers_of}
use Rattle.job_format.specs.Accepted.{calls_at}

-- ---- one call read inside the job
pub call_in_lem : (job : List ℕ) (at : ℕ) → at < length job → call_numbers_of (job_call_at job at) ≡ call_numbers_at job at
unfolding job_call_at call_numbers_of
call_in_lem job at h = rw (lt-ltb at (length job) h)

pub tag_in : (job : List ℕ) (at : ℕ) → at < length job → (job_call_at job at).tag ≡ tag_at job at
unfolding job_call_at call_numbers_at
tag_in job at h = rw (lt-ltb at (length job) h)

pub next_in : (job : List ℕ) (at : ℕ) → at < length job → (job_call_at job at).next ≡ next_at job at
unfolding job_call_at
next_in job at h = rw (lt-ltb at (length job) h)

-- ---- the calls from a place on
calls_none : (n : ℕ) (job : List ℕ) (at : ℕ) → length job ≤ at → calls_from n job at ≡ []
unfolding calls_from
calls_none ℕ.zero job at h = refl
calls_none (suc n) job at h = rw (le-ltb at (length job) h)

calls_turns : (n m : ℕ) (job : List ℕ) (at : ℕ) → length job ≤ n + at → length job ≤ m + at → calls_from n job at ≡ calls_from m job at
unfolding calls_from
calls_turns ℕ.zero m job at h l = sym (calls_none m job at (omega arith))
calls_turns (suc n) ℕ.zero job at h l = rw (le-ltb at (length job) (omega arith))
calls_turns (suc n) (suc m) job at h l =
    ap (λ (r : List CallNumbers). cond (ltb at (length job)) (call_numbers_at job at ∷ r) []) (calls_turns n m job (next_at job at) (omega arith) (omega arith))

calls_one : (n : ℕ) (job : List ℕ) (at : ℕ) → at < length job → calls_from (suc n) job at ≡ call_numbers_at job at ∷ calls_from n job (next_at job at)
unfolding calls_from
calls_one n job at h = rw (lt-ltb at (length job) h)

-- the two laws by which a loop over a job's calls goes
pub calls_end : (job : List ℕ) (at : ℕ) → length job ≤ at → calls_at job at ≡ []
calls_end job at h = calls_none (length job) job at h

pub calls_step : (job : List ℕ) (at : ℕ) → at < length job → calls_at job at ≡ call_numbers_of (job_call_at job at) ∷ calls_at job (job_call_at job at).next
calls_step job at h =
    calls_turns (length job) (suc (length job)) job at (omega arith) (omega arith) ∙ calls_one (length job) job at h
    ∙ ap₂ (λ (c : CallNumbers) (p : ℕ). c ∷ calls_at job p) (sym (call_in_lem job at h)) (sym (next_in job at h))
