-- The listing of a whole job. Assumes nothing.
use Prim.Native.Nat.{ℕ, zero, suc, ◌+◌, ◌<◌}
use mathlib.Core.Path.{◌≡◌, refl, ap}
use mathlib.Core.Bool.{Bool, true, false, cond}
use mathlib.Core.List.{List, [], ◌∷◌, ◌++◌, map}
use borrow.Author.Tests.{ltb-true}
use lib.Dec.{ltb}
use lib.ListN.{length}
use Rattle.calls.specs.Calls.{after_call}
use Rattle.listing.specs.Lines.{bench_line, end_line}
use Rattle.job_format.specs.Bytes.{next_at}
use Rattle.job_format.specs.Places.{header_bytes}
use Rattle.job_format.specs.Job.{tile_count_of, line_address_of, call_numbers_at, calls_from, calls_of, job_call_at, call_numbers_of}
use Rattle.job_format.proofs.CallLaws.{call_in_lem, next_in}
use Rattle.job_rules.specs.Calls.{bench_call}
use Rattle.job_rules.specs.Listing.{call_lines, lines_from, listing_of}
use Rattle.job_theorems.specs.Listing.{walk_lines, ListingStatement}

-- ---- the walk over a job's places

walked : (f : ℕ) (job : List ℕ) (line n at : ℕ) (l : List ℕ) → walk_lines f job line n at l ≡ lines_from line n (map bench_call (calls_from f job at)) l
unfolding walk_lines lines_from calls_from
walked zero job line n at l = refl
walked (suc f) job line n at l = go (ltb at (length job)) refl (walked f job line (n + 1) (next_at job at) (after_call (bench_call (call_numbers_at job at)) l))
  where
    go : (t : Bool) → ltb at (length job) ≡ t
        → walk_lines f job line (n + 1) (next_at job at) (after_call (bench_call (call_numbers_at job at)) l) ≡ lines_from line (n + 1) (map bench_call (calls_from f job (next_at job at))) (after_call (bench_call (call_numbers_at job at)) l)
        → cond t (call_lines line (n + 1) (bench_call (call_numbers_of (job_call_at job at))) l ++ walk_lines f job line (n + 1) (job_call_at job at).next (after_call (bench_call (call_numbers_of (job_call_at job at))) l)) (end_line n ∷ [])
        ≡ lines_from line n (map bench_call (cond t (call_numbers_at job at ∷ calls_from f job (next_at job at)) [])) l
    go true e ih = let h : at < length job = ltb-true at (length job) e in rw (call_in_lem job at h, next_in job at h) (ap (λ (x : List (List ℕ)). call_lines line (n + 1) (bench_call (call_numbers_at job at)) l ++ x) ih)
    go false e ih = refl

pub listing : ListingStatement
unfolding listing_of calls_of
listing job l e = ap (λ (x : List (List ℕ)). bench_line (tile_count_of job) (line_address_of job) ∷ x) (walked (length job) job (line_address_of job) 0 header_bytes _)
