-- What an accepted job holds: its header, and its calls to the job's end. Assumes nothing.
use Prim.Native.Nat.{ℕ, suc, ◌+◌, ◌-◌, ◌%◌, ◌≤◌, ◌<◌}
use mathlib.Core.Path.{◌≡◌, refl, ap, sym, ◌∙◌, subst}
use mathlib.Core.Bool.{Bool, cond, true, false, ◌&&◌, ◌||◌}
use mathlib.Core.List.{List}
use native.Mathlib.Omega.{arith}
use lib.Dec.{eqb, ltb, leb}
use lib.ListN.{length}
use borrow.Author.Tests.{lt-ltb, le-ltb, ltb-true, ltb-false, eqb-true, eqb-false, leb-true}
use Rattle.job_format.specs.Bytes.{tag_at, next_at}
use Rattle.job_format.specs.Fields.{is_tag, value_length, tag_in_place, good_value, field_refusal}
use Rattle.job_format.specs.Check.{Checked, job_accepted, job_refused, check_end, check_fields, check_job}
use Rattle.job_format.specs.Job.{tile_count_of, line_address_of, calls_of, job_call_at}
use Rattle.job_format.specs.Accepted.{CallsToEnd, none, one, AcceptedStatement, calls_at}
use Rattle.job_format.proofs.CallLaws.{tag_in, next_in, calls_end, calls_step}
use Rattle.job_format.proofs.CheckLaws.{FieldPassed, passed, turns, fields_end, fields_step}

-- ---- an accepted job, field by field
data Look (job : List ℕ) (at k : ℕ) : Type 0 where
  ended : length job ≤ at → 3 ≤ k → Look job at k
  found : at < length job → FieldPassed job at k → check_fields (length job - next_at job at) job (next_at job at) (k + 1) ≡ job_accepted → Look job at k

ending : (at k : ℕ) → check_end at k ≡ job_accepted → 3 ≤ k
unfolding check_end
ending at k e = go (ltb k 3) refl e
  where
    go : (b : Bool) → ltb k 3 ≡ b → cond b (job_refused 23 at) job_accepted ≡ job_accepted → 3 ≤ k
    go true t e = absurd (omega (arith, ap (λ (x : Checked). x.refusal) e))
    go false t e = ltb-false k 3 t

look : (job : List ℕ) (at k : ℕ) → check_fields (length job - at) job at k ≡ job_accepted → Look job at k
look job at k e = go (ltb at (length job)) refl
  where
    here : at < length job → (b : Bool) → eqb (field_refusal job at k) 0 ≡ b → cond b (check_fields (length job - next_at job at) job (next_at job at) (k + 1)) (job_refused (field_refusal job at k) at) ≡ job_accepted → Look job at k
    here h true t f = found h (passed job at k (eqb-true _ _ t)) f
    here h false t f = absurd (eqb-false _ _ t (ap (λ (x : Checked). x.refusal) f))

    go : (b : Bool) → ltb at (length job) ≡ b → Look job at k
    go true t = here (ltb-true _ _ t) (eqb (field_refusal job at k) 0) refl (sym (fields_step (length job - at) job at k (ltb-true _ _ t) (omega arith)) ∙ e)
    go false t = ended (ltb-false _ _ t) (ending at k (sym (fields_end (length job - at) job at k (ltb-false _ _ t)) ∙ e))

not_both : false ≡ true → ⊥
not_both e = let z : ◌≡◌ {A = ℕ} 0 1 = ap (λ (b : Bool). cond b 1 0) e in omega arith

-- a call's tag
either_range : (a b c d : Bool) → ((a && b) || (c && d)) ≡ true → (d ≡ true → ⊥) → b ≡ true
either_range a true c d i n = refl
either_range true false true true i n = absurd (n refl)
either_range true false true false i n = absurd (not_both i)
either_range true false false d i n = absurd (not_both i)
either_range false false true true i n = absurd (n refl)
either_range false false true false i n = absurd (not_both i)
either_range false false false d i n = absurd (not_both i)

call_tag : (k t : ℕ) → 3 ≤ k → is_tag t ≡ true → tag_in_place k t ≡ true → (16 ≤ t) × (t ≤ 24)
unfolding is_tag tag_in_place
call_tag k t h i p = (low, go (leb t 24) refl)
  where
    low : 16 ≤ t
    low = leb-true 16 t (rw (le-ltb k 3 h) at p)

    go : (b : Bool) → leb t 24 ≡ b → t ≤ 24
    go true e = leb-true t 24 e
    go false e =
        absurd (let u : t ≤ 3 = leb-true t 3 (either_range (leb 1 t) (leb t 3) (leb 16 t) (leb t 24) i (λ x. not_both (sym e ∙ x))) in omega (arith, low))

at_end : (job : List ℕ) (at : ℕ) → at ≤ length job → length job ≤ at → CallsToEnd job at (calls_at job at)
at_end job at h l =
    let s : length job ≡ at = omega arith in
    subst (λ (p : ℕ). CallsToEnd job p (calls_at job p)) s (rw (calls_end job (length job) (omega arith)) none)

walk : (n : ℕ) (job : List ℕ) (at k : ℕ) → 3 ≤ k → at ≤ length job → length job ≤ n + at → Look job at k → CallsToEnd job at (calls_at job at)
walk ℕ.zero job at k h w l (ended x y) = at_end job at w x
walk ℕ.zero job at k h w l (found x p e) = absurd (omega arith)
walk (suc n) job at k h w l (ended x y) = at_end job at w x
walk (suc n) job at k h w l (found x p e) =
    let t : (16 ≤ tag_at job at) × (tag_at job at ≤ 24) = call_tag k (tag_at job at) h p.tag_holds p.place_holds in
    let v : next_at job at ≤ length job = leb-true _ _ p.whole_holds in
    rw (calls_step job at x)
    (one {calls = calls_at job (job_call_at job at).next} x (rw (tag_in job at x) t.0) (rw (tag_in job at x) t.1)
    (rw (next_in job at x, tag_in job at x) (ap (λ (r : ℕ). at + 3 + r) (eqb-true _ _ p.len_holds))) (rw (next_in job at x) v)
    (rw (next_in job at x) (walk n job (next_at job at) (k + 1) (omega arith) v (omega arith) (look job (next_at job at) (k + 1) e))))

-- a header field: its tag, its length, and the next field's place
record HeaderField (job : List ℕ) (at k : ℕ) : Type 0 where
  tag_is : tag_at job at ≡ k + 1
  next_is : next_at job at ≡ at + 3 + value_length (k + 1)
  within : next_at job at ≤ length job
  good : good_value job at ≡ true
  rest : check_fields (length job - next_at job at) job (next_at job at) (k + 1) ≡ job_accepted

header_field : (job : List ℕ) (at k : ℕ) → k < 3 → Look job at k → HeaderField job at k
unfolding tag_in_place
header_field job at k h (ended x y) = absurd (omega arith)
header_field job at k h (found x p e) =
    let t : tag_at job at ≡ k + 1 = eqb-true _ _ (rw (lt-ltb k 3 h) at p.place_holds) in
    record {
      tag_is = t;
      next_is = ap (λ (n : ℕ). at + 3 + n) (eqb-true _ _ p.len_holds ∙ ap value_length t);
      within = leb-true _ _ p.whole_holds;
      good = p.value_holds;
      rest = e;
    }

both_true : (a b : Bool) → (a && b) ≡ true → (a ≡ true) × (b ≡ true)
both_true true true e = (refl, refl)
both_true true false e = absurd (not_both e)
both_true false true e = absurd (not_both e)
both_true false false e = absurd (not_both e)

tiles_good : (job : List ℕ) → tag_at job 0 ≡ 1 → good_value job 0 ≡ true → (1 ≤ tile_count_of job) × (tile_count_of job ≤ 64)
unfolding good_value tile_count_of
tiles_good job t g =
    let b : (leb 1 (tile_count_of job) ≡ true) × (leb (tile_count_of job) 64 ≡ true) = both_true _ _ (rw t at g) in
    (leb-true _ _ b.0, leb-true _ _ b.1)

address_good : (job : List ℕ) → tag_at job 4 ≡ 2 → good_value job 4 ≡ true → line_address_of job % 64 ≡ 0
unfolding good_value line_address_of
address_good job t g = eqb-true _ _ (rw t at g)

short_checked : (job : List ℕ) → check_job job ≡ job_accepted → (length job ≤ 65536) × (check_fields (length job) job 0 0 ≡ job_accepted)
unfolding check_job
short_checked job e = go (ltb 65536 (length job)) refl e
  where
    go : (b : Bool) → ltb 65536 (length job) ≡ b → cond b (job_refused 25 65536) (check_fields (length job) job 0 0) ≡ job_accepted → (length job ≤ 65536) × (check_fields (length job) job 0 0 ≡ job_accepted)
    go true t f = absurd (omega (arith, ap (λ (x : Checked). x.refusal) f))
    go false t f = (ltb-false _ _ t, f)

pub accepted_job : AcceptedStatement
unfolding value_length calls_of
accepted_job job e =
    let s : (length job ≤ 65536) × (check_fields (length job) job 0 0 ≡ job_accepted) = short_checked job e in
    let f0 : HeaderField job 0 0 = header_field job 0 0 (omega arith) (look job 0 0 (turns (length job - 0) (length job) job 0 0 (omega arith) (omega arith) ∙ s.1)) in
    let f1 : HeaderField job 4 1 = header_field job 4 1 (omega arith) (look job 4 1 (rw f0.next_is at f0.rest)) in
    let f2 : HeaderField job 13 2 = header_field job 13 2 (omega arith) (look job 13 2 (rw f1.next_is at f1.rest)) in
    let w : 80 ≤ length job = rw f2.next_is at f2.within in
    let t : (1 ≤ tile_count_of job) × (tile_count_of job ≤ 64) = tiles_good job f0.tag_is f0.good in
    record {
      short = s.0;
      header = w;
      some_tiles = t.0;
      tiles_fit = t.1;
      aligned = address_good job f1.tag_is f1.good;
      calls_to_end = walk (length job) job 80 3 (omega arith) w (omega arith) (look job 80 3 (rw f2.next_is at f2.rest));
    }
