-- Lines put where there is room for any call's, and call after call. Assumes nothing.
use Prim.Native.Nat.{ℕ, zero, suc, ◌+◌, ◌≤◌, ◌<◌}
use mathlib.Core.Path.{◌≡◌, refl, ap, sym, ◌∙◌}
use mathlib.Core.Bool.{Bool, true, false, cond}
use mathlib.Core.List.{List, [], ◌++◌, append_assoc, append-nil}
use native.Mathlib.Omega.{arith}
use Rattle.std.proofs.Common.{Option, Some, None}
use borrow.Author.Tests.{le-leb, lt-leb, lt-ltb, le-ltb, ltb-true, ne_eqb}
use lib.Dec.{ltb, leb}
use lib.ListN.{length, length-append}
use Rattle.lists.specs.Over.{over, Placed, Put}
use Rattle.lists.proofs.OverLaws.{over_nil, over_over}
use Rattle.calls.specs.Calls.{after_call, start_on, words_started}
use Rattle.listing.specs.Lines.{bench_line, end_line, refused_line}
use Rattle.listing.proofs.DigitLaws.{decimal_le}
use Rattle.listing.proofs.LineLaws.{end_length, refused_length, bench_length}
use Rattle.numbers.specs.Refusals.{refusal_number}
use Rattle.job_format.specs.declared.check.JobFault.{JobFault}
use Rattle.job_format.specs.declared.calls.JobCall.{JobCall}
use Rattle.job_format.specs.Bytes.{next_at}
use Rattle.job_format.specs.Check.{job_accepted, job_refused, check_job}
use Rattle.job_format.specs.Job.{tile_count_of, line_address_of, memory_words_of, call_numbers_at, job_call_at, call_numbers_of}
use Rattle.job_format.proofs.CheckLaws.{refused_lem}
use Rattle.job_format.proofs.CallLaws.{call_in_lem, next_in}
use Rattle.job_rules.specs.Calls.{bench_call}
use Rattle.job_rules.specs.Buffers.{AllPlaced}
use Rattle.job_rules.specs.Listing.{call_lines}
use Rattle.job_rules.proofs.Room.{answer_le, room}
use Rattle.job_rules.specs.declared.states.Rest.{Rest}
use Rattle.job_rules.specs.declared.states.Run.{Run}
use Rattle.job_rules.specs.RunStates.{Left, ended, begun_rest, with_fewer_calls, rest_to_resume, rest_of, run_of, PutsPiece}
use Rattle.jobs.proofs.LineLaws.{placed_at}
use Rattle.job_rules.specs.Room.{most_call_bytes}
use Rattle.job_rules.specs.Pieces.{preceded, paused, bytes_of_call, words_after_call, piece_from, piece_in, accepted_piece, first_piece, next_piece, call_left}

-- ---- lengths

pub bench_le : (tiles address : ℕ) → length (bench_line tiles address) ≤ 40
bench_le tiles address = omega (arith, bench_length tiles address _ refl, decimal_le 20 tiles)

pub end_le : (n : ℕ) → length (end_line n) ≤ 25
end_le n = omega (arith, end_length n _ refl, decimal_le 20 n)

pub refused_le : (number offset : ℕ) → length (refused_line number offset) ≤ 57
refused_le number offset = omega (arith, refused_length number offset _ _ refl refl, decimal_le 20 number, decimal_le 20 offset)

pub call_le : (job : List ℕ) (line n at : ℕ) (l : List ℕ) → length (bytes_of_call job line n at l) ≤ most_call_bytes
unfolding call_lines
call_le job line n at l = answer_le line (n + 1) _ _

-- ---- the lines of one call

pub call_put : (job : List ℕ) (line n at p k : ℕ) (l l' b b' : List ℕ) (c : JobCall) (a : Run) → at < length job → p + most_call_bytes ≤ length b
    → c ≡ job_call_at job at → l' ≡ after_call (bench_call (call_numbers_of c)) l → AllPlaced b b' p k (call_lines line (n + 1) (bench_call (call_numbers_of c)) l)
    → a ≡ record { put = k; rest = Some (record { at = c.next; calls = n + 1 }) } → PutsPiece p b (call_left job line n at l) a l' b'
unfolding run_of call_lines
call_put job line n at p k l l' b b' c a h f e w x r =
    let i : call_numbers_of c ≡ call_numbers_at job at = ap call_numbers_of e ∙ call_in_lem job at h in
    let m : c.next ≡ next_at job at = ap (λ (z : JobCall). z.next) e ∙ next_in job at h in
    let q : Put b b' p k (bytes_of_call job line n at l) = room line (n + 1) _ _ b b' p k (rw i at x) f in
    record {
      says = r ∙ rw (m, q.place);
      leaves = w ∙ rw i;
      buffer = q.buffer;
      inside = omega (arith, ap (λ (z : Run). z.put) r, q.place, call_le job line n at l);
    }

-- ---- call after call

behind_behind : (xs ys : List ℕ) (x : Left) → preceded xs (preceded ys x) ≡ preceded (xs ++ ys) x
unfolding preceded
behind_behind xs ys x = ap (λ (z : List ℕ). record { bytes = z; going = x.going; at = x.at; calls = x.calls; words = x.words }) (sym (append_assoc xs ys x.bytes))

-- enough turns are enough
enough : (f g : ℕ) (job : List ℕ) (line limit p n at : ℕ) (l : List ℕ) → length job ≤ f + at → length job ≤ g + at
    → piece_from (suc f) job line limit p n at l ≡ piece_from (suc g) job line limit p n at l
unfolding piece_from
enough zero zero job line limit p n at l h k = refl
enough zero (suc g) job line limit p n at l h k = rw (le-ltb at (length job) (omega arith))
enough (suc f) zero job line limit p n at l h k = rw (le-ltb at (length job) (omega arith))
enough (suc f) (suc g) job line limit p n at l h k =
    ap (λ (x : Left). cond (leb p limit) (cond (ltb at (length job)) (preceded (bytes_of_call job line n at l) x) (ended (end_line n) l)) (paused n at l))
    (enough f g job line limit (p + length (bytes_of_call job line n at l)) (n + 1) (next_at job at) (words_after_call job at l) (omega arith) (omega arith))

module _ (job : List ℕ) (line limit : ℕ) where
  abbrev pub from : ℕ → ℕ → ℕ → List ℕ → Left
  from p n at l = piece_from (suc (length job)) job line limit p n at l

  pub a_call : (p n at : ℕ) (l : List ℕ) → p ≤ limit → at < length job
      → from p n at l ≡ preceded (bytes_of_call job line n at l) (from (p + length (bytes_of_call job line n at l)) (n + 1) (next_at job at) (words_after_call job at l))
  unfolding piece_from
  a_call p n at l h k =
      enough (length job) (suc (length job)) job line limit p n at l (omega arith) (omega arith) ∙ rw (le-leb p limit h, lt-ltb at (length job) k)

  pub an_end : (p n at : ℕ) (l : List ℕ) → p ≤ limit → length job ≤ at → from p n at l ≡ ended (end_line n) l
  unfolding piece_from
  an_end p n at l h k = rw (le-leb p limit h, le-ltb at (length job) k)

  pub a_pause : (p n at : ℕ) (l : List ℕ) → limit < p → from p n at l ≡ paused n at l
  unfolding piece_from
  a_pause p n at l h = rw (lt-leb p limit h)

  -- where the loop stands: what it put, and that all of the piece is that and what is put from here on
  pub record Goes (p₀ n₀ at₀ : ℕ) (l₀ b₀ l b : List ℕ) (p n at : ℕ) : Type 0 where
    pub done : List ℕ
    pub fewer : n < at
    pub place : p ≡ p₀ + length done
    pub inside : p ≤ length b₀
    pub buffer : b ≡ over b₀ p₀ done
    pub rest : from p₀ n₀ at₀ l₀ ≡ preceded done (from p n at l)

  pub goes_start : (p n at : ℕ) (l b : List ℕ) → n < at → p ≤ length b → Goes p n at l b l b p n at
  unfolding preceded
  goes_start p n at l b f i = record { done = []; fewer = f; place = omega arith; inside = i; buffer = sym (over_nil b p); rest = refl }

  module _ (p₀ n₀ at₀ : ℕ) (l₀ b₀ l b : List ℕ) (p n at : ℕ) (len : length b ≡ length b₀) (x : Goes p₀ n₀ at₀ l₀ b₀ l b p n at) where
    begins : p₀ ≤ length b₀
    begins = omega (arith, x.place, x.inside)

    two : (b' bs : List ℕ) → b' ≡ over b p bs → b' ≡ over b₀ p₀ (x.done ++ bs)
    two b' bs e = e ∙ ap (λ (z : List ℕ). over z p bs) x.buffer ∙ over_over b₀ p₀ p x.done bs begins x.place

    pub goes_step : (l' b' : List ℕ) (k : ℕ) (c : JobCall) → p ≤ limit → at < length job → p + most_call_bytes ≤ length b
        → c ≡ job_call_at job at → l' ≡ after_call (bench_call (call_numbers_of c)) l → AllPlaced b b' p k (call_lines line (n + 1) (bench_call (call_numbers_of c)) l)
        → Goes p₀ n₀ at₀ l₀ b₀ l' b' k (n + 1) c.next
    unfolding run_of
    goes_step l' b' k c h a room f w v =
        let y = call_put job line n at p k l l' b b' c (record { put = k; rest = Some (record { at = c.next; calls = n + 1 }) }) a room f w v refl in
        let bs : List ℕ = bytes_of_call job line n at l in
        let e : k ≡ p + length bs = ap (λ (z : Run). z.put) y.says in
        let m : c.next ≡ next_at job at = ap (λ (z : JobCall). z.next) f ∙ next_in job at a in
        rw (m, e, y.leaves) (record {
          done = x.done ++ bs;
          fewer = omega (arith, x.fewer);
          place = omega (arith, x.place, length-append x.done bs);
          inside = omega (arith, e, y.inside);
          buffer = two b' bs y.buffer;
          rest = x.rest ∙ ap (preceded x.done) (a_call p n at l h a) ∙ behind_behind x.done bs _;
        })

    pub goes_end : (b' : List ℕ) (a : Run) → p ≤ limit → length job ≤ at → PutsPiece p b (ended (end_line n) []) a [] b' → PutsPiece p₀ b₀ (from p₀ n₀ at₀ l₀) a l b'
    unfolding run_of preceded
    goes_end b' a h k y =
        let e : from p₀ n₀ at₀ l₀ ≡ preceded x.done (ended (end_line n) l) = x.rest ∙ ap (preceded x.done) (an_end p n at l h k) in
        rw e (record {
          says = y.says ∙ ap (λ (z : ℕ). record { put = z; rest = None }) (omega (arith, x.place, length-append x.done (end_line n)));
          leaves = refl;
          buffer = two b' (end_line n) y.buffer;
          inside = rw len at y.inside;
        })

    pub goes_pause : limit < p → PutsPiece p₀ b₀ (from p₀ n₀ at₀ l₀) (record { put = p; rest = Some (record { at = at; calls = n }) }) l b
    unfolding run_of preceded
    goes_pause h =
        let e : from p₀ n₀ at₀ l₀ ≡ preceded x.done (paused n at l) = x.rest ∙ ap (preceded x.done) (a_pause p n at l h) in
        rw e (record {
          says = ap (λ (z : ℕ). record { put = z; rest = Some (record { at = at; calls = n }) }) (omega (arith, x.place, length-append x.done []));
          leaves = refl;
          buffer = x.buffer ∙ ap (over b₀ p₀) (sym (append-nil x.done));
          inside = x.inside;
        })

-- ---- a line, then a piece

pub bench_put : (b b' : List ℕ) (k tiles address : ℕ) → most_call_bytes ≤ length b → Placed b b' 0 k (bench_line tiles address) → Put b b' 0 k (bench_line tiles address)
bench_put b b' k tiles address h x = placed_at b b' 0 k (bench_line tiles address) (omega (arith, bench_le tiles address)) x

pub bench_inside : (b b' : List ℕ) (k tiles address : ℕ) → most_call_bytes ≤ length b → Placed b b' 0 k (bench_line tiles address) → k ≤ length b
bench_inside b b' k tiles address h x = omega (arith, (bench_put b b' k tiles address h x).place, bench_le tiles address)

behind_put : (b b₁ b₂ l : List ℕ) (p k : ℕ) (bs : List ℕ) (x : Left) (a : Run) → p ≤ length b → length b₁ ≡ length b → Put b b₁ p k bs → PutsPiece k b₁ x a l b₂ → PutsPiece p b (preceded bs x) a l b₂
unfolding run_of preceded
behind_put b b₁ b₂ l p k bs x a h e y z =
    record {
      says = z.says ∙ ap (λ (n : ℕ). record { put = n; rest = rest_of x }) (omega (arith, y.place, length-append bs x.bytes));
      leaves = z.leaves;
      buffer = z.buffer ∙ ap (λ (n : List ℕ). over n k x.bytes) y.buffer ∙ over_over b p k bs x.bytes h y.place;
      inside = omega (arith, z.inside);
    }

pub accepted_put : (job l l₁ l₂ b b₁ b₂ : List ℕ) (k tiles line : ℕ) (s : Rest) (a : Run) → most_call_bytes ≤ length b → length b₁ ≡ length b
    → tiles ≡ tile_count_of job → line ≡ line_address_of job → l₁ ≡ words_started l (tile_count_of job) (start_on l (tile_count_of job) (memory_words_of job))
    → Placed b b₁ 0 k (bench_line tiles line) → s ≡ begun_rest → PutsPiece k b₁ (piece_in job (length b₁) k s.calls s.at l₁) a l₂ b₂ → PutsPiece 0 b (accepted_piece job (length b) l) a l₂ b₂
unfolding accepted_piece
accepted_put job l l₁ l₂ b b₁ b₂ k tiles line s a h e t i w x q z =
    let y : Put b b₁ 0 k (bench_line (tile_count_of job) (line_address_of job)) = rw (t, i) at (bench_put b b₁ k tiles line h x) in
    let j : k ≡ length (bench_line (tile_count_of job) (line_address_of job)) = omega (arith, y.place) in
    behind_put b b₁ b₂ l₂ 0 k (bench_line (tile_count_of job) (line_address_of job)) _ a (omega arith) e y (rw (← j) (rw (q, w, e) at z))

-- ---- the first piece

pub nothing_put : (l b : List ℕ) (a : Run) → a ≡ record { put = 0; rest = None } → PutsPiece 0 b (ended [] l) a l b
unfolding run_of
nothing_put l b a e = record { says = e; leaves = refl; buffer = sym (over_nil b 0); inside = omega (arith, ap (λ (z : Run). z.put) e) }

with_words_lem : (p : ℕ) (b v : List ℕ) (a : Run) (l b' : List ℕ) → PutsPiece p b (ended v []) a [] b' → PutsPiece p b (ended v l) a l b'
unfolding run_of
with_words_lem p b v a l b' x = record { says = x.says; leaves = refl; buffer = x.buffer; inside = x.inside }

module _ (job l b : List ℕ) (a : Run) where
  pub first_short : length b < most_call_bytes → a ≡ record { put = 0; rest = None } → PutsPiece 0 b (first_piece job (length b) l) a l b
  unfolding first_piece
  first_short h e = rw (lt-ltb (length b) most_call_bytes h) (nothing_put l b a e)

  pub first_accepted : (l' b' : List ℕ) → most_call_bytes ≤ length b → job_accepted ≡ check_job job → PutsPiece 0 b (accepted_piece job (length b) l) a l' b' → PutsPiece 0 b (first_piece job (length b) l) a l' b'
  unfolding first_piece
  first_accepted l' b' h e x = rw (le-ltb (length b) most_call_bytes h, ← e) x

  pub first_refused : (b' : List ℕ) (f : JobFault) → most_call_bytes ≤ length b → job_refused (refusal_number f.refusal) f.offset ≡ check_job job
      → PutsPiece 0 b (ended (refused_line (refusal_number f.refusal) f.offset) []) a [] b' → PutsPiece 0 b (first_piece job (length b) l) a l b'
  unfolding first_piece
  first_refused b' f h e x =
      rw (le-ltb (length b) most_call_bytes h, ← e, ne_eqb (refusal_number f.refusal) 0 (refused_lem f.refusal)) (with_words_lem 0 b (refused_line (refusal_number f.refusal) f.offset) a l b' x)

  -- ---- the next ones

  pub next_short : (r : Run) → length b < most_call_bytes → a ≡ record { put = 0; rest = None } → PutsPiece 0 b (next_piece job (length b) r l) a l b
  unfolding next_piece
  next_short r h e = rw (lt-ltb (length b) most_call_bytes h) (nothing_put l b a e)

  pub next_ended : (r : Run) → most_call_bytes ≤ length b → rest_to_resume r ≡ None → a ≡ record { put = 0; rest = None } → PutsPiece 0 b (next_piece job (length b) r l) a l b
  unfolding next_piece
  next_ended r h g e = rw (le-ltb (length b) most_call_bytes h, g) (nothing_put l b a e)

  pub next_turns : (r : Run) (s : Rest) (l' b' : List ℕ) → most_call_bytes ≤ length b → rest_to_resume r ≡ Some s → PutsPiece 0 b (piece_in job (length b) 0 s.calls s.at l) a l' b' → PutsPiece 0 b (next_piece job (length b) r l) a l' b'
  unfolding next_piece
  next_turns r s l' b' h g z = rw (le-ltb (length b) most_call_bytes h, g) z

-- what a run goes on with has fewer calls than bytes before its place
pub resumed_fewer : (r : Run) (s : Rest) → rest_to_resume r ≡ Some s → s.calls < s.at
unfolding rest_to_resume
resumed_fewer r s = go r.rest
  where
    go : (o : Option Rest) → with_fewer_calls o ≡ Some s → s.calls < s.at
    go None e = cc
    go (Some q) e = here (ltb q.calls q.at) refl e
      where
        here : (t : Bool) → ltb q.calls q.at ≡ t → cond {A = Option Rest} t (Some q) None ≡ Some s → s.calls < s.at
        here true u f = let p : q ≡ s = cc in rw (← p) (ltb-true _ _ u)
        here false u f = cc
