-- A run's pieces go on in the job, and a caller's loop over them ends with the last one. Assumes nothing.
use Prim.Native.Nat.{ℕ, zero, suc, ◌+◌, ◌-◌, ◌≤◌, ◌<◌}
use mathlib.Core.Path.{◌≡◌, refl, ap, sym, ◌∙◌, subst}
use mathlib.Core.Bool.{Bool, true, false, cond}
use mathlib.Core.List.{List, []}
use native.Mathlib.Omega.{arith}
use Rattle.std.specs.Option.{is_some}
use Rattle.std.proofs.Common.{Option, Some, None}
use borrow.Author.Tests.{le-leb, ltb-true}
use lib.Dec.{ltb, leb}
use lib.ListN.{length}
use Rattle.listing.specs.Lines.{end_line}
use Rattle.job_format.specs.Bytes.{next_at}
use Rattle.job_format.specs.Job.{line_address_of}
use Rattle.job_rules.specs.declared.states.Rest.{Rest}
use Rattle.job_rules.specs.declared.states.Run.{Run}
use Rattle.job_rules.specs.RunStates.{Left, ended, rest_to_resume, rest_of, run_of}
use Rattle.job_rules.specs.Room.{most_call_bytes}
use Rattle.job_rules.specs.Pieces.{preceded, paused, bytes_of_call, words_after_call, piece_from, piece_of, first_piece, next_piece, last_from, words_printed}

not_both : false ≡ true → ⊥
not_both e = let z : ◌≡◌ {A = ℕ} 0 1 = ap (λ (b : Bool). cond b 1 0) e in omega arith

-- one turn: t is the test for room, u that for the job's end, y the turns behind it
abbrev pub one_call : List ℕ → ℕ → ℕ → ℕ → List ℕ → Bool → Bool → Left → Left
one_call job line n at l t u y = cond t (cond u (preceded (bytes_of_call job line n at l) y) (ended (end_line n) l)) (paused n at l)

-- ---- a run that goes on stands further in the job, and has made fewer calls than there are bytes before its place

pub record Further (n at : ℕ) (x : Left) : Type 0 where
  pub further : at ≤ x.at
  pub fewer : n < at → x.calls < x.at

turn_further : (job : List ℕ) (line n at : ℕ) (l : List ℕ) (t u : Bool) (y : Left) → (y.going ≡ true → Further (n + 1) (next_at job at) y)
    → (one_call job line n at l t u y).going ≡ true → Further n at (one_call job line n at l t u y)
unfolding preceded
turn_further job line n at l false u y ih g = record { further = omega arith; fewer = λ h. h }
turn_further job line n at l true true y ih g = let z = ih g in record { further = omega (arith, z.further); fewer = λ h. z.fewer (omega arith) }
turn_further job line n at l true false y ih g = absurd (not_both g)

pub piece_further : (f : ℕ) (job : List ℕ) (line limit p n at : ℕ) (l : List ℕ) → (piece_from f job line limit p n at l).going ≡ true → Further n at (piece_from f job line limit p n at l)
unfolding piece_from
piece_further zero job line limit p n at l g = record { further = omega arith; fewer = λ h. h }
piece_further (suc f) job line limit p n at l g =
    turn_further job line n at l (leb p limit) (ltb at (length job)) _ (piece_further f job line limit (p + length (bytes_of_call job line n at l)) (n + 1) (next_at job at) (words_after_call job at l)) g

-- where there is room for a call, at least one is made
turn_moves : (job : List ℕ) (line n at : ℕ) (l : List ℕ) (u : Bool) (y : Left) → ltb at (length job) ≡ u → (y.going ≡ true → Further (n + 1) (next_at job at) y)
    → (one_call job line n at l true u y).going ≡ true → (at < (one_call job line n at l true u y).at) × (at < length job)
unfolding preceded
turn_moves job line n at l true y e ih g = let z = ih g in (omega (arith, z.further), ltb-true at (length job) e)
turn_moves job line n at l false y e ih g = absurd (not_both g)

pub piece_moves : (f : ℕ) (job : List ℕ) (line limit p n at : ℕ) (l : List ℕ) → p ≤ limit → (piece_from (suc f) job line limit p n at l).going ≡ true
    → (at < (piece_from (suc f) job line limit p n at l).at) × (at < length job)
unfolding piece_from
piece_moves f job line limit p n at l h =
    rw (le-leb p limit h) (turn_moves job line n at l (ltb at (length job)) _ refl (piece_further f job line limit (p + length (bytes_of_call job line n at l)) (n + 1) (next_at job at) (words_after_call job at l)))

-- ---- a caller's loop ends, whatever the buffer: each piece leaves fewer

abbrev pub left_of : List ℕ → Option Rest → ℕ
left_of job None = 0
left_of job (Some r) = suc (length job - r.at)

abbrev pub pieces_left : List ℕ → Run → ℕ
pieces_left job r = left_of job r.rest

-- a piece that goes on has a rest, and the other way round
goes_on : (x : Left) → x.going ≡ true → rest_of x ≡ Some (record { at = x.at; calls = x.calls })
goes_on x e = rw e

was_going : (x : Left) (s : Rest) → rest_of x ≡ Some s → x.going ≡ true
was_going x s = go x.going
  where
    go : (t : Bool) → cond t (Some (record { at = x.at; calls = x.calls })) None ≡ Some s → t ≡ true
    go true e = refl
    go false e = cc

was_ended : (x : Left) → rest_of x ≡ None → x.going ≡ false
was_ended x = go x.going
  where
    go : (t : Bool) → cond {A = Option Rest} t (Some (record { at = x.at; calls = x.calls })) None ≡ None → t ≡ false
    go true e = cc
    go false e = refl

left_less : (job : List ℕ) (s : Rest) (x : Left) → (x.going ≡ true → (s.at < x.at) × (s.at < length job)) → left_of job (rest_of x) < suc (length job - s.at)
left_less job s x k = go x.going refl
  where
    go : (t : Bool) → x.going ≡ t → left_of job (cond t (Some (record { at = x.at; calls = x.calls })) None) < suc (length job - s.at)
    go true g = let m = k g in omega (arith, m.0, m.1)
    go false g = omega arith

next_moves : (job : List ℕ) (len : ℕ) (r : Run) (s : Rest) (l : List ℕ) → r.rest ≡ Some s → (next_piece job len r l).going ≡ true → (s.at < (next_piece job len r l).at) × (s.at < length job)
unfolding next_piece rest_to_resume
next_moves job len r s l e = rw e (go (ltb len most_call_bytes) (ltb s.calls s.at))
  where
    go : (t u : Bool) → (cond t (ended [] l) (piece_of job len (cond u (Some s) None) l)).going ≡ true
        → (s.at < (cond t (ended [] l) (piece_of job len (cond u (Some s) None) l)).at) × (s.at < length job)
    go true u g = absurd (not_both g)
    go false true g = piece_moves (length job) job (line_address_of job) (len - most_call_bytes) 0 s.calls s.at l (omega arith) g
    go false false g = absurd (not_both g)

less_at : (job : List ℕ) (len : ℕ) (r a : Run) (s : Rest) (l : List ℕ) → r.rest ≡ Some s → a ≡ run_of 0 (next_piece job len r l) → pieces_left job a < pieces_left job r
unfolding run_of
less_at job len r a s l g e = rw e (subst (λ (o : Option Rest). left_of job (rest_of (next_piece job len r l)) < left_of job o) (sym g) (left_less job s (next_piece job len r l) (next_moves job len r s l g)))

-- the same by the test of a caller's loop
with_rest : (o : Option Rest) → is_some o ≡ true → (s : Rest) × (o ≡ Some s)
with_rest None e = cc
with_rest (Some s) e = (s, refl)

without_rest : (o : Option Rest) → is_some o ≡ false → o ≡ None
without_rest None e = refl
without_rest (Some s) e = cc

pub next_less : (job : List ℕ) (len : ℕ) (r a : Run) (l : List ℕ) → is_some r.rest ≡ true → a ≡ run_of 0 (next_piece job len r l) → pieces_left job a < pieces_left job r
next_less job len r a l t e = let w = with_rest r.rest t in less_at job len r a w.0 l w.1 e

-- ---- and its last piece is that of the run

last_enough : (f g : ℕ) (job : List ℕ) (len : ℕ) (x : Left) → pieces_left job (run_of 0 x) ≤ f → pieces_left job (run_of 0 x) ≤ g → last_from f job len x ≡ last_from g job len x
unfolding last_from run_of
last_enough zero zero job len x h k = refl
last_enough zero (suc g) job len x h k = go x.going refl
  where
    go : (t : Bool) → x.going ≡ t → x ≡ cond t (last_from g job len (next_piece job len (run_of 0 x) x.words)) x
    go true e = let z : suc (length job - x.at) ≤ 0 = rw e at h in absurd (omega arith)
    go false e = refl
last_enough (suc f) zero job len x h k = go x.going refl
  where
    go : (t : Bool) → x.going ≡ t → cond t (last_from f job len (next_piece job len (run_of 0 x) x.words)) x ≡ x
    go true e = let z : suc (length job - x.at) ≤ 0 = rw e at k in absurd (omega arith)
    go false e = refl
last_enough (suc f) (suc g) job len x h k =
    go x.going refl
    (λ e. let m = less_at job len (run_of 0 x) (run_of 0 (next_piece job len (run_of 0 x) x.words)) _ x.words (goes_on x e) refl in
    last_enough f g job len (next_piece job len (run_of 0 x) x.words) (omega (arith, m, h)) (omega (arith, m, k)))
  where
    go : (t : Bool) → x.going ≡ t → (x.going ≡ true → last_from f job len (next_piece job len (run_of 0 x) x.words) ≡ last_from g job len (next_piece job len (run_of 0 x) x.words))
        → cond t (last_from f job len (next_piece job len (run_of 0 x) x.words)) x ≡ cond t (last_from g job len (next_piece job len (run_of 0 x) x.words)) x
    go true e ih = ih e
    go false e ih = refl

-- where a caller's loop stands
pub record Stands (job : List ℕ) (len : ℕ) (l₀ l : List ℕ) (r : Run) : Type 0 where
  pub piece : Left
  pub says : r ≡ run_of 0 piece
  pub leaves : l ≡ piece.words
  pub rest : words_printed job len l₀ ≡ (last_from (suc (length job)) job len piece).words

pub stands_first : (job : List ℕ) (len : ℕ) (l₀ l : List ℕ) (r : Run) → r ≡ run_of 0 (first_piece job len l₀) → l ≡ (first_piece job len l₀).words → Stands job len l₀ l r
unfolding words_printed
stands_first job len l₀ l r e w = record { piece = first_piece job len l₀; says = e; leaves = w; rest = refl }

at_most : (job : List ℕ) (r : Option Rest) → left_of job r ≤ suc (length job)
at_most job None = omega arith
at_most job (Some r) = omega arith

last_next : (job : List ℕ) (len : ℕ) (x : Left) → x.going ≡ true → last_from (suc (length job)) job len x ≡ last_from (suc (length job)) job len (next_piece job len (run_of 0 x) x.words)
unfolding last_from run_of
last_next job len x g =
    let m = less_at job len (run_of 0 x) (run_of 0 (next_piece job len (run_of 0 x) x.words)) _ x.words (goes_on x g) refl in
    let b = at_most job (rest_of x) in
    ap (λ (t : Bool). cond t (last_from (length job) job len (next_piece job len (run_of 0 x) x.words)) x) g
    ∙ last_enough (length job) (suc (length job)) job len (next_piece job len (run_of 0 x) x.words) (omega (arith, m, b)) (omega (arith, m, b))

stands_next : (job : List ℕ) (len : ℕ) (l₀ l l' : List ℕ) (r a : Run) (q : Rest) → Stands job len l₀ l r → r.rest ≡ Some q → a ≡ run_of 0 (next_piece job len r l) → l' ≡ (next_piece job len r l).words → Stands job len l₀ l' a
unfolding run_of
stands_next job len l₀ l l' r a q s g e w =
    let x : Left = s.piece in
    record {
      piece = next_piece job len (run_of 0 x) x.words;
      says = rw (s.says, s.leaves) at e;
      leaves = rw (s.says, s.leaves) at w;
      rest = s.rest ∙ ap (λ (z : Left). z.words) (last_next job len x (was_going x q (sym (ap (λ (z : Run). z.rest) s.says) ∙ g)));
    }

-- the same in a buffer of that length
pub stands_more : (job : List ℕ) (n len : ℕ) (l₀ l l' : List ℕ) (r a : Run) → len ≡ n → Stands job n l₀ l r → is_some r.rest ≡ true → a ≡ run_of 0 (next_piece job len r l) → l' ≡ (next_piece job len r l).words → Stands job n l₀ l' a
stands_more job n len l₀ l l' r a e s t x y = let w = with_rest r.rest t in stands_next job n l₀ l l' r a w.0 s w.1 (rw e at x) (rw e at y)

pub stands_last : (job : List ℕ) (len : ℕ) (l₀ l : List ℕ) (r : Run) → Stands job len l₀ l r → is_some r.rest ≡ false → l ≡ words_printed job len l₀
unfolding last_from run_of
stands_last job len l₀ l r s t =
    let x : Left = s.piece in
    let d : x.going ≡ false = was_ended x (sym (ap (λ (z : Run). z.rest) s.says) ∙ without_rest r.rest t) in
    s.leaves ∙ sym (s.rest ∙ ap (λ (t : Bool). (cond t (last_from (length job) job len (next_piece job len (run_of 0 x) x.words)) x).words) d)
