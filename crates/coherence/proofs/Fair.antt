-- No request at the front of its NoC1 queue is passed over by more takings than there are other tiles: each taking of another tile
-- brings the last taken nearer to it in circle order.
use Prim.Native.Nat.{ℕ, suc, ◌+◌, ◌-◌, ◌≤◌, ◌<◌}
use mathlib.Core.Path.{◌≡◌, refl, sym, ◌∙◌, subst}
use mathlib.Core.Bool.{Bool, cond, true, false, not, false≢true}
use mathlib.Core.List.{List, [], ◌∷◌}
use mathlib.Core.Logic.{◌⊎◌, ◌≢◌, inl, inr}
use mathlib.Core.Option.{Option, some, none}
use native.Mathlib.Omega.{arith}
use borrow.Author.Tests.{lt-ltb, le-ltb, eqb-false}
use lib.Dec.{ltb, eqb}
use lib.ListN.{length, set, length-replicate}
use Rattle.masks.specs.Mask.{has}
use Rattle.protocol.specs.Parts.{Words, empty, one, two, reading, writing, Request, load_req, store_req, wb_guard_req, Tile, tile_of, idle, awaiting_load, awaiting_owner, awaiting_acks, awaiting_store, Bench, bench_of, Call, load, store, evict, taking, to_tile, from_tile, memory_step, memory_ack, home_eviction, task, storing}
use Rattle.protocol.specs.Home.{Move, move, range, serve}
use Rattle.protocol.specs.Bench.{fresh_tile, fresh, tile_at, front, noc1, pop_noc1, kind_of, circle, first_of, eligible, arbitrate, served, take_front, take_chosen, taking_on, step}
use Rattle.protocol.specs.declared.Answer.{Answer}
use Rattle.protocol.specs.declared.Answer.{Answer}
use Rattle.protocol.specs.Answers.{answer_of, is_accepted}
use Rattle.protocol.specs.Runs.{rules, after, runs}
use Rattle.protocol.specs.Demand3.{tiles_of, one_if, is_request, request_at_front, takes_by, takes_tile, takes_another, passes_over, passed_over}
use Rattle.protocol.proofs.Search.{split, First, first_range, pick, circle_first, first_passes, eligible_below}
use Rattle.coherence.proofs.Sent.{last_taken, asks, on_posted}
use Rattle.coherence.proofs.Effect.{last_by, last_after, left}

-- how many of n tiles are strictly between l and t in circle order
unfoldable pub between : ℕ → ℕ → ℕ → ℕ
between n l t = cond (ltb l t) (t - suc l) (n - suc l + t)

ahead : (n l t : ℕ) → l < t → between n l t ≡ t - suc l
unfolding between
ahead n l t h = rw (lt-ltb l t h)

behind : (n l t : ℕ) → t ≤ l → between n l t ≡ n - suc l + t
unfolding between
behind n l t h = rw (le-ltb l t h)

pub between_below : (n l t : ℕ) → l < n → t < n → between n l t ≤ n - 1
between_below n l t lb tb = go (split l t)
  where
    go : (l < t) ⊎ (t ≤ l) → between n l t ≤ n - 1
    go (inl h) = omega (arith, ahead n l t h)
    go (inr h) = omega (arith, behind n l t h)

-- the first in circle order after l that passes, where t passes: t, or nearer to t than l
abbrev Nearer : ℕ → ℕ → ℕ → Option ℕ → Type 0
Nearer n l t none = Unit {0}
Nearer n l t (some u) = u ≢ t → between n u t < between n l t

nearer : (f : ℕ → Bool) (n l t : ℕ) → f t ≡ true → l < n → t < n → Nearer n l t (first_of f (circle l n))
unfolding pick
nearer f n l t ft lb tb =
    rw (circle_first f l n)
    (go (first_of f (range (suc l) (n - suc l))) (first_of f (range 0 (suc l))) (first_range f t ft (n - suc l) (suc l)) (first_range f t ft (suc l) 0))
  where
    past : (u : ℕ) → suc l ≤ u → u < suc l + (n - suc l) → u ≢ t → (t < suc l) ⊎ (u ≤ t) → between n u t < between n l t
    past u a b ne (inl h) = omega (arith, behind n u t (omega arith), behind n l t (omega arith))
    past u a b ne (inr h) = omega (arith, ahead n u t (omega arith), ahead n l t (omega arith))

    wrapped : (u : ℕ) → u < suc l → u ≢ t → (t < suc l) ⊎ (suc l + (n - suc l) ≤ t) → (t < 0) ⊎ (u ≤ t) → between n u t < between n l t
    wrapped u b ne (inl h) (inl g) = omega arith
    wrapped u b ne (inl h) (inr g) = omega (arith, ahead n u t (omega arith), behind n l t (omega arith))
    wrapped u b ne (inr h) g = omega arith

    go : (o p : Option ℕ) → First t (suc l) (n - suc l) o → First t 0 (suc l) p → Nearer n l t (pick o p)
    go (some u) p h g = λ ne. past u h.0 h.1 ne h.2
    go none (some u) h g = λ ne. wrapped u (omega (arith, g.1)) ne h g.2
    go none none h g = tt

-- a tile whose NoC1 front is a request can be taken
asks_eligible : (mark : Bool) (x : Tile) → asks x ≡ true → eligible mark x ≡ true
unfolding asks noc1 front is_request eligible
asks_eligible mark (tile_of c p empty q2 q3) e = e
asks_eligible mark (tile_of c p (one (load_req w)) q2 q3) e = e
asks_eligible mark (tile_of c p (one (store_req w)) q2 q3) e = e
asks_eligible mark (tile_of c p (one wb_guard_req) q2 q3) e = absurd (false≢true e)
asks_eligible mark (tile_of c p (two (load_req w) m) q2 q3) e = e
asks_eligible mark (tile_of c p (two (store_req w) m) q2 q3) e = e
asks_eligible mark (tile_of c p (two wb_guard_req m) q2 q3) e = absurd (false≢true e)

asks_below : (ts : List Tile) (t : ℕ) → asks (tile_at ts t) ≡ true → t < length ts
asks_below ts t e = eligible_below true ts t (asks_eligible true (tile_at ts t) e)

-- the tile that the arbitration of a bench gives
choice : Bench → Option ℕ
choice (bench_of h l k mem out back ts) = arbitrate l k ts

choice_below : (b : Bench) (v : ℕ) → choice b ≡ some v → v < length (tiles_of b)
unfolding choice arbitrate tiles_of
choice_below (bench_of h l k mem out back ts) v e =
    eligible_below (has k v) ts v (first_passes (λ t. eligible (has k t) (tile_at ts t)) _ v e)

choice_nearer : (b : Bench) (t v : ℕ) → choice b ≡ some v → last_taken b < length (tiles_of b) → asks (tile_at (tiles_of b) t) ≡ true → v ≢ t → between (length (tiles_of b)) v t < between (length (tiles_of b)) (last_taken b) t
unfolding choice arbitrate tiles_of last_taken
choice_nearer (bench_of h l k mem out back ts) t v e lb a =
    let el : eligible (has k t) (tile_at ts t) ≡ true = asks_eligible (has k t) (tile_at ts t) a in
    subst (Nearer (length ts) l t) e (nearer (λ i. eligible (has k i) (tile_at ts i)) (length ts) l t el lb (eligible_below (has k t) ts t el))

-- an accepted taking answers the tile chosen
abbrev Chosen : Bench → Answer → Type 0
Chosen b r = is_accepted r ≡ true → choice b ≡ some r.value

chosen : (b : Bench) → Chosen b (answer_of (taking_on b))
unfolding taking_on take_chosen take_front served answer_of is_accepted choice
chosen (bench_of (idle x) l k mem out back ts) = go (arbitrate l k ts) refl
  where
    b : Bench
    b = bench_of (idle x) l k mem out back ts

    popped : ℕ → List Tile
    popped u = set ts u (pop_noc1 (tile_at ts u))

    serving : (u : ℕ) (m : Move) → arbitrate l k ts ≡ some u → Chosen b (answer_of (served u m k mem out back (popped u)))
    serving u (move h ms) e = on_posted (λ r. Chosen b (answer_of r)) (kind_of ms) _ ms _ (λ z. absurd (false≢true z)) (λ d s z. e)

    taking_of_lem : (u : ℕ) (m : Option Request) → arbitrate l k ts ≡ some u → Chosen b (answer_of (take_front u m x k mem out back (popped u)))
    taking_of_lem u none e = λ z. absurd (false≢true z)
    taking_of_lem u (some wb_guard_req) e = λ z. e
    taking_of_lem u (some (load_req w)) e = serving u (serve (length (popped u)) (task u reading) x) e
    taking_of_lem u (some (store_req w)) e = serving u (serve (length (popped u)) (task u (writing storing)) x) e

    go : (o : Option ℕ) → arbitrate l k ts ≡ o → Chosen b (answer_of (take_chosen o x k mem out back ts))
    go none e = λ z. absurd (false≢true z)
    go (some u) e = taking_of_lem u (front (noc1 (tile_at ts u))) e
chosen (bench_of (awaiting_load r x) l k mem out back ts) = λ z. absurd (false≢true z)
chosen (bench_of (awaiting_owner d ws o c) l k mem out back ts) = λ z. absurd (false≢true z)
chosen (bench_of (awaiting_acks d ws m owed c) l k mem out back ts) = λ z. absurd (false≢true z)
chosen (bench_of (awaiting_store x) l k mem out back ts) = λ z. absurd (false≢true z)

-- A call takes nobody, or the tile chosen.
data Turn (c : Call) (b : Bench) : Type 0 where
  nobody : last_taken (after c b) ≡ last_taken b → ((t : ℕ) → takes_another t c (answer_of (step c b)) ≡ false) → Turn c b
  somebody : (v : ℕ) → choice b ≡ some v → last_taken (after c b) ≡ v → ((t : ℕ) → takes_tile t c (answer_of (step c b)) ≡ eqb v t) → ((t : ℕ) → takes_another t c (answer_of (step c b)) ≡ not (eqb v t)) → Turn c b

turn : (c : Call) (b : Bench) → Turn c b
unfolding last_after takes_tile takes_another takes_by is_accepted last_by step
turn (load u w) b = nobody (left (load u w) b).last (λ t. refl)
turn (store u w v) b = nobody (left (store u w v) b).last (λ t. refl)
turn (evict u) b = nobody (left (evict u) b).last (λ t. refl)
turn taking b = go (answer_of (taking_on b)) refl (chosen b) (left taking b).last
  where
    go : (r : Answer) → answer_of (taking_on b) ≡ r → Chosen b r → last_taken (after taking b) ≡ last_after taking r (last_taken b) → Turn taking b
    go r e ch la = by (eqb r.refusal 0) refl
      where
        by : (x : Bool) → eqb r.refusal 0 ≡ x → Turn taking b
        by true z = somebody r.value (ch z) (la ∙ rw z) (λ t. rw (e, z)) (λ t. rw (e, z))
        by false z = nobody (la ∙ rw z) (λ t. rw (e, z))
turn (to_tile u) b = nobody (left (to_tile u) b).last (λ t. refl)
turn (from_tile u) b = nobody (left (from_tile u) b).last (λ t. refl)
turn memory_step b = nobody (left memory_step b).last (λ t. refl)
turn memory_ack b = nobody (left memory_ack b).last (λ t. refl)
turn home_eviction b = nobody (left home_eviction b).last (λ t. refl)

-- Each call keeps the number of tiles, and the last taken one of them.
pub count_kept : (c : Call) (b : Bench) → length (tiles_of (after c b)) ≡ length (tiles_of b)
count_kept c b = (left c b).count

pub last_below : (c : Call) (b : Bench) → last_taken b < length (tiles_of b) → last_taken (after c b) < length (tiles_of (after c b))
last_below c b lb = rw (count_kept c b) (go (turn c b))
  where
    go : Turn c b → last_taken (after c b) < length (tiles_of b)
    go (nobody e n) = rw e lb
    go (somebody v ch e f g) = rw e (choice_below b v ch)

-- While a request is at the front of tile t's NoC1, each taking of another tile brings the last taken nearer to t.
passes_over_lem : (t : ℕ) (c : Call) (b : Bench) → last_taken b < length (tiles_of b) → asks (tile_at (tiles_of b) t) ≡ true → takes_tile t c (answer_of (step c b)) ≡ false → one_if (takes_another t c (answer_of (step c b))) + between (length (tiles_of b)) (last_taken (after c b)) t ≤ between (length (tiles_of b)) (last_taken b) t
unfolding one_if
passes_over_lem t c b lb a z = go (turn c b)
  where
    go : Turn c b → one_if (takes_another t c (answer_of (step c b))) + between (length (tiles_of b)) (last_taken (after c b)) t ≤ between (length (tiles_of b)) (last_taken b) t
    go (nobody e n) = rw (e, n t) (omega arith)
    go (somebody v ch e f g) =
        let other : eqb v t ≡ false = sym (f t) ∙ z in
        rw (e, g t, other) (omega (arith, choice_nearer b t v ch lb a (eqb-false v t other)))

near : (t : ℕ) (ds : List Call) (b : Bench) → last_taken b < length (tiles_of b) → asks (tile_at (tiles_of b) t) ≡ true → passed_over rules t ds b ≤ between (length (tiles_of b)) (last_taken b) t
unfolding passed_over passes_over request_at_front asks
near t [] b lb a = omega arith
near t (c ∷ cs) b lb a = go (takes_tile t c (answer_of (step c b))) refl (λ z. near t cs (after c b) (last_below c b lb) ((left c b).asking t z a))
  where
    go : (x : Bool) → takes_tile t c (answer_of (step c b)) ≡ x → (takes_tile t c (answer_of (step c b)) ≡ false → passed_over rules t cs (after c b) ≤ between (length (tiles_of (after c b))) (last_taken (after c b)) t) → cond x 0 (one_if (passes_over rules t c b) + passed_over rules t cs (after c b)) ≤ between (length (tiles_of b)) (last_taken b) t
    go true z ih = omega arith
    go false z ih =
        let h : passed_over rules t cs (after c b) ≤ between (length (tiles_of b)) (last_taken (after c b)) t = rw (count_kept c b) at (ih z) in
        rw a (omega (arith, passes_over_lem t c b lb a z))

-- Passed over at most n - 1 times, on every bench of n tiles whose last taken is one of them.
pub fair_on : (ds : List Call) (t : ℕ) (b : Bench) → last_taken b < length (tiles_of b) → passed_over rules t ds b ≤ length (tiles_of b) - 1
unfolding passed_over passes_over request_at_front asks one_if
fair_on [] t b lb = omega arith
fair_on (c ∷ cs) t b lb = go (asks (tile_at (tiles_of b) t)) refl (fair_on cs t (after c b) (last_below c b lb))
  where
    untaken : (x : Bool) (m n : ℕ) → m ≤ n → cond x 0 (0 + m) ≤ n
    untaken true m n h = omega arith
    untaken false m n h = omega arith

    go : (x : Bool) → asks (tile_at (tiles_of b) t) ≡ x → passed_over rules t cs (after c b) ≤ length (tiles_of (after c b)) - 1 → passed_over rules t (c ∷ cs) b ≤ length (tiles_of b) - 1
    go true e ih = omega (arith, near t (c ∷ cs) b lb e, between_below (length (tiles_of b)) (last_taken b) t lb (asks_below (tiles_of b) t e))
    go false e ih =
        let h : passed_over rules t cs (after c b) ≤ length (tiles_of b) - 1 = rw (count_kept c b) at ih in
        rw e (untaken (takes_tile t c (answer_of (step c b))) (passed_over rules t cs (after c b)) (length (tiles_of b) - 1) h)

-- From a bench that a list of calls leaves.
pub runs_count : (cs : List Call) (b : Bench) → length (tiles_of (runs rules cs b)) ≡ length (tiles_of b)
unfolding runs
runs_count [] b = refl
runs_count (c ∷ cs) b = runs_count cs (after c b) ∙ count_kept c b

pub runs_last_below : (cs : List Call) (b : Bench) → last_taken b < length (tiles_of b) → last_taken (runs rules cs b) < length (tiles_of (runs rules cs b))
unfolding runs
runs_last_below [] b lb = lb
runs_last_below (c ∷ cs) b lb = runs_last_below cs (after c b) (last_below c b lb)

pub fresh_count : (n : ℕ) (mem : Words) → length (tiles_of (fresh n mem)) ≡ n
unfolding fresh tiles_of
fresh_count n mem = length-replicate n fresh_tile

pub fresh_last_below : (n : ℕ) (mem : Words) → 1 ≤ n → last_taken (fresh n mem) < length (tiles_of (fresh n mem))
unfolding fresh last_taken tiles_of
fresh_last_below n mem h = rw (length-replicate n fresh_tile) (omega arith)

pub fair : (n : ℕ) (mem : Words) → 1 ≤ n → (cs ds : List Call) (t : ℕ) → passed_over rules t ds (runs rules cs (fresh n mem)) ≤ n - 1
fair n mem h cs ds t =
    rw (runs_count cs (fresh n mem) ∙ fresh_count n mem) at
    (fair_on ds t (runs rules cs (fresh n mem)) (runs_last_below cs (fresh n mem) (fresh_last_below n mem h)))
