-- Under the invariant the measure of n tiles is at most (n+1)(2n+3): a tile accounts for its guard and its request, wherever that is now;
-- beside that there are at most one write-back and what the home has asked.
use Prim.Native.Nat.{ℕ, zero, suc, ◌+◌, ◌*◌, ◌≤◌, ◌<◌}
use mathlib.Core.Path.{◌≡◌, refl, sym, subst, ap, ◌∙◌}
use mathlib.Core.Bool.{Bool}
use mathlib.Core.List.{List, [], ◌∷◌}
use mathlib.Core.Option.{Option, some, none}
use native.Mathlib.Nat.{add-mul, mul-add, one-mul, suc-mul}
use native.Mathlib.Omega.{arith}
use lib.ListN.{length}
use Rattle.protocol.specs.Parts.{Words, Access, Cache, Waiting, Request, Forward, Reply, Tile, uncached, shared_by, owned_by, absent, present, Cause, request, eviction, Clearing, clear_for, clear_for_eviction, Home, idle, awaiting_load, awaiting_owner, awaiting_acks, awaiting_store, Bench, task}
use Rattle.protocol.specs.Bench.{tile_at}
use Rattle.coherence.proofs.Weight.{queue_weight, request_weight, forward_weight, reply_weight, out_weight, back_weight, tile_weight, tiles_weight, cause_weight, clearing_weight, home_weight, measure}
use Rattle.coherence.proofs.Invariant.{Relation, stranger, sharer, owner, join, Wants, resting, load_queued, store_queued, load_current, store_current, shared_granted, exclusive_granted, modified_granted, not_asked, ask_load, ask_store, ask_inv, Table, stranger_plain, stranger_in, sharer_plain, sharer_replied, owner_plain, owner_replied, owner_shared, owner_out, owner_out_replied, owner_in, owner_in_replied, TileOk, ok, Sees, sees_absent, sees_uncached, sees_sharer, sees_outsider, sees_owner, sees_unowning, loads, loads_not, asked_owner, requester, bystander, owing, storer, cleared_out, sees_leaving, in_mask, off_mask, absent_ok, uncached_ok, shared_ok, owned_ok, idle_ok, load_out, load_back, owner_ok, acks_ok, store_out, store_back, Knowledge, At, at, All, Inv, inv}

-- ---- one tile

-- the weight of what may be there
abbrev weight_of : {A : Type 0} → (A → ℕ) → Option A → ℕ
weight_of f none = 0
weight_of f (some a) = f a

join_weight : {A : Type 0} (f : A → ℕ) (a b : Option A) → queue_weight f (join a b) ≡ weight_of f a + weight_of f b
unfolding queue_weight
join_weight f none none = refl
join_weight f none (some b) = omega arith
join_weight f (some a) none = omega arith
join_weight f (some a) (some b) = refl

-- its request, wherever it is
wants_weight : {c : Cache} {p : Waiting} {cur : Option Access} {r : Option Request} {d : Option Forward} (n : ℕ) → Wants c p cur r d → weight_of (request_weight n) r + weight_of forward_weight d ≤ 2 * n + 2
unfolding request_weight forward_weight
wants_weight n resting = omega arith
wants_weight n load_queued = omega arith
wants_weight n (store_queued k) = omega arith
wants_weight n load_current = omega arith
wants_weight n (store_current k) = omega arith
wants_weight n shared_granted = omega arith
wants_weight n exclusive_granted = omega arith
wants_weight n (modified_granted k) = omega arith

-- what a tile may have beside its guard and its request: an owner a write-back, and whoever is asked two for that
abbrev extra : Relation → Option Forward → ℕ
extra stranger k = 0
extra sharer none = 0
extra sharer (some f) = 2
extra (owner hs) none = 1
extra (owner hs) (some f) = 3

table_weight : {ws : Words} {rel : Relation} {cur : Option Access} {ask : Option Forward} {mark : Bool} {c : Cache} {d f : Option Forward} {g : Option Request} {w a : Option Reply} (n : ℕ) → Table ws rel cur ask mark c d g w f a
    → weight_of (request_weight n) g + weight_of reply_weight w + weight_of forward_weight f + weight_of reply_weight a ≤ 1 + extra rel ask
unfolding request_weight forward_weight reply_weight
table_weight n stranger_plain = omega arith
table_weight n stranger_in = omega arith
table_weight n (sharer_plain not_asked c s) = omega arith
table_weight n (sharer_plain ask_inv c s) = omega arith
table_weight n sharer_replied = omega arith
table_weight n (owner_plain not_asked o) = omega arith
table_weight n (owner_plain ask_load o) = omega arith
table_weight n (owner_plain ask_store o) = omega arith
table_weight n (owner_replied r) = omega arith
table_weight n (owner_shared c e) = omega arith
table_weight n (owner_out not_asked) = omega arith
table_weight n (owner_out ask_load) = omega arith
table_weight n (owner_out ask_store) = omega arith
table_weight n (owner_out_replied r) = omega arith
table_weight n (owner_in e ask_load) = omega arith
table_weight n (owner_in e ask_store) = omega arith
table_weight n (owner_in_replied e r) = omega arith

tile_weight_lem : {ws : Words} {p : Waiting} {rel : Relation} {cur : Option Access} {ask : Option Forward} {mark : Bool} {x : Tile} (n : ℕ) → TileOk ws p rel cur ask mark x → tile_weight n x ≤ 2 * n + 3 + extra rel ask
unfolding tile_weight
tile_weight_lem n (ok {g} {r} {d} {f} {w} {a} tb k) =
    omega (arith, join_weight (request_weight n) g r, join_weight forward_weight d f, join_weight reply_weight w a, wants_weight n k, table_weight n tb)

-- ---- all tiles

sum_each : (n e : ℕ) (ts : List Tile) → ((u : ℕ) → u < length ts → tile_weight n (tile_at ts u) ≤ e) → tiles_weight n ts ≤ length ts * e
unfolding tiles_weight
sum_each n e [] f = omega arith
sum_each n e (x ∷ xs) f =
    omega (arith, suc-mul (length xs) e, f 0 (omega arith), sum_each n e xs (λ u lu. f (suc u) (omega arith)))

-- one tile o may have i more
sum_but : (n e i : ℕ) (ts : List Tile) (o : ℕ) → ((u : ℕ) → u < length ts → (o ≡ u → ⊥) → tile_weight n (tile_at ts u) ≤ e) → ((u : ℕ) → u < length ts → tile_weight n (tile_at ts u) ≤ e + i) → tiles_weight n ts ≤ length ts * e + i
unfolding tiles_weight
sum_but n e i [] o f g = omega arith
sum_but n e i (x ∷ xs) zero f g =
    omega (arith, suc-mul (length xs) e, g 0 (omega arith), sum_each n e xs (λ u lu. f (suc u) (omega arith) (omega arith)))
sum_but n e i (x ∷ xs) (suc o) f g =
    omega (arith, suc-mul (length xs) e, f 0 (omega arith) (omega arith), sum_but n e i xs o (λ u lu ne. f (suc u) (omega arith) (λ q. ne (omega arith))) (λ u lu. g (suc u) (omega arith)))

-- ---- by what the home does

-- the most that any tile has beside its guard and its request
abbrev most : Home → ℕ
most (idle absent) = 0
most (idle (present d ws uncached)) = 0
most (idle (present d ws (shared_by m))) = 0
most (idle (present d ws (owned_by o))) = 1
most (awaiting_load r x) = 0
most (awaiting_owner d ws o c) = 3
most (awaiting_acks d ws m owed c) = 2
most (awaiting_store x) = 0

within : {h : Home} {u : ℕ} {rel : Relation} {cur : Option Access} {ask : Option Forward} → Sees h u rel cur ask → extra rel ask ≤ most h
within sees_absent = omega arith
within sees_uncached = omega arith
within (sees_sharer e) = omega arith
within (sees_outsider e) = omega arith
within sees_owner = omega arith
within (sees_unowning ne) = omega arith
within loads = omega arith
within (loads_not ne) = omega arith
within (asked_owner a) = omega arith
within (requester ne) = omega arith
within (bystander ne a) = omega arith
within (owing e) = omega arith
within (storer e (in_mask i)) = omega arith
within (storer e off_mask) = omega arith
within (cleared_out e a) = omega arith
within sees_leaving = omega arith

-- the owner alone has more
not_the_owner : {d : Bool} {ws : Words} {o u : ℕ} {rel : Relation} {cur : Option Access} {ask : Option Forward} → (o ≡ u → ⊥) → Sees (idle (present d ws (owned_by o))) u rel cur ask → extra rel ask ≤ 0
not_the_owner ne sees_owner = absurd (ne refl)
not_the_owner ne (sees_unowning n) = omega arith

not_the_asked : {d : Bool} {ws : Words} {o u : ℕ} {c : Cause} {rel : Relation} {cur : Option Access} {ask : Option Forward} → (o ≡ u → ⊥) → Sees (awaiting_owner d ws o c) u rel cur ask → extra rel ask ≤ 0
not_the_asked ne (asked_owner a) = absurd (ne refl)
not_the_asked ne (requester n) = omega arith
not_the_asked ne (bystander n a) = omega arith

capped : {ws : Words} {q : ℕ → Waiting} {S : Knowledge} {k u : ℕ} {x : Tile} (n e : ℕ) → ((rel : Relation) (cur : Option Access) (ask : Option Forward) → S u rel cur ask → extra rel ask ≤ e) → At ws q k S u x → tile_weight n x ≤ 2 * n + 3 + e
capped n e f (at {rel} {cur} {ask} s m o) = omega (arith, tile_weight_lem n o, f rel cur ask s)

module _ (ws : Words) (w : ℕ → Waiting) (n k : ℕ) (h : Home) (ts : List Tile) (len : length ts ≡ n) (all : All ws w n k (Sees h) ts) where
  -- every tile has as much
  weigh : tiles_weight (length ts) ts ≤ n * (2 * n + 3) + n * most h
  weigh =
      let e : ℕ = 2 * n + 3 + most h in
      let q : tiles_weight n ts ≤ length ts * e = sum_each n e ts (λ u lu. capped n (most h) (λ rel cur ask s. within s) (all u (omega arith))) in
      let p : tiles_weight (length ts) ts ≤ n * e = subst (λ (z : ℕ). tiles_weight z ts ≤ n * e) (sym len) (subst (λ (z : ℕ). tiles_weight n ts ≤ z * e) len q) in
      omega (arith, mul-add n (2 * n + 3) (most h))

  -- only tile o has
  weigh_but : (o : ℕ) → ((u : ℕ) → (o ≡ u → ⊥) → (rel : Relation) (cur : Option Access) (ask : Option Forward) → Sees h u rel cur ask → extra rel ask ≤ 0) → tiles_weight (length ts) ts ≤ n * (2 * n + 3) + most h
  weigh_but o f =
      let e : ℕ = 2 * n + 3 + 0 in
      let q : tiles_weight n ts ≤ length ts * e + most h = sum_but n e (most h) ts o (λ u lu ne. capped n 0 (f u ne) (all u (omega arith))) (λ u lu. omega (arith, capped n (most h) (λ rel cur ask s. within s) (all u (omega arith)))) in
      let p : tiles_weight (length ts) ts ≤ n * e + most h = subst (λ (z : ℕ). tiles_weight z ts ≤ n * e + most h) (sym len) (subst (λ (z : ℕ). tiles_weight n ts ≤ z * e + most h) len q) in
      omega (arith, mul-add n (2 * n + 3) 0)

cause_weight_lem : (c : Cause) → cause_weight c ≤ 2
unfolding cause_weight
cause_weight_lem (request (task t a)) = omega arith
cause_weight_lem eviction = omega arith

clearing_weight_lem : (c : Clearing) → clearing_weight c ≤ 2
unfolding clearing_weight
clearing_weight_lem (clear_for (task t b)) = omega arith
clearing_weight_lem clear_for_eviction = omega arith

-- (n + 1) (2 n + 3) in the terms of the sums above
rows : (n : ℕ) → (n + 1) * (2 * n + 3) ≡ n * (2 * n + 3) + (2 * n + 3)
rows n = add-mul n 1 (2 * n + 3) ∙ ap (λ (x : ℕ). n * (2 * n + 3) + x) (one-mul (2 * n + 3))

pub measure_bound : {ws : Words} {q : ℕ → Waiting} {n : ℕ} {b : Bench} → 1 ≤ n → Inv ws q n b → measure b ≤ (n + 1) * (2 * n + 3)
unfolding measure home_weight queue_weight out_weight back_weight
measure_bound {ws} {q} {n} le (inv {h} {k} {ts} len (idle_ok (absent_ok me)) all) = omega (arith, rows n, weigh ws q n k h ts len all)
measure_bound {ws} {q} {n} le (inv {h} {k} {ts} len (idle_ok (uncached_ok cl)) all) = omega (arith, rows n, weigh ws q n k h ts len all)
measure_bound {ws} {q} {n} le (inv {h} {k} {ts} len (idle_ok (shared_ok cl lm)) all) = omega (arith, rows n, weigh ws q n k h ts len all)
measure_bound {ws} {q} {n} le (inv {h} {k} {ts} len (idle_ok (owned_ok {o} cl lo)) all) = omega (arith, rows n, weigh_but ws q n k h ts len all o (λ u ne rel cur ask s. not_the_owner ne s))
measure_bound {ws} {q} {n} le (inv {h} {k} {ts} len (load_out me lt) all) = omega (arith, rows n, weigh ws q n k h ts len all)
measure_bound {ws} {q} {n} le (inv {h} {k} {ts} len (load_back me lt) all) = omega (arith, rows n, weigh ws q n k h ts len all)
measure_bound {ws} {q} {n} le (inv {h} {k} {ts} len (owner_ok {o} {c} cl lt cok) all) = omega (arith, rows n, cause_weight_lem c, weigh_but ws q n k h ts len all o (λ u ne rel cur ask s. not_the_asked ne s))
measure_bound {ws} {q} {n} le (inv {h} {k} {ts} len (acks_ok {c} cl lo ne sub cok) all) = omega (arith, rows n, clearing_weight_lem c, weigh ws q n k h ts len all)
measure_bound {ws} {q} {n} le (inv {h} {k} {ts} len store_out all) = omega (arith, rows n, weigh ws q n k h ts len all)
measure_bound {ws} {q} {n} le (inv {h} {k} {ts} len (store_back me) all) = omega (arith, rows n, weigh ws q n k h ts len all)
