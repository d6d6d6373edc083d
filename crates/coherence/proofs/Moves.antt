-- The home's moves on a bench whose front message is already gone: grants, asking the owner, invalidating, the line's leaving. Each puts its
-- messages and leaves the invariant, if the tiles are as the move needs them.
use Prim.Native.Nat.{ℕ, zero, suc, ◌+◌, ◌≤◌, ◌<◌, ◌^◌}
use mathlib.Core.Path.{◌≡◌, refl, sym, subst, ◌∙◌}
use mathlib.Core.Bool.{Bool, true, false}
use mathlib.Core.List.{List, [], ◌∷◌, map}
use mathlib.Core.Option
use mathlib.Core.Option.{Option, some, none}
use native.Mathlib.Omega.{arith}
use lib.ListN.{length, set, length-set}
use lib.Seq.{get_or-set_same, get_or-set_other}
use Rattle.masks.specs.Mask.{has, add}
use Rattle.masks.proofs.MaskLaws.{has_add, has_add_other, add_lt}
use Rattle.protocol.specs.Parts.{Words, Queue, empty, Access, reading, writing, Waiting, Forward, inv_fwd, ToMemory, FromMemory, Message, on_noc2, Tile, shared_by, owned_by, Line, absent, present, Cause, request, eviction, Clearing, clear_for, Home, idle, awaiting_owner, awaiting_acks, awaiting_store, Bench, bench_of, Result, task, Write, storing}
use Rattle.protocol.specs.Home.{Move, move, range, among, members, grant_shared, granted_line, grant, asked_for, ask_owner, invalidate_to, invalidate, leave}
use Rattle.protocol.specs.Bench.{fresh_tile, tile_at, push, send_one, send_to, send, outcome, posted, kind_of}
use Rattle.protocol.proofs.Tests.{clash, by_test, at_or_not}
use Rattle.coherence.proofs.Invariant.{Relation, stranger, sharer, owner, TileOk, Askable, ask_load, ask_store, ask_inv, AsksFor, asks_load, asks_store, asks_eviction, Apart, ApartFrom, Sees, sees_absent, sees_sharer, sees_outsider, sees_owner, sees_unowning, asked_owner, requester, bystander, owing, storer, cleared_out, sees_leaving, InMask, Clean, clean, absent_ok, shared_ok, owned_ok, CauseOk, ClearingOk, Inside, idle_ok, owner_ok, acks_ok, store_out, Knowledge, At, at, All, Inv, inv, Plain, plain_0, plain_3, Fine, fine}
use Rattle.coherence.proofs.ViewSteps.{GrantFrom, Placed, placed, grant_owner_lem, ShareFrom, grant_shared_lem, ask_tile}

-- ---- one tile replaced, all others as before

module _ (ts : List Tile) (t : ℕ) (y : Tile) where
  pub same_tile : (P : Tile → Type 0) → t < length ts → P y → P (tile_at (set ts t y) t)
  same_tile P h p = subst P (sym (get_or-set_same ts t y fresh_tile h)) p

  pub other_tile : (P : Tile → Type 0) (u : ℕ) → (t ≡ u → ⊥) → P (tile_at ts u) → P (tile_at (set ts t y) u)
  other_tile P u ne p = subst P (sym (get_or-set_other ts t u y fresh_tile (λ e. ne (sym e)))) p

  pub each_tile : {n : ℕ} (P : ℕ → Tile → Type 0) → length ts ≡ n → ((u : ℕ) → u < n → (t ≡ u → ⊥) → P u (tile_at ts u)) → P t y → (u : ℕ) → u < n → P u (tile_at (set ts t y) u)
  each_tile P len others here u lt =
      at_or_not (λ (z : ℕ). z < length ts → P z (tile_at (set ts t y) z)) t u
      (λ h. same_tile (P t) h here)
      (λ ne h. other_tile (P u) u ne (others u lt ne))
      (omega arith)

-- the same tile under other marks and another description
pub carry : {ws : Words} {q : ℕ → Waiting} {k j t : ℕ} {S R : Knowledge} {x : Tile} → has j t ≡ has k t → ((rel : Relation) (cur : Option Access) (ask : Option Forward) → S t rel cur ask → R t rel cur ask) → At ws q k S t x → At ws q j R t x
carry e f (at {rel} {cur} {ask} s m o) = at (f rel cur ask s) (e ∙ m) o

-- exactly this is known
pub data Exactly (rel : Relation) (cur : Option Access) (ask : Option Forward) : ℕ → Relation → Option Access → Option Forward → Type 0 where
  exactly : {t : ℕ} → Exactly rel cur ask t rel cur ask

-- the directory knows nothing of it
abbrev pub Alone : Knowledge
Alone = Exactly stranger none none

-- ---- a move's messages

abbrev pub post : Move → ℕ → ℕ → ℕ → Words → Queue ToMemory → Queue FromMemory → List Tile → Result Bench
post (move h ms) v l k mem out back ts = posted (kind_of ms) v ms (bench_of h l k mem out back ts)

send_then : {ws : Words} {q : ℕ → Waiting} {n : ℕ} {P : Tile → Type 0} {m : Forward} (h : Home) (l k : ℕ) (mem : Words) (out : Queue ToMemory) (back : Queue FromMemory) (kd v : ℕ) (ts : List Tile) (all rest : List Message) (r : ℕ)
    → Placed m (tile_at ts r) P
    → ((y : Tile) → P y → Fine ws q n (outcome kd v all (send rest (some (bench_of h l k mem out back (set ts r y))))))
    → Fine ws q n (outcome kd v all (send (on_noc2 r m ∷ rest) (some (bench_of h l k mem out back ts))))
unfolding send send_to send_one
send_then {ws} {q} {n} h l k mem out back kd v ts all rest r (placed {y} e p) f =
    subst
    (λ (o : Option Tile). Fine ws q n (outcome kd v all (send rest (Option.map (λ x. bench_of h l k mem out back (set ts r x)) o))))
    (sym e)
    (f y p)

pub send_one_lem : {ws : Words} {q : ℕ → Waiting} {n : ℕ} {P : Tile → Type 0} {m : Forward} (h : Home) (l k : ℕ) (mem : Words) (out : Queue ToMemory) (back : Queue FromMemory) (v : ℕ) (ts : List Tile) (r : ℕ)
    → Placed m (tile_at ts r) P
    → ((y : Tile) → P y → Inv ws q n (bench_of h l k mem out back (set ts r y)))
    → Fine ws q n (posted 3 v (on_noc2 r m ∷ []) (bench_of h l k mem out back ts))
unfolding posted send outcome
send_one_lem {m} h l k mem out back v ts r s f = send_then h l k mem out back 3 v ts (on_noc2 r m ∷ []) [] r s (λ y p. fine (plain_3, f y p))

-- ---- what the tiles are before each move

-- the tile that is granted E or M
pub data Grantee (a : Access) : ℕ → Relation → Option Access → Option Forward → Type 0 where
  grantee : {t : ℕ} {rel : Relation} → GrantFrom rel a → Grantee a t rel (some a) none

-- the tile that is granted S
pub data Sharee : ℕ → Relation → Option Access → Option Forward → Type 0 where
  sharee : {t : ℕ} {rel : Relation} → ShareFrom rel → Sharee t rel (some reading) none

-- the tiles beside an owner that is to be asked
pub data Beside : Cause → ℕ → Relation → Option Access → Option Forward → Type 0 where
  asker : {t : ℕ} {a : Access} → Beside (request (task t a)) t stranger (some a) none
  beside : {t : ℕ} {c : Cause} → Apart c t → Beside c t stranger none none

-- the tiles before the invalidations of `owed`, of the mask m
pub data ToClear (m owed : ℕ) : Clearing → ℕ → Relation → Option Access → Option Forward → Type 0 where
  to_owe : {t : ℕ} {c : Clearing} → has owed t ≡ true → ToClear m owed c t sharer none none
  to_store : {t : ℕ} {b : Write} {rel : Relation} → has owed t ≡ false → InMask m t rel → ToClear m owed (clear_for (task t b)) t rel (some (writing b)) none
  to_pass : {t : ℕ} {c : Clearing} → has owed t ≡ false → ApartFrom c t → ToClear m owed c t stranger none none

-- ---- the descriptions after them

alone_unowning : {o t : ℕ} {d : Bool} {ws : Words} → (o ≡ t → ⊥) → (rel : Relation) (cur : Option Access) (ask : Option Forward) → Alone t rel cur ask → Sees (idle (present d ws (owned_by o))) t rel cur ask
alone_unowning ne rel cur ask exactly = sees_unowning ne

alone_absent : {t : ℕ} → (rel : Relation) (cur : Option Access) (ask : Option Forward) → Alone t rel cur ask → Sees (idle absent) t rel cur ask
alone_absent rel cur ask exactly = sees_absent

alone_leaving : {t : ℕ} {x : Line} → (rel : Relation) (cur : Option Access) (ask : Option Forward) → Alone t rel cur ask → Sees (awaiting_store x) t rel cur ask
alone_leaving rel cur ask exactly = sees_leaving

-- another tile is added to the mask
one_more : {m r t : ℕ} {d e : Bool} {ws us : Words} → (r ≡ t → ⊥) → (rel : Relation) (cur : Option Access) (ask : Option Forward)
    → Sees (idle (present d ws (shared_by m))) t rel cur ask → Sees (idle (present e us (shared_by (add m r)))) t rel cur ask
one_more {m} {r} {t} ne rel cur ask (sees_sharer h) = sees_sharer (has_add_other m r t ne ∙ h)
one_more {m} {r} {t} ne rel cur ask (sees_outsider h) = sees_outsider (has_add_other m r t ne ∙ h)

beside_asked : {o t : ℕ} {d : Bool} {ws : Words} {c : Cause} → (o ≡ t → ⊥) → (rel : Relation) (cur : Option Access) (ask : Option Forward) → Beside c t rel cur ask → Sees (awaiting_owner d ws o c) t rel cur ask
beside_asked ne rel cur ask asker = requester ne
beside_asked ne rel cur ask (beside a) = bystander ne a

-- what is asked of the owner, and that an owner can be asked it
asks : (c : Cause) → AsksFor c (asked_for c)
unfolding asked_for
asks (request (task t reading)) = asks_load
asks (request (task t (writing b))) = asks_store
asks eviction = asks_eviction

askable : {hs : Words} {c : Cause} {f : Forward} → AsksFor c f → Askable (owner hs) none (some f)
askable asks_load = ask_load
askable asks_store = ask_store
askable asks_eviction = ask_store

-- ---- the moves

-- no message, or some
pub plain_kind : (ms : List Message) → Plain (kind_of ms)
unfolding kind_of
plain_kind [] = plain_0
plain_kind (m ∷ ms) = plain_3

-- where the home's words are the last written, ws, they are what is granted
module _ (ws : Words) (q : ℕ → Waiting) (n v l k : ℕ) (mem : Words) (ts : List Tile) (len : length ts ≡ n) where
  owned_fine : {f : Forward} {mark : Bool} (d : Bool) (r : ℕ) → Clean ws mem d → r < n → has k r ≡ mark → Placed f (tile_at ts r) (TileOk ws (q r) (owner ws) none none mark) → ((u : ℕ) → u < n → (r ≡ u → ⊥) → At ws q k Alone u (tile_at ts u))
      → Fine ws q n (posted 3 v (on_noc2 r f ∷ []) (bench_of (idle (present d ws (owned_by r))) l k mem empty empty ts))
  owned_fine d r cl lt m s others =
      send_one_lem (idle (present d ws (owned_by r))) l k mem empty empty v ts r s
      (λ y p. inv (length-set ts r y ∙ len) (idle_ok (owned_ok cl lt))
      (each_tile ts r y (At ws q k (Sees (idle (present d ws (owned_by r))))) len (λ u lu ne. carry refl (alone_unowning ne) (others u lu ne)) (at sees_owner m p)))

  pub grant_fine : {a : Access} (d : Bool) (miss : Bool) (r : ℕ) → Clean ws mem d → r < n → At ws q k (Grantee a) r (tile_at ts r) → ((u : ℕ) → u < n → (r ≡ u → ⊥) → At ws q k Alone u (tile_at ts u))
      → Fine ws q n (post (grant d ws miss (task r a)) v l k mem empty empty ts)
  unfolding grant kind_of granted_line
  grant_fine {a = reading} d miss r cl lt (at (grantee g) m o) others = owned_fine d r cl lt m (grant_owner_lem miss g o) others
  grant_fine {a = writing storing} d miss r cl lt (at (grantee g) m o) others = owned_fine d r cl lt m (grant_owner_lem miss g o) others

  pub grant_shared_fine : {e : Bool} {us : Words} (d : Bool) (m r : ℕ) → Clean ws mem d → m < 2 ^ n → r < n → At ws q k Sharee r (tile_at ts r) → ((u : ℕ) → u < n → (r ≡ u → ⊥) → At ws q k (Sees (idle (present e us (shared_by m)))) u (tile_at ts u))
      → Fine ws q n (post (grant_shared d ws m r) v l k mem empty empty ts)
  unfolding grant_shared kind_of
  grant_shared_fine d m r cl lm lt (at (sharee g) e o) others =
      send_one_lem (idle (present d ws (shared_by (add m r)))) l k mem empty empty v ts r (grant_shared_lem g o)
      (λ y p. inv (length-set ts r y ∙ len) (idle_ok (shared_ok cl (add_lt n m r lm lt)))
      (each_tile ts r y (At ws q k (Sees (idle (present d ws (shared_by (add m r)))))) len (λ u lu ne. carry refl (one_more ne) (others u lu ne)) (at (sees_sharer (has_add m r)) e p)))

  pub ask_owner_fine : (d : Bool) (hs : Words) (o : ℕ) (c : Cause) → Clean hs mem d → o < n → CauseOk n o c → At ws q k (Exactly (owner hs) none none) o (tile_at ts o) → ((u : ℕ) → u < n → (o ≡ u → ⊥) → At ws q k (Beside c) u (tile_at ts u))
      → Fine ws q n (post (ask_owner d hs o c) v l k mem empty empty ts)
  unfolding ask_owner kind_of
  ask_owner_fine d hs o c cl lt cok (at exactly m x) others =
      send_one_lem (awaiting_owner d hs o c) l k mem empty empty v ts o (ask_tile (askable (asks c)) x)
      (λ y p. inv (length-set ts o y ∙ len) (owner_ok cl lt cok)
      (each_tile ts o y (At ws q k (Sees (awaiting_owner d hs o c))) len (λ u lu ne. carry refl (beside_asked ne) (others u lu ne)) (at (asked_owner (asks c)) m p)))

  pub leave_fine : (d : Bool) → Clean ws mem d → All ws q n k Alone ts → Fine ws q n (post (leave d ws) v l k mem empty empty ts)
  unfolding leave kind_of posted send send_to send_one push outcome
  leave_fine true cl all = fine (plain_3, inv len store_out (λ u lu. carry refl alone_leaving (all u lu)))
  leave_fine false (clean e) all = fine (plain_0, inv len (idle_ok (absent_ok (sym e))) (λ u lu. carry refl alone_absent (all u lu)))

-- ---- the invalidations, in rising order

also : {m : Forward} {x : Tile} {P Q : Tile → Type 0} → ((y : Tile) → P y → Q y) → Placed m x P → Placed m x Q
also f (placed {y} e p) = placed e (f y p)

-- a tile that is owed is sent its invalidation, and no other is
owed_sent : {ws : Words} {q : ℕ → Waiting} {k owed t m : ℕ} {d : Bool} {us : Words} {c : Clearing} {x : Tile} → has owed t ≡ true → At ws q k (ToClear m owed c) t x → Placed inv_fwd x (At ws q k (Sees (awaiting_acks d us m owed c)) t)
owed_sent h (at (to_owe e) i o) = also (λ y p. at (owing e) i p) (ask_tile ask_inv o)
owed_sent h (at (to_store e z) i o) = clash h e
owed_sent h (at (to_pass e a) i o) = clash h e

not_owed : {ws : Words} {q : ℕ → Waiting} {k owed t m : ℕ} {d : Bool} {us : Words} {c : Clearing} {x : Tile} → has owed t ≡ false → At ws q k (ToClear m owed c) t x → At ws q k (Sees (awaiting_acks d us m owed c)) t x
not_owed h (at (to_owe e) i o) = clash e h
not_owed h (at (to_store e z) i o) = at (storer e z) i o
not_owed h (at (to_pass e a) i o) = at (cleared_out e a) i o

module _ (ws : Words) (q : ℕ → Waiting) (n v l k : ℕ) (mem : Words) (kd : ℕ) (pk : Plain kd) (all : List Message) (d : Bool) (m owed : ℕ) (c : Clearing) where
  -- the tiles below i are done
  abbrev Until : ℕ → ℕ → Tile → Type 0
  Until i u x = (u < i → At ws q k (Sees (awaiting_acks d ws m owed c)) u x) × (i ≤ u → At ws q k (ToClear m owed c) u x)

  send_all : (j i : ℕ) (ts : List Tile) → length ts ≡ n → i + j ≡ n → ((u : ℕ) → u < n → Until i u (tile_at ts u))
      → ((us : List Tile) → length us ≡ n → All ws q n k (Sees (awaiting_acks d ws m owed c)) us → Inv ws q n (bench_of (awaiting_acks d ws m owed c) l k mem empty empty us))
      → Fine ws q n (outcome kd v all (send (map invalidate_to (among owed (range i j))) (some (bench_of (awaiting_acks d ws m owed c) l k mem empty empty ts))))
  unfolding range among send outcome invalidate_to
  send_all zero i ts len e st end = fine (pk, end ts len (λ u lu. (st u lu).0 (omega arith)))
  send_all (suc j) i ts len e st end =
      let next = send_all j (suc i) in
      by_test (λ (us : List ℕ). Fine ws q n (outcome kd v all (send (map invalidate_to us) (some (bench_of (awaiting_acks d ws m owed c) l k mem empty empty ts))))) (has owed i) _ _
      (λ h. send_then (awaiting_acks d ws m owed c) l k mem empty empty kd v ts all (map invalidate_to (among owed (range (suc i) j))) i
      (owed_sent {m = m} {d = d} {us = ws} h ((st i (omega arith)).1 (omega arith)))
      (λ y z. next (set ts i y) (length-set ts i y ∙ len) (omega arith)
      (each_tile ts i y (Until (suc i)) len
      (λ u lu ne. ((λ a. (st u lu).0 (omega arith)), (λ a. (st u lu).1 (omega arith))))
      ((λ a. z), (λ a. absurd (omega arith))))
      end))
      (λ h. next ts len (omega arith)
      (λ u lu. (
        (λ a. at_or_not (λ (z : ℕ). At ws q k (Sees (awaiting_acks d ws m owed c)) z (tile_at ts z)) i u (not_owed h ((st i (omega arith)).1 (omega arith))) (λ ne. (st u lu).0 (omega arith))),
        (λ a. (st u lu).1 (omega arith)),
      ))
      end)

pub invalidate_fine : (ws : Words) (q : ℕ → Waiting) (n v l k : ℕ) (mem : Words) (ts : List Tile) → length ts ≡ n → (d : Bool) (m owed : ℕ) (c : Clearing) → Clean ws mem d → owed < 2 ^ n → (owed ≡ 0 → ⊥) → Inside owed m → ClearingOk n owed c → All ws q n k (ToClear m owed c) ts
    → Fine ws q n (post (invalidate n d ws m owed c) v l k mem empty empty ts)
unfolding invalidate members posted
invalidate_fine ws q n v l k mem ts len d m owed c cl lo ne sub cok st =
    send_all ws q n v l k mem _ (plain_kind _) _ d m owed c n 0 ts len (omega arith) (λ u lu. ((λ a. absurd (omega arith)), (λ a. st u lu))) (λ us lus su. inv lus (acks_ok cl lo ne sub cok) su)
