-- Every call keeps the invariant, with the words last written and what each tile waits for as the history has them; it answers a load by the
-- words last written, and is never refused by 8 or 9.
use Prim.Native.Nat.{ℕ, ◌<◌, ◌^◌}
use mathlib.Core.Path.{◌≡◌, refl, sym, subst, ap, ◌∙◌}
use mathlib.Core.Bool.{Bool, cond, true, false, ◌&&◌}
use mathlib.Core.List.{List, [], ◌∷◌}
use mathlib.Core.Option.{Option, some, none, map}
use native.Mathlib.Omega.{arith}
use lib.Dec.{eqb, ltb}
use lib.ListN.{length, get_or, set, length-set}
use lib.Pow.{pow_pos}
use lib.Seq.{get_or-set_same, set-set}
use borrow.Author.Tests.{eqb-true, eqb-false, ne_eqb, ltb-true}
use Rattle.masks.specs.Mask.{has, add, del}
use Rattle.masks.proofs.MaskLaws.{has_add, has_add_other, has_del, has_del_other, has_none, add_lt, del_lt}
use Rattle.protocol.specs.Parts.{Words, Queue, empty, one, Access, reading, writing, Waiting, Request, Forward, Reply, ToMemory, FromMemory, load_mem_ack, on_noc1, on_noc3, Tile, uncached, shared_by, owned_by, Line, absent, present, Cause, request, eviction, Clearing, clear_for, clear_for_eviction, Home, idle, awaiting_load, awaiting_owner, awaiting_acks, awaiting_store, Bench, bench_of, Call, load, store, evict, taking, to_tile, from_tile, memory_step, memory_ack, home_eviction, Result, task, Write, storing}
use Rattle.protocol.specs.Tile.{load_at, store_at, evict_at, deliver_to}
use Rattle.protocol.specs.Home.{Move, move, grant_shared, grant, ask_owner, invalidate, leave, serve, write_back, ack_words, ack_dirty, load_ack_s, load_ack_i, store_ack, cleared, inv_ack, acknowledged, evict_line}
use Rattle.protocol.specs.Bench.{fresh_tile, tile_at, push, front, rest, on_tile1, on_tile3, send_one, send_to, send, outcome, posted, kind_of, settle, at_tile, at_word, eligible, arbitrate, pop_noc1, served, take_front, take_chosen, taking_on, noc3, pop_noc3, written_back, fitted, accept_reply, from_tile_on, memory_serves, memory_step_on, accept_ack, memory_ack_on, home_eviction_on, step}
use Rattle.protocol.specs.Calls.{role_of}
use Rattle.protocol.specs.Answers.{has_kind}
use Rattle.protocol.specs.Runs.{event, waits_for_by, waits_for_after}
use Rattle.protocol.specs.Demand3.{is_misfit}
use Rattle.protocol.specs.Order1.{GivesLast}
use Rattle.coherence.proofs.Said.{answer}
use Rattle.coherence.proofs.Written.{writes, written_by, written_after}
use Rattle.protocol.proofs.Tests.{clash, by_test, if_true, if_false, eqb_same, at_or_not}
use Rattle.protocol.proofs.Search.{first_passes, eligible_below}
use Rattle.coherence.proofs.Invariant.{Relation, stranger, sharer, owner, TileOk, AsksFor, asks_load, asks_store, asks_eviction, Apart, apart_request, apart_eviction, ApartFrom, apart_store, apart_clearing, Sees, sees_absent, sees_uncached, sees_sharer, sees_outsider, sees_owner, sees_unowning, loads, loads_not, asked_owner, requester, bystander, owing, storer, cleared_out, sees_leaving, InMask, in_mask, off_mask, Clean, clean, dirty, LineOk, absent_ok, uncached_ok, shared_ok, owned_ok, CauseOk, request_ok, eviction_ok, ClearingOk, store_ok, clearing_ok, Inside, HomeOk, idle_ok, load_out, load_back, owner_ok, acks_ok, store_out, store_back, Knowledge, At, at, All, Inv, inv, Holds, Plain, plain_0, plain_3, Fine, fine_refused, fine, stranger_plain, stranger_in, ok}
use Rattle.coherence.proofs.TileSteps.{Kept, kept_refused, kept_silent, kept_request, kept_reply, kept_write_back, Changes, unchanged, rewritten, load_kept, store_kept, evict_kept, deliver_kept}
use Rattle.coherence.proofs.ViewSteps.{Front1, guard_front, load_front, store_front, front1, GrantFrom, from_stranger, from_sharer, from_owner, asking_owner, ShareFrom, share_stranger, share_sharer, Front3, no_front, wb_idle, wb_asked, ack_shared, ack_invalid, ack_store, ack_inv, front3}
use Rattle.coherence.proofs.Moves.{same_tile, other_tile, each_tile, carry, Exactly, exactly, Alone, post, Grantee, grantee, Sharee, sharee, Beside, asker, beside, ToClear, to_owe, to_store, to_pass, grant_fine, grant_shared_fine, ask_owner_fine, leave_fine, invalidate_fine}

-- ---- the calls at one tile

module _ (h : Home) (l k : ℕ) (mem : Words) (out : Queue ToMemory) (back : Queue FromMemory) (ts : List Tile) (t : ℕ) (lt : t < length ts) where
  abbrev with_tile : Tile → Bench
  with_tile x = bench_of h l k mem out back (set ts t x)

  -- a message to the tile's own queue
  own : (x : Tile) (f : Tile → Option Tile) (y : Tile) → f x ≡ some y → map (λ z. bench_of h l k mem out back (set (set ts t x) t z)) (f (tile_at (set ts t x) t)) ≡ some (with_tile y)
  own x f y e =
      ap (map (λ z. bench_of h l k mem out back (set (set ts t x) t z))) (ap f (get_or-set_same ts t x fresh_tile lt) ∙ e)
      ∙ ap (λ (us : List Tile). some (bench_of h l k mem out back us)) (set-set ts t x y)

  settle_fine : {P : ℕ → ℕ → Tile → Type 0} {R : ℕ → ℕ → Bench → Type 0} {r : Result Tile} → ((kd v : ℕ) (y : Tile) → P kd v y → R kd v (with_tile y)) → Kept t P r → Holds R (settle t (bench_of h l k mem out back ts) r)
  unfolding settle posted send send_to send_one outcome
  settle_fine f (kept_refused e) = fine_refused e
  settle_fine f (kept_silent {kd} {v} {x} p) = fine (f kd v x p)
  settle_fine {R} f (kept_request {kd} {v} {x} {y} {m} e p) =
      subst (λ (o : Option Bench). Holds R (outcome kd v (on_noc1 t m ∷ []) o)) (sym (own x (on_tile1 m) y e)) (fine (f kd v y p))
  settle_fine {R} f (kept_reply {kd} {v} {x} {y} {m} e p) =
      subst (λ (o : Option Bench). Holds R (outcome kd v (on_noc3 t m ∷ []) o)) (sym (own x (on_tile3 m) y e)) (fine (f kd v y p))
  settle_fine {R} f (kept_write_back {kd} {v} {x} {y} {z} {a} {m} e q p) =
      subst (λ (o : Option Bench). Holds R (outcome kd v (on_noc3 t a ∷ on_noc1 t m ∷ []) (send_to (on_noc1 t m) o))) (sym (own x (on_tile3 a) y e))
      (subst (λ (o : Option Bench). Holds R (outcome kd v (on_noc3 t a ∷ on_noc1 t m ∷ []) o)) (sym (own y (on_tile1 m) z q)) (fine (f kd v z p)))

-- the words last written after the call c of kind kd and value v, what each tile then waits for, and that a load was answered by them
abbrev WordsAfter : Words → (ℕ → Waiting) → Call → ℕ → ℕ → Words
WordsAfter ws q c kd v = written_after (event c (answer 0 kd v)) q ws

abbrev WaitsAfter : (ℕ → Waiting) → Call → ℕ → ℕ → ℕ → Waiting
WaitsAfter q c kd v t = waits_for_after t (event c (answer 0 kd v)) (q t)

abbrev pub Next : Words → (ℕ → Waiting) → ℕ → Call → ℕ → ℕ → Bench → Type 0
Next ws q n c kd v b = Inv (WordsAfter ws q c kd v) (WaitsAfter q c kd v) n b × GivesLast (λ w. get_or ws w 0) q (role_of c) (answer 0 kd v)

-- beside an owner the directory knows nobody, so it may write the words last written
pub data IsStranger : Relation → Type 0 where
  is_stranger : IsStranger stranger

pub beside_owner : {h : Home} {t u : ℕ} {hs : Words} {rel : Relation} {cur cur' : Option Access} {ask ask' : Option Forward} → (t ≡ u → ⊥) → Sees h t (owner hs) cur ask → Sees h u rel cur' ask' → IsStranger rel
beside_owner ne sees_owner sees_owner = absurd (ne refl)
beside_owner ne sees_owner (sees_unowning n) = is_stranger
beside_owner ne (asked_owner a) (asked_owner b) = absurd (ne refl)
beside_owner ne (asked_owner a) (requester n) = is_stranger
beside_owner ne (asked_owner a) (bystander n b) = is_stranger
beside_owner {u = u} {hs = hs} {rel = rel} ne (storer {t = t} {m = m} {owed = owed} {b = b} {d = d} {ws = ws} _ x19) _ = elim x19 [ ]

wordless : {ws us : Words} {p : Waiting} {rel : Relation} {cur : Option Access} {ask : Option Forward} {mark : Bool} {x : Tile} → IsStranger rel → TileOk ws p rel cur ask mark x → TileOk us p rel cur ask mark x
wordless is_stranger (ok stranger_plain e) = ok stranger_plain e
wordless is_stranger (ok stranger_in e) = ok stranger_in e

others_kept : {h : Home} {ws us : Words} {q j : ℕ → Waiting} {k t u : ℕ} {rel : Relation} {cur : Option Access} {ask : Option Forward} {x : Tile}
    → Changes ws rel us → Sees h t rel cur ask → (t ≡ u → ⊥) → j u ≡ q u → At ws q k (Sees h) u x → At us j k (Sees h) u x
others_kept {ws} {x} unchanged s ne e (at {rel} {cur} {ask} {mark} z m o) = at z m (subst (λ (p : Waiting). TileOk ws p rel cur ask mark x) (sym e) o)
others_kept {us} {x} rewritten s ne e (at {rel} {cur} {ask} {mark} z m o) =
    at z m (subst (λ (p : Waiting). TileOk us p rel cur ask mark x) (sym e) (wordless (beside_owner ne s z) o))

home_kept : {n t : ℕ} {h : Home} {mem ws us : Words} {out : Queue ToMemory} {back : Queue FromMemory} {rel : Relation} {cur : Option Access} {ask : Option Forward}
    → Changes ws rel us → Sees h t rel cur ask → HomeOk n mem ws h out back → HomeOk n mem us h out back
home_kept unchanged s x = x
home_kept rewritten sees_owner (idle_ok (owned_ok cl lo)) = idle_ok (owned_ok cl lo)
home_kept rewritten (asked_owner a) (owner_ok cl lo c) = owner_ok cl lo c
home_kept {n = n} {t = t} {mem = mem} {us = us} {out = out} {back = back} (rewritten {hs = hs}) (storer {m = m} {owed = owed} {b = b} {d = d} {ws = ws} _ x23) x = elim x23 [ ]

-- what the rule of the call c at tile t has to keep
abbrev Keeps : Words → (ℕ → Waiting) → Call → ℕ → (Tile → Result Tile) → Type 0
Keeps ws q c t f =
    (rel : Relation) (cur : Option Access) (ask : Option Forward) (mark : Bool) (x : Tile) → TileOk ws (q t) rel cur ask mark x
    → Kept t (λ kd v y. TileOk (WordsAfter ws q c kd v) (WaitsAfter q c kd v t) rel cur ask mark y × Changes ws rel (WordsAfter ws q c kd v) × GivesLast (λ w. get_or ws w 0) q (role_of c) (answer 0 kd v)) (f x)

at_tile_fine : {ws : Words} {q : ℕ → Waiting} {n : ℕ} {b : Bench} (t : ℕ) (c : Call) (f : Tile → Result Tile) → ((kd v u : ℕ) → (t ≡ u → ⊥) → WaitsAfter q c kd v u ≡ q u) → Keeps ws q c t f → Inv ws q n b → Holds (Next ws q n c) (at_tile t f b)
unfolding at_tile is_misfit
at_tile_fine {ws} {q} {n} t c f apart keeps (inv {h} {l} {k} {mem} {out} {back} {ts} len hok all) =
    by_test (Holds (Next ws q n c)) _ _ _
    (λ e. let lt : t < length ts = ltb-true t (length ts) e in here lt (all t (omega arith)))
    (λ e. fine_refused refl)
  where
    here : t < length ts → At ws q k (Sees h) t (tile_at ts t) → Holds (Next ws q n c) (settle t (bench_of h l k mem out back ts) (f (tile_at ts t)))
    here lt (at {rel} {cur} {ask} {mark} s m o) =
        settle_fine h l k mem out back ts t lt
        (λ kd v y p. (
          inv (length-set ts t y ∙ len) (home_kept p.1 s hok) (each_tile ts t y (At (WordsAfter ws q c kd v) (WaitsAfter q c kd v) k (Sees h)) len (λ u lu ne. others_kept p.1 s ne (apart kd v u ne) (all u lu)) (at s m p.0)),
          p.2,
        ))
        (keeps rel cur ask mark (tile_at ts t) o)

at_word_lem : {t : ℕ} {P : ℕ → ℕ → Tile → Type 0} {r : Result Tile} (w : ℕ) → Kept t P r → Kept t P (at_word w r)
unfolding at_word is_misfit
at_word_lem {t} {P} w k = by_test (Kept t P) (ltb w 8) _ _ (λ e. k) (λ e. kept_refused refl)

kept_map : {t : ℕ} {P R : ℕ → ℕ → Tile → Type 0} {r : Result Tile} → ((kd v : ℕ) (y : Tile) → P kd v y → R kd v y) → Kept t P r → Kept t R r
kept_map f (kept_refused e) = kept_refused e
kept_map f (kept_silent {kd} {v} {x} p) = kept_silent (f kd v x p)
kept_map f (kept_request {kd} {v} {y} e p) = kept_request e (f kd v y p)
kept_map f (kept_reply {kd} {v} {y} e p) = kept_reply e (f kd v y p)
kept_map f (kept_write_back {kd} {v} {z} e q p) = kept_write_back e q (f kd v z p)

-- a call at tile t makes t wait, or ends its waiting, and no other
own_waits : {ws : Words} {rel : Relation} {cur : Option Access} {ask : Option Forward} {mark : Bool} {y : Tile} (t : ℕ) (b : Bool) (new old : Waiting) → TileOk ws (cond b new old) rel cur ask mark y → TileOk ws (cond (eqb t t && b) new old) rel cur ask mark y
own_waits {ws} {rel} {cur} {ask} {mark} {y} t b new old o = subst (λ (z : Bool). TileOk ws (cond (z && b) new old) rel cur ask mark y) (sym (eqb_same t)) o

others_wait : (t u : ℕ) (b : Bool) (new old : Waiting) → (t ≡ u → ⊥) → cond (eqb t u && b) new old ≡ old
others_wait t u b new old ne = rw (ne_eqb t u ne)

plain_kinds : {kd : ℕ} (v : ℕ) → Plain kd → (has_kind 1 (answer 0 kd v) ≡ false) × (has_kind 2 (answer 0 kd v) ≡ false)
unfolding has_kind
plain_kinds v plain_0 = (refl, refl)
plain_kinds v plain_3 = (refl, refl)

-- a load writes nothing
unwritten : (P : Words → Type 0) (b : Bool) (ws : Words) → P ws → P (cond b ws ws)
unwritten P true ws p = p
unwritten P false ws p = p

load_fine : {ws : Words} {q : ℕ → Waiting} {n : ℕ} {b : Bench} (t w : ℕ) → Inv ws q n b → Holds (Next ws q n (load t w)) (at_tile t (λ x. at_word w (load_at t w x)) b)
unfolding written_after written_by writes waits_for_after waits_for_by GivesLast
load_fine {ws} {q} t w i =
    at_tile_fine t (load t w) (λ x. at_word w (load_at t w x)) (λ kd v u ne. others_wait t u _ _ _ ne)
    (λ rel cur ask mark x o.
    at_word_lem w
    (kept_map
    (λ kd v y p. (
      unwritten (λ us. TileOk us (WaitsAfter q (load t w) kd v t) rel cur ask mark y) (has_kind 2 (answer 0 kd v)) ws (own_waits t _ _ _ p.0),
      unwritten (λ us. Changes ws rel us) (has_kind 2 (answer 0 kd v)) ws unchanged,
      (p.1, p.2),
    ))
    (load_kept t w o)))
    i

store_fine : {ws : Words} {q : ℕ → Waiting} {n : ℕ} {b : Bench} (t w x : ℕ) → Inv ws q n b → Holds (Next ws q n (store t w x)) (at_tile t (λ y. at_word w (store_at t w x y)) b)
unfolding written_after written_by writes waits_for_after waits_for_by GivesLast
store_fine t w z i =
    at_tile_fine t (store t w z) (λ y. at_word w (store_at t w z y)) (λ kd v u ne. others_wait t u _ _ _ ne)
    (λ rel cur ask mark x o. at_word_lem w (kept_map (λ kd v y p. (own_waits t _ _ _ p.0, p.1, p.2)) (store_kept t w z o)))
    i

evict_fine : {ws : Words} {q : ℕ → Waiting} {n : ℕ} {b : Bench} (t : ℕ) → Inv ws q n b → Holds (Next ws q n (evict t)) (at_tile t (λ x. evict_at t x) b)
unfolding written_after written_by waits_for_after waits_for_by GivesLast
evict_fine t i =
    at_tile_fine t (evict t) (λ x. evict_at t x) (λ kd v u ne. refl)
    (λ rel cur ask mark x o. kept_map (λ kd v y p. (p.0, unchanged, plain_kinds v p.1)) (evict_kept t o))
    i

deliver_fine : {ws : Words} {q : ℕ → Waiting} {n : ℕ} {b : Bench} (t : ℕ) → Inv ws q n b → Holds (Next ws q n (to_tile t)) (at_tile t (λ x. deliver_to t x) b)
unfolding written_after written_by waits_for_after waits_for_by GivesLast
deliver_fine t i =
    at_tile_fine t (to_tile t) (λ x. deliver_to t x) (λ kd v u ne. others_wait t u _ _ _ ne)
    (λ rel cur ask mark x o. kept_map (λ kd v y p. (own_waits t _ _ _ p.0, p.1, (p.2, p.3))) (deliver_kept t o))
    i

-- ---- taking

-- an idle home acts for nobody and has asked nothing
pub at_rest : {ws : Words} {p : Waiting} {x : Line} {t : ℕ} {rel : Relation} {cur : Option Access} {ask : Option Forward} {mark : Bool} {y : Tile} → Sees (idle x) t rel cur ask → TileOk ws p rel cur ask mark y → (Sees (idle x) t rel none none) × (TileOk ws p rel none none mark y)
at_rest sees_absent o = (sees_absent, o)
at_rest sees_uncached o = (sees_uncached, o)
at_rest (sees_sharer h) o = (sees_sharer h, o)
at_rest (sees_outsider h) o = (sees_outsider h, o)
at_rest sees_owner o = (sees_owner, o)
at_rest (sees_unowning ne) o = (sees_unowning ne, o)

-- what becomes of the other tiles' descriptions
absent_loading : {r t : ℕ} {a : Access} {x : Line} → (r ≡ t → ⊥) → (rel : Relation) (cur : Option Access) (ask : Option Forward) → Sees (idle absent) t rel cur ask → Sees (awaiting_load (task r a) x) t rel cur ask
absent_loading ne rel cur ask sees_absent = loads_not ne

uncached_alone : {t : ℕ} {d : Bool} {ws : Words} → (rel : Relation) (cur : Option Access) (ask : Option Forward) → Sees (idle (present d ws uncached)) t rel cur ask → Alone t rel cur ask
uncached_alone rel cur ask sees_uncached = exactly

unshared_alone : {t m : ℕ} {d : Bool} {ws : Words} → has m t ≡ false → (rel : Relation) (cur : Option Access) (ask : Option Forward) → Sees (idle (present d ws (shared_by m))) t rel cur ask → Alone t rel cur ask
unshared_alone no-bit rel cur ask (sees_sharer h) = clash h no-bit
unshared_alone no-bit rel cur ask (sees_outsider h) = exactly

unowned_alone : {t o : ℕ} {d : Bool} {ws : Words} → (o ≡ t → ⊥) → (rel : Relation) (cur : Option Access) (ask : Option Forward) → Sees (idle (present d ws (owned_by o))) t rel cur ask → Alone t rel cur ask
unowned_alone ne rel cur ask sees_owner = absurd (ne refl)
unowned_alone ne rel cur ask (sees_unowning n) = exactly

the_owner : {t o : ℕ} {d : Bool} {ws : Words} → o ≡ t → (rel : Relation) (cur : Option Access) (ask : Option Forward) → Sees (idle (present d ws (owned_by o))) t rel cur ask → Exactly (owner ws) none none t rel cur ask
the_owner e rel cur ask sees_owner = exactly
the_owner e rel cur ask (sees_unowning ne) = absurd (ne e)

unowned_beside : {t o : ℕ} {d : Bool} {ws : Words} {c : Cause} → (o ≡ t → ⊥) → Apart c t → (rel : Relation) (cur : Option Access) (ask : Option Forward) → Sees (idle (present d ws (owned_by o))) t rel cur ask → Beside c t rel cur ask
unowned_beside ne a rel cur ask sees_owner = absurd (ne refl)
unowned_beside ne a rel cur ask (sees_unowning n) = beside a

-- every sharer but r is owed
shared_owed : {t m r : ℕ} {b : Write} {d : Bool} {ws : Words} → (r ≡ t → ⊥) → (rel : Relation) (cur : Option Access) (ask : Option Forward) → Sees (idle (present d ws (shared_by m))) t rel cur ask → ToClear m (del m r) (clear_for (task r b)) t rel cur ask
shared_owed {t} {m} {r} ne rel cur ask (sees_sharer h) = to_owe (has_del_other m r t ne ∙ h)
shared_owed {t} {m} {r} ne rel cur ask (sees_outsider h) = to_pass (has_del_other m r t ne ∙ h) (apart_store ne)

-- the last bit gone, no other tile is in the mask
last_gone : (m r t : ℕ) → del m r ≡ 0 → (r ≡ t → ⊥) → has m t ≡ false
last_gone m r t e ne = sym (has_del_other m r t ne) ∙ ap (λ (x : ℕ). has x t) e ∙ has_none t

-- what is left of a mask is in it
del_inside : (m t : ℕ) → Inside (del m t) m
del_inside m t u = at_or_not (λ (z : ℕ). has (del m t) z ≡ true → has m z ≡ true) t u (λ q. clash q (has_del m t)) (λ ne q. sym (has_del_other m t u ne) ∙ q)

-- a request of tile t is served: y is that tile without it
module _ (ws : Words) (q : ℕ → Waiting) (n k t : ℕ) (mem : Words) (ts : List Tile) (y : Tile) (len : length ts ≡ n) (lt : t < n) where
  abbrev left : List Tile
  left = set ts t y

  left_length : length left ≡ n
  left_length = length-set ts t y ∙ len

  here : {S : Knowledge} → At ws q k S t y → At ws q k S t (tile_at left t)
  here {S} p = same_tile ts t y (At ws q k S t) (omega arith) p

  others : {S R : Knowledge} → ((u : ℕ) → (t ≡ u → ⊥) → (rel : Relation) (cur : Option Access) (ask : Option Forward) → S u rel cur ask → R u rel cur ask) → All ws q n k S ts → (u : ℕ) → u < n → (t ≡ u → ⊥) → At ws q k R u (tile_at left u)
  others {R} f all u lu ne = other_tile ts t y (At ws q k R u) u ne (carry refl (f u ne) (all u lu))

  -- a store of a line in S
  store_shared : {b : Write} {rel : Relation} {m : ℕ} {d : Bool} → GrantFrom rel (writing b) → InMask m t rel → TileOk ws (q t) rel (some (writing b)) none false y → has k t ≡ false → Clean ws mem d → m < 2 ^ n → All ws q n k (Sees (idle (present d ws (shared_by m)))) ts
      → Fine ws q n (served t (serve n (task t (writing b)) (present d ws (shared_by m))) k mem empty empty left)
  unfolding served serve grant invalidate
  store_shared {b} {m} {d} g i p e cl lm all =
      by_test (λ (x : Move). Fine ws q n (served t x k mem empty empty left)) _ _ _
      (λ z. grant_fine ws q n t t k mem left left_length d false t cl lt (here (at (grantee g) e p))
      (others (λ u ne. unshared_alone (last_gone m t u (eqb-true (del m t) 0 z) ne)) all))
      (λ z. invalidate_fine ws q n t t k mem left left_length d m (del m t) (clear_for (task t b)) cl (del_lt n m t lm) (eqb-false (del m t) 0 z) (del_inside m t) (store_ok lt (has_del m t))
      (each_tile ts t y (At ws q k (ToClear m (del m t) (clear_for (task t b)))) len (λ u lu ne. carry refl (shared_owed ne) (all u lu)) (at (to_store (has_del m t) i) e p)))

  -- a line in E: the tile's own, or another's
  own_line : {a : Access} {d : Bool} {hs : Words} → TileOk ws (q t) (owner hs) (some a) none false y → has k t ≡ false → Clean hs mem d → All ws q n k (Sees (idle (present d hs (owned_by t)))) ts
      → Fine ws q n (served t (serve n (task t a) (present d hs (owned_by t))) k mem empty empty left)
  unfolding served serve grant
  own_line {a} {d} {hs} p e cl all =
      let h : hs ≡ ws = asking_owner p in
      if_true (λ (x : Move). Fine ws q n (served t x k mem empty empty left)) _ _ (eqb_same t)
      (subst (λ (z : Words). Fine ws q n (served t (grant d z false (task t a)) k mem empty empty left)) (sym h)
      (grant_fine ws q n t t k mem left left_length d false t (subst (λ (z : Words). Clean z mem d) h cl) lt (here (at (grantee from_owner) e p)) (others (λ u ne. unowned_alone ne) all)))

  anothers_line : {a : Access} {d : Bool} {hs : Words} {o : ℕ} → (o ≡ t → ⊥) → Clean hs mem d → o < n → TileOk ws (q t) stranger (some a) none false y → has k t ≡ false → All ws q n k (Sees (idle (present d hs (owned_by o)))) ts
      → Fine ws q n (served t (serve n (task t a) (present d hs (owned_by o))) k mem empty empty left)
  unfolding served serve ask_owner
  anothers_line {a} {d} {hs} {o} nt cl lo p e all =
      if_false (λ (x : Move). Fine ws q n (served t x k mem empty empty left)) _ _ (ne_eqb o t nt)
      (ask_owner_fine ws q n t t k mem left left_length d hs o (request (task t a)) cl lo (request_ok lt nt)
      (other_tile ts t y (At ws q k (Exactly (owner hs) none none) o) o (λ z. nt (sym z)) (carry refl (the_owner refl) (all o lo)))
      (each_tile ts t y (λ u x. (o ≡ u → ⊥) → At ws q k (Beside (request (task t a))) u x) len
      (λ u lu ne nu. carry refl (unowned_beside nu (apart_request ne)) (all u lu))
      (λ nu. at asker e p)))

  serve_fine : {rel : Relation} {x : Line} (a : Access) → Sees (idle x) t rel none none → LineOk n mem ws x → TileOk ws (q t) rel (some a) none false y → has k t ≡ false → All ws q n k (Sees (idle x)) ts
      → Fine ws q n (served t (serve n (task t a) x) k mem empty empty left)
  unfolding served serve kind_of posted send send_to send_one push outcome grant grant_shared
  serve_fine a sees_absent (absent_ok me) p e all = fine (plain_3, inv left_length (load_out me lt) (each_tile ts t y (At ws q k (Sees (awaiting_load (task t a) absent))) len (λ u lu ne. carry refl (absent_loading ne) (all u lu)) (at loads e p)))
  serve_fine a (sees_uncached {d}) (uncached_ok cl) p e all = grant_fine ws q n t t k mem left left_length d false t cl lt (here (at (grantee from_stranger) e p)) (others (λ u ne. uncached_alone) all)
  serve_fine reading (sees_sharer {m} {d} h) (shared_ok cl lm) p e all = grant_shared_fine ws q n t t k mem left left_length d m t cl lm lt (here (at (sharee share_sharer) e p)) (others (λ u ne rel cur ask s. s) all)
  serve_fine reading (sees_outsider {m} {d} h) (shared_ok cl lm) p e all = grant_shared_fine ws q n t t k mem left left_length d m t cl lm lt (here (at (sharee share_stranger) e p)) (others (λ u ne rel cur ask s. s) all)
  serve_fine (writing b) (sees_sharer h) (shared_ok cl lm) p e all = store_shared from_sharer (in_mask h) p e cl lm all
  serve_fine (writing b) (sees_outsider h) (shared_ok cl lm) p e all = store_shared from_stranger off_mask p e cl lm all
  serve_fine a sees_owner (owned_ok cl lo) p e all = own_line p e cl all
  serve_fine a (sees_unowning ne) (owned_ok cl lo) p e all = anothers_line ne cl lo p e all

-- the tile that is taken, with its front o
take_fine : {rel : Relation} {mark : Bool} {x : Line} {o : Option Request} (ws : Words) (q : ℕ → Waiting) (n k t : ℕ) (mem : Words) (ts : List Tile) (y : Tile) → length ts ≡ n → t < n
    → Front1 ws (q t) rel mark o y → has k t ≡ mark → Sees (idle x) t rel none none → LineOk n mem ws x → All ws q n k (Sees (idle x)) ts
    → Fine ws q n (take_front t o x k mem empty empty (set ts t y))
unfolding take_front
take_fine {x} ws q n k t mem ts y len lt (guard_front p) e s l all =
    fine (
      plain_0,
      inv (length-set ts t y ∙ len) (idle_ok l)
          (each_tile ts t y (At ws q (del k t) (Sees (idle x))) len (λ u lu ne. carry (has_del_other k t u ne) (λ rel cur ask z. z) (all u lu)) (at s (has_del k t) p)),
    )
take_fine {x} ws q n k t mem ts y len lt (load_front p) e s l all =
    subst (λ (z : ℕ). Fine ws q n (served t (serve z (task t reading) x) k mem empty empty (set ts t y))) (sym (length-set ts t y ∙ len))
    (serve_fine ws q n k t mem ts y len lt reading s l p e all)
take_fine {x} ws q n k t mem ts y len lt (store_front p) e s l all =
    subst (λ (z : ℕ). Fine ws q n (served t (serve z (task t (writing storing)) x) k mem empty empty (set ts t y))) (sym (length-set ts t y ∙ len))
    (serve_fine ws q n k t mem ts y len lt (writing storing) s l p e all)

taking_fine : {ws : Words} {q : ℕ → Waiting} {n : ℕ} {b : Bench} → Inv ws q n b → Fine ws q n (taking_on b)
unfolding taking_on take_chosen arbitrate is_misfit
taking_fine {ws} {q} {n} (inv {l} {k} {mem} {ts} len (idle_ok {l = x} lok) all) = go (arbitrate l k ts) refl
  where
    chosen : (t : ℕ) → eligible (has k t) (tile_at ts t) ≡ true → t < n → At ws q k (Sees (idle x)) t (tile_at ts t) → Fine ws q n (take_chosen (some t) x k mem empty empty ts)
    chosen t e lt (at s m o) =
        let r = at_rest s o in
        take_fine ws q n k t mem ts (pop_noc1 (tile_at ts t)) len lt (front1 r.1 (subst (λ (b : Bool). eligible b (tile_at ts t) ≡ true) m e)) m r.0 lok all

    go : (o : Option ℕ) → arbitrate l k ts ≡ o → Fine ws q n (take_chosen o x k mem empty empty ts)
    go none e = fine_refused refl
    go (some t) e =
        let z : eligible (has k t) (tile_at ts t) ≡ true = first_passes (λ u. eligible (has k u) (tile_at ts u)) _ t e in
        let lt : t < length ts = eligible_below (has k t) ts t z in
        chosen t z (omega arith) (all t (omega arith))
taking_fine (inv len (load_out me lt) all) = fine_refused refl
taking_fine (inv len (load_back me lt) all) = fine_refused refl
taking_fine (inv len (owner_ok cl lt c) all) = fine_refused refl
taking_fine (inv len (acks_ok cl lo ne sub c) all) = fine_refused refl
taking_fine (inv len store_out all) = fine_refused refl
taking_fine (inv len (store_back me) all) = fine_refused refl

-- ---- delivery from a tile

-- what becomes of the descriptions of the tiles other than t, whose message is delivered
owned_uncached : {t o : ℕ} {d e : Bool} {ws us : Words} → (o ≡ t → ⊥) → (rel : Relation) (cur : Option Access) (ask : Option Forward) → Sees (idle (present d ws (owned_by o))) t rel cur ask → Sees (idle (present e us uncached)) t rel cur ask
owned_uncached ne rel cur ask sees_owner = absurd (ne refl)
owned_uncached ne rel cur ask (sees_unowning n) = sees_uncached

still_asked : {t o : ℕ} {d e : Bool} {ws us : Words} {c : Cause} → (o ≡ t → ⊥) → (rel : Relation) (cur : Option Access) (ask : Option Forward) → Sees (awaiting_owner d ws o c) t rel cur ask → Sees (awaiting_owner e us o c) t rel cur ask
still_asked ne rel cur ask (asked_owner a) = absurd (ne refl)
still_asked ne rel cur ask (requester n) = requester n
still_asked ne rel cur ask (bystander n a) = bystander n a

-- the requester, and neither it nor the owner
the_requester : {t o r : ℕ} {d : Bool} {ws : Words} {a : Access} → (o ≡ t → ⊥) → r ≡ t → (rel : Relation) (cur : Option Access) (ask : Option Forward) → Sees (awaiting_owner d ws o (request (task r a))) t rel cur ask → Exactly stranger (some a) none t rel cur ask
the_requester ne e rel cur ask (asked_owner a) = absurd (ne refl)
the_requester ne e rel cur ask (requester n) = exactly
the_requester ne e rel cur ask (bystander n (apart_request nr)) = absurd (nr e)

neither : {t o r : ℕ} {d : Bool} {ws : Words} {a : Access} → (o ≡ t → ⊥) → (r ≡ t → ⊥) → (rel : Relation) (cur : Option Access) (ask : Option Forward) → Sees (awaiting_owner d ws o (request (task r a))) t rel cur ask → Alone t rel cur ask
neither ne nr rel cur ask (asked_owner a) = absurd (ne refl)
neither ne nr rel cur ask (requester n) = absurd (nr refl)
neither ne nr rel cur ask (bystander n a) = exactly

not_evicted : {t o : ℕ} {d : Bool} {ws : Words} → (o ≡ t → ⊥) → (rel : Relation) (cur : Option Access) (ask : Option Forward) → Sees (awaiting_owner d ws o eviction) t rel cur ask → Alone t rel cur ask
not_evicted ne rel cur ask (asked_owner a) = absurd (ne refl)
not_evicted ne rel cur ask (bystander n a) = exactly

still_owed : {t r m owed : ℕ} {d : Bool} {ws : Words} {c : Clearing} → (r ≡ t → ⊥) → (rel : Relation) (cur : Option Access) (ask : Option Forward) → Sees (awaiting_acks d ws m owed c) t rel cur ask → Sees (awaiting_acks d ws m (del owed r) c) t rel cur ask
still_owed {t} {r} {owed} ne rel cur ask (owing h) = owing (has_del_other owed r t ne ∙ h)
still_owed {t} {r} {owed} ne rel cur ask (storer h i) = storer (has_del_other owed r t ne ∙ h) i
still_owed {t} {r} {owed} ne rel cur ask (cleared_out h a) = cleared_out (has_del_other owed r t ne ∙ h) a

the_storer : {t r m owed : ℕ} {b : Write} {d : Bool} {ws : Words} → has owed t ≡ false → r ≡ t → (rel : Relation) (cur : Option Access) (ask : Option Forward) → Sees (awaiting_acks d ws m owed (clear_for (task r b))) t rel cur ask → Grantee (writing b) t rel cur ask
the_storer z e rel cur ask (owing h) = clash h z
the_storer z e rel cur ask (storer h (in_mask i)) = grantee from_sharer
the_storer z e rel cur ask (storer h off_mask) = grantee from_stranger
the_storer z e rel cur ask (cleared_out h (apart_store ne)) = absurd (ne e)

cleared_store : {t r m owed : ℕ} {b : Write} {d : Bool} {ws : Words} → has owed t ≡ false → (r ≡ t → ⊥) → (rel : Relation) (cur : Option Access) (ask : Option Forward) → Sees (awaiting_acks d ws m owed (clear_for (task r b))) t rel cur ask → Alone t rel cur ask
cleared_store z ne rel cur ask (owing h) = clash h z
cleared_store z ne rel cur ask (storer h i) = absurd (ne refl)
cleared_store z ne rel cur ask (cleared_out h a) = exactly

cleared_eviction : {t m owed : ℕ} {d : Bool} {ws : Words} → has owed t ≡ false → (rel : Relation) (cur : Option Access) (ask : Option Forward) → Sees (awaiting_acks d ws m owed clear_for_eviction) t rel cur ask → Alone t rel cur ask
cleared_eviction z rel cur ask (owing h) = clash h z
cleared_eviction z rel cur ask (cleared_out h a) = exactly

moved_fine : {ws : Words} {q : ℕ → Waiting} {n : ℕ} (x : Move) (l k : ℕ) (mem : Words) (ts : List Tile) → Fine ws q n (post x 0 l k mem empty empty ts) → Fine ws q n (fitted (some x) l k mem empty empty ts)
unfolding fitted
moved_fine (move h ms) l k mem ts f = f

-- a description known exactly
grants : {a : Access} {t : ℕ} {g : Relation} → GrantFrom g a → (rel : Relation) (cur : Option Access) (ask : Option Forward) → Exactly g (some a) none t rel cur ask → Grantee a t rel cur ask
grants g rel cur ask exactly = grantee g

shares : {t : ℕ} {g : Relation} → ShareFrom g → (rel : Relation) (cur : Option Access) (ask : Option Forward) → Exactly g (some reading) none t rel cur ask → Sharee t rel cur ask
shares g rel cur ask exactly = sharee g

alone_outsider : {t m : ℕ} {d : Bool} {ws : Words} → has m t ≡ false → (rel : Relation) (cur : Option Access) (ask : Option Forward) → Alone t rel cur ask → Sees (idle (present d ws (shared_by m))) t rel cur ask
alone_outsider h rel cur ask exactly = sees_outsider h

-- an ack with data makes the line dirty
clean_after : {hs mem : Words} {d : Bool} (x : Option Words) → Clean hs mem d → Clean (ack_words x hs) mem (ack_dirty x d)
unfolding ack_words ack_dirty
clean_after none cl = cl
clean_after (some us) cl = dirty

module _ (ws : Words) (q : ℕ → Waiting) (n l k t : ℕ) (mem : Words) (ts : List Tile) (y : Tile) (len : length ts ≡ n) (lt : t < n) where
  abbrev gone : List Tile
  gone = set ts t y

  gone_length : length gone ≡ n
  gone_length = length-set ts t y ∙ len

  -- another tile as it was
  elsewhere : {S R : Knowledge} (u : ℕ) → (t ≡ u → ⊥) → ((rel : Relation) (cur : Option Access) (ask : Option Forward) → S u rel cur ask → R u rel cur ask) → At ws q k S u (tile_at ts u) → At ws q k R u (tile_at gone u)
  elsewhere {R} u ne f p = other_tile ts t y (At ws q k R u) u ne (carry refl f p)

  -- write-backs, of the words last written
  wb_idle_fine : {d : Bool} {us : Words} → TileOk ws (q t) stranger none none true y → has k t ≡ false → All ws q n k (Sees (idle (present d us (owned_by t)))) ts
      → Fine ws q n (written_back t (write_back t ws (has k t) (idle (present d us (owned_by t)))) l k mem empty empty gone)
  unfolding written_back write_back
  wb_idle_fine {d} {us} p e all =
      subst (λ (b : Bool). Fine ws q n (written_back t (write_back t ws b (idle (present d us (owned_by t)))) l k mem empty empty gone)) (sym e)
      (if_true (λ (x : Option Home). Fine ws q n (written_back t x l k mem empty empty gone)) _ _ (eqb_same t)
      (fine (
        plain_0,
        inv gone_length (idle_ok (uncached_ok dirty))
            (each_tile ts t y (At ws q (add k t) (Sees (idle (present true ws uncached)))) len (λ u lu ne. carry (has_add_other k t u ne) (owned_uncached ne) (all u lu)) (at sees_uncached (has_add k t) p)),
      )))

  wb_asked_fine : {d : Bool} {us : Words} {c : Cause} {f : Forward} → AsksFor c f → TileOk ws (q t) (owner ws) none (some f) true y → has k t ≡ false → CauseOk n t c → All ws q n k (Sees (awaiting_owner d us t c)) ts
      → Fine ws q n (written_back t (write_back t ws (has k t) (awaiting_owner d us t c)) l k mem empty empty gone)
  unfolding written_back write_back
  wb_asked_fine {d} {us} {c} a p e cok all =
      subst (λ (b : Bool). Fine ws q n (written_back t (write_back t ws b (awaiting_owner d us t c)) l k mem empty empty gone)) (sym e)
      (if_true (λ (x : Option Home). Fine ws q n (written_back t x l k mem empty empty gone)) _ _ (eqb_same t)
      (fine (
        plain_0,
        inv gone_length (owner_ok dirty lt cok)
            (each_tile ts t y (At ws q (add k t) (Sees (awaiting_owner true ws t c))) len (λ u lu ne. carry (has_add_other k t u ne) (still_asked ne) (all u lu)) (at (asked_owner a) (has_add k t) p)),
      )))

  -- the owner's ack for a request of tile r: hs are the home's words with it
  ack_shared_fine : {us hs : Words} {d e : Bool} {r : ℕ} → hs ≡ ws → Clean hs mem e → TileOk ws (q t) sharer none none false y → has k t ≡ false → r < n → (t ≡ r → ⊥) → All ws q n k (Sees (awaiting_owner d us t (request (task r reading)))) ts
      → Fine ws q n (post (grant_shared e hs (add 0 t) r) 0 l k mem empty empty gone)
  ack_shared_fine {us} {d} {e} {r} h cl p z lr nr all =
      subst (λ (x : Words). Fine ws q n (post (grant_shared e x (add 0 t) r) 0 l k mem empty empty gone)) (sym h)
      (grant_shared_fine ws q n 0 l k mem gone gone_length {e = d} {us = us} e (add 0 t) r (subst (λ (x : Words). Clean x mem e) h cl) (add_lt n 0 t (pow_pos n) lt) lr
      (elsewhere r nr (λ rel cur ask s. shares share_stranger rel cur ask (the_requester nr refl rel cur ask s)) (all r lr))
      (each_tile ts t y (λ u x. (r ≡ u → ⊥) → At ws q k (Sees (idle (present d us (shared_by (add 0 t))))) u x) len
      (λ u lu ne nu. carry refl (λ rel cur ask s. alone_outsider (has_add_other 0 t u ne ∙ has_none u) rel cur ask (neither ne nu rel cur ask s)) (all u lu))
      (λ nu. at (sees_sharer (has_add 0 t)) z p)))

  ack_owner_fine : {a : Access} {d e : Bool} {us hs : Words} {r : ℕ} {mark : Bool} → hs ≡ ws → Clean hs mem e → TileOk ws (q t) stranger none none mark y → has k t ≡ mark → r < n → (t ≡ r → ⊥) → All ws q n k (Sees (awaiting_owner d us t (request (task r a)))) ts
      → Fine ws q n (post (grant e hs false (task r a)) 0 l k mem empty empty gone)
  ack_owner_fine {a} {e} {r} h cl p m lr nr all =
      subst (λ (x : Words). Fine ws q n (post (grant e x false (task r a)) 0 l k mem empty empty gone)) (sym h)
      (grant_fine ws q n 0 l k mem gone gone_length e false r (subst (λ (x : Words). Clean x mem e) h cl) lr
      (elsewhere r nr (λ rel cur ask s. grants from_stranger rel cur ask (the_requester nr refl rel cur ask s)) (all r lr))
      (each_tile ts t y (λ u z. (r ≡ u → ⊥) → At ws q k Alone u z) len (λ u lu ne nu. carry refl (neither ne nu) (all u lu)) (λ nu. at exactly m p)))

  -- the owner's ack for an eviction
  ack_leave_fine : {d e : Bool} {us hs : Words} {mark : Bool} → hs ≡ ws → Clean hs mem e → TileOk ws (q t) stranger none none mark y → has k t ≡ mark → All ws q n k (Sees (awaiting_owner d us t eviction)) ts
      → Fine ws q n (post (leave e hs) 0 l k mem empty empty gone)
  ack_leave_fine {e} h cl p m all =
      subst (λ (x : Words). Fine ws q n (post (leave e x) 0 l k mem empty empty gone)) (sym h)
      (leave_fine ws q n 0 l k mem gone gone_length e (subst (λ (x : Words). Clean x mem e) h cl) (each_tile ts t y (At ws q k Alone) len (λ u lu ne. carry refl (not_evicted ne) (all u lu)) (at exactly m p)))

  -- the last ack of an invalidation, and one before it
  last_fine : {m owed : ℕ} {d : Bool} {mark : Bool} (c : Clearing) → Clean ws mem d → del owed t ≡ 0 → has owed t ≡ true → ClearingOk n owed c → TileOk ws (q t) stranger none none mark y → has k t ≡ mark → All ws q n k (Sees (awaiting_acks d ws m owed c)) ts
      → Fine ws q n (post (cleared d ws c) 0 l k mem empty empty gone)
  unfolding cleared
  last_fine {owed} {d} (clear_for (task r b)) cl z h (store_ok lr hr) p e all =
      let nr : t ≡ r → ⊥ = λ i. clash (subst (λ (j : ℕ). has owed j ≡ true) i h) hr in
      grant_fine ws q n 0 l k mem gone gone_length d false r cl lr
      (elsewhere r nr (the_storer hr refl) (all r lr))
      (each_tile ts t y (λ u x. (r ≡ u → ⊥) → At ws q k Alone u x) len (λ u lu ne nu. carry refl (cleared_store (last_gone owed t u z ne) nu) (all u lu)) (λ nu. at exactly e p))
  last_fine {owed} {d} clear_for_eviction cl z h cok p e all =
      leave_fine ws q n 0 l k mem gone gone_length d cl (each_tile ts t y (At ws q k Alone) len (λ u lu ne. carry refl (cleared_eviction (last_gone owed t u z ne)) (all u lu)) (at exactly e p))

  -- the tile that acknowledged is not the requester
  acked_apart : {owed : ℕ} {c : Clearing} → has owed t ≡ true → ClearingOk n owed c → ApartFrom c t
  acked_apart {owed} h (store_ok lr hr) = apart_store (λ i. clash h (subst (λ (j : ℕ). has owed j ≡ false) i hr))
  acked_apart h clearing_ok = apart_clearing

  less_owed : {owed : ℕ} {c : Clearing} → has owed t ≡ true → ClearingOk n owed c → ClearingOk n (del owed t) c
  less_owed {owed} h (store_ok {r} lr hr) = store_ok lr (has_del_other owed t r (λ i. clash (subst (λ (j : ℕ). has owed j ≡ true) i h) hr) ∙ hr)
  less_owed h clearing_ok = clearing_ok

  ack_inv_fine : {m owed : ℕ} {d : Bool} {c : Clearing} {mark : Bool} → has owed t ≡ true → Clean ws mem d → owed < 2 ^ n → Inside owed m → ClearingOk n owed c → TileOk ws (q t) stranger none none mark y → has k t ≡ mark → All ws q n k (Sees (awaiting_acks d ws m owed c)) ts
      → Fine ws q n (fitted (inv_ack t (awaiting_acks d ws m owed c)) l k mem empty empty gone)
  unfolding fitted inv_ack posted send outcome kind_of
  ack_inv_fine {m} {owed} {d} {c} h cl lo sub cok p e all =
      if_true (λ (z : Option Move). Fine ws q n (fitted z l k mem empty empty gone)) _ _ h
      (by_test (λ (z : Move). Fine ws q n (fitted (some z) l k mem empty empty gone)) _ _ _
      (λ z. moved_fine (cleared d ws c) l k mem gone (last_fine c cl (eqb-true (del owed t) 0 z) h cok p e all))
      (λ z. fine (
        plain_0,
        inv gone_length (acks_ok cl (del_lt n owed t lo) (eqb-false (del owed t) 0 z) (λ u i. sub u (del_inside owed t u i)) (less_owed h cok))
            (each_tile ts t y (At ws q k (Sees _)) len (λ u lu ne. carry refl (still_owed ne) (all u lu)) (at (cleared_out (has_del owed t) (acked_apart h cok)) e p)),
      )))

  accept_fine : {rel : Relation} {cur : Option Access} {ask : Option Forward} {mark : Bool} {o : Option Reply} {h : Home} {out : Queue ToMemory} {back : Queue FromMemory}
      → Front3 ws (q t) rel cur ask mark o y → Sees h t rel cur ask → has k t ≡ mark → HomeOk n mem ws h out back → All ws q n k (Sees h) ts
      → Fine ws q n (accept_reply t o h l k mem out back gone)
  unfolding accept_reply is_misfit fitted load_ack_s load_ack_i store_ack grant_shared grant
  accept_fine no_front s e hok all = fine_refused refl
  accept_fine (wb_idle p) sees_owner e (idle_ok x) all = wb_idle_fine p e all
  accept_fine (wb_asked p) (asked_owner a) e (owner_ok cl z cok) all = wb_asked_fine a p e cok all
  accept_fine (ack_shared {x} h p) (asked_owner asks_load) e (owner_ok cl z (request_ok lr nr)) all =
      if_true (λ (z : Option Move). Fine ws q n (fitted z l k mem empty empty gone)) _ _ (eqb_same t) (ack_shared_fine h (clean_after x cl) p e lr nr all)
  accept_fine (ack_invalid h p) (asked_owner (asks_load {r})) e (owner_ok cl z (request_ok lr nr)) all =
      if_true (λ (z : Option Move). Fine ws q n (fitted z l k mem empty empty gone)) _ _ (eqb_same t) (ack_owner_fine {a = reading} h cl p e lr nr all)
  accept_fine (ack_store {x} h p) (asked_owner (asks_store {r} {b})) e (owner_ok cl z (request_ok lr nr)) all =
      if_true (λ (z : Option Move). Fine ws q n (fitted z l k mem empty empty gone)) _ _ (eqb_same t) (ack_owner_fine {a = writing b} h (clean_after x cl) p e lr nr all)
  accept_fine (ack_store {x} h p) (asked_owner {d} {ws = us} asks_eviction) e (owner_ok cl z cok) all =
      if_true (λ (z : Option Move). Fine ws q n (fitted z l k mem empty empty gone)) _ _ (eqb_same t) (moved_fine (leave (ack_dirty x d) (ack_words x us)) l k mem gone (ack_leave_fine h (clean_after x cl) p e all))
  accept_fine (ack_inv p) (owing h) e (acks_ok cl lo ne sub cok) all = ack_inv_fine h cl lo sub cok p e all

from_tile_fine : {ws : Words} {q : ℕ → Waiting} {n : ℕ} {b : Bench} (t : ℕ) → Inv ws q n b → Fine ws q n (from_tile_on t b)
unfolding from_tile_on is_misfit
from_tile_fine {ws} {q} {n} t (inv {h} {l} {k} {mem} {out} {back} {ts} len hok all) =
    by_test (Fine ws q n) _ _ _
    (λ e. let lt : t < length ts = ltb-true t (length ts) e in here (omega arith) (all t (omega arith)))
    (λ e. fine_refused refl)
  where
    here : t < n → At ws q k (Sees h) t (tile_at ts t) → Fine ws q n (accept_reply t (front (noc3 (tile_at ts t))) h l k mem out back (set ts t (pop_noc3 (tile_at ts t))))
    here lt (at s m o) = accept_fine ws q n l k t mem ts (pop_noc3 (tile_at ts t)) len lt (front3 o) s m hok all

-- ---- the memory

memory_step_fine : {ws : Words} {q : ℕ → Waiting} {n : ℕ} {b : Bench} → Inv ws q n b → Fine ws q n (memory_step_on b)
unfolding memory_step_on memory_serves front rest posted send send_to send_one push outcome is_misfit
memory_step_fine (inv len (idle_ok x) all) = fine_refused refl
memory_step_fine {ws} {n} (inv {mem} len (load_out {r} {a} me lt) all) =
    fine (plain_3, inv len (subst (λ (z : Words). HomeOk n mem ws (awaiting_load (task r a) absent) empty (one (load_mem_ack z))) (sym me) (load_back me lt)) all)
memory_step_fine (inv len (load_back me lt) all) = fine_refused refl
memory_step_fine (inv len (owner_ok cl lt c) all) = fine_refused refl
memory_step_fine (inv len (acks_ok cl lo ne sub c) all) = fine_refused refl
memory_step_fine (inv len store_out all) = fine (plain_3, inv len (store_back refl) all)
memory_step_fine (inv len (store_back me) all) = fine_refused refl

the_loader : {t r : ℕ} {a : Access} {x : Line} → r ≡ t → (rel : Relation) (cur : Option Access) (ask : Option Forward) → Sees (awaiting_load (task r a) x) t rel cur ask → Grantee a t rel cur ask
the_loader e rel cur ask loads = grantee from_stranger
the_loader e rel cur ask (loads_not ne) = absurd (ne e)

not_loading : {t r : ℕ} {a : Access} {x : Line} → (r ≡ t → ⊥) → (rel : Relation) (cur : Option Access) (ask : Option Forward) → Sees (awaiting_load (task r a) x) t rel cur ask → Alone t rel cur ask
not_loading ne rel cur ask loads = absurd (ne refl)
not_loading ne rel cur ask (loads_not n) = exactly

left_absent : {t : ℕ} {x : Line} → (rel : Relation) (cur : Option Access) (ask : Option Forward) → Sees (awaiting_store x) t rel cur ask → Sees (idle absent) t rel cur ask
left_absent rel cur ask sees_leaving = sees_absent

memory_ack_fine : {ws : Words} {q : ℕ → Waiting} {n : ℕ} {b : Bench} → Inv ws q n b → Fine ws q n (memory_ack_on b)
unfolding memory_ack_on accept_ack fitted acknowledged front rest posted send outcome is_misfit grant kind_of
memory_ack_fine (inv len (idle_ok x) all) = fine_refused refl
memory_ack_fine (inv len (load_out me lt) all) = fine_refused refl
memory_ack_fine {ws} {q} {n} (inv {l} {k} {mem} {ts} len (load_back {r} me lt) all) =
    grant_fine ws q n 0 l k mem ts len false true r (clean (sym me)) lt (carry refl (the_loader refl) (all r lt)) (λ u lu ne. carry refl (not_loading ne) (all u lu))
memory_ack_fine (inv len (owner_ok cl lt c) all) = fine_refused refl
memory_ack_fine (inv len (acks_ok cl lo ne sub c) all) = fine_refused refl
memory_ack_fine (inv len store_out all) = fine_refused refl
memory_ack_fine (inv len (store_back me) all) = fine (plain_0, inv len (idle_ok (absent_ok me)) (λ u lu. carry refl left_absent (all u lu)))

-- ---- home eviction

all_owed : {t m : ℕ} {d : Bool} {ws : Words} → (rel : Relation) (cur : Option Access) (ask : Option Forward) → Sees (idle (present d ws (shared_by m))) t rel cur ask → ToClear m m clear_for_eviction t rel cur ask
all_owed rel cur ask (sees_sharer h) = to_owe h
all_owed rel cur ask (sees_outsider h) = to_pass h apart_clearing

evict_shared_fine : {ws : Words} {q : ℕ → Waiting} {n : ℕ} (l k m : ℕ) (mem : Words) (ts : List Tile) (d : Bool) → length ts ≡ n → Clean ws mem d → m < 2 ^ n → All ws q n k (Sees (idle (present d ws (shared_by m)))) ts
    → Fine ws q n (fitted (some (evict_line n d ws (shared_by m))) l k mem empty empty ts)
unfolding evict_line invalidate fitted
evict_shared_fine {ws} {q} {n} l k m mem ts d len cl lm all =
    by_test (λ (x : Move). Fine ws q n (fitted (some x) l k mem empty empty ts)) _ _ _
    (λ e. moved_fine (leave d ws) l k mem ts
    (leave_fine ws q n 0 l k mem ts len d cl (λ u lu. carry refl (unshared_alone (ap (λ (x : ℕ). has x u) (eqb-true m 0 e) ∙ has_none u)) (all u lu))))
    (λ e. invalidate_fine ws q n 0 l k mem ts len d m m clear_for_eviction cl lm (eqb-false m 0 e) (λ u i. i) clearing_ok (λ u lu. carry refl all_owed (all u lu)))

home_eviction_fine : {ws : Words} {q : ℕ → Waiting} {n : ℕ} {b : Bench} → Inv ws q n b → Fine ws q n (home_eviction_on b)
unfolding home_eviction_on evict_line is_misfit ask_owner fitted
home_eviction_fine (inv len (idle_ok (absent_ok me)) all) = fine_refused refl
home_eviction_fine {ws} {q} {n} (inv {l} {k} {mem} {ts} len (idle_ok (uncached_ok {d} cl)) all) =
    moved_fine (leave d ws) l k mem ts (leave_fine ws q n 0 l k mem ts len d cl (λ u lu. carry refl uncached_alone (all u lu)))
home_eviction_fine {ws} {q} {n} (inv {l} {k} {mem} {ts} len (idle_ok (shared_ok {d} {m} cl lm)) all) =
    subst (λ (z : ℕ). Fine ws q n (fitted (some (evict_line z d ws (shared_by m))) l k mem empty empty ts)) (sym len) (evict_shared_fine l k m mem ts d len cl lm all)
home_eviction_fine {ws} {q} {n} (inv {l} {k} {mem} {ts} len (idle_ok (owned_ok {d} {hs} {o} cl lo)) all) =
    ask_owner_fine ws q n 0 l k mem ts len d hs o eviction cl lo eviction_ok (carry refl (the_owner refl) (all o lo)) (λ u lu ne. carry refl (unowned_beside ne apart_eviction) (all u lu))
home_eviction_fine (inv len (load_out me lt) all) = fine_refused refl
home_eviction_fine (inv len (load_back me lt) all) = fine_refused refl
home_eviction_fine (inv len (owner_ok cl lt c) all) = fine_refused refl
home_eviction_fine (inv len (acks_ok cl lo ne sub c) all) = fine_refused refl
home_eviction_fine (inv len store_out all) = fine_refused refl
home_eviction_fine (inv len (store_back me) all) = fine_refused refl

-- ---- every call

holds_map : {P R : ℕ → ℕ → Bench → Type 0} {r : Result Bench} → ((kd v : ℕ) (b : Bench) → P kd v b → R kd v b) → Holds P r → Holds R r
holds_map f (fine_refused e) = fine_refused e
holds_map f (fine {kd} {v} {b} p) = fine (f kd v b p)

pub step_fine : {ws : Words} {q : ℕ → Waiting} {n : ℕ} {b : Bench} (c : Call) → Inv ws q n b → Holds (Next ws q n c) (step c b)
unfolding step written_after written_by waits_for_after waits_for_by GivesLast
step_fine (load t w) i = load_fine t w i
step_fine (store t w v) i = store_fine t w v i
step_fine (evict t) i = evict_fine t i
step_fine taking i = holds_map (λ kd v b p. (p.1, plain_kinds v p.0)) (taking_fine i)
step_fine (to_tile t) i = deliver_fine t i
step_fine (from_tile t) i = holds_map (λ kd v b p. (p.1, plain_kinds v p.0)) (from_tile_fine t i)
step_fine memory_step i = holds_map (λ kd v b p. (p.1, plain_kinds v p.0)) (memory_step_fine i)
step_fine memory_ack i = holds_map (λ kd v b p. (p.1, plain_kinds v p.0)) (memory_ack_fine i)
step_fine home_eviction i = holds_map (λ kd v b p. (p.1, plain_kinds v p.0)) (home_eviction_fine i)
