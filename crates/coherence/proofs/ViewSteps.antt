-- What the home's steps do to one tile and to what the home knows of it: its NoC1 or NoC3 front goes, or a message comes on its NoC2.
use Prim.Native.Nat.{ℕ}
use mathlib.Core.Path.{◌≡◌, refl, sym}
use mathlib.Core.Bool.{Bool, true, false}
use mathlib.Core.Option.{Option, some, none}
use Rattle.protocol.specs.Parts.{Words, Access, reading, writing, shared, exclusive, modified, Cache, invalid, valid, Waiting, Request, load_req, store_req, wb_guard_req, Forward, load_fwd, store_fwd, inv_fwd, data_ack, Reply, wb_req, load_fwd_ack_s, load_fwd_ack_i, store_fwd_ack, inv_fwd_ack, Tile, Write, storing}
use Rattle.protocol.specs.Home.{grant_message, ack_words}
use Rattle.protocol.specs.Bench.{push, front, rest, on_tile2, eligible, noc1, pop_noc1, noc3, pop_noc3}
use Rattle.protocol.proofs.Tests.{false_true}
use Rattle.coherence.proofs.Invariant.{Relation, stranger, sharer, owner, Weak, weak_I, weak_S, shares_I, resting, load_queued, store_queued, load_current, store_current, shared_granted, exclusive_granted, modified_granted, Askable, not_asked, ask_load, ask_store, ask_inv, no_data, shared_data, owns_I, owns_E, owns_M, sent_E, sent_M, replies_load, replies_store, answers_load, answers_store, stranger_plain, stranger_in, sharer_plain, sharer_replied, owner_plain, owner_replied, owner_shared, owner_out, owner_out_replied, owner_in, owner_in_replied, TileOk, ok}
use Rattle.coherence.proofs.TileSteps.{on2}

-- ---- taking

-- The NoC1 front of a tile that can be taken while the home is idle, and the tile without it: a guard whose write-back is in, or a
-- request, for which the home now acts.
pub data Front1 (ws : Words) (p : Waiting) : Relation → Bool → Option Request → Tile → Type 0 where
  guard_front : {y : Tile} → TileOk ws p stranger none none false y → Front1 ws p stranger true (some wb_guard_req) y
  load_front : {rel : Relation} {w : ℕ} {y : Tile} → TileOk ws p rel (some reading) none false y → Front1 ws p rel false (some (load_req w)) y
  store_front : {rel : Relation} {w : ℕ} {y : Tile} → TileOk ws p rel (some (writing storing)) none false y → Front1 ws p rel false (some (store_req w)) y

pub front1 : {ws : Words} {p : Waiting} {rel : Relation} {mark : Bool} {x : Tile} → TileOk ws p rel none none mark x → eligible mark x ≡ true → Front1 ws p rel mark (front (noc1 x)) (pop_noc1 x)
unfolding eligible front noc1 pop_noc1 rest
front1 (ok stranger_plain resting) e = false_true e
front1 (ok stranger_plain load_queued) e = load_front (ok stranger_plain load_current)
front1 (ok stranger_plain (store_queued k)) e = store_front (ok stranger_plain (store_current k))
front1 (ok stranger_in resting) e = guard_front (ok stranger_plain resting)
front1 (ok stranger_in load_queued) e = guard_front (ok stranger_plain load_queued)
front1 (ok stranger_in (store_queued k)) e = guard_front (ok stranger_plain (store_queued k))
front1 (ok (sharer_plain not_asked c s) resting) e = false_true e
front1 (ok (sharer_plain not_asked c s) load_queued) e = load_front (ok (sharer_plain not_asked c s) load_current)
front1 (ok (sharer_plain not_asked c s) (store_queued k)) e = store_front (ok (sharer_plain not_asked c s) (store_current k))
front1 (ok (sharer_plain not_asked c s) shared_granted) e = false_true e
front1 (ok (sharer_plain not_asked c s) exclusive_granted) e = false_true e
front1 (ok (sharer_plain not_asked c s) (modified_granted k)) e = false_true e
front1 (ok (owner_plain not_asked o) resting) e = false_true e
front1 (ok (owner_plain not_asked o) load_queued) e = load_front (ok (owner_plain not_asked o) load_current)
front1 (ok (owner_plain not_asked o) (store_queued k)) e = store_front (ok (owner_plain not_asked o) (store_current k))
front1 (ok (owner_plain not_asked o) shared_granted) e = false_true e
front1 (ok (owner_plain not_asked o) exclusive_granted) e = false_true e
front1 (ok (owner_plain not_asked o) (modified_granted k)) e = false_true e
front1 (ok (owner_out not_asked) resting) e = false_true e
front1 (ok (owner_out not_asked) load_queued) e = false_true e
front1 (ok (owner_out not_asked) (store_queued k)) e = false_true e

-- ---- messages from the home

-- a grant of E or M: to a stranger or the owner itself; to a sharer only for its store
pub data GrantFrom : Relation → Access → Type 0 where
  from_stranger : {a : Access} → GrantFrom stranger a
  from_sharer : {b : Write} → GrantFrom sharer (writing b)
  from_owner : {hs : Words} {a : Access} → GrantFrom (owner hs) a

-- the tile with the message on its NoC2
pub data Placed (m : Forward) (x : Tile) (P : Tile → Type 0) : Type 0 where
  placed : {y : Tile} → on_tile2 m x ≡ some y → P y → Placed m x P

-- I and S are not E or M
abbrev is_owned : Cache → Bool
is_owned invalid = false
is_owned (valid shared us) = false
is_owned (valid exclusive us) = true
is_owned (valid modified us) = true

weak_unowned : {c : Cache} → Weak c → is_owned c ≡ false
weak_unowned weak_I = refl
weak_unowned weak_S = refl

pub grant_owner_lem : {ws : Words} {p : Waiting} {rel : Relation} {a : Access} {mark : Bool} {x : Tile} (miss : Bool) → GrantFrom rel a → TileOk ws p rel (some a) none mark x → Placed (grant_message a miss ws) x (TileOk ws p (owner ws) none none mark)
unfolding on_tile2 push grant_message
grant_owner_lem miss from_stranger (ok stranger_plain load_current) = placed refl (ok (owner_plain not_asked (sent_E refl)) exclusive_granted)
grant_owner_lem miss from_stranger (ok stranger_plain (store_current k)) = placed refl (ok (owner_plain not_asked (sent_M refl shares_I)) (modified_granted k))
grant_owner_lem miss from_sharer (ok (sharer_plain not_asked c s) (store_current k)) = placed refl (ok (owner_plain not_asked (sent_M refl c)) (modified_granted k))
grant_owner_lem miss from_owner (ok (owner_plain not_asked o) load_current) = placed refl (ok (owner_plain not_asked (sent_E refl)) exclusive_granted)
grant_owner_lem miss from_owner (ok (owner_plain not_asked (owns_I h)) (store_current k)) = placed refl (ok (owner_plain not_asked (sent_M refl shares_I)) (modified_granted k))
grant_owner_lem miss from_owner (ok (owner_plain not_asked (owns_E h)) (store_current k)) = false_true (sym (weak_unowned k))
grant_owner_lem miss from_owner (ok (owner_plain not_asked owns_M) (store_current k)) = false_true (sym (weak_unowned k))

-- an owner whose request the home serves has nothing under way, and is in I: the home's words are the last written
pub asking_owner : {ws hs : Words} {p : Waiting} {a : Access} {mark : Bool} {x : Tile} → TileOk ws p (owner hs) (some a) none mark x → hs ≡ ws
asking_owner (ok (owner_plain not_asked (owns_I h)) k) = h
asking_owner (ok (owner_plain not_asked (owns_E h)) k) = h
asking_owner (ok (owner_plain not_asked owns_M) (store_current k)) = false_true (sym (weak_unowned k))
asking_owner {ws = ws} {hs = hs} {p = p} {a = a} (ok {r = r} (owner_plain not_asked (sent_E {miss = miss} _)) k) = elim k [ ]
asking_owner {ws = ws} {hs = hs} {p = p} {a = a} (ok {c = c} {r = r} (owner_plain not_asked (sent_M {miss = miss} _ _)) k) = elim k [ ]

-- a grant of S
pub data ShareFrom : Relation → Type 0 where
  share_stranger : ShareFrom stranger
  share_sharer : ShareFrom sharer

pub grant_shared_lem : {ws : Words} {p : Waiting} {rel : Relation} {mark miss : Bool} {x : Tile} → ShareFrom rel → TileOk ws p rel (some reading) none mark x → Placed (data_ack shared miss ws) x (TileOk ws p sharer none none mark)
unfolding on_tile2 push
grant_shared_lem share_stranger (ok stranger_plain load_current) = placed refl (ok (sharer_plain not_asked shares_I shared_data) shared_granted)
grant_shared_lem share_sharer (ok (sharer_plain not_asked c s) load_current) = placed refl (ok (sharer_plain not_asked shares_I shared_data) shared_granted)

-- a forward or an invalidation
pub ask_tile : {ws : Words} {p : Waiting} {rel : Relation} {mark : Bool} {f : Forward} {x : Tile} → Askable rel none (some f) → TileOk ws p rel none none mark x → Placed f x (TileOk ws p rel none (some f) mark)
ask_tile {f} ask_load (ok (owner_plain {d} not_asked o) e) = placed (on2 d f) (ok (owner_plain ask_load o) e)
ask_tile {f} ask_load (ok (owner_out not_asked) e) = placed (on2 none f) (ok (owner_out ask_load) e)
ask_tile {f} ask_store (ok (owner_plain {d} not_asked o) e) = placed (on2 d f) (ok (owner_plain ask_store o) e)
ask_tile {f} ask_store (ok (owner_out not_asked) e) = placed (on2 none f) (ok (owner_out ask_store) e)
ask_tile {f} ask_inv (ok (sharer_plain {d} not_asked c s) e) = placed (on2 d f) (ok (sharer_plain ask_inv c s) e)

-- ---- delivery from a tile

-- The NoC3 front, and the tile without it: by relation, what the home acts for and has asked, and mark. A write-back holds the words last
-- written, and an owner's ack leaves them at the home.
pub data Front3 (ws : Words) (p : Waiting) : Relation → Option Access → Option Forward → Bool → Option Reply → Tile → Type 0 where
  no_front : {rel : Relation} {cur : Option Access} {ask : Option Forward} {mark : Bool} {y : Tile} → Front3 ws p rel cur ask mark none y
  wb_idle : {hs : Words} {y : Tile} → TileOk ws p stranger none none true y → Front3 ws p (owner hs) none none false (some (wb_req ws)) y
  wb_asked : {hs : Words} {f : Forward} {y : Tile} → TileOk ws p (owner ws) none (some f) true y → Front3 ws p (owner hs) none (some f) false (some (wb_req ws)) y
  ack_shared : {hs : Words} {x : Option Words} {y : Tile} → ack_words x hs ≡ ws → TileOk ws p sharer none none false y → Front3 ws p (owner hs) none (some load_fwd) false (some (load_fwd_ack_s x)) y
  ack_invalid : {hs : Words} {mark : Bool} {y : Tile} → hs ≡ ws → TileOk ws p stranger none none mark y → Front3 ws p (owner hs) none (some load_fwd) mark (some load_fwd_ack_i) y
  ack_store : {hs : Words} {mark : Bool} {x : Option Words} {y : Tile} → ack_words x hs ≡ ws → TileOk ws p stranger none none mark y → Front3 ws p (owner hs) none (some store_fwd) mark (some (store_fwd_ack x)) y
  ack_inv : {mark : Bool} {y : Tile} → TileOk ws p stranger none none mark y → Front3 ws p sharer none (some inv_fwd) mark (some inv_fwd_ack) y

pub front3 : {ws : Words} {p : Waiting} {rel : Relation} {cur : Option Access} {ask : Option Forward} {mark : Bool} {x : Tile} → TileOk ws p rel cur ask mark x → Front3 ws p rel cur ask mark (front (noc3 x)) (pop_noc3 x)
unfolding front noc3 pop_noc3 rest ack_words
front3 (ok stranger_plain e) = no_front
front3 (ok stranger_in e) = no_front
front3 (ok (sharer_plain k c s) e) = no_front
front3 (ok sharer_replied e) = ack_inv (ok stranger_plain e)
front3 (ok (owner_plain k o) e) = no_front
front3 (ok (owner_replied (answers_load h)) e) = ack_invalid h (ok stranger_plain e)
front3 (ok (owner_replied (answers_store h)) e) = ack_store h (ok stranger_plain e)
front3 (ok (owner_shared c h) e) = ack_shared h (ok (sharer_plain not_asked c no_data) e)
front3 (ok (owner_out not_asked) e) = wb_idle (ok stranger_in e)
front3 (ok (owner_out ask_load) e) = wb_asked (ok (owner_in refl ask_load) e)
front3 (ok (owner_out ask_store) e) = wb_asked (ok (owner_in refl ask_store) e)
front3 (ok (owner_out_replied replies_load) e) = wb_asked (ok (owner_in_replied refl replies_load) e)
front3 (ok (owner_out_replied replies_store) e) = wb_asked (ok (owner_in_replied refl replies_store) e)
front3 (ok (owner_in h k) e) = no_front
front3 (ok (owner_in_replied h replies_load) e) = ack_invalid h (ok stranger_in e)
front3 (ok (owner_in_replied h replies_store) e) = ack_store h (ok stranger_in e)
