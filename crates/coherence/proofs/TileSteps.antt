-- The calls that act on one tile keep what the home knows of it true: load, store, evict, delivery to a tile. No refusal is 8 or 9. A load
-- answers the words last written, and whoever writes is the owner.
use Prim.Native.Nat.{ℕ}
use mathlib.Core.Path.{◌≡◌, refl, ap, sym, ◌∙◌}
use mathlib.Core.Bool.{Bool, cond, true, false, ◌||◌}
use mathlib.Core.List.{[], ◌∷◌}
use mathlib.Core.Option.{Option, some, none, map}
use lib.ListN.{get_or, set}
use Rattle.protocol.specs.Parts.{Words, Queue, empty, Access, State, shared, exclusive, modified, Cache, invalid, valid, Waiting, nothing, for_load, for_store, Request, load_req, store_req, Forward, Reply, on_noc1, on_noc3, Tile, tile_of, Result, refused, accepted}
use Rattle.protocol.specs.Home.{ack_words}
use Rattle.protocol.specs.Tile.{load_at, store_at, evict_at, deliver_to, received, receive, fill}
use Rattle.protocol.specs.Bench.{push, on_tile1, on_tile2, on_tile3}
use Rattle.protocol.specs.Answers.{has_kind}
use Rattle.protocol.specs.Demand3.{is_misfit}
use Rattle.coherence.proofs.Said.{answer}
use Rattle.protocol.proofs.Tests.{false_true}
use Rattle.coherence.proofs.Written.{writes}
use Rattle.coherence.proofs.Invariant.{Relation, sharer, owner, join, weak_I, weak_S, Shares, shares_I, shares_S, Wants, resting, load_queued, store_queued, load_current, store_current, shared_granted, exclusive_granted, modified_granted, Askable, not_asked, ask_load, ask_store, ask_inv, SharedData, no_data, shared_data, Owns, owns_I, owns_E, owns_M, sent_E, sent_M, replies_load, replies_store, answers_load, answers_store, Table, stranger_plain, stranger_in, sharer_plain, sharer_replied, owner_plain, owner_replied, owner_shared, owner_out, owner_out_replied, owner_in, owner_in_replied, TileOk, ok, Plain, plain_0, plain_3}

-- a tile's rule at tile t: refused, and not by 8 or 9; or accepted, with P of kind, value and the tile once the messages are on its queues
pub data Kept (t : ℕ) (P : ℕ → ℕ → Tile → Type 0) : Result Tile → Type 0 where
  kept_refused : {r : ℕ} → is_misfit (answer r 0 0) ≡ false → Kept t P (refused r)
  kept_silent : {kd v : ℕ} {x : Tile} → P kd v x → Kept t P (accepted kd v x [])
  kept_request : {kd v : ℕ} {x y : Tile} {m : Request} → on_tile1 m x ≡ some y → P kd v y → Kept t P (accepted kd v x (on_noc1 t m ∷ []))
  kept_reply : {kd v : ℕ} {x y : Tile} {m : Reply} → on_tile3 m x ≡ some y → P kd v y → Kept t P (accepted kd v x (on_noc3 t m ∷ []))
  kept_write_back : {kd v : ℕ} {x y z : Tile} {a : Reply} {m : Request} → on_tile3 a x ≡ some y → on_tile1 m y ≡ some z → P kd v z → Kept t P (accepted kd v x (on_noc3 t a ∷ on_noc1 t m ∷ []))

-- ---- messages behind what is there

pub push_join : {A : Type 0} (o : Option A) (a : A) → push a (join o none) ≡ some (join o (some a))
unfolding push
push_join none a = refl
push_join (some b) a = refl

pub on1 : {c : Cache} {p : Waiting} {q2 : Queue Forward} {q3 : Queue Reply} (g : Option Request) (m : Request) → on_tile1 m (tile_of c p (join g none) q2 q3) ≡ some (tile_of c p (join g (some m)) q2 q3)
unfolding on_tile1
on1 {c} {p} {q2} {q3} g m = ap (map (λ q. tile_of c p q q2 q3)) (push_join g m)

pub on2 : {c : Cache} {p : Waiting} {q1 : Queue Request} {q3 : Queue Reply} (d : Option Forward) (m : Forward) → on_tile2 m (tile_of c p q1 (join d none) q3) ≡ some (tile_of c p q1 (join d (some m)) q3)
unfolding on_tile2
on2 {c} {p} {q1} {q3} d m = ap (map (λ q. tile_of c p q1 q q3)) (push_join d m)

pub on3 : {c : Cache} {p : Waiting} {q1 : Queue Request} {q2 : Queue Forward} (w : Option Reply) (m : Reply) → on_tile3 m (tile_of c p q1 q2 (join w none)) ≡ some (tile_of c p q1 q2 (join w (some m)))
unfolding on_tile3
on3 {c} {p} {q1} {q2} w m = ap (map (λ q. tile_of c p q1 q2 q)) (push_join w m)

-- the words last written stay, or an owner writes them
pub data Changes (ws : Words) : Relation → Words → Type 0 where
  unchanged : {rel : Relation} → Changes ws rel ws
  rewritten : {hs us : Words} → Changes ws (owner hs) us

-- ---- load

-- a tile to which no data are on their way holds the words last written, if any
held : {ws us : Words} {rel : Relation} {cur : Option Access} {ask : Option Forward} {mark : Bool} {z : State} {g : Option Request} {w a : Option Reply} {f : Option Forward}
    → Table ws rel cur ask mark (valid z us) none g w f a → us ≡ ws
held (sharer_plain k shares_S s) = refl
held (owner_plain k (owns_E e)) = refl
held (owner_plain k owns_M) = refl
held (owner_shared shares_S e) = refl

abbrev pub Loaded : Words → Waiting → ℕ → Relation → Option Access → Option Forward → Bool → ℕ → ℕ → Tile → Type 0
Loaded ws p w rel cur ask mark kd v y =
    TileOk ws (cond (has_kind 3 (answer 0 kd v)) (for_load w) p) rel cur ask mark y × (has_kind 1 (answer 0 kd v) ≡ true → v ≡ get_or ws w 0) × (has_kind 2 (answer 0 kd v) ≡ false)

pub load_kept : {ws : Words} {p : Waiting} {rel : Relation} {cur : Option Access} {ask : Option Forward} {mark : Bool} {x : Tile} (t w : ℕ) → TileOk ws p rel cur ask mark x → Kept t (Loaded ws p w rel cur ask mark) (load_at t w x)
unfolding load_at is_misfit has_kind
load_kept t w (ok {g} tb (resting {c = invalid})) = kept_request (on1 g (load_req w)) (ok tb load_queued, (λ e. false_true e), refl)
load_kept t w (ok tb (resting {c = valid r us})) = kept_silent (ok tb resting, (λ e. ap (λ (z : Words). get_or z w 0) (held tb)), refl)
load_kept t w (ok tb load_queued) = kept_refused refl
load_kept t w (ok tb (store_queued k)) = kept_refused refl
load_kept t w (ok tb load_current) = kept_refused refl
load_kept t w (ok tb (store_current k)) = kept_refused refl
load_kept t w (ok tb shared_granted) = kept_refused refl
load_kept t w (ok tb exclusive_granted) = kept_refused refl
load_kept t w (ok tb (modified_granted k)) = kept_refused refl

-- ---- store

-- an owner's line is written, in M
written_E : {ws : Words} {rel : Relation} {cur : Option Access} {ask : Option Forward} {mark : Bool} {us : Words} {g : Option Request} {w a : Option Reply} {f : Option Forward} (i v : ℕ)
    → Table ws rel cur ask mark (valid exclusive us) none g w f a → Table (set ws i v) rel cur ask mark (valid modified (set us i v)) none g w f a × Changes ws rel (set ws i v)
written_E i v (owner_plain k (owns_E e)) = (owner_plain k owns_M, rewritten)
written_E {ws = ws} {cur = cur} {ask = ask} {us = us} i v (sharer_plain _ x32 _) = elim x32 [ ]
written_E {ws = ws} {us = us} i v (owner_shared {hs = hs} x29 _) = elim x29 [ ]

written_M : {ws : Words} {rel : Relation} {cur : Option Access} {ask : Option Forward} {mark : Bool} {us : Words} {g : Option Request} {w a : Option Reply} {f : Option Forward} (i v : ℕ)
    → Table ws rel cur ask mark (valid modified us) none g w f a → Table (set ws i v) rel cur ask mark (valid modified (set us i v)) none g w f a × Changes ws rel (set ws i v)
written_M i v (owner_plain k owns_M) = (owner_plain k owns_M, rewritten)
written_M {ws = ws} {cur = cur} {ask = ask} {us = us} i v (sharer_plain _ x32 _) = elim x32 [ ]
written_M {ws = ws} {us = us} i v (owner_shared {hs = hs} x29 _) = elim x29 [ ]

abbrev pub Stored : Words → Waiting → ℕ → ℕ → Relation → Option Access → Option Forward → Bool → ℕ → ℕ → Tile → Type 0
Stored ws p w x rel cur ask mark kd v y =
    TileOk (cond (has_kind 2 (answer 0 kd v)) (set ws w x) ws) (cond (has_kind 3 (answer 0 kd v)) (for_store w x) p) rel cur ask mark y × Changes ws rel (cond (has_kind 2 (answer 0 kd v)) (set ws w x) ws) × (has_kind 1 (answer 0 kd v) ≡ false)

pub store_kept : {ws : Words} {p : Waiting} {rel : Relation} {cur : Option Access} {ask : Option Forward} {mark : Bool} {x : Tile} (t w v : ℕ) → TileOk ws p rel cur ask mark x → Kept t (Stored ws p w v rel cur ask mark) (store_at t w v x)
unfolding store_at is_misfit has_kind
store_kept t w v (ok {g} tb (resting {c = invalid})) = kept_request (on1 g (store_req w)) (ok tb (store_queued weak_I), unchanged, refl)
store_kept t w v (ok {g} tb (resting {c = valid shared us})) = kept_request (on1 g (store_req w)) (ok tb (store_queued weak_S), unchanged, refl)
store_kept t w v (ok tb (resting {c = valid exclusive us})) = let z = written_E w v tb in kept_silent (ok z.0 resting, z.1, refl)
store_kept t w v (ok tb (resting {c = valid modified us})) = let z = written_M w v tb in kept_silent (ok z.0 resting, z.1, refl)
store_kept t w v (ok tb load_queued) = kept_refused refl
store_kept t w v (ok tb (store_queued k)) = kept_refused refl
store_kept t w v (ok tb load_current) = kept_refused refl
store_kept t w v (ok tb (store_current k)) = kept_refused refl
store_kept t w v (ok tb shared_granted) = kept_refused refl
store_kept t w v (ok tb exclusive_granted) = kept_refused refl
store_kept t w v (ok tb (modified_granted k)) = kept_refused refl

-- ---- evict

-- what a tile wants, it wants as well in I
pub drop_wants : {c : Cache} {p : Waiting} {cur : Option Access} {r : Option Request} {d : Option Forward} → Wants c p cur r d → Wants invalid p cur r d
drop_wants resting = resting
drop_wants load_queued = load_queued
drop_wants (store_queued k) = store_queued weak_I
drop_wants load_current = load_current
drop_wants (store_current k) = store_current weak_I
drop_wants shared_granted = shared_granted
drop_wants exclusive_granted = exclusive_granted
drop_wants (modified_granted k) = modified_granted weak_I

drop_owns : {ws hs : Words} {c : Cache} {d : Option Forward} → (c ≡ valid modified ws → ⊥) → Owns ws hs c d → Owns ws hs invalid d
drop_owns ne (owns_I e) = owns_I e
drop_owns ne (owns_E e) = owns_I e
drop_owns ne owns_M = absurd (ne refl)
drop_owns ne (sent_E e) = sent_E e
drop_owns ne (sent_M e k) = sent_M e shares_I

-- a line in S or E is dropped
drop_table : {ws : Words} {rel : Relation} {cur : Option Access} {ask : Option Forward} {mark : Bool} {c : Cache} {g : Option Request} {w a : Option Reply} {d f : Option Forward}
    → (c ≡ valid modified ws → ⊥) → Table ws rel cur ask mark c d g w f a → Table ws rel cur ask mark invalid d g w f a
drop_table ne stranger_plain = stranger_plain
drop_table ne stranger_in = stranger_in
drop_table ne (sharer_plain k c s) = sharer_plain k shares_I s
drop_table ne sharer_replied = sharer_replied
drop_table ne (owner_plain k o) = owner_plain k (drop_owns ne o)
drop_table ne (owner_replied r) = owner_replied r
drop_table ne (owner_shared c e) = owner_shared shares_I e
drop_table ne (owner_out k) = owner_out k
drop_table ne (owner_out_replied r) = owner_out_replied r
drop_table ne (owner_in e k) = owner_in e k
drop_table ne (owner_in_replied e r) = owner_in_replied e r

-- the state tells
abbrev is_modified : Cache → Bool
is_modified invalid = false
is_modified (valid shared us) = false
is_modified (valid exclusive us) = false
is_modified (valid modified us) = true

not_modified : {ws : Words} {c : Cache} → is_modified c ≡ false → c ≡ valid modified ws → ⊥
not_modified e q = false_true (sym e ∙ ap is_modified q)

abbrev pub Evicted : Words → Waiting → Relation → Option Access → Option Forward → Bool → ℕ → ℕ → Tile → Type 0
Evicted ws p rel cur ask mark kd v y = TileOk ws p rel cur ask mark y × Plain kd

-- a modified line goes out on NoC3, and its guard behind what is on NoC1
write_back_lem : {ws : Words} {rel : Relation} {cur : Option Access} {ask : Option Forward} {mark : Bool} {us : Words} {p : Waiting} {g r : Option Request} {d f : Option Forward} {w a : Option Reply} (t : ℕ)
    → Table ws rel cur ask mark (valid modified us) d g w f a → Wants (valid modified us) p cur r d
    → Kept t (Evicted ws p rel cur ask mark) (evict_at t (tile_of (valid modified us) p (join g r) (join d f) (join w a)))
unfolding evict_at on_tile1 on_tile3 push
write_back_lem t (owner_plain k owns_M) resting = kept_write_back refl refl (ok (owner_out k) resting, plain_3)
write_back_lem {ws = ws} {cur = cur} {ask = ask} {us = us} {p = p} {r = r} {d = d} t (sharer_plain _ x43 _) _ = elim x43 [ ]
write_back_lem {ws = ws} {ask = ask} t (owner_plain {hs = hs} k owns_M) (store_queued {w = w} {v = v} {u = u} x34) = elim x34 [ ]
write_back_lem {ws = ws} {ask = ask} t (owner_plain {hs = hs} k owns_M) (store_current {w = w} {v = v} x35) = elim x35 [ ]
write_back_lem {ws = ws} {cur = cur} {ask = ask} {us = us} {p = p} {r = r} t (owner_plain {hs = hs} k (sent_M {miss = miss} _ x33)) _ = elim x33 [ ]
write_back_lem {ws = ws} {us = us} {p = p} {r = r} t (owner_shared {hs = hs} x44 _) _ = elim x44 [ ]

pub evict_kept : {ws : Words} {p : Waiting} {rel : Relation} {cur : Option Access} {ask : Option Forward} {mark : Bool} {x : Tile} (t : ℕ) → TileOk ws p rel cur ask mark x → Kept t (Evicted ws p rel cur ask mark) (evict_at t x)
unfolding evict_at is_misfit
evict_kept t (ok {c = invalid} tb k) = kept_refused refl
evict_kept t (ok {c = valid shared us} tb k) = kept_silent (ok (drop_table (not_modified refl) tb) (drop_wants k), plain_0)
evict_kept t (ok {c = valid exclusive us} tb k) = kept_silent (ok (drop_table (not_modified refl) tb) (drop_wants k), plain_0)
evict_kept t (ok {c = valid modified us} tb k) = write_back_lem t tb k

-- ---- delivery to a tile

-- a load answered gives its word of the words last written; a store answered writes them
abbrev pub Filled : Words → Waiting → Relation → Option Access → Option Forward → Bool → ℕ → ℕ → Tile → Type 0
Filled ws p rel cur ask mark kd v y =
    TileOk (cond (has_kind 2 (answer 0 kd v)) (writes p ws) ws) (cond (has_kind 1 (answer 0 kd v) || has_kind 2 (answer 0 kd v)) nothing p) rel cur ask mark y
    × Changes ws rel (cond (has_kind 2 (answer 0 kd v)) (writes p ws) ws)
    × (has_kind 1 (answer 0 kd v) ≡ true → (w : ℕ) × (p ≡ for_load w) × (v ≡ get_or ws w 0))
    × (has_kind 2 (answer 0 kd v) ≡ true → (w : ℕ) × (x : ℕ) × (p ≡ for_store w x))

abbrev Delivered : Words → Waiting → ℕ → Relation → Option Access → Option Forward → Bool → Tile → Type 0
Delivered ws p t rel cur ask mark x = Kept t (Filled ws p rel cur ask mark) (deliver_to t x)

-- the three kinds of answer
answered_load : {ws : Words} {rel : Relation} {cur : Option Access} {ask : Option Forward} {mark : Bool} {x : Tile} (w : ℕ) → TileOk ws nothing rel cur ask mark x → Filled ws (for_load w) rel cur ask mark 1 (get_or ws w 0) x
unfolding has_kind
answered_load w o = (o, unchanged, (λ e. (w, refl, refl)), (λ e. false_true e))

answered_store : {ws hs : Words} {cur : Option Access} {ask : Option Forward} {mark : Bool} {x : Tile} (w v : ℕ) → TileOk (set ws w v) nothing (owner hs) cur ask mark x → Filled ws (for_store w v) (owner hs) cur ask mark 2 0 x
unfolding has_kind writes
answered_store w v o = (o, rewritten, (λ e. false_true e), (λ e. (w, v, refl)))

replied : {ws : Words} {p : Waiting} {rel : Relation} {cur : Option Access} {ask : Option Forward} {mark : Bool} {x : Tile} → TileOk ws p rel cur ask mark x → Filled ws p rel cur ask mark 3 0 x
unfolding has_kind
replied o = (o, unchanged, (λ e. false_true e), (λ e. false_true e))

-- to a sharer: data, then an invalidation
to_sharer : {ws : Words} {cur : Option Access} {ask : Option Forward} {c : Cache} {p : Waiting} {r : Option Request} {d : Option Forward} (t : ℕ)
    → Askable sharer cur ask → Shares ws c → SharedData ws d → Wants c p cur r d → Delivered ws p t sharer cur ask false (tile_of c p (join none r) (join d ask) empty)
unfolding deliver_to received receive fill is_misfit on_tile3 push
to_sharer t not_asked k no_data e = kept_refused refl
to_sharer t not_asked k shared_data (shared_granted {w}) = kept_silent (answered_load w (ok (sharer_plain not_asked shares_S no_data) resting))
to_sharer t ask_inv shares_I no_data e = kept_reply refl (replied (ok sharer_replied e))
to_sharer t ask_inv shares_S no_data e = kept_reply refl (replied (ok sharer_replied (drop_wants e)))
to_sharer t ask_inv k shared_data (shared_granted {w}) = kept_silent (answered_load w (ok (sharer_plain ask_inv shares_S no_data) resting))

-- to an owner: data, then a forward
to_owner : {ws hs : Words} {cur : Option Access} {ask : Option Forward} {c : Cache} {p : Waiting} {r : Option Request} {d : Option Forward} (t : ℕ)
    → Askable (owner hs) cur ask → Owns ws hs c d → Wants c p cur r d → Delivered ws p t (owner hs) cur ask false (tile_of c p (join none r) (join d ask) empty)
unfolding deliver_to received receive fill is_misfit on_tile3 push ack_words
to_owner t not_asked (owns_I h) e = kept_refused refl
to_owner t not_asked (owns_E h) e = kept_refused refl
to_owner t not_asked owns_M e = kept_refused refl
to_owner t not_asked (sent_E h) (exclusive_granted {w}) = kept_silent (answered_load w (ok (owner_plain not_asked (owns_E h)) resting))
to_owner t not_asked (sent_M h shares_I) (modified_granted {w} {v} k) = kept_silent (answered_store w v (ok (owner_plain not_asked owns_M) resting))
to_owner t not_asked (sent_M h shares_S) (modified_granted {w} {v} k) = kept_silent (answered_store w v (ok (owner_plain not_asked owns_M) resting))
to_owner t ask_load (owns_I h) e = kept_reply refl (replied (ok (owner_replied (answers_load h)) e))
to_owner t ask_load (owns_E h) resting = kept_reply refl (replied (ok (owner_shared shares_S h) resting))
to_owner {ws} t ask_load owns_M resting = kept_reply refl (replied (ok (owner_shared {x = some ws} shares_S refl) resting))
to_owner t ask_load (sent_E h) (exclusive_granted {w}) = kept_silent (answered_load w (ok (owner_plain ask_load (owns_E h)) resting))
to_owner t ask_load (sent_M h shares_I) (modified_granted {w} {v} k) = kept_silent (answered_store w v (ok (owner_plain ask_load owns_M) resting))
to_owner t ask_load (sent_M h shares_S) (modified_granted {w} {v} k) = kept_silent (answered_store w v (ok (owner_plain ask_load owns_M) resting))
to_owner t ask_store (owns_I h) e = kept_reply refl (replied (ok (owner_replied (answers_store h)) e))
to_owner t ask_store (owns_E h) e = kept_reply refl (replied (ok (owner_replied (answers_store h)) (drop_wants e)))
to_owner {ws} t ask_store owns_M e = kept_reply refl (replied (ok (owner_replied (answers_store {x = some ws} refl)) (drop_wants e)))
to_owner t ask_store (sent_E h) (exclusive_granted {w}) = kept_silent (answered_load w (ok (owner_plain ask_store (owns_E h)) resting))
to_owner t ask_store (sent_M h shares_I) (modified_granted {w} {v} k) = kept_silent (answered_store w v (ok (owner_plain ask_store owns_M) resting))
to_owner t ask_store (sent_M h shares_S) (modified_granted {w} {v} k) = kept_silent (answered_store w v (ok (owner_plain ask_store owns_M) resting))
to_owner {ws = ws} {hs = hs} t ask_load (owns_E h) (store_queued {w = w} {v = v} {u = u} x11) = elim x11 [ ]
to_owner {ws = ws} {hs = hs} t ask_load owns_M (store_queued {w = w} {v = v} {u = u} x12) = elim x12 [ ]

pub deliver_kept : {ws : Words} {p : Waiting} {rel : Relation} {cur : Option Access} {ask : Option Forward} {mark : Bool} {x : Tile} (t : ℕ) → TileOk ws p rel cur ask mark x → Delivered ws p t rel cur ask mark x
unfolding deliver_to received receive is_misfit on_tile3 push
deliver_kept t (ok stranger_plain e) = kept_refused refl
deliver_kept t (ok stranger_in e) = kept_refused refl
deliver_kept t (ok (sharer_plain k c s) e) = to_sharer t k c s e
deliver_kept t (ok sharer_replied e) = kept_refused refl
deliver_kept t (ok (owner_plain k o) e) = to_owner t k o e
deliver_kept t (ok (owner_replied r) e) = kept_refused refl
deliver_kept t (ok (owner_shared c h) e) = kept_refused refl
deliver_kept t (ok (owner_out not_asked) e) = kept_refused refl
deliver_kept t (ok (owner_out ask_load) e) = kept_reply refl (replied (ok (owner_out_replied replies_load) e))
deliver_kept t (ok (owner_out ask_store) e) = kept_reply refl (replied (ok (owner_out_replied replies_store) e))
deliver_kept t (ok (owner_out_replied r) e) = kept_refused refl
deliver_kept t (ok (owner_in h ask_load) e) = kept_reply refl (replied (ok (owner_in_replied h replies_load) e))
deliver_kept t (ok (owner_in h ask_store) e) = kept_reply refl (replied (ok (owner_in_replied h replies_store) e))
deliver_kept t (ok (owner_in_replied h r) e) = kept_refused refl
