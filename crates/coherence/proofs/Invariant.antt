-- The inductive invariant of 01's bench. Tiles constrain each other only through the home: so it says what the home and the memory
-- queues may be, and of each tile what goes together with the little that the home knows of it (its relation to the line,
-- whether the home acts for its request, what the home has asked of it, and its mark). Throughout, ws are the words last written, and
-- what a tile waits for is what the history of calls says: every copy that is still of use holds ws.
use Prim.Native.Nat.{ℕ, ◌<◌, ◌^◌}
use mathlib.Core.Path.{◌≡◌}
use mathlib.Core.Bool.{Bool, true, false}
use mathlib.Core.List.{List}
use mathlib.Core.Option.{Option, some, none}
use lib.ListN.{length}
use Rattle.masks.specs.Mask.{has}
use Rattle.protocol.specs.Parts.{Words, Queue, empty, one, two, Access, reading, writing, shared, exclusive, modified, Cache, invalid, valid, Waiting, nothing, for_load, for_store, Request, load_req, store_req, wb_guard_req, Forward, load_fwd, store_fwd, inv_fwd, data_ack, Reply, wb_req, load_fwd_ack_s, load_fwd_ack_i, store_fwd_ack, inv_fwd_ack, ToMemory, load_mem, store_mem, FromMemory, load_mem_ack, store_mem_ack, Tile, tile_of, uncached, shared_by, owned_by, Line, absent, present, Cause, request, eviction, Clearing, clear_for, clear_for_eviction, Home, idle, awaiting_load, awaiting_owner, awaiting_acks, awaiting_store, Bench, bench_of, Result, refused, accepted, Task, task, Write, storing}
use Rattle.protocol.specs.Home.{ack_words}
use Rattle.protocol.specs.Bench.{tile_at}
use Rattle.protocol.specs.Demand3.{is_misfit}
use Rattle.coherence.proofs.Said.{answer}

-- ---- a tile

-- what the directory says of a tile; beside an owner the home's words, which may be old
pub data Relation : Type 0 where
  stranger sharer : Relation
  owner : Words → Relation

-- a queue by what its two parties may have put in, in this order
abbrev pub join : {A : Type 0} → Option A → Option A → Queue A
join none none = empty
join none (some b) = one b
join (some a) none = one a
join (some a) (some b) = two a b

-- I or S
pub data Weak : Cache → Type 0 where
  weak_I : Weak invalid
  weak_S : {us : Words} → Weak (valid shared us)

-- I or S, in S with the words last written
pub data Shares (ws : Words) : Cache → Type 0 where
  shares_I : Shares ws invalid
  shares_S : Shares ws (valid shared ws)

-- A tile's access and where its request is: nowhere, on NoC1, at the home, or answered on NoC2. Indices: state, waiting access, what
-- the home acts for, request on NoC1, DATA_ACK on NoC2.
pub data Wants : Cache → Waiting → Option Access → Option Request → Option Forward → Type 0 where
  resting : {c : Cache} → Wants c nothing none none none
  load_queued : {w u : ℕ} → Wants invalid (for_load w) none (some (load_req u)) none
  store_queued : {c : Cache} {w v u : ℕ} → Weak c → Wants c (for_store w v) none (some (store_req u)) none
  load_current : {w : ℕ} → Wants invalid (for_load w) (some reading) none none
  store_current : {c : Cache} {w v : ℕ} → Weak c → Wants c (for_store w v) (some (writing storing)) none none
  shared_granted : {w : ℕ} {miss : Bool} {ws : Words} → Wants invalid (for_load w) none none (some (data_ack shared miss ws))
  exclusive_granted : {w : ℕ} {miss : Bool} {ws : Words} → Wants invalid (for_load w) none none (some (data_ack exclusive miss ws))
  modified_granted : {c : Cache} {w v : ℕ} {miss : Bool} {ws : Words} → Weak c → Wants c (for_store w v) none none (some (data_ack modified miss ws))

-- what the home may ask of a tile, by its relation and what the home acts for
pub data Askable : Relation → Option Access → Option Forward → Type 0 where
  not_asked : {r : Relation} {cur : Option Access} → Askable r cur none
  ask_load : {hs : Words} → Askable (owner hs) none (some load_fwd)
  ask_store : {hs : Words} → Askable (owner hs) none (some store_fwd)
  ask_inv : Askable sharer none (some inv_fwd)

-- a sharer is sent data in S only
pub data SharedData (ws : Words) : Option Forward → Type 0 where
  no_data : SharedData ws none
  shared_data : {miss : Bool} → SharedData ws (some (data_ack shared miss ws))

-- An owner is not in S, unless data in E or M are on their way to it. The home's words hs are the last written, unless it is in M.
pub data Owns (ws hs : Words) : Cache → Option Forward → Type 0 where
  owns_I : hs ≡ ws → Owns ws hs invalid none
  owns_E : hs ≡ ws → Owns ws hs (valid exclusive ws) none
  owns_M : Owns ws hs (valid modified ws) none
  sent_E : {miss : Bool} → hs ≡ ws → Owns ws hs invalid (some (data_ack exclusive miss ws))
  sent_M : {c : Cache} {miss : Bool} → hs ≡ ws → Shares ws c → Owns ws hs c (some (data_ack modified miss ws))

-- what an owner in I answers while its write-back is outstanding, and what without one: its ack leaves the home the words last written
pub data Replies : Forward → Reply → Type 0 where
  replies_load : Replies load_fwd load_fwd_ack_i
  replies_store : Replies store_fwd (store_fwd_ack none)

pub data Answers (ws hs : Words) : Forward → Reply → Type 0 where
  answers_load : hs ≡ ws → Answers ws hs load_fwd load_fwd_ack_i
  answers_store : {x : Option Words} → ack_words x hs ≡ ws → Answers ws hs store_fwd (store_fwd_ack x)

-- What goes together. Indices: relation, what the home acts for, what it has asked, mark; state, DATA_ACK on NoC2, guard on NoC1,
-- WB_REQ on NoC3, forward or invalidation on NoC2, ack on NoC3.
pub data Table (ws : Words) : Relation → Option Access → Option Forward → Bool → Cache → Option Forward → Option Request → Option Reply → Option Forward → Option Reply → Type 0 where
  stranger_plain : {cur : Option Access} → Table ws stranger cur none false invalid none none none none none
  stranger_in : Table ws stranger none none true invalid none (some wb_guard_req) none none none
  sharer_plain : {cur : Option Access} {ask : Option Forward} {c : Cache} {d : Option Forward} → Askable sharer cur ask → Shares ws c → SharedData ws d → Table ws sharer cur ask false c d none none ask none
  sharer_replied : Table ws sharer none (some inv_fwd) false invalid none none none none (some inv_fwd_ack)
  owner_plain : {hs : Words} {cur : Option Access} {ask : Option Forward} {c : Cache} {d : Option Forward} → Askable (owner hs) cur ask → Owns ws hs c d → Table ws (owner hs) cur ask false c d none none ask none
  owner_replied : {hs : Words} {f : Forward} {a : Reply} → Answers ws hs f a → Table ws (owner hs) none (some f) false invalid none none none none (some a)
  owner_shared : {hs : Words} {c : Cache} {x : Option Words} → Shares ws c → ack_words x hs ≡ ws → Table ws (owner hs) none (some load_fwd) false c none none none none (some (load_fwd_ack_s x))
  -- the write-back is under way
  owner_out : {hs : Words} {ask : Option Forward} → Askable (owner hs) none ask → Table ws (owner hs) none ask false invalid none (some wb_guard_req) (some (wb_req ws)) ask none
  owner_out_replied : {hs : Words} {f : Forward} {a : Reply} → Replies f a → Table ws (owner hs) none (some f) false invalid none (some wb_guard_req) (some (wb_req ws)) none (some a)
  -- it came in while the home waited for this owner
  owner_in : {hs : Words} {f : Forward} → hs ≡ ws → Askable (owner hs) none (some f) → Table ws (owner hs) none (some f) true invalid none (some wb_guard_req) none (some f) none
  owner_in_replied : {hs : Words} {f : Forward} {a : Reply} → hs ≡ ws → Replies f a → Table ws (owner hs) none (some f) true invalid none (some wb_guard_req) none none (some a)

-- a tile that waits for p and fits what the home knows of it
pub data TileOk (ws : Words) : Waiting → Relation → Option Access → Option Forward → Bool → Tile → Type 0 where
  ok : {rel : Relation} {cur : Option Access} {ask : Option Forward} {mark : Bool} {c : Cache} {p : Waiting} {g r : Option Request} {d f : Option Forward} {w a : Option Reply}
      → Table ws rel cur ask mark c d g w f a → Wants c p cur r d
      → TileOk ws p rel cur ask mark (tile_of c p (join g r) (join d f) (join w a))

-- ---- what a home knows of a tile

-- what is asked of the owner
pub data AsksFor : Cause → Forward → Type 0 where
  asks_load : {r : ℕ} → AsksFor (request (task r reading)) load_fwd
  asks_store : {r : ℕ} {b : Write} → AsksFor (request (task r (writing b))) store_fwd
  asks_eviction : AsksFor eviction store_fwd

-- tile u is not the requester
pub data Apart : Cause → ℕ → Type 0 where
  apart_request : {r u : ℕ} {a : Access} → (r ≡ u → ⊥) → Apart (request (task r a)) u
  apart_eviction : {u : ℕ} → Apart eviction u

pub data ApartFrom : Clearing → ℕ → Type 0 where
  apart_store : {r u : ℕ} {b : Write} → (r ≡ u → ⊥) → ApartFrom (clear_for (task r b)) u
  apart_clearing : {u : ℕ} → ApartFrom clear_for_eviction u

-- a storer is in the mask, or a stranger
pub data InMask (m t : ℕ) : Relation → Type 0 where
  in_mask : has m t ≡ true → InMask m t sharer
  off_mask : InMask m t stranger

-- Indices: home, tile; its relation, what the home acts for, what it has asked. A tile that has acknowledged its invalidation is a
-- stranger, though the mask still names it.
pub data Sees : Home → ℕ → Relation → Option Access → Option Forward → Type 0 where
  sees_absent : {t : ℕ} → Sees (idle absent) t stranger none none
  sees_uncached : {t : ℕ} {d : Bool} {ws : Words} → Sees (idle (present d ws uncached)) t stranger none none
  sees_sharer : {t m : ℕ} {d : Bool} {ws : Words} → has m t ≡ true → Sees (idle (present d ws (shared_by m))) t sharer none none
  sees_outsider : {t m : ℕ} {d : Bool} {ws : Words} → has m t ≡ false → Sees (idle (present d ws (shared_by m))) t stranger none none
  sees_owner : {t : ℕ} {d : Bool} {ws : Words} → Sees (idle (present d ws (owned_by t))) t (owner ws) none none
  sees_unowning : {t o : ℕ} {d : Bool} {ws : Words} → (o ≡ t → ⊥) → Sees (idle (present d ws (owned_by o))) t stranger none none
  loads : {t : ℕ} {a : Access} {l : Line} → Sees (awaiting_load (task t a) l) t stranger (some a) none
  loads_not : {t r : ℕ} {a : Access} {l : Line} → (r ≡ t → ⊥) → Sees (awaiting_load (task r a) l) t stranger none none
  asked_owner : {t : ℕ} {d : Bool} {ws : Words} {c : Cause} {f : Forward} → AsksFor c f → Sees (awaiting_owner d ws t c) t (owner ws) none (some f)
  requester : {t o : ℕ} {d : Bool} {ws : Words} {a : Access} → (o ≡ t → ⊥) → Sees (awaiting_owner d ws o (request (task t a))) t stranger (some a) none
  bystander : {t o : ℕ} {d : Bool} {ws : Words} {c : Cause} → (o ≡ t → ⊥) → Apart c t → Sees (awaiting_owner d ws o c) t stranger none none
  owing : {t m owed : ℕ} {d : Bool} {ws : Words} {c : Clearing} → has owed t ≡ true → Sees (awaiting_acks d ws m owed c) t sharer none (some inv_fwd)
  storer : {t m owed : ℕ} {b : Write} {d : Bool} {ws : Words} {rel : Relation} → has owed t ≡ false → InMask m t rel → Sees (awaiting_acks d ws m owed (clear_for (task t b))) t rel (some (writing b)) none
  cleared_out : {t m owed : ℕ} {d : Bool} {ws : Words} {c : Clearing} → has owed t ≡ false → ApartFrom c t → Sees (awaiting_acks d ws m owed c) t stranger none none
  sees_leaving : {t : ℕ} {l : Line} → Sees (awaiting_store l) t stranger none none

-- ---- the home and the memory queues, of n tiles

-- a clean line equals the memory
pub data Clean (ws mem : Words) : Bool → Type 0 where
  clean : ws ≡ mem → Clean ws mem false
  dirty : Clean ws mem true

-- only a line in E may have words other than the last written
pub data LineOk (n : ℕ) (mem ws : Words) : Line → Type 0 where
  absent_ok : mem ≡ ws → LineOk n mem ws absent
  uncached_ok : {d : Bool} → Clean ws mem d → LineOk n mem ws (present d ws uncached)
  shared_ok : {d : Bool} {m : ℕ} → Clean ws mem d → m < 2 ^ n → LineOk n mem ws (present d ws (shared_by m))
  owned_ok : {d : Bool} {hs : Words} {o : ℕ} → Clean hs mem d → o < n → LineOk n mem ws (present d hs (owned_by o))

-- the requester is not the owner, nor owed
pub data CauseOk (n : ℕ) : ℕ → Cause → Type 0 where
  request_ok : {o r : ℕ} {a : Access} → r < n → (o ≡ r → ⊥) → CauseOk n o (request (task r a))
  eviction_ok : {o : ℕ} → CauseOk n o eviction

pub data ClearingOk (n : ℕ) : ℕ → Clearing → Type 0 where
  store_ok : {owed r : ℕ} {b : Write} → r < n → has owed r ≡ false → ClearingOk n owed (clear_for (task r b))
  clearing_ok : {owed : ℕ} → ClearingOk n owed clear_for_eviction

-- the owed tiles are in the mask
abbrev pub Inside : ℕ → ℕ → Type 0
Inside owed m = (u : ℕ) → has owed u ≡ true → has m u ≡ true

pub data HomeOk (n : ℕ) (mem ws : Words) : Home → Queue ToMemory → Queue FromMemory → Type 0 where
  idle_ok : {l : Line} → LineOk n mem ws l → HomeOk n mem ws (idle l) empty empty
  load_out : {r : ℕ} {a : Access} → mem ≡ ws → r < n → HomeOk n mem ws (awaiting_load (task r a) absent) (one load_mem) empty
  load_back : {r : ℕ} {a : Access} → mem ≡ ws → r < n → HomeOk n mem ws (awaiting_load (task r a) absent) empty (one (load_mem_ack ws))
  owner_ok : {d : Bool} {hs : Words} {o : ℕ} {c : Cause} → Clean hs mem d → o < n → CauseOk n o c → HomeOk n mem ws (awaiting_owner d hs o c) empty empty
  acks_ok : {d : Bool} {m owed : ℕ} {c : Clearing} → Clean ws mem d → owed < 2 ^ n → (owed ≡ 0 → ⊥) → Inside owed m → ClearingOk n owed c → HomeOk n mem ws (awaiting_acks d ws m owed c) empty empty
  store_out : HomeOk n mem ws (awaiting_store (present true ws uncached)) (one (store_mem ws)) empty
  store_back : mem ≡ ws → HomeOk n mem ws (awaiting_store (present true ws uncached)) empty (one store_mem_ack)

-- ---- the bench

-- what is known of each tile
abbrev pub Knowledge : Type 1
Knowledge = ℕ → Relation → Option Access → Option Forward → Type 0

-- tile t, with the marks k, under a description S of what is known of each tile; q says what each waits for
pub data At (ws : Words) (q : ℕ → Waiting) (k : ℕ) (S : Knowledge) (t : ℕ) (x : Tile) : Type 0 where
  at : {rel : Relation} {cur : Option Access} {ask : Option Forward} {mark : Bool} → S t rel cur ask → has k t ≡ mark → TileOk ws (q t) rel cur ask mark x → At ws q k S t x

-- all n tiles
abbrev pub All : Words → (ℕ → Waiting) → ℕ → ℕ → Knowledge → List Tile → Type 0
All ws q n k S ts = (t : ℕ) → t < n → At ws q k S t (tile_at ts t)

pub data Inv (ws : Words) (q : ℕ → Waiting) (n : ℕ) : Bench → Type 0 where
  inv : {h : Home} {l k : ℕ} {mem : Words} {out : Queue ToMemory} {back : Queue FromMemory} {ts : List Tile}
      → length ts ≡ n → HomeOk n mem ws h out back → All ws q n k (Sees h) ts
      → Inv ws q n (bench_of h l k mem out back ts)

-- an answer that is not 8 or 9, and leaves P of kind, value and the bench after it
pub data Holds (P : ℕ → ℕ → Bench → Type 0) : Result Bench → Type 0 where
  fine_refused : {r : ℕ} → is_misfit (answer r 0 0) ≡ false → Holds P (refused r)
  fine : {kd v : ℕ} {b : Bench} {ms : List Rattle.protocol.specs.Parts.Message} → P kd v b → Holds P (accepted kd v b ms)

-- a call that answers no load and writes no word: kind 0 or 3, and the invariant as before
pub data Plain : ℕ → Type 0 where
  plain_0 : Plain 0
  plain_3 : Plain 3

abbrev pub Fine : Words → (ℕ → Waiting) → ℕ → Result Bench → Type 0
Fine ws q n = Holds (λ kd v b. Plain kd × Inv ws q n b)
