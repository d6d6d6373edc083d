-- What each call sends: nothing, a message for every tile of a mask, or one message to or from memory; and no refusal is 0.
-- Assumes nothing.
use mathlib.Core.Path.{◌≡◌, refl, sym, subst}
use mathlib.Core.Bool.{Bool, true, false, cond}
use mathlib.Core.List.{[], ◌∷◌}
use mathlib.Core.Option.{Option, some, none, map}
use Prim.Native.Nat.{ℕ, ◌^◌, ◌<◌}
use native.Mathlib.Omega.{arith}
use lib.Dec.{eqb}
use borrow.Author.Tests.{eqb-false}
use Rattle.masks.specs.Mask.{has, add, del}
use Rattle.masks.proofs.MaskLaws.{del_lt}
use Rattle.protocol.specs.Parts.{Words, Queue, Access, reading, writing, shared, Request, load_req, store_req, wb_guard_req, Forward, inv_fwd, data_ack, Reply, wb_req, load_fwd_ack_s, load_fwd_ack_i, store_fwd_ack, inv_fwd_ack, ToMemory, load_mem, store_mem, FromMemory, load_mem_ack, store_mem_ack, on_noc2, to_memory, from_memory, uncached, shared_by, owned_by, Line, absent, present, Cause, request, eviction, Clearing, clear_for, clear_for_eviction, Home, idle, awaiting_load, awaiting_owner, awaiting_acks, awaiting_store, task, storing}
use Rattle.protocol.specs.Home.{Move, move, grant_shared, grant, asked_for, ask_owner, invalidate_to, invalidate, leave, serve, write_back, load_ack_s, load_ack_i, store_ack, cleared, inv_ack, acknowledged, evict_line, ack_dirty, ack_words, grant_message, granted_line}
use Rattle.protocol.specs.Bench.{push, front, rest}
use Rattle.layout.specs.Range.{LineIn, ClearingIn, HomeIn}
use Rattle.home_rules.specs.Results.{home_refused, MemoryQueues, queues_of, put_memory, put_memory_to, put_memory_all, went_with, moved_home, fitting_home, taken_home, written_home, accepted_home, served_memory, stepped_home, acked_front, acked_home, evicted_home, forwards_to, Sends, refuses, silent, sends_forwards, sends_to_memory, sends_from_memory}
use Rattle.home_rules.proofs.Forwards.{add_pos, add_below, told_one, file_told}

module _ (n : ℕ) where
  seven : Sends n (home_refused 7)
  seven = refuses 7 (omega arith)

  eight : Sends n (home_refused 8)
  eight = refuses 8 (omega arith)

  nine : Sends n (home_refused 9)
  nine = refuses 9 (omega arith)

  -- a message to memory, or from it, where its queue may be full
  to_memory_lem : (h : Home) (l k : ℕ) (mem : Words) (back : Queue FromMemory) (m : ToMemory) (o : Option (Queue ToMemory))
      → Sends n (went_with (to_memory m ∷ []) (map (λ q. queues_of q back) o) h l k mem)
  unfolding went_with
  to_memory_lem h l k mem back m none = nine
  to_memory_lem h l k mem back m (some q) = sends_to_memory

  from_memory_lem : (h : Home) (l k : ℕ) (mem : Words) (out : Queue ToMemory) (m : FromMemory) (o : Option (Queue FromMemory))
      → Sends n (went_with (from_memory m ∷ []) (map (λ q. queues_of out q) o) h l k mem)
  unfolding went_with
  from_memory_lem h l k mem out m none = nine
  from_memory_lem h l k mem out m (some q) = sends_from_memory

module _ (n l k : ℕ) (mem : Words) (out : Queue ToMemory) (back : Queue FromMemory) where
  one_tile : (h : Home) (t : ℕ) (f : Forward) → t < n → Sends n (moved_home (move h (on_noc2 t f ∷ [])) l k mem out back)
  unfolding moved_home went_with put_memory_all put_memory_to put_memory
  one_tile h t f i = sends_forwards (add 0 t) f (add_pos t) (add_below n t i) (told_one n t f i)

  grants : (d : Bool) (ws : Words) (miss : Bool) (t : ℕ) (a : Access) → t < n → Sends n (moved_home (grant d ws miss (task t a)) l k mem out back)
  unfolding grant
  grants d ws miss t a i = one_tile (idle (granted_line t a d ws)) t (grant_message a miss ws) i

  sharer : (d : Bool) (ws : Words) (m t : ℕ) → t < n → Sends n (moved_home (grant_shared d ws m t) l k mem out back)
  unfolding grant_shared
  sharer d ws m t i = one_tile (idle (present d ws (shared_by (add m t)))) t (data_ack shared false ws) i

  asks : (d : Bool) (ws : Words) (o : ℕ) (c : Cause) → o < n → Sends n (moved_home (ask_owner d ws o c) l k mem out back)
  unfolding ask_owner
  asks d ws o c i = one_tile (awaiting_owner d ws o c) o (asked_for c) i

  clears : (d : Bool) (ws : Words) (m u : ℕ) (c : Clearing) → 0 < u → u < 2 ^ n → Sends n (moved_home (invalidate n d ws m u c) l k mem out back)
  unfolding invalidate invalidate_to moved_home forwards_to went_with
  clears d ws m u c p b = subst (λ (q : Option MemoryQueues). Sends n (went_with (forwards_to n u inv_fwd) q (awaiting_acks d ws m u c) l k mem)) (sym (file_told inv_fwd n u (queues_of out back))) (sends_forwards u inv_fwd p b refl)

  leaves : (d : Bool) (ws : Words) → Sends n (moved_home (leave d ws) l k mem out back)
  unfolding leave moved_home put_memory_all put_memory_to put_memory went_with
  leaves false ws = silent
  leaves true ws = to_memory_lem n (awaiting_store (present true ws uncached)) l k mem back (store_mem ws) (push (store_mem ws) out)

-- ---- Taking
serves : (n t : ℕ) → t < n → (a : Access) (x : Line) → LineIn n x → (k : ℕ) (mem : Words) (out : Queue ToMemory) (back : Queue FromMemory) → Sends n (moved_home (serve n (task t a) x) t k mem out back)
unfolding serve moved_home put_memory_all put_memory_to put_memory
serves n t i a absent j k mem out back = to_memory_lem n (awaiting_load (task t a) absent) t k mem back load_mem (push load_mem out)
serves n t i a (present d ws uncached) j k mem out back = grants n t k mem out back d ws false t a i
serves n t i reading (present d ws (shared_by m)) j k mem out back = sharer n t k mem out back d ws m t i
serves n t i (writing z) (present d ws (shared_by m)) j k mem out back = go (eqb (del m t) 0) refl
  where
    go : (b : Bool) → eqb (del m t) 0 ≡ b → Sends n (moved_home (cond b (grant d ws false (task t (writing z))) (invalidate n d ws m (del m t) (clear_for (task t z)))) t k mem out back)
    go true e = grants n t k mem out back d ws false t (writing z) i
    go false e = let y : del m t ≡ 0 → ⊥ = eqb-false (del m t) 0 e in clears n t k mem out back d ws m (del m t) (clear_for (task t z)) (omega arith) (del_lt n m t j)
serves n t i a (present d ws (owned_by o)) j k mem out back = go (eqb o t)
  where
    go : (b : Bool) → Sends n (moved_home (cond b (grant d ws false (task t a)) (ask_owner d ws o (request (task t a)))) t k mem out back)
    go true = grants n t k mem out back d ws false t a i
    go false = asks n t k mem out back d ws o (request (task t a)) j

pub take_sends : (n t : ℕ) → t < n → (o : Option Request) (x : Line) → LineIn n x → (k : ℕ) (mem : Words) (out : Queue ToMemory) (back : Queue FromMemory) → Sends n (taken_home n t o x k mem out back)
unfolding taken_home
take_sends n t i none x j k mem out back = seven n
take_sends n t i (some wb_guard_req) x j k mem out back = silent
take_sends n t i (some (load_req w)) x j k mem out back = serves n t i reading x j k mem out back
take_sends n t i (some (store_req w)) x j k mem out back = serves n t i (writing storing) x j k mem out back

-- ---- Delivery from a tile
module _ (n t l k : ℕ) (mem : Words) (out : Queue ToMemory) (back : Queue FromMemory) where
  written : (o : Option Home) → Sends n (written_home t o l k mem out back)
  unfolding written_home
  written none = eight n
  written (some h) = silent

  -- a move that is made if a test holds
  if_fits : (m : Move) → Sends n (moved_home m l k mem out back) → (b : Bool) → Sends n (fitting_home (cond b (some m) none) l k mem out back)
  unfolding fitting_home
  if_fits m p true = p
  if_fits m p false = eight n

  acked_S : (x : Option Words) (h : Home) → HomeIn n h → Sends n (fitting_home (load_ack_s t x h) l k mem out back)
  unfolding load_ack_s fitting_home
  acked_S x (idle y) j = eight n
  acked_S x (awaiting_load (task r a) y) j = eight n
  acked_S x (awaiting_owner d us o (request (task r reading))) j = if_fits (grant_shared (ack_dirty x d) (ack_words x us) (add 0 o) r) (sharer n l k mem out back (ack_dirty x d) (ack_words x us) (add 0 o) r j.1) (eqb o t)
  acked_S x (awaiting_owner d us o (request (task r (writing z)))) j = eight n
  acked_S x (awaiting_owner d us o eviction) j = eight n
  acked_S x (awaiting_acks d us m u c) j = eight n
  acked_S x (awaiting_store y) j = eight n

  acked_I : (h : Home) → HomeIn n h → Sends n (fitting_home (load_ack_i t h) l k mem out back)
  unfolding load_ack_i fitting_home
  acked_I (idle y) j = eight n
  acked_I (awaiting_load (task r a) y) j = eight n
  acked_I (awaiting_owner d us o (request (task r reading))) j = if_fits (grant d us false (task r reading)) (grants n l k mem out back d us false r reading j.1) (eqb o t)
  acked_I (awaiting_owner d us o (request (task r (writing z)))) j = eight n
  acked_I (awaiting_owner d us o eviction) j = eight n
  acked_I (awaiting_acks d us m u c) j = eight n
  acked_I (awaiting_store y) j = eight n

  acked_store : (x : Option Words) (h : Home) → HomeIn n h → Sends n (fitting_home (store_ack t x h) l k mem out back)
  unfolding store_ack fitting_home
  acked_store x (idle y) j = eight n
  acked_store x (awaiting_load (task r a) y) j = eight n
  acked_store x (awaiting_owner d us o (request (task r reading))) j = eight n
  acked_store x (awaiting_owner d us o (request (task r (writing z)))) j =
      if_fits (grant (ack_dirty x d) (ack_words x us) false (task r (writing z))) (grants n l k mem out back (ack_dirty x d) (ack_words x us) false r (writing z) j.1) (eqb o t)
  acked_store x (awaiting_owner d us o eviction) j = if_fits (leave (ack_dirty x d) (ack_words x us)) (leaves n l k mem out back (ack_dirty x d) (ack_words x us)) (eqb o t)
  acked_store x (awaiting_acks d us m u c) j = eight n
  acked_store x (awaiting_store y) j = eight n

  last : (d : Bool) (us : Words) (m v : ℕ) (c : Clearing) → ClearingIn n c → (e : Bool) → Sends n (moved_home (cond e (cleared d us c) (move (awaiting_acks d us m v c) [])) l k mem out back)
  unfolding cleared moved_home put_memory_all went_with
  last d us m v (clear_for (task r z)) j true = grants n l k mem out back d us false r (writing z) j
  last d us m v clear_for_eviction j true = leaves n l k mem out back d us
  last d us m v c j false = silent

  acked_inv : (h : Home) → HomeIn n h → Sends n (fitting_home (inv_ack t h) l k mem out back)
  unfolding inv_ack fitting_home
  acked_inv (idle y) j = eight n
  acked_inv (awaiting_load (task r a) y) j = eight n
  acked_inv (awaiting_owner d us o c) j = eight n
  acked_inv (awaiting_acks d us m u c) j =
      if_fits (cond (eqb (del u t) 0) (cleared d us c) (move (awaiting_acks d us m (del u t) c) [])) (last d us m (del u t) c j.2 (eqb (del u t) 0)) (has u t)
  acked_inv (awaiting_store y) j = eight n

pub accept_sends : (n t : ℕ) (o : Option Reply) (h : Home) → HomeIn n h → (l k : ℕ) (mem : Words) (out : Queue ToMemory) (back : Queue FromMemory) → Sends n (accepted_home t o h l k mem out back)
unfolding accepted_home
accept_sends n t none h j l k mem out back = seven n
accept_sends n t (some (wb_req ws)) h j l k mem out back = written n t l k mem out back (write_back t ws (has k t) h)
accept_sends n t (some (load_fwd_ack_s x)) h j l k mem out back = acked_S n t l k mem out back x h j
accept_sends n t (some load_fwd_ack_i) h j l k mem out back = acked_I n t l k mem out back h j
accept_sends n t (some (store_fwd_ack x)) h j l k mem out back = acked_store n t l k mem out back x h j
accept_sends n t (some inv_fwd_ack) h j l k mem out back = acked_inv n t l k mem out back h j

-- ---- Memory step and memory ack
memory_served : (n : ℕ) (o : Option ToMemory) (h : Home) (l k : ℕ) (mem : Words) (out : Queue ToMemory) (back : Queue FromMemory) → Sends n (served_memory o h l k mem out back)
unfolding served_memory moved_home put_memory_all put_memory_to put_memory
memory_served n none h l k mem out back = seven n
memory_served n (some load_mem) h l k mem out back = from_memory_lem n h l k mem out (load_mem_ack mem) (push (load_mem_ack mem) back)
memory_served n (some (store_mem ws)) h l k mem out back = from_memory_lem n h l k ws out store_mem_ack (push store_mem_ack back)

pub step_sends : (n : ℕ) (h : Home) (l k : ℕ) (mem : Words) (out : Queue ToMemory) (back : Queue FromMemory) → Sends n (stepped_home h l k mem out back)
unfolding stepped_home
step_sends n h l k mem out back = memory_served n (front out) h l k mem (rest out) back

front_acked : (n : ℕ) (o : Option FromMemory) (h : Home) → HomeIn n h → (l k : ℕ) (mem : Words) (out : Queue ToMemory) (back : Queue FromMemory) → Sends n (acked_front o h l k mem out back)
unfolding acked_front acknowledged fitting_home moved_home put_memory_all went_with
front_acked n none h j l k mem out back = seven n
front_acked n (some (load_mem_ack ws)) (idle x) j l k mem out back = eight n
front_acked n (some (load_mem_ack ws)) (awaiting_load (task t a) x) j l k mem out back = grants n l k mem out back false ws true t a j.0
front_acked n (some (load_mem_ack ws)) (awaiting_owner d us o c) j l k mem out back = eight n
front_acked n (some (load_mem_ack ws)) (awaiting_acks d us m u c) j l k mem out back = eight n
front_acked n (some (load_mem_ack ws)) (awaiting_store x) j l k mem out back = eight n
front_acked n (some store_mem_ack) (idle x) j l k mem out back = eight n
front_acked n (some store_mem_ack) (awaiting_load (task t a) x) j l k mem out back = eight n
front_acked n (some store_mem_ack) (awaiting_owner d us o c) j l k mem out back = eight n
front_acked n (some store_mem_ack) (awaiting_acks d us m u c) j l k mem out back = eight n
front_acked n (some store_mem_ack) (awaiting_store x) j l k mem out back = silent

pub ack_sends : (n : ℕ) (h : Home) → HomeIn n h → (l k : ℕ) (mem : Words) (out : Queue ToMemory) (back : Queue FromMemory) → Sends n (acked_home h l k mem out back)
unfolding acked_home
ack_sends n h j l k mem out back = front_acked n (front back) h j l k mem out (rest back)

-- ---- Home eviction
evicts_shared : (n : ℕ) (d : Bool) (ws : Words) (m : ℕ) → m < 2 ^ n → (l k : ℕ) (mem : Words) (out : Queue ToMemory) (back : Queue FromMemory) (b : Bool) → eqb m 0 ≡ b
    → Sends n (moved_home (cond b (leave d ws) (invalidate n d ws m m clear_for_eviction)) l k mem out back)
evicts_shared n d ws m i l k mem out back true e = leaves n l k mem out back d ws
evicts_shared n d ws m i l k mem out back false e = let z : m ≡ 0 → ⊥ = eqb-false m 0 e in clears n l k mem out back d ws m m clear_for_eviction (omega arith) i

pub evict_sends : (n : ℕ) (h : Home) → HomeIn n h → (l k : ℕ) (mem : Words) (out : Queue ToMemory) (back : Queue FromMemory) → Sends n (evicted_home n h l k mem out back)
unfolding evicted_home evict_line
evict_sends n (idle absent) i l k mem out back = refuses 5 (omega arith)
evict_sends n (idle (present d ws uncached)) i l k mem out back = leaves n l k mem out back d ws
evict_sends n (idle (present d ws (shared_by m))) i l k mem out back = evicts_shared n d ws m i l k mem out back (eqb m 0) refl
evict_sends n (idle (present d ws (owned_by o))) i l k mem out back = asks n l k mem out back d ws o eviction i
evict_sends n (awaiting_load (task r a) x) i l k mem out back = refuses 6 (omega arith)
evict_sends n (awaiting_owner d ws o c) i l k mem out back = refuses 6 (omega arith)
evict_sends n (awaiting_acks d ws m u c) i l k mem out back = refuses 6 (omega arith)
evict_sends n (awaiting_store x) i l k mem out back = refuses 6 (omega arith)
