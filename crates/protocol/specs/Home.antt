-- Document 01, 'The bench': what the home does. A rule gives the home after it and the messages that it sends, in order of
-- sending; the messages are put on their queues, with the test of their room, in one place (Bench.antt).
use Rattle.std.specs.Prelude.{ℕ, suc, Bool, cond, true, false, List, [], ◌∷◌, map, eqb}
use Rattle.std.proofs.Math.Option.{Option, some, none}
use Rattle.masks.specs.Mask.{has, add, del}
use Rattle.protocol.specs.Parts.{Words, Access, reading, writing, shared, exclusive, modified, Forward, load_fwd, store_fwd, inv_fwd, data_ack, load_mem, store_mem, FromMemory, load_mem_ack, store_mem_ack, Message, on_noc2, to_memory, Directory, uncached, shared_by, owned_by, Line, absent, present, Cause, request, eviction, Clearing, clear_for, clear_for_eviction, Home, idle, awaiting_load, awaiting_owner, awaiting_acks, awaiting_store, Task, task, storing}

-- the home after a rule, and what it sends
pub data Move : Type 0 where
  move : Home → List Message → Move

-- the numbers i, i + 1, .. of which there are n
unfoldable pub range : ℕ → ℕ → List ℕ
range i ℕ.zero = []
range i (suc n) = i ∷ range (suc i) n

-- those of a list that are in the mask
unfoldable pub among : ℕ → List ℕ → List ℕ
among m [] = []
among m (t ∷ ts) = cond (has m t) (t ∷ among m ts) (among m ts)

-- the tiles of a mask below n, in rising order
unfoldable pub members : ℕ → ℕ → List ℕ
members m n = among m (range 0 n)

-- A grant is DATA_ACK with the home's words. Beside sharers, of the mask m, it is S and adds the tile to the mask.
unfoldable pub grant_shared : Bool → Words → ℕ → ℕ → Move
grant_shared d ws m t = move (idle (present d ws (shared_by (add m t)))) (on_noc2 t (data_ack shared false ws) ∷ [])

-- Where no other tile has the line, every request is granted here: E to a load, M to a store, and directory E with that owner.
unfoldable pub grant_message : Access → Bool → Words → Forward
grant_message reading miss ws = data_ack exclusive miss ws
grant_message (writing storing) miss ws = data_ack modified miss ws

unfoldable pub granted_line : ℕ → Access → Bool → Words → Line
granted_line t reading d ws = present d ws (owned_by t)
granted_line t (writing storing) d ws = present d ws (owned_by t)

unfoldable pub grant : Bool → Words → Bool → Task Access → Move
grant d ws miss (task t a) = move (idle (granted_line t a d ws)) (on_noc2 t (grant_message a miss ws) ∷ [])

-- LOAD_FWD or STORE_FWD to the owner o
unfoldable pub asked_for : Cause → Forward
asked_for (request (task t reading)) = load_fwd
asked_for (request (task t (writing b))) = store_fwd
asked_for eviction = store_fwd

unfoldable pub ask_owner : Bool → Words → ℕ → Cause → Move
ask_owner d ws o c = move (awaiting_owner d ws o c) (on_noc2 o (asked_for c) ∷ [])

-- INV_FWD to every tile of the mask `owed` below n, in rising order
unfoldable pub invalidate_to : ℕ → Message
invalidate_to t = on_noc2 t inv_fwd

unfoldable pub invalidate : ℕ → Bool → Words → ℕ → ℕ → Clearing → Move
invalidate n d ws m owed c = move (awaiting_acks d ws m owed c) (map invalidate_to (members owed n))

-- the line leaves: directory I and STORE_MEM if dirty, else the line is dropped and the home idle
unfoldable pub leave : Bool → Words → Move
leave true ws = move (awaiting_store (present true ws uncached)) (to_memory (store_mem ws) ∷ [])
leave false ws = move (idle absent) []

-- Taking, of a request of tile t, on a bench of n tiles. A request without valid L2 sends LOAD_MEM.
unfoldable pub serve : ℕ → Task Access → Line → Move
serve n (task t a) absent = move (awaiting_load (task t a) absent) (to_memory load_mem ∷ [])
-- load: directory I grants E; store: I grants M
serve n (task t a) (present d ws uncached) = grant d ws false (task t a)
-- load: S grants S and adds the tile
serve n (task t reading) (present d ws (shared_by m)) = grant_shared d ws m t
-- store: S sends INV_FWD to every masked tile but the requester, or grants M if there is none
serve n (task t (writing b)) (present d ws (shared_by m)) = cond (eqb (del m t) 0) (grant d ws false (task t (writing b))) (invalidate n d ws m (del m t) (clear_for (task t b)))
-- E with owner the tile itself grants E, or M for a store; E with another owner sends LOAD_FWD, or STORE_FWD, to the owner
serve n (task t a) (present d ws (owned_by o)) = cond (eqb o t) (grant d ws false (task t a)) (ask_owner d ws o (request (task t a)))

-- Delivery from tile t (NoC3): `none` where the message does not fit.
-- WB_REQ fits if that tile owns, its mark is clear and the home is idle or waiting for the owner: words stored, dirty (and
-- mark, in Bench.antt) set; if idle, directory I.
unfoldable pub write_back : ℕ → Words → Bool → Home → Option Home
write_back t ws true h = none
write_back t ws false (idle absent) = none
write_back t ws false (idle (present d us uncached)) = none
write_back t ws false (idle (present d us (shared_by m))) = none
write_back t ws false (idle (present d us (owned_by o))) = cond (eqb o t) (some (idle (present true ws uncached))) none
write_back t ws false (awaiting_load r l) = none
write_back t ws false (awaiting_owner d us o c) = cond (eqb o t) (some (awaiting_owner true ws o c)) none
write_back t ws false (awaiting_acks d us m owed c) = none
write_back t ws false (awaiting_store l) = none

-- An ack with data stores it and sets dirty.
unfoldable pub ack_words : Option Words → Words → Words
ack_words none us = us
ack_words (some ws) us = ws

unfoldable pub ack_dirty : Option Words → Bool → Bool
ack_dirty none d = d
ack_dirty (some ws) d = true

-- LOAD_FWDACK fits waiting for that owner for a load: state S gives mask owner plus requester and grants S; I grants E.
unfoldable pub load_ack_s : ℕ → Option Words → Home → Option Move
load_ack_s t x (idle l) = none
load_ack_s t x (awaiting_load r l) = none
load_ack_s t x (awaiting_owner d us o (request (task r reading))) = cond (eqb o t) (some (grant_shared (ack_dirty x d) (ack_words x us) (add 0 o) r)) none
load_ack_s t x (awaiting_owner d us o (request (task r (writing b)))) = none
load_ack_s t x (awaiting_owner d us o eviction) = none
load_ack_s t x (awaiting_acks d us m owed c) = none
load_ack_s t x (awaiting_store l) = none

unfoldable pub load_ack_i : ℕ → Home → Option Move
load_ack_i t (idle l) = none
load_ack_i t (awaiting_load r l) = none
load_ack_i t (awaiting_owner d us o (request (task r reading))) = cond (eqb o t) (some (grant d us false (task r reading))) none
load_ack_i t (awaiting_owner d us o (request (task r (writing b)))) = none
load_ack_i t (awaiting_owner d us o eviction) = none
load_ack_i t (awaiting_acks d us m owed c) = none
load_ack_i t (awaiting_store l) = none

-- STORE_FWDACK fits waiting for that owner for a store or an eviction: the last ack grants M, or the line leaves.
unfoldable pub store_ack : ℕ → Option Words → Home → Option Move
store_ack t x (idle l) = none
store_ack t x (awaiting_load r l) = none
store_ack t x (awaiting_owner d us o (request (task r reading))) = none
store_ack t x (awaiting_owner d us o (request (task r (writing b)))) = cond (eqb o t) (some (grant (ack_dirty x d) (ack_words x us) false (task r (writing b)))) none
store_ack t x (awaiting_owner d us o eviction) = cond (eqb o t) (some (leave (ack_dirty x d) (ack_words x us))) none
store_ack t x (awaiting_acks d us m owed c) = none
store_ack t x (awaiting_store l) = none

-- INV_FWDACK fits from a tile still owed, and the mask stays until the last. The last ack grants M, or the line leaves.
unfoldable pub cleared : Bool → Words → Clearing → Move
cleared d us (clear_for (task r b)) = grant d us false (task r (writing b))
cleared d us clear_for_eviction = leave d us

unfoldable pub inv_ack : ℕ → Home → Option Move
inv_ack t (idle l) = none
inv_ack t (awaiting_load r l) = none
inv_ack t (awaiting_owner d us o c) = none
inv_ack t (awaiting_acks d us m owed c) =
    cond (has owed t)
    (some (cond (eqb (del owed t) 0) (cleared d us c) (move (awaiting_acks d us m (del owed t) c) [])))
    none
inv_ack t (awaiting_store l) = none

-- Memory ack. LOAD_MEM_ACK fits waiting for memory load: words stored, valid, clean, grant E or M, with L2 miss set.
-- STORE_MEM_ACK fits waiting for memory store: line dropped, idle.
unfoldable pub acknowledged : FromMemory → Home → Option Move
acknowledged (load_mem_ack ws) (idle l) = none
acknowledged (load_mem_ack ws) (awaiting_load (task t a) l) = some (grant false ws true (task t a))
acknowledged (load_mem_ack ws) (awaiting_owner d us o c) = none
acknowledged (load_mem_ack ws) (awaiting_acks d us m owed c) = none
acknowledged (load_mem_ack ws) (awaiting_store l) = none
acknowledged store_mem_ack (idle l) = none
acknowledged store_mem_ack (awaiting_load t l) = none
acknowledged store_mem_ack (awaiting_owner d us o c) = none
acknowledged store_mem_ack (awaiting_acks d us m owed c) = none
acknowledged store_mem_ack (awaiting_store l) = some (move (idle absent) [])

-- Home eviction of a valid line: I acts as after the last ack; S invalidates all masked (an empty mask acts as I); E sends
-- STORE_FWD.
unfoldable pub evict_line : ℕ → Bool → Words → Directory → Move
evict_line n d ws uncached = leave d ws
evict_line n d ws (shared_by m) = cond (eqb m 0) (leave d ws) (invalidate n d ws m m clear_for_eviction)
evict_line n d ws (owned_by o) = ask_owner d ws o eviction
