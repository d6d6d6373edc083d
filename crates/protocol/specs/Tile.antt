-- Document 01, 'The bench': load, store, evict and delivery to a tile, as they act on that tile (number t). A rule gives the
-- tile without what it sends: the messages are put on their queues, with the test of their room, in one place (Bench.antt).
use Rattle.std.specs.Prelude.{ℕ, [], ◌∷◌, get_or, set}
use Rattle.std.proofs.Math.Option.{some, none}
use Rattle.numbers.specs.Kinds.{kind_other, kind_loaded, kind_stored, kind_sent}
use Rattle.numbers.specs.Refusals.{tile_waits_refusal, no_line_refusal, nothing_there_refusal, misfit_refusal}
use Rattle.protocol.specs.Parts.{Words, Queue, empty, one, two, State, shared, exclusive, modified, Cache, invalid, valid, Waiting, nothing, for_load, for_store, Request, load_req, store_req, wb_guard_req, Forward, load_fwd, store_fwd, inv_fwd, data_ack, Reply, wb_req, load_fwd_ack_s, load_fwd_ack_i, store_fwd_ack, inv_fwd_ack, on_noc1, on_noc3, Tile, tile_of, Result, refused, accepted}

-- Load. S, E, M answer the word. I sends LOAD_REQ and waits.
unfoldable pub load_at : ℕ → ℕ → Tile → Result Tile
load_at t w (tile_of c (for_load u) q1 q2 q3) = refused tile_waits_refusal
load_at t w (tile_of c (for_store u v) q1 q2 q3) = refused tile_waits_refusal
load_at t w (tile_of (valid r ws) nothing q1 q2 q3) = accepted kind_loaded (get_or ws w 0) (tile_of (valid r ws) nothing q1 q2 q3) []
load_at t w (tile_of invalid nothing q1 q2 q3) = accepted kind_sent 0 (tile_of invalid (for_load w) q1 q2 q3) (on_noc1 t (load_req w) ∷ [])

-- Store. M writes. E becomes M silently. I or S sends STORE_REQ and waits.
unfoldable pub store_at : ℕ → ℕ → ℕ → Tile → Result Tile
store_at t w v (tile_of c (for_load u) q1 q2 q3) = refused tile_waits_refusal
store_at t w v (tile_of c (for_store u x) q1 q2 q3) = refused tile_waits_refusal
store_at t w v (tile_of (valid modified ws) nothing q1 q2 q3) = accepted kind_stored 0 (tile_of (valid modified (set ws w v)) nothing q1 q2 q3) []
store_at t w v (tile_of (valid exclusive ws) nothing q1 q2 q3) = accepted kind_stored 0 (tile_of (valid modified (set ws w v)) nothing q1 q2 q3) []
store_at t w v (tile_of (valid shared ws) nothing q1 q2 q3) = accepted kind_sent 0 (tile_of (valid shared ws) (for_store w v) q1 q2 q3) (on_noc1 t (store_req w) ∷ [])
store_at t w v (tile_of invalid nothing q1 q2 q3) = accepted kind_sent 0 (tile_of invalid (for_store w v) q1 q2 q3) (on_noc1 t (store_req w) ∷ [])

-- Evict. S and E drop silently. M sends WB_REQ with data on NoC3, then WBGUARD_REQ on NoC1, and becomes I.
unfoldable pub evict_at : ℕ → Tile → Result Tile
evict_at t (tile_of invalid p q1 q2 q3) = refused no_line_refusal
evict_at t (tile_of (valid shared ws) p q1 q2 q3) = accepted kind_other 0 (tile_of invalid p q1 q2 q3) []
evict_at t (tile_of (valid exclusive ws) p q1 q2 q3) = accepted kind_other 0 (tile_of invalid p q1 q2 q3) []
evict_at t (tile_of (valid modified ws) p q1 q2 q3) = accepted kind_sent 0 (tile_of invalid p q1 q2 q3) (on_noc3 t (wb_req ws) ∷ on_noc1 t wb_guard_req ∷ [])

-- Delivery to a tile (NoC2): what the message m does to state and waiting access; every other pair is 8.
pub data Received : Type 0 where
  misfit : Received
  filled : ℕ → ℕ → Cache → Received
  replied : Cache → Reply → Received

-- DATA_ACK S or E fits a waiting load in I; M fits a waiting store in I or S, which then writes its word.
unfoldable pub fill : State → Words → Cache → Waiting → Received
fill r ws c nothing = misfit
fill shared ws invalid (for_load w) = filled kind_loaded (get_or ws w 0) (valid shared ws)
fill exclusive ws invalid (for_load w) = filled kind_loaded (get_or ws w 0) (valid exclusive ws)
fill modified ws invalid (for_load w) = misfit
fill r ws (valid x us) (for_load w) = misfit
fill modified ws invalid (for_store w v) = filled kind_stored 0 (valid modified (set ws w v))
fill modified ws (valid shared us) (for_store w v) = filled kind_stored 0 (valid modified (set ws w v))
fill modified ws (valid exclusive us) (for_store w v) = misfit
fill modified ws (valid modified us) (for_store w v) = misfit
fill shared ws c (for_store w v) = misfit
fill exclusive ws c (for_store w v) = misfit

unfoldable pub receive : Forward → Cache → Waiting → Received
receive (data_ack r miss ws) c p = fill r ws c p
-- LOAD_FWD: M goes to S, LOAD_FWDACK S with data; E to S, without data; I answers I.
receive load_fwd (valid modified ws) p = replied (valid shared ws) (load_fwd_ack_s (some ws))
receive load_fwd (valid exclusive ws) p = replied (valid shared ws) (load_fwd_ack_s none)
receive load_fwd invalid p = replied invalid load_fwd_ack_i
receive load_fwd (valid shared ws) p = misfit
-- STORE_FWD: M to I with data; E or I, without.
receive store_fwd (valid modified ws) p = replied invalid (store_fwd_ack (some ws))
receive store_fwd (valid exclusive ws) p = replied invalid (store_fwd_ack none)
receive store_fwd invalid p = replied invalid (store_fwd_ack none)
receive store_fwd (valid shared ws) p = misfit
-- INV_FWD: S or I end in I and acknowledge.
receive inv_fwd (valid shared ws) p = replied invalid inv_fwd_ack
receive inv_fwd invalid p = replied invalid inv_fwd_ack
receive inv_fwd (valid exclusive ws) p = misfit
receive inv_fwd (valid modified ws) p = misfit

-- the tile after it, with the queue q of what is left on NoC2
unfoldable pub received : ℕ → Received → Cache → Waiting → Queue Request → Queue Forward → Queue Reply → Result Tile
received t misfit c p q1 q q3 = refused misfit_refusal
received t (filled k v c') c p q1 q q3 = accepted k v (tile_of c' nothing q1 q q3) []
received t (replied c' a) c p q1 q q3 = accepted kind_sent 0 (tile_of c' p q1 q q3) (on_noc3 t a ∷ [])

unfoldable pub deliver_to : ℕ → Tile → Result Tile
deliver_to t (tile_of c p q1 empty q3) = refused nothing_there_refusal
deliver_to t (tile_of c p q1 (one m) q3) = received t (receive m c p) c p q1 empty q3
deliver_to t (tile_of c p q1 (two m n) q3) = received t (receive m c p) c p q1 (one n) q3
