-- A device of the proofs: no public promise rests on it alone. A tile's rules on its numbers, test by test as the code makes them; Steps.antt
-- applies the moves to the tile's block, and proofs/Rules shows that this is document 01's rule.
use Rattle.std.specs.Prelude.{ℕ, Bool, true, false, cond, eqb, ltb, leb, ◌&&◌, Result, Ok, Err}
use Rattle.numbers.specs.Types.{no_message_type, load_req_type, store_req_type, load_fwd_type, store_fwd_type, inv_fwd_type, load_fwdack_type, store_fwdack_type, inv_fwdack_type}
use Rattle.numbers.specs.States.{state_i, state_s, state_e, state_m}
use Rattle.numbers.specs.declared.queues.Queues.{Queues}
use Rattle.numbers.specs.declared.queues.Queues.TheVariants.{Nothing, Noc1, Noc2, Noc3, ToMemory, FromMemory, Noc3ThenNoc1}
use Rattle.numbers.specs.declared.kinds.Kind.{Kind}
use Rattle.numbers.specs.declared.kinds.Kind.TheVariants.{Other, Loaded, Stored, Sent}
use Rattle.numbers.specs.declared.refusals.Refusal.{Refusal}
use Rattle.numbers.specs.declared.refusals.Refusal.TheVariants.{NoWord, TileWaits, NoLine, NothingThere, Misfit, QueueFull}
use Rattle.numbers.specs.Tags.{tag_load, tag_store, tag_evict}
use Rattle.numbers.specs.Limits.{words_in_line}
use Rattle.layout.specs.Codes.{waits_for_nothing, waits_for_load, waits_for_store}
use Rattle.tile_rules.specs.declared.moves.TileNumbers.{TileNumbers}
use Rattle.tile_rules.specs.declared.moves.TileMove.{TileMove}
use Rattle.tile_rules.specs.declared.moves.TileMove.TheVariants.{Read, Request, Store, Drop, WriteBack, Reply, FillLoad, FillStore}

abbrev pub numbers_of : ℕ → ℕ → ℕ → ℕ → ℕ → ℕ → ℕ → ℕ → TileNumbers
numbers_of s u w v a k g b = record { state = s; waits = u; word = w; value = v; noc1 = a; message = k; granted = g; noc3 = b }

-- a move of a tile that does not wait
abbrev pub unless_waiting : TileNumbers → TileMove → Result TileMove Refusal
unless_waiting x m = cond (eqb x.waits waits_for_nothing) (Ok m) (Err TileWaits)

abbrev pub load : TileNumbers → ℕ → Result TileMove Refusal
load x w =
    cond (ltb w words_in_line)
    (unless_waiting x (cond (eqb x.state state_i) (Request load_req_type waits_for_load w 0) (Read w)))
    (Err NoWord)

abbrev pub store : TileNumbers → ℕ → ℕ → Result TileMove Refusal
store x w v =
    cond (ltb w words_in_line)
    (unless_waiting x (cond (ltb x.state state_e) (Request store_req_type waits_for_store w v) (Store w v)))
    (Err NoWord)

abbrev pub evict : TileNumbers → Result TileMove Refusal
evict x = cond (eqb x.state state_i) (Err NoLine) (cond (eqb x.state state_m) (Ok WriteBack) (Ok Drop))

-- Delivery of a forward, by the tile's state: the state then, the ack's type and state, and whether it has data.
abbrev pub reply : ℕ → ℕ → ℕ → Bool → Result TileMove Refusal
reply s k r d = Ok (Reply s k r d)

abbrev pub load_fwd : TileNumbers → Result TileMove Refusal
load_fwd x =
    cond (eqb x.state state_i) (reply state_i load_fwdack_type state_i false)
    (cond (eqb x.state state_s) (Err Misfit) (cond (eqb x.state state_e) (reply state_s load_fwdack_type state_s false) (reply state_s load_fwdack_type state_s true)))

abbrev pub store_fwd : TileNumbers → Result TileMove Refusal
store_fwd x =
    cond (eqb x.state state_s) (Err Misfit)
    (cond (eqb x.state state_m) (reply state_i store_fwdack_type state_i true) (reply state_i store_fwdack_type state_i false))

abbrev pub inv_fwd : TileNumbers → Result TileMove Refusal
inv_fwd x = cond (ltb x.state state_e) (reply state_i inv_fwdack_type state_i false) (Err Misfit)

abbrev pub forward : TileNumbers → Result TileMove Refusal
forward x = cond (eqb x.message load_fwd_type) (load_fwd x) (cond (eqb x.message store_fwd_type) (store_fwd x) (inv_fwd x))

-- Delivery of a DATA_ACK, by its state.
abbrev pub store_fill : TileNumbers → Result TileMove Refusal
store_fill x = cond (eqb x.waits waits_for_store && ltb x.state state_e) (Ok (FillStore x.word x.value)) (Err Misfit)

abbrev pub load_fill : TileNumbers → Result TileMove Refusal
load_fill x = cond (eqb x.waits waits_for_load && eqb x.state state_i) (Ok (FillLoad x.granted x.word)) (Err Misfit)

abbrev pub fill : TileNumbers → Result TileMove Refusal
fill x = cond (eqb x.granted state_m) (store_fill x) (load_fill x)

-- Delivery of the front message of NoC2 by its type: LOAD_FWD to INV_FWD are forwards.
abbrev pub deliver : TileNumbers → Result TileMove Refusal
deliver x =
    cond (eqb x.message no_message_type) (Err NothingThere)
    (cond (ltb x.message load_fwd_type) (fill x) (cond (leb x.message inv_fwd_type) (forward x) (fill x)))

-- the four by tag: load, store, evict, else delivery to the tile
abbrev pub step : TileNumbers → ℕ → ℕ → ℕ → Result TileMove Refusal
step x tag w v = cond (eqb tag tag_load) (load x w) (cond (eqb tag tag_store) (store x w v) (cond (eqb tag tag_evict) (evict x) (deliver x)))

-- a move's kind, and on which queues it sends
abbrev pub move_kind : TileMove → Kind
move_kind (Read w) = Loaded
move_kind (Request k u w v) = Sent
move_kind (Store w v) = Stored
move_kind Drop = Other
move_kind WriteBack = Sent
move_kind (Reply s k r d) = Sent
move_kind (FillLoad s w) = Loaded
move_kind (FillStore w v) = Stored

abbrev pub move_queues : TileMove → Queues
move_queues (Read w) = Nothing
move_queues (Request k u w v) = Noc1
move_queues (Store w v) = Nothing
move_queues Drop = Nothing
move_queues WriteBack = Noc3ThenNoc1
move_queues (Reply s k r d) = Noc3
move_queues (FillLoad s w) = Nothing
move_queues (FillStore w v) = Nothing

-- no second message stands on any of these queues
abbrev pub has_room_on : TileNumbers → Queues → Bool
has_room_on x Nothing = true
has_room_on x Noc1 = eqb x.noc1 no_message_type
has_room_on x Noc2 = true
has_room_on x Noc3 = eqb x.noc3 no_message_type
has_room_on x ToMemory = true
has_room_on x FromMemory = true
has_room_on x Noc3ThenNoc1 = eqb x.noc3 no_message_type && eqb x.noc1 no_message_type

-- 9, last, where a move finds no room
abbrev pub room_for : TileNumbers → TileMove → Result Unit Refusal
room_for x m = cond (has_room_on x (move_queues m)) (Ok tt) (Err QueueFull)
