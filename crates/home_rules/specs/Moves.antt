-- A device of the proofs: no public promise rests on it alone. The home's rules on its numbers, test by test as the code makes them. A move
-- says the numbers after it, where the line's words then come from, and what is sent; Steps.antt applies it to the home's block.
use Rattle.std.specs.Prelude.{ℕ, cond, eqb, Result, Ok, Err}
use Rattle.masks.specs.Mask.{has, add64, del}
use Rattle.numbers.specs.Types.{no_message_type, load_req_type, wbguard_req_type, load_fwd_type, store_fwd_type, inv_fwd_type, data_ack_type, wb_req_type, load_fwdack_type, store_fwdack_type, load_mem_type, store_mem_type, load_mem_ack_type}
use Rattle.numbers.specs.States.{state_i, state_s, state_e, state_m}
use Rattle.numbers.specs.declared.queues.Queues.{Queues}
use Rattle.numbers.specs.declared.queues.Queues.TheVariants.{Nothing, Noc2, ToMemory}
use Rattle.home_rules.specs.declared.moves.Sending.{Sending}
use Rattle.home_rules.specs.declared.moves.Sending.TheVariants.{Silent, Memory, Tiles}
use Rattle.numbers.specs.declared.kinds.Kind.{Kind}
use Rattle.numbers.specs.declared.kinds.Kind.TheVariants.{Other, Sent}
use Rattle.numbers.specs.declared.refusals.Refusal.{Refusal}
use Rattle.numbers.specs.declared.refusals.Refusal.TheVariants.{NoLine, NotIdle, NothingThere, Misfit, QueueFull}
use Rattle.layout.specs.Codes.{phase_idle, phase_loading_for_load, phase_loading_for_store, phase_owner_for_load, phase_owner_for_store, phase_owner_for_eviction, phase_acks_for_store, phase_acks_for_eviction, phase_storing, directory_i, directory_s, directory_e}
use Rattle.home_rules.specs.declared.moves.LineSource.{LineSource}
use Rattle.home_rules.specs.declared.moves.LineSource.TheVariants.{Stay, Clear, OfMessage}
use Rattle.home_rules.specs.declared.moves.HomeNumbers.{HomeNumbers}
use Rattle.home_rules.specs.declared.moves.HomeMove.{HomeMove}

-- flags and empty places of the home's numbers
abbrev pub not_valid_flag : ℕ
not_valid_flag = 0

abbrev pub valid_flag : ℕ
valid_flag = 1

abbrev pub clean_flag : ℕ
clean_flag = 0

abbrev pub dirty_flag : ℕ
dirty_flag = 1

-- no tile, as a number or as a mask
abbrev pub no_number : ℕ
no_number = 0

abbrev pub no_miss_flag : ℕ
no_miss_flag = 0

abbrev pub miss_flag : ℕ
miss_flag = 1

abbrev pub numbers_of : ℕ → ℕ → ℕ → ℕ → ℕ → ℕ → ℕ → ℕ → ℕ → ℕ → HomeNumbers
numbers_of p v d dir hs l k r u s =
    record { phase = p; valid = v; dirty = d; directory = dir; holders = hs; last = l; marks = k; requester = r; owed = u; second = s }

-- the kind of an answer, the queues and the mask of tiles, by what is sent
abbrev pub kind_of : Sending → Kind
kind_of Silent = Other
kind_of (Memory o) = Sent
kind_of (Tiles to m state miss) = Sent

abbrev pub queues_of : Sending → Queues
queues_of Silent = Nothing
queues_of (Memory o) = ToMemory
queues_of (Tiles to m state miss) = Noc2

abbrev pub tiles_of : Sending → ℕ
tiles_of Silent = no_number
tiles_of (Memory o) = no_number
tiles_of (Tiles to m state miss) = to

abbrev pub move_of : HomeNumbers → LineSource → Sending → HomeMove
move_of x w s = record { home = x; source = w; sends = s }

-- nothing sent; the line's words from w
abbrev pub silent_move : HomeNumbers → LineSource → HomeMove
silent_move x w = move_of x w Silent

-- a message of type m for every tile of a mask
abbrev pub forward_move : HomeNumbers → LineSource → ℕ → ℕ → ℕ → ℕ → HomeMove
forward_move x w to m state miss = move_of x w (Tiles to m state miss)

-- the numbers with another phase, line, requester and owed tiles; with another last taken and marks
abbrev pub with_home : HomeNumbers → ℕ → ℕ → ℕ → ℕ → ℕ → ℕ → ℕ → HomeNumbers
with_home x p v d dir hs r u = numbers_of p v d dir hs x.last x.marks r u x.second

abbrev pub with_taken : HomeNumbers → ℕ → ℕ → HomeNumbers
with_taken x l k = numbers_of x.phase x.valid x.dirty x.directory x.holders l k x.requester x.owed x.second

-- y, the numbers x after a step, with a message of type o put on the queue to memory; 9 where that holds two
abbrev pub memory_move : HomeNumbers → HomeNumbers → LineSource → ℕ → Result HomeMove Refusal
memory_move x y w o = cond (eqb x.second no_message_type) (Ok (move_of y w (Memory o))) (Err QueueFull)

-- A grant is DATA_ACK to tile t. Where no other tile has the line, t is then its owner; else t joins the sharers m.
abbrev pub grant_owner : HomeNumbers → ℕ → LineSource → ℕ → ℕ → ℕ → HomeMove
grant_owner x d w state miss t = forward_move (with_home x phase_idle valid_flag d directory_e t no_number no_number) w (add64 no_number t) data_ack_type state miss

abbrev pub grant_shared : HomeNumbers → ℕ → LineSource → ℕ → ℕ → HomeMove
grant_shared x d w m t = forward_move (with_home x phase_idle valid_flag d directory_s (add64 m t) no_number no_number) w (add64 no_number t) data_ack_type state_s no_miss_flag

-- a forward of type m to the owner o, on behalf of r
abbrev pub ask_owner : HomeNumbers → ℕ → ℕ → ℕ → ℕ → HomeMove
ask_owner x o p r m = forward_move (with_home x p valid_flag x.dirty directory_e o r no_number) Stay (add64 no_number o) m state_i no_miss_flag

-- INV_FWD to every tile owed; the mask m of sharers stays
abbrev pub invalidate : HomeNumbers → ℕ → ℕ → ℕ → ℕ → HomeMove
invalidate x m u p r = forward_move (with_home x p valid_flag x.dirty directory_s m r u) Stay u inv_fwd_type state_i no_miss_flag

-- the line leaves: dropped if clean, else STORE_MEM
abbrev pub dropped : HomeNumbers → HomeMove
dropped x = silent_move (with_home x phase_idle not_valid_flag clean_flag directory_i no_number no_number no_number) Clear

abbrev pub leave : HomeNumbers → ℕ → LineSource → Result HomeMove Refusal
leave x d w =
    cond (eqb d clean_flag) (Ok (dropped x)) (memory_move x (with_home x phase_storing valid_flag dirty_flag directory_i no_number no_number no_number) w store_mem_type)

-- Taking of a request of type k (a load, else a store) of tile t.
abbrev pub grant_state : ℕ → ℕ
grant_state k = cond (eqb k load_req_type) state_e state_m

abbrev pub load_line : HomeNumbers → ℕ → ℕ → Result HomeMove Refusal
load_line x t k =
    memory_move x
    (with_home (with_taken x t x.marks) (cond (eqb k load_req_type) phase_loading_for_load phase_loading_for_store) not_valid_flag clean_flag directory_i no_number t no_number)
    Clear load_mem_type

abbrev pub serve_shared : HomeNumbers → ℕ → ℕ → HomeMove
serve_shared x t k =
    cond (eqb k load_req_type) (grant_shared x x.dirty Stay x.holders t)
    (cond (eqb (del x.holders t) no_number) (grant_owner x x.dirty Stay state_m no_miss_flag t) (invalidate x x.holders (del x.holders t) phase_acks_for_store t))

abbrev pub serve_owned : HomeNumbers → ℕ → ℕ → HomeMove
serve_owned x t k =
    cond (eqb x.holders t) (grant_owner x x.dirty Stay (grant_state k) no_miss_flag t)
    (cond (eqb k load_req_type) (ask_owner x x.holders phase_owner_for_load t load_fwd_type) (ask_owner x x.holders phase_owner_for_store t store_fwd_type))

abbrev pub serve_line : HomeNumbers → ℕ → ℕ → HomeMove
serve_line x t k =
    cond (eqb x.directory directory_i) (grant_owner x x.dirty Stay (grant_state k) no_miss_flag t)
    (cond (eqb x.directory directory_s) (serve_shared x t k) (serve_owned x t k))

abbrev pub serve : HomeNumbers → ℕ → ℕ → Result HomeMove Refusal
serve x t k = cond (eqb x.valid not_valid_flag) (load_line x t k) (Ok (serve_line (with_taken x t x.marks) t k))

-- Taking of a guard: the mark is cleared.
abbrev pub take_guard : HomeNumbers → ℕ → HomeMove
take_guard x t = silent_move (with_taken x t (del x.marks t)) Stay

-- Taking of tile t, whose NoC1 front is of type k.
unfoldable pub take_front : HomeNumbers → ℕ → ℕ → Result HomeMove Refusal
take_front x t k = cond (eqb k no_message_type) (Err NothingThere) (cond (eqb k wbguard_req_type) (Ok (take_guard x t)) (serve x t k))

-- Delivery from tile t. A write-back: the words stored, dirty and mark set.
abbrev pub write_back_stored : HomeNumbers → ℕ → ℕ → ℕ → HomeMove
write_back_stored x t dir hs = silent_move (with_taken (with_home x x.phase valid_flag dirty_flag dir hs x.requester x.owed) x.last (add64 x.marks t)) OfMessage

abbrev pub write_back_idle : HomeNumbers → ℕ → Result HomeMove Refusal
write_back_idle x t =
    cond (eqb x.directory directory_e) (cond (eqb x.holders t) (Ok (write_back_stored x t directory_i no_number)) (Err Misfit)) (Err Misfit)

abbrev pub write_back_asked : HomeNumbers → ℕ → Result HomeMove Refusal
write_back_asked x t = cond (eqb x.holders t) (Ok (write_back_stored x t directory_e x.holders)) (Err Misfit)

abbrev pub write_back_unmarked : HomeNumbers → ℕ → Result HomeMove Refusal
write_back_unmarked x t =
    cond (eqb x.phase phase_idle) (write_back_idle x t)
    (cond (eqb x.phase phase_owner_for_load) (write_back_asked x t)
    (cond (eqb x.phase phase_owner_for_store) (write_back_asked x t)
    (cond (eqb x.phase phase_owner_for_eviction) (write_back_asked x t) (Err Misfit))))

abbrev pub write_back : HomeNumbers → ℕ → Result HomeMove Refusal
write_back x t = cond (has x.marks t) (Err Misfit) (write_back_unmarked x t)

-- an ack with data (flag f) stores it and sets dirty
abbrev pub ack_dirty : ℕ → ℕ → ℕ
ack_dirty f d = cond (eqb f 0) d 1

abbrev pub ack_source : ℕ → LineSource
ack_source f = cond (eqb f 0) Stay OfMessage

-- the owner's ack for a load: in state I, or S with owner o and requester r in the mask
abbrev pub owner_shares : HomeNumbers → ℕ → ℕ → ℕ → HomeMove
owner_shares x o r f = grant_shared x (ack_dirty f x.dirty) (ack_source f) (add64 no_number o) r

abbrev pub load_ack : HomeNumbers → ℕ → ℕ → ℕ → Result HomeMove Refusal
load_ack x t s f =
    cond (eqb x.phase phase_owner_for_load)
    (cond (eqb x.holders t)
    (cond (eqb s state_i) (Ok (grant_owner x x.dirty Stay state_e no_miss_flag x.requester)) (Ok (owner_shares x x.holders x.requester f)))
    (Err Misfit))
    (Err Misfit)

-- the owner's ack for a store, and for an eviction
abbrev pub owner_gives_up : HomeNumbers → ℕ → ℕ → Result HomeMove Refusal
owner_gives_up x t f = cond (eqb x.holders t) (Ok (grant_owner x (ack_dirty f x.dirty) (ack_source f) state_m no_miss_flag x.requester)) (Err Misfit)

abbrev pub owner_leaves : HomeNumbers → ℕ → ℕ → Result HomeMove Refusal
owner_leaves x t f = cond (eqb x.holders t) (leave x (ack_dirty f x.dirty) (ack_source f)) (Err Misfit)

abbrev pub store_ack : HomeNumbers → ℕ → ℕ → Result HomeMove Refusal
store_ack x t f =
    cond (eqb x.phase phase_owner_for_store) (owner_gives_up x t f)
    (cond (eqb x.phase phase_owner_for_eviction) (owner_leaves x t f) (Err Misfit))

-- INV_FWDACK: the mask stays until the last of the tiles owed
abbrev pub cleared : HomeNumbers → Result HomeMove Refusal
cleared x = cond (eqb x.phase phase_acks_for_store) (Ok (grant_owner x x.dirty Stay state_m no_miss_flag x.requester)) (leave x x.dirty Stay)

abbrev pub one_less : HomeNumbers → ℕ → Result HomeMove Refusal
one_less x u =
    cond (eqb u no_number) (cleared x) (Ok (silent_move (with_home x x.phase x.valid x.dirty x.directory x.holders x.requester u) Stay))

abbrev pub owed_ack : HomeNumbers → ℕ → Result HomeMove Refusal
owed_ack x t = cond (has x.owed t) (one_less x (del x.owed t)) (Err Misfit)

abbrev pub inv_ack : HomeNumbers → ℕ → Result HomeMove Refusal
inv_ack x t =
    cond (eqb x.phase phase_acks_for_store) (owed_ack x t) (cond (eqb x.phase phase_acks_for_eviction) (owed_ack x t) (Err Misfit))

-- Delivery from tile t, whose NoC3 front is of type k, with state s and flag f.
unfoldable pub accept_reply : HomeNumbers → ℕ → ℕ → ℕ → ℕ → Result HomeMove Refusal
accept_reply x t k s f =
    cond (eqb k no_message_type) (Err NothingThere)
    (cond (eqb k wb_req_type) (write_back x t) (cond (eqb k load_fwdack_type) (load_ack x t s f) (cond (eqb k store_fwdack_type) (store_ack x t f) (inv_ack x t))))

-- Memory ack, of type k. Grants after a memory load have L2 miss set.
abbrev pub load_acked : HomeNumbers → Result HomeMove Refusal
load_acked x =
    cond (eqb x.phase phase_loading_for_load) (Ok (grant_owner x clean_flag OfMessage state_e miss_flag x.requester))
    (cond (eqb x.phase phase_loading_for_store) (Ok (grant_owner x clean_flag OfMessage state_m miss_flag x.requester)) (Err Misfit))

abbrev pub store_acked : HomeNumbers → Result HomeMove Refusal
store_acked x = cond (eqb x.phase phase_storing) (Ok (dropped x)) (Err Misfit)

unfoldable pub memory_ack : HomeNumbers → ℕ → Result HomeMove Refusal
memory_ack x k = cond (eqb k no_message_type) (Err NothingThere) (cond (eqb k load_mem_ack_type) (load_acked x) (store_acked x))

-- Home eviction: 6 before 5.
abbrev pub evict_shared : HomeNumbers → Result HomeMove Refusal
evict_shared x = cond (eqb x.holders no_number) (leave x x.dirty Stay) (Ok (invalidate x x.holders x.holders phase_acks_for_eviction no_number))

abbrev pub evict_valid : HomeNumbers → Result HomeMove Refusal
evict_valid x =
    cond (eqb x.directory directory_i) (leave x x.dirty Stay)
    (cond (eqb x.directory directory_s) (evict_shared x) (Ok (ask_owner x x.holders phase_owner_for_eviction no_number store_fwd_type)))

unfoldable pub evict_line : HomeNumbers → Result HomeMove Refusal
evict_line x = cond (eqb x.phase phase_idle) (cond (eqb x.valid not_valid_flag) (Err NoLine) (evict_valid x)) (Err NotIdle)
