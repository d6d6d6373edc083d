-- A device of the proofs: no public promise rests on it alone. What a type, a waiting access or a phase asks of the numbers beside it, as
-- the code tests it.
use Rattle.std.specs.Prelude.{ℕ, ◌%◌, ◌^◌, Bool, false, cond, ◌&&◌, ◌||◌, eqb, ltb, leb}
use Rattle.std.specs.Int.Bits.{bit_or}
use Rattle.numbers.specs.Limits.{words_in_line}
use Rattle.numbers.specs.States.{state_i, state_s}
use Rattle.numbers.specs.Types.{load_req_type, store_req_type, wbguard_req_type, wb_req_type, load_fwdack_type, store_fwdack_type, inv_fwdack_type}
use Rattle.layout.specs.Codes.{waits_for_nothing, waits_for_load, waits_for_store, directory_s, directory_e, phase_idle, phase_loading_for_load, phase_loading_for_store, phase_owner_for_load, phase_owner_for_store, phase_owner_for_eviction, phase_acks_for_store, phase_acks_for_eviction, phase_storing}

-- the word of a request of type k
unfoldable pub request_word_ok : ℕ → ℕ → Bool
request_word_ok k w =
    cond (eqb k load_req_type) (ltb w words_in_line) (cond (eqb k store_req_type) (ltb w words_in_line) (cond (eqb k wbguard_req_type) (eqb w 0) false))

-- a reply of type k: word w, state s, flag f, and whether its data are all 0
unfoldable pub reply_numbers_ok : ℕ → ℕ → ℕ → ℕ → Bool → Bool
reply_numbers_ok k w s f clear =
    cond (eqb k wb_req_type) (eqb (bit_or (bit_or w s) f) 0)
    (cond (eqb k load_fwdack_type) (eqb w 0 && leb s state_s && leb f s && (eqb f 1 || clear))
    (cond (eqb k store_fwdack_type) (eqb w 0 && eqb s state_i && leb f 1 && (eqb f 1 || clear))
    (eqb k inv_fwdack_type && eqb (bit_or (bit_or w s) f) 0 && (eqb f 1 || clear))))

-- what a tile waits for, with its word and value
unfoldable pub waiting_numbers_ok : ℕ → ℕ → ℕ → Bool
waiting_numbers_ok k w v =
    cond (eqb k waits_for_nothing) (eqb (bit_or w v) 0)
    (cond (eqb k waits_for_load) (ltb w words_in_line && eqb v 0) (cond (eqb k waits_for_store) (ltb w words_in_line) false))

-- phase p of a home of n tiles with directory d: the requester, and the tiles still owed
unfoldable pub phase_numbers_ok : ℕ → ℕ → ℕ → ℕ → ℕ → Bool
phase_numbers_ok n p d by owed =
    cond (eqb p phase_idle) (eqb (bit_or by owed) 0)
    (cond (eqb p phase_loading_for_load) (ltb by n && eqb owed 0)
    (cond (eqb p phase_loading_for_store) (ltb by n && eqb owed 0)
    (cond (eqb p phase_owner_for_load) (eqb d directory_e && ltb by n && eqb owed 0)
    (cond (eqb p phase_owner_for_store) (eqb d directory_e && ltb by n && eqb owed 0)
    (cond (eqb p phase_owner_for_eviction) (eqb d directory_e && eqb (bit_or by owed) 0)
    (cond (eqb p phase_acks_for_store) (eqb d directory_s && ltb by n && eqb (owed % 2 ^ n) owed)
    (cond (eqb p phase_acks_for_eviction) (eqb d directory_s && eqb by 0 && eqb (owed % 2 ^ n) owed)
    (cond (eqb p phase_storing) (eqb (bit_or by owed) 0) false))))))))
