-- The numbers of each step are those of its rule, on the numbers of any home in range. Assumes nothing.
use mathlib.Core.Path.{◌≡◌, refl, ap, sym, ◌∙◌}
use mathlib.Core.Bool.{Bool, true, false, cond}
use mathlib.Core.List.{[], ◌∷◌}
use mathlib.Core.Option.{Option, some, none}
use Prim.Native.Nat.{ℕ, ◌^◌, ◌≤◌, ◌<◌}
use native.Mathlib.Omega.{arith}
use lib.Dec.{eqb}
use borrow.Author.Tests.{eqb-false}
use Rattle.masks.specs.Mask.{has, add, add64, del}
use Rattle.masks.proofs.MaskLaws.{del_lt}
use Rattle.layout.specs.declared.rows.Row.{Row}
use Rattle.layout.specs.declared.rows.HomeBlock.{HomeBlock}
use Rattle.layout.specs.Encode.{zeros, no_row, flag, enc_request, enc_forward, enc_reply, enc_to_memory, enc_from_memory, enc_queue, directory_number, holders, enc_line, line_of, phase_number, requester, owed_tiles, enc_home}
use Rattle.protocol.specs.Parts.{Words, Queue, empty, one, two, Access, reading, writing, Request, load_req, store_req, wb_guard_req, inv_fwd, Reply, wb_req, load_fwd_ack_s, load_fwd_ack_i, store_fwd_ack, inv_fwd_ack, ToMemory, load_mem, store_mem, FromMemory, load_mem_ack, store_mem_ack, from_memory, Directory, uncached, shared_by, owned_by, Line, absent, present, Cause, request, eviction, Clearing, clear_for, clear_for_eviction, Home, idle, awaiting_load, awaiting_owner, awaiting_acks, awaiting_store, task, storing, state_number}
use Rattle.protocol.specs.Home as rules
use Rattle.protocol.specs.Home.{move}
use Rattle.protocol.specs.Bench.{push, front, rest, kind_of}
use Rattle.layout.specs.Queues as queues
use Rattle.std.specs.Prelude.{Ok, Err}
use Rattle.numbers.specs.declared.refusals.Refusal.TheVariants.{Misfit}
use Rattle.home_rules.specs.declared.moves.LineSource.{LineSource}
use Rattle.home_rules.specs.declared.moves.LineSource.TheVariants.{Stay, OfMessage}
use Rattle.home_rules.specs.declared.moves.HomeNumbers.{HomeNumbers}
use Rattle.home_rules.specs.Moves as moves
use Rattle.home_rules.specs.Steps as numbers
use Rattle.home_rules.specs.Steps.{HomeStep, refused_step, forward_step, numbers_in, with_numbers, with_words, with_outgoing, words_from, outgoing_put, forward_of, line_after_move, move_applied, with_memory}
use Rattle.protocol.specs.Answers.{sent_on}
use Rattle.layout.specs.Range.{DirectoryIn, LineIn, HomeIn}
use Rattle.home_rules.specs.Results.{put_memory, put_memory_to, put_memory_all, went_with, moved_home, fitting_home, taken_home, written_home, accepted_home, served_memory, stepped_home, acked_front, acked_home, evicted_home, targets, forward_row, enc_step, enc_front, forwards_to}
use Rattle.home_rules.proofs.Forwards.{add_small, told_moved}

-- the first row of a queue is its front
pub first_row : {A : Type 0} (f : A → Row) (q : Queue A) → (enc_queue f q).a ≡ enc_front f (front q)
unfolding enc_queue enc_front front
first_row f empty = refl
first_row f (one a) = refl
first_row f (two a b) = refl

-- the state that a request is granted
abbrev grant_number : Access → ℕ
grant_number reading = 2
grant_number (writing storing) = 3

-- What a move comes to on the block X of a home h, where us are the words of the message that it answers. The four units refuse nothing, so
-- the block x that a refusal would give back is any; of the numbers c that they change they keep last taken and marks.
module _ (x : HomeBlock) (n l k : ℕ) (mem : Words) (out : Queue ToMemory) (back : Queue FromMemory) (us : Words) (h : Home) (c : HomeNumbers) where
  abbrev X : HomeBlock
  X = enc_home n h l k mem out back

  abbrev kept : Words
  kept = (enc_line (line_of h)).words

  grant_owner_lem : (d : Bool) (w : LineSource) (a : Access) (miss : Bool) (t : ℕ)
      → move_applied X us (Ok (moves.grant_owner c (flag d) w (grant_number a) (flag miss) t))
      ≡ enc_step n x (moved_home (rules.grant d (words_from w kept us) miss (task t a)) c.last c.marks mem out back)
  unfolding move_applied line_after_move with_numbers with_words outgoing_put forward_of numbers.forward_row numbers.memory_put enc_home phase_number requester owed_tiles line_of enc_line directory_number holders enc_forward enc_step kind_of sent_on targets forward_row moved_home went_with put_memory_all put_memory_to put_memory state_number rules.grant rules.grant_message rules.granted_line
  grant_owner_lem d w reading miss t = refl
  grant_owner_lem d w (writing storing) miss t = refl

  grant_shared_lem : (d : Bool) (w : LineSource) (m t : ℕ) → t < 64
      → move_applied X us (Ok (moves.grant_shared c (flag d) w m t))
      ≡ enc_step n x (moved_home (rules.grant_shared d (words_from w kept us) m t) c.last c.marks mem out back)
  unfolding move_applied line_after_move with_numbers with_words outgoing_put forward_of numbers.forward_row numbers.memory_put enc_home phase_number requester owed_tiles line_of enc_line directory_number holders enc_forward enc_step kind_of sent_on targets forward_row moved_home went_with put_memory_all put_memory_to put_memory rules.grant_shared state_number flag
  grant_shared_lem d w m t s = ap (λ (y : ℕ). move_applied X us (Ok (moves.forward_move (moves.with_home c 0 1 (flag d) 1 y 0 0) w (add64 0 t) 29 1 0))) (add_small m t s)

  -- a forward of the owner; the phase and the type are the cause's
  ask_owner_lem : (d : Bool) (o : ℕ) (q : Cause)
      → move_applied X us (Ok (moves.forward_move (moves.with_home c (phase_number (awaiting_owner d kept o q)) 1 (flag d) 2 o (requester (awaiting_owner d kept o q)) 0) Stay (add64 0 o) (enc_forward (rules.asked_for q)).n0 0 0))
      ≡ enc_step n x (moved_home (rules.ask_owner d kept o q) c.last c.marks mem out back)
  unfolding move_applied line_after_move with_numbers with_words words_from outgoing_put forward_of numbers.forward_row numbers.memory_put enc_home phase_number requester owed_tiles line_of enc_line directory_number holders enc_forward enc_step kind_of sent_on targets forward_row moved_home went_with put_memory_all put_memory_to put_memory rules.ask_owner rules.asked_for
  ask_owner_lem d o (request (task r reading)) = refl
  ask_owner_lem d o (request (task r (writing storing))) = refl
  ask_owner_lem d o eviction = refl

  clear_sharers : n ≤ 64 → (d : Bool) (m u : ℕ) (q : Clearing) → 0 < u → u < 2 ^ n
      → move_applied X us (Ok (moves.forward_move (moves.with_home c (phase_number (awaiting_acks d kept m u q)) 1 (flag d) 1 m (requester (awaiting_acks d kept m u q)) u) Stay u 18 0 0))
      ≡ enc_step n x (moved_home (rules.invalidate n d kept m u q) c.last c.marks mem out back)
  unfolding move_applied line_after_move with_numbers with_words words_from outgoing_put forward_of numbers.forward_row numbers.memory_put forward_step enc_home line_of enc_line directory_number holders owed_tiles enc_forward forwards_to rules.invalidate rules.invalidate_to
  clear_sharers s d m u q p b = sym (told_moved inv_fwd n u s p b x (awaiting_acks d kept m u q) c.last c.marks mem out back)

module _ (n : ℕ) (us : Words) where
  -- the line leaves
  leaves : (h : Home) (d : Bool) (w : LineSource) (l k : ℕ) (mem : Words) (out : Queue ToMemory) (back : Queue FromMemory)
      → move_applied (enc_home n h l k mem out back) us (moves.leave (numbers_in (enc_home n h l k mem out back)) (flag d) w)
      ≡ enc_step n (enc_home n h l k mem out back) (moved_home (rules.leave d (words_from w (enc_line (line_of h)).words us)) l k mem out back)
  unfolding move_applied line_after_move with_numbers with_words words_from outgoing_put forward_of numbers.forward_row numbers.memory_put with_outgoing numbers_in refused_step queues.push_row enc_home enc_queue enc_to_memory phase_number requester owed_tiles line_of enc_line directory_number holders flag enc_step kind_of sent_on targets forward_row moved_home went_with put_memory_all put_memory_to put_memory push rules.leave
  leaves h false w l k mem out back = refl
  leaves h true w l k mem empty back = refl
  leaves h true w l k mem (one load_mem) back = refl
  leaves h true w l k mem (one (store_mem vs)) back = refl
  leaves h true w l k mem (two m load_mem) back = refl
  leaves h true w l k mem (two m (store_mem vs)) back = refl

  -- ---- Taking
  type_of : Access → ℕ
  type_of reading = 31
  type_of (writing storing) = 2

  loads : (t : ℕ) (a : Access) (l k : ℕ) (mem : Words) (out : Queue ToMemory) (back : Queue FromMemory)
      → move_applied (enc_home n (idle absent) l k mem out back) us (moves.load_line (numbers_in (enc_home n (idle absent) l k mem out back)) t (type_of a))
      ≡ enc_step n (enc_home n (idle absent) l k mem out back) (moved_home (rules.serve n (task t a) absent) t k mem out back)
  unfolding move_applied line_after_move with_numbers with_words words_from outgoing_put forward_of numbers.forward_row numbers.memory_put with_outgoing numbers_in type_of refused_step queues.push_row enc_home enc_queue enc_to_memory phase_number requester owed_tiles line_of enc_line enc_step kind_of sent_on targets forward_row moved_home went_with put_memory_all put_memory_to put_memory push rules.serve
  loads t reading l k mem empty back = refl
  loads t reading l k mem (one load_mem) back = refl
  loads t reading l k mem (one (store_mem vs)) back = refl
  loads t reading l k mem (two m load_mem) back = refl
  loads t reading l k mem (two m (store_mem vs)) back = refl
  loads t (writing storing) l k mem empty back = refl
  loads t (writing storing) l k mem (one load_mem) back = refl
  loads t (writing storing) l k mem (one (store_mem vs)) back = refl
  loads t (writing storing) l k mem (two m load_mem) back = refl
  loads t (writing storing) l k mem (two m (store_mem vs)) back = refl

  pos : (u : ℕ) → (u ≡ 0 → ⊥) → 0 < u
  pos u h = omega arith

  module _ (t : ℕ) (s : n ≤ 64) (h : t < n) (l k : ℕ) (mem : Words) (out : Queue ToMemory) (back : Queue FromMemory) where
    abbrev with_line_lem : Line → HomeBlock
    with_line_lem y = enc_home n (idle y) l k mem out back

    abbrev taken : Line → HomeNumbers
    taken y = moves.with_taken (numbers_in (with_line_lem y)) t k

    serves_present : (a : Access) (d : Bool) (ws : Words) (x : Directory) → DirectoryIn n x
        → move_applied (with_line_lem (present d ws x)) us (Ok (moves.serve_line (taken (present d ws x)) t (type_of a)))
        ≡ enc_step n (with_line_lem (present d ws x)) (moved_home (rules.serve n (task t a) (present d ws x)) t k mem out back)
    unfolding numbers_in words_from type_of enc_home line_of enc_line directory_number holders phase_number requester state_number flag enc_forward rules.serve rules.asked_for
    serves_present reading d ws uncached i =
        grant_owner_lem (with_line_lem (present d ws uncached)) n l k mem out back us (idle (present d ws uncached)) (taken (present d ws uncached)) d Stay reading false t
    serves_present (writing storing) d ws uncached i =
        grant_owner_lem (with_line_lem (present d ws uncached)) n l k mem out back us (idle (present d ws uncached)) (taken (present d ws uncached)) d Stay (writing storing) false t
    serves_present reading d ws (shared_by m) i =
        grant_shared_lem (with_line_lem (present d ws (shared_by m))) n l k mem out back us (idle (present d ws (shared_by m))) (taken (present d ws (shared_by m))) d Stay m t (omega arith)
    serves_present (writing storing) d ws (shared_by m) i = go (eqb (del m t) 0) refl
      where
        go : (b : Bool) → eqb (del m t) 0 ≡ b
            → move_applied (with_line_lem (present d ws (shared_by m))) us (Ok (cond b (moves.grant_owner (taken (present d ws (shared_by m))) (flag d) Stay 3 0 t) (moves.invalidate (taken (present d ws (shared_by m))) m (del m t) 6 t)))
            ≡ enc_step n (with_line_lem (present d ws (shared_by m))) (moved_home (cond b (rules.grant d ws false (task t (writing storing))) (rules.invalidate n d ws m (del m t) (clear_for (task t storing)))) t k mem out back)
        go true e = grant_owner_lem (with_line_lem (present d ws (shared_by m))) n l k mem out back us (idle (present d ws (shared_by m))) (taken (present d ws (shared_by m))) d Stay (writing storing) false t
        go false e = clear_sharers (with_line_lem (present d ws (shared_by m))) n l k mem out back us (idle (present d ws (shared_by m))) (taken (present d ws (shared_by m))) s d m (del m t) (clear_for (task t storing)) (pos (del m t) (eqb-false (del m t) 0 e)) (del_lt n m t i)
    serves_present reading d ws (owned_by o) i = go (eqb o t)
      where
        go : (b : Bool)
            → move_applied (with_line_lem (present d ws (owned_by o))) us (Ok (cond b (moves.grant_owner (taken (present d ws (owned_by o))) (flag d) Stay 2 0 t) (moves.ask_owner (taken (present d ws (owned_by o))) o 3 t 16)))
            ≡ enc_step n (with_line_lem (present d ws (owned_by o))) (moved_home (cond b (rules.grant d ws false (task t reading)) (rules.ask_owner d ws o (request (task t reading)))) t k mem out back)
        go true = grant_owner_lem (with_line_lem (present d ws (owned_by o))) n l k mem out back us (idle (present d ws (owned_by o))) (taken (present d ws (owned_by o))) d Stay reading false t
        go false = ask_owner_lem (with_line_lem (present d ws (owned_by o))) n l k mem out back us (idle (present d ws (owned_by o))) (taken (present d ws (owned_by o))) d o (request (task t reading))
    serves_present (writing storing) d ws (owned_by o) i = go (eqb o t)
      where
        go : (b : Bool)
            → move_applied (with_line_lem (present d ws (owned_by o))) us (Ok (cond b (moves.grant_owner (taken (present d ws (owned_by o))) (flag d) Stay 3 0 t) (moves.ask_owner (taken (present d ws (owned_by o))) o 4 t 17)))
            ≡ enc_step n (with_line_lem (present d ws (owned_by o))) (moved_home (cond b (rules.grant d ws false (task t (writing storing))) (rules.ask_owner d ws o (request (task t (writing storing))))) t k mem out back)
        go true = grant_owner_lem (with_line_lem (present d ws (owned_by o))) n l k mem out back us (idle (present d ws (owned_by o))) (taken (present d ws (owned_by o))) d Stay (writing storing) false t
        go false = ask_owner_lem (with_line_lem (present d ws (owned_by o))) n l k mem out back us (idle (present d ws (owned_by o))) (taken (present d ws (owned_by o))) d o (request (task t (writing storing)))

    serves : (a : Access) (x : Line) → LineIn n x
        → move_applied (with_line_lem x) us (moves.serve (numbers_in (with_line_lem x)) t (type_of a)) ≡ enc_step n (with_line_lem x) (moved_home (rules.serve n (task t a) x) t k mem out back)
    unfolding numbers_in enc_home line_of enc_line
    serves a absent i = loads t a l k mem out back
    serves a (present d ws x) i = serves_present a d ws x i

pub take_is : (n t : ℕ) → n ≤ 64 → t < n → (o : Option Request) (x : Line) → LineIn n x → (l k : ℕ) (mem : Words) (out : Queue ToMemory) (back : Queue FromMemory)
    → numbers.taking_step (enc_home n (idle x) l k mem out back) t (enc_front enc_request o) ≡ enc_step n (enc_home n (idle x) l k mem out back) (taken_home n t o x k mem out back)
unfolding numbers.taking_step move_applied line_after_move with_numbers with_words words_from outgoing_put forward_of numbers.forward_row numbers.memory_put numbers_in moves.take_front refused_step enc_home phase_number requester owed_tiles line_of enc_front enc_request enc_step taken_home kind_of sent_on targets forward_row type_of
take_is n t s h none x i l k mem out back = refl
take_is n t s h (some wb_guard_req) x i l k mem out back = refl
take_is n t s h (some (load_req w)) x i l k mem out back = serves n _ t s h l k mem out back reading x i
take_is n t s h (some (store_req w)) x i l k mem out back = serves n _ t s h l k mem out back (writing storing) x i

-- ---- Delivery from a tile
-- nothing sent
abbrev quietly : HomeBlock → HomeStep
quietly x = numbers.step_of 0 0 x 0 0 no_row

-- flag and data of an ack
ack_flag : Option Words → ℕ
ack_flag none = 0
ack_flag (some ws) = 1

ack_data : Option Words → Words
ack_data none = zeros
ack_data (some ws) = ws

module _ (n t : ℕ) (s : n ≤ 64) (i : t < n) (l k : ℕ) (mem : Words) (out : Queue ToMemory) (back : Queue FromMemory) where
  abbrev at : Home → HomeBlock
  at h = enc_home n h l k mem out back

  abbrev of : Home → HomeNumbers
  of h = numbers_in (at h)

  kept_idle : (d : Bool) (us ws : Words) (o : ℕ) (b : Bool)
      → move_applied (at (idle (present d us (owned_by o)))) ws (cond b (Ok (moves.write_back_stored (of (idle (present d us (owned_by o)))) t 0 0)) (Err Misfit))
      ≡ enc_step n (at (idle (present d us (owned_by o)))) (written_home t (cond b (some (idle (present true ws uncached))) none) l k mem out back)
  unfolding move_applied line_after_move with_numbers with_words words_from outgoing_put forward_of numbers.forward_row numbers.memory_put numbers_in refused_step enc_home phase_number requester owed_tiles line_of enc_line directory_number holders flag enc_step written_home kind_of sent_on targets forward_row
  kept_idle d us ws o true = ap (λ (y : ℕ). quietly (enc_home n (idle (present true ws uncached)) l y mem out back)) (add_small k t (omega arith))
  kept_idle d us ws o false = refl

  kept_asked : (d : Bool) (us ws : Words) (o : ℕ) (c : Cause) (b : Bool)
      → move_applied (at (awaiting_owner d us o c)) ws (cond b (Ok (moves.write_back_stored (of (awaiting_owner d us o c)) t 2 o)) (Err Misfit))
      ≡ enc_step n (at (awaiting_owner d us o c)) (written_home t (cond b (some (awaiting_owner true ws o c)) none) l k mem out back)
  unfolding move_applied line_after_move with_numbers with_words words_from outgoing_put forward_of numbers.forward_row numbers.memory_put numbers_in refused_step enc_home phase_number requester owed_tiles line_of enc_line directory_number holders flag enc_step written_home kind_of sent_on targets forward_row
  kept_asked d us ws o (request (task r reading)) true = ap (λ (y : ℕ). quietly (enc_home n (awaiting_owner true ws o (request (task r reading))) l y mem out back)) (add_small k t (omega arith))
  kept_asked d us ws o (request (task r (writing storing))) true = ap (λ (y : ℕ). quietly (enc_home n (awaiting_owner true ws o (request (task r (writing storing)))) l y mem out back)) (add_small k t (omega arith))
  kept_asked d us ws o eviction true = ap (λ (y : ℕ). quietly (enc_home n (awaiting_owner true ws o eviction) l y mem out back)) (add_small k t (omega arith))
  kept_asked d us ws o c false = refl

  written : (ws : Words) (b : Bool) (h : Home)
      → move_applied (at h) ws (cond b (Err Misfit) (moves.write_back_unmarked (of h) t)) ≡ enc_step n (at h) (written_home t (rules.write_back t ws b h) l k mem out back)
  unfolding move_applied line_after_move with_numbers with_words words_from outgoing_put forward_of numbers.forward_row numbers.memory_put numbers_in refused_step enc_home phase_number line_of enc_line directory_number holders enc_step written_home rules.write_back
  written ws true h = refl
  written ws false (idle absent) = refl
  written ws false (idle (present d us uncached)) = refl
  written ws false (idle (present d us (shared_by m))) = refl
  written ws false (idle (present d us (owned_by o))) = kept_idle d us ws o (eqb o t)
  written ws false (awaiting_load (task r reading) x) = refl
  written ws false (awaiting_load (task r (writing storing)) x) = refl
  written ws false (awaiting_owner d us o (request (task r reading))) = kept_asked d us ws o (request (task r reading)) (eqb o t)
  written ws false (awaiting_owner d us o (request (task r (writing storing)))) = kept_asked d us ws o (request (task r (writing storing))) (eqb o t)
  written ws false (awaiting_owner d us o eviction) = kept_asked d us ws o eviction (eqb o t)
  written ws false (awaiting_acks d us m u (clear_for (task r storing))) = refl
  written ws false (awaiting_acks d us m u clear_for_eviction) = refl
  written ws false (awaiting_store x) = refl

  -- the owner's ack for a load, in state S and in I
  shares : (d : Bool) (us : Words) (o r : ℕ) (x : Option Words) → o < n → r < n
      → move_applied (at (awaiting_owner d us o (request (task r reading)))) (ack_data x) (Ok (moves.owner_shares (of (awaiting_owner d us o (request (task r reading)))) o r (ack_flag x)))
      ≡ enc_step n (at (awaiting_owner d us o (request (task r reading)))) (moved_home (rules.grant_shared (rules.ack_dirty x d) (rules.ack_words x us) (add 0 o) r) l k mem out back)
  unfolding words_from ack_flag ack_data numbers_in enc_home line_of enc_line flag rules.ack_dirty rules.ack_words
  shares d us o r none p q =
      let h : Home = awaiting_owner d us o (request (task r reading)) in
      ap (λ (y : ℕ). move_applied (at h) zeros (Ok (moves.grant_shared (of h) (flag d) Stay y r))) (add_small 0 o (omega arith))
      ∙ grant_shared_lem (at h) n l k mem out back zeros h (of h) d Stay (add 0 o) r (omega arith)
  shares d us o r (some ws) p q =
      let h : Home = awaiting_owner d us o (request (task r reading)) in
      ap (λ (y : ℕ). move_applied (at h) ws (Ok (moves.grant_shared (of h) 1 OfMessage y r))) (add_small 0 o (omega arith))
      ∙ grant_shared_lem (at h) n l k mem out back ws h (of h) true OfMessage (add 0 o) r (omega arith)

  shares_if : (d : Bool) (us : Words) (o r : ℕ) (x : Option Words) → o < n → r < n → (b : Bool)
      → move_applied (at (awaiting_owner d us o (request (task r reading)))) (ack_data x) (cond b (Ok (moves.owner_shares (of (awaiting_owner d us o (request (task r reading)))) o r (ack_flag x))) (Err Misfit))
      ≡ enc_step n (at (awaiting_owner d us o (request (task r reading)))) (fitting_home (cond b (some (rules.grant_shared (rules.ack_dirty x d) (rules.ack_words x us) (add 0 o) r)) none) l k mem out back)
  unfolding move_applied line_after_move with_numbers with_words words_from outgoing_put forward_of numbers.forward_row numbers.memory_put numbers_in refused_step fitting_home enc_step
  shares_if d us o r x p q true = shares d us o r x p q
  shares_if d us o r x p q false = refl

  load_acked_S : (x : Option Words) (h : Home) → HomeIn n h
      → move_applied (at h) (ack_data x) (moves.load_ack (of h) t 1 (ack_flag x)) ≡ enc_step n (at h) (fitting_home (rules.load_ack_s t x h) l k mem out back)
  unfolding move_applied line_after_move with_numbers with_words words_from outgoing_put forward_of numbers.forward_row numbers.memory_put numbers_in refused_step enc_home phase_number requester line_of enc_line holders rules.load_ack_s fitting_home enc_step
  load_acked_S x (idle y) j = refl
  load_acked_S x (awaiting_load (task r reading) y) j = refl
  load_acked_S x (awaiting_load (task r (writing storing)) y) j = refl
  load_acked_S x (awaiting_owner d us o (request (task r reading))) j = shares_if d us o r x j.0 j.1 (eqb o t)
  load_acked_S x (awaiting_owner d us o (request (task r (writing storing)))) j = refl
  load_acked_S x (awaiting_owner d us o eviction) j = refl
  load_acked_S x (awaiting_acks d us m u (clear_for (task r storing))) j = refl
  load_acked_S x (awaiting_acks d us m u clear_for_eviction) j = refl
  load_acked_S x (awaiting_store y) j = refl

  -- a grant that makes an owner, and the line leaving, if the ack is the owner's
  owns_if : (h : Home) (us : Words) (d : Bool) (w : LineSource) (q : Access) (r : ℕ) (b : Bool)
      → move_applied (at h) us (cond b (Ok (moves.grant_owner (of h) (flag d) w (grant_number q) 0 r)) (Err Misfit))
      ≡ enc_step n (at h) (fitting_home (cond b (some (rules.grant d (words_from w (enc_line (line_of h)).words us) false (task r q))) none) l k mem out back)
  unfolding move_applied line_after_move with_numbers with_words words_from outgoing_put forward_of numbers.forward_row numbers.memory_put numbers_in refused_step enc_home fitting_home enc_step flag
  owns_if h us d w q r true = grant_owner_lem (at h) n l k mem out back us h (of h) d w q false r
  owns_if h us d w q r false = refl

  leaves_if : (h : Home) (us : Words) (d : Bool) (w : LineSource) (b : Bool)
      → move_applied (at h) us (cond b (moves.leave (of h) (flag d) w) (Err Misfit))
      ≡ enc_step n (at h) (fitting_home (cond b (some (rules.leave d (words_from w (enc_line (line_of h)).words us))) none) l k mem out back)
  unfolding move_applied line_after_move with_numbers with_words words_from outgoing_put forward_of numbers.forward_row numbers.memory_put numbers_in refused_step fitting_home enc_step
  leaves_if h us d w true = leaves n us h d w l k mem out back
  leaves_if h us d w false = refl

  load_acked_I : (h : Home) → move_applied (at h) zeros (moves.load_ack (of h) t 0 0) ≡ enc_step n (at h) (fitting_home (rules.load_ack_i t h) l k mem out back)
  unfolding move_applied line_after_move with_numbers with_words words_from outgoing_put forward_of numbers.forward_row numbers.memory_put numbers_in refused_step enc_home phase_number requester line_of enc_line holders state_number rules.load_ack_i fitting_home enc_step
  load_acked_I (idle y) = refl
  load_acked_I (awaiting_load (task r reading) y) = refl
  load_acked_I (awaiting_load (task r (writing storing)) y) = refl
  load_acked_I (awaiting_owner d us o (request (task r reading))) = owns_if (awaiting_owner d us o (request (task r reading))) zeros d Stay reading r (eqb o t)
  load_acked_I (awaiting_owner d us o (request (task r (writing storing)))) = refl
  load_acked_I (awaiting_owner d us o eviction) = refl
  load_acked_I (awaiting_acks d us m u (clear_for (task r storing))) = refl
  load_acked_I (awaiting_acks d us m u clear_for_eviction) = refl
  load_acked_I (awaiting_store y) = refl

  store_acked_lem : (x : Option Words) (h : Home) → move_applied (at h) (ack_data x) (moves.store_ack (of h) t (ack_flag x)) ≡ enc_step n (at h) (fitting_home (rules.store_ack t x h) l k mem out back)
  unfolding move_applied line_after_move with_numbers with_words words_from outgoing_put forward_of numbers.forward_row numbers.memory_put numbers_in ack_flag ack_data refused_step enc_home phase_number requester line_of enc_line holders state_number flag rules.store_ack rules.ack_dirty rules.ack_words fitting_home enc_step
  store_acked_lem x (idle y) = refl
  store_acked_lem x (awaiting_load (task r reading) y) = refl
  store_acked_lem x (awaiting_load (task r (writing storing)) y) = refl
  store_acked_lem x (awaiting_owner d us o (request (task r reading))) = refl
  store_acked_lem none (awaiting_owner d us o (request (task r (writing storing)))) = owns_if (awaiting_owner d us o (request (task r (writing storing)))) zeros d Stay (writing storing) r (eqb o t)
  store_acked_lem (some ws) (awaiting_owner d us o (request (task r (writing storing)))) = owns_if (awaiting_owner d us o (request (task r (writing storing)))) ws true OfMessage (writing storing) r (eqb o t)
  store_acked_lem none (awaiting_owner d us o eviction) = leaves_if (awaiting_owner d us o eviction) zeros d Stay (eqb o t)
  store_acked_lem (some ws) (awaiting_owner d us o eviction) = leaves_if (awaiting_owner d us o eviction) ws true OfMessage (eqb o t)
  store_acked_lem x (awaiting_acks d us m u (clear_for (task r storing))) = refl
  store_acked_lem x (awaiting_acks d us m u clear_for_eviction) = refl
  store_acked_lem x (awaiting_store y) = refl

  -- an invalidation's ack: of a tile that is owed (b), and the last of them (e)
  less : (d : Bool) (us : Words) (m u v : ℕ) (c : Clearing) (b e : Bool)
      → move_applied (at (awaiting_acks d us m u c)) zeros (cond b (cond e (moves.cleared (of (awaiting_acks d us m u c)))
      (Ok (moves.silent_move (moves.with_home (of (awaiting_acks d us m u c)) (phase_number (awaiting_acks d us m u c)) 1 (flag d) 1 m (requester (awaiting_acks d us m u c)) v) Stay))) (Err Misfit))
      ≡ enc_step n (at (awaiting_acks d us m u c)) (fitting_home (cond b (some (cond e (rules.cleared d us c) (move (awaiting_acks d us m v c) []))) none) l k mem out back)
  unfolding move_applied line_after_move with_numbers with_words words_from outgoing_put forward_of numbers.forward_row numbers.memory_put numbers_in refused_step enc_home phase_number requester owed_tiles line_of enc_line directory_number holders state_number flag enc_step fitting_home moved_home went_with put_memory_all kind_of sent_on targets forward_row rules.cleared
  less d us m u v (clear_for (task r storing)) true true = grant_owner_lem (at (awaiting_acks d us m u (clear_for (task r storing)))) n l k mem out back zeros (awaiting_acks d us m u (clear_for (task r storing))) (of (awaiting_acks d us m u (clear_for (task r storing)))) d Stay (writing storing) false r
  less d us m u v clear_for_eviction true true = leaves n zeros (awaiting_acks d us m u clear_for_eviction) d Stay l k mem out back
  less d us m u v (clear_for (task r storing)) true false = refl
  less d us m u v clear_for_eviction true false = refl
  less d us m u v c false e = refl

  inv_acked : (h : Home) → move_applied (at h) zeros (moves.inv_ack (of h) t) ≡ enc_step n (at h) (fitting_home (rules.inv_ack t h) l k mem out back)
  unfolding move_applied line_after_move with_numbers with_words words_from outgoing_put forward_of numbers.forward_row numbers.memory_put numbers_in refused_step enc_home phase_number requester owed_tiles line_of enc_line directory_number holders rules.inv_ack fitting_home enc_step
  inv_acked (idle y) = refl
  inv_acked (awaiting_load (task r reading) y) = refl
  inv_acked (awaiting_load (task r (writing storing)) y) = refl
  inv_acked (awaiting_owner d us o (request (task r reading))) = refl
  inv_acked (awaiting_owner d us o (request (task r (writing storing)))) = refl
  inv_acked (awaiting_owner d us o eviction) = refl
  inv_acked (awaiting_acks d us m u (clear_for (task r storing))) = less d us m u (del u t) (clear_for (task r storing)) (has u t) (eqb (del u t) 0)
  inv_acked (awaiting_acks d us m u clear_for_eviction) = less d us m u (del u t) clear_for_eviction (has u t) (eqb (del u t) 0)
  inv_acked (awaiting_store y) = refl

pub accept_is : (n t : ℕ) → n ≤ 64 → t < n → (o : Option Reply) (h : Home) → HomeIn n h → (l k : ℕ) (mem : Words) (out : Queue ToMemory) (back : Queue FromMemory)
    → numbers.reply_step (enc_home n h l k mem out back) t (enc_front enc_reply o) ≡ enc_step n (enc_home n h l k mem out back) (accepted_home t o h l k mem out back)
unfolding numbers.reply_step move_applied line_after_move with_numbers with_words words_from outgoing_put forward_of numbers.forward_row numbers.memory_put numbers_in moves.accept_reply refused_step enc_home enc_front enc_reply enc_step accepted_home ack_flag ack_data
accept_is n t s i none h j l k mem out back = refl
accept_is n t s i (some (wb_req ws)) h j l k mem out back = written n t s i l k mem out back ws (has k t) h
accept_is n t s i (some (load_fwd_ack_s none)) h j l k mem out back = load_acked_S n t s i l k mem out back none h j
accept_is n t s i (some (load_fwd_ack_s (some ws))) h j l k mem out back = load_acked_S n t s i l k mem out back (some ws) h j
accept_is n t s i (some load_fwd_ack_i) h j l k mem out back = load_acked_I n t s i l k mem out back h
accept_is n t s i (some (store_fwd_ack none)) h j l k mem out back = store_acked_lem n t s i l k mem out back none h
accept_is n t s i (some (store_fwd_ack (some ws))) h j l k mem out back = store_acked_lem n t s i l k mem out back (some ws) h
accept_is n t s i (some inv_fwd_ack) h j l k mem out back = inv_acked n t s i l k mem out back h

-- ---- Memory step
answers_is : (n : ℕ) (h : Home) (l k : ℕ) (mem us : Words) (out : Queue ToMemory) (back : Queue FromMemory) (m : FromMemory)
    → numbers.memory_answers (enc_home n h l k us out back) mem (enc_from_memory m)
    ≡ enc_step n (enc_home n h l k us out back) (moved_home (move h (from_memory m ∷ [])) l k mem (rest out) back)
unfolding numbers.memory_answers refused_step with_memory queues.push_row queues.pop_row enc_home enc_queue enc_to_memory enc_from_memory enc_step kind_of sent_on targets forward_row moved_home went_with put_memory_all put_memory_to put_memory push rest
answers_is n h l k mem us empty empty m = refl
answers_is n h l k mem us empty (one (load_mem_ack ws)) m = refl
answers_is n h l k mem us empty (one store_mem_ack) m = refl
answers_is n h l k mem us empty (two a (load_mem_ack ws)) m = refl
answers_is n h l k mem us empty (two a store_mem_ack) m = refl
answers_is n h l k mem us (one b) empty m = refl
answers_is n h l k mem us (one b) (one (load_mem_ack ws)) m = refl
answers_is n h l k mem us (one b) (one store_mem_ack) m = refl
answers_is n h l k mem us (one b) (two a (load_mem_ack ws)) m = refl
answers_is n h l k mem us (one b) (two a store_mem_ack) m = refl
answers_is n h l k mem us (two b load_mem) empty m = refl
answers_is n h l k mem us (two b (store_mem vs)) empty m = refl
answers_is n h l k mem us (two b load_mem) (one (load_mem_ack ws)) m = refl
answers_is n h l k mem us (two b (store_mem vs)) (one (load_mem_ack ws)) m = refl
answers_is n h l k mem us (two b load_mem) (one store_mem_ack) m = refl
answers_is n h l k mem us (two b (store_mem vs)) (one store_mem_ack) m = refl
answers_is n h l k mem us (two b load_mem) (two a (load_mem_ack ws)) m = refl
answers_is n h l k mem us (two b (store_mem vs)) (two a (load_mem_ack ws)) m = refl
answers_is n h l k mem us (two b load_mem) (two a store_mem_ack) m = refl
answers_is n h l k mem us (two b (store_mem vs)) (two a store_mem_ack) m = refl

pub step_is : (n : ℕ) (h : Home) (l k : ℕ) (mem : Words) (out : Queue ToMemory) (back : Queue FromMemory)
    → numbers.memory_step (enc_home n h l k mem out back) ≡ enc_step n (enc_home n h l k mem out back) (stepped_home h l k mem out back)
unfolding numbers.memory_step enc_home enc_queue enc_to_memory enc_from_memory enc_step stepped_home served_memory front rest
step_is n h l k mem empty back = refl
step_is n h l k mem (one load_mem) back = answers_is n h l k mem mem (one load_mem) back (load_mem_ack mem)
step_is n h l k mem (one (store_mem ws)) back = answers_is n h l k ws mem (one (store_mem ws)) back store_mem_ack
step_is n h l k mem (two load_mem b) back = answers_is n h l k mem mem (two load_mem b) back (load_mem_ack mem)
step_is n h l k mem (two (store_mem ws) b) back = answers_is n h l k ws mem (two (store_mem ws) b) back store_mem_ack

-- ---- Memory ack
acked_block : (n : ℕ) (h : Home) (l k : ℕ) (mem : Words) (out : Queue ToMemory) (back : Queue FromMemory)
    → numbers.without_ack (enc_home n h l k mem out back) ≡ enc_home n h l k mem out (rest back)
unfolding numbers.without_ack queues.pop_row enc_home enc_queue enc_from_memory rest
acked_block n h l k mem out empty = refl
acked_block n h l k mem out (one a) = refl
acked_block n h l k mem out (two a (load_mem_ack ws)) = refl
acked_block n h l k mem out (two a store_mem_ack) = refl

module _ (n l k : ℕ) (mem : Words) (out : Queue ToMemory) (back : Queue FromMemory) where
  abbrev left : Home → HomeBlock
  left h = enc_home n h l k mem out back

  fills : (ws : Words) (h : Home) → move_applied (left h) ws (moves.load_acked (numbers_in (left h))) ≡ enc_step n (left h) (fitting_home (rules.acknowledged (load_mem_ack ws) h) l k mem out back)
  unfolding move_applied line_after_move with_numbers with_words words_from outgoing_put forward_of numbers.forward_row numbers.memory_put numbers_in refused_step enc_home phase_number requester state_number flag fitting_home enc_step rules.acknowledged
  fills ws (idle x) = refl
  fills ws (awaiting_load (task r reading) x) = grant_owner_lem (left (awaiting_load (task r reading) x)) n l k mem out back ws (awaiting_load (task r reading) x) (numbers_in (left (awaiting_load (task r reading) x))) false OfMessage reading true r
  fills ws (awaiting_load (task r (writing storing)) x) = grant_owner_lem (left (awaiting_load (task r (writing storing)) x)) n l k mem out back ws (awaiting_load (task r (writing storing)) x) (numbers_in (left (awaiting_load (task r (writing storing)) x))) false OfMessage (writing storing) true r
  fills ws (awaiting_owner d us o (request (task r reading))) = refl
  fills ws (awaiting_owner d us o (request (task r (writing storing)))) = refl
  fills ws (awaiting_owner d us o eviction) = refl
  fills ws (awaiting_acks d us m u (clear_for (task r storing))) = refl
  fills ws (awaiting_acks d us m u clear_for_eviction) = refl
  fills ws (awaiting_store x) = refl

  drops : (h : Home) → move_applied (left h) zeros (moves.store_acked (numbers_in (left h))) ≡ enc_step n (left h) (fitting_home (rules.acknowledged store_mem_ack h) l k mem out back)
  unfolding move_applied line_after_move with_numbers with_words words_from outgoing_put forward_of numbers.forward_row numbers.memory_put numbers_in refused_step enc_home phase_number requester owed_tiles line_of enc_line fitting_home moved_home went_with put_memory_all kind_of sent_on targets forward_row enc_step rules.acknowledged
  drops (idle x) = refl
  drops (awaiting_load (task r reading) x) = refl
  drops (awaiting_load (task r (writing storing)) x) = refl
  drops (awaiting_owner d us o (request (task r reading))) = refl
  drops (awaiting_owner d us o (request (task r (writing storing)))) = refl
  drops (awaiting_owner d us o eviction) = refl
  drops (awaiting_acks d us m u (clear_for (task r storing))) = refl
  drops (awaiting_acks d us m u clear_for_eviction) = refl
  drops (awaiting_store x) = refl

pub ack_is : (n : ℕ) (h : Home) (l k : ℕ) (mem : Words) (out : Queue ToMemory) (back : Queue FromMemory)
    → numbers.memory_ack_step (enc_home n h l k mem out back) ≡ enc_step n (enc_home n h l k mem out (rest back)) (acked_home h l k mem out back)
unfolding numbers.memory_ack_step numbers.without_ack queues.pop_row move_applied line_after_move with_numbers with_words words_from outgoing_put forward_of numbers.forward_row numbers.memory_put numbers_in moves.memory_ack refused_step enc_home enc_queue enc_from_memory enc_step acked_home acked_front front rest
ack_is n h l k mem out empty = refl
ack_is n h l k mem out (one (load_mem_ack ws)) = fills n l k mem out empty ws h
ack_is n h l k mem out (one store_mem_ack) = drops n l k mem out empty h
ack_is n h l k mem out (two (load_mem_ack ws) (load_mem_ack vs)) = fills n l k mem out (one (load_mem_ack vs)) ws h
ack_is n h l k mem out (two (load_mem_ack ws) store_mem_ack) = fills n l k mem out (one store_mem_ack) ws h
ack_is n h l k mem out (two store_mem_ack (load_mem_ack vs)) = drops n l k mem out (one (load_mem_ack vs)) h
ack_is n h l k mem out (two store_mem_ack store_mem_ack) = drops n l k mem out (one store_mem_ack) h

-- ---- Home eviction
module _ (n : ℕ) (s : n ≤ 64) (l k : ℕ) (mem : Words) (out : Queue ToMemory) (back : Queue FromMemory) where
  abbrev here : Home → HomeBlock
  here h = enc_home n h l k mem out back

  evicts_shared : (d : Bool) (ws : Words) (m : ℕ) → m < 2 ^ n → (b : Bool) → eqb m 0 ≡ b
      → move_applied (here (idle (present d ws (shared_by m)))) zeros (cond b (moves.leave (numbers_in (here (idle (present d ws (shared_by m))))) (flag d) Stay) (Ok (moves.invalidate (numbers_in (here (idle (present d ws (shared_by m))))) m m 7 0)))
      ≡ enc_step n (here (idle (present d ws (shared_by m)))) (moved_home (cond b (rules.leave d ws) (rules.invalidate n d ws m m clear_for_eviction)) l k mem out back)
  unfolding numbers_in words_from enc_home line_of enc_line phase_number requester
  evicts_shared d ws m i true e = leaves n zeros (idle (present d ws (shared_by m))) d Stay l k mem out back
  evicts_shared d ws m i false e =
      clear_sharers (here (idle (present d ws (shared_by m)))) n l k mem out back zeros (idle (present d ws (shared_by m))) (numbers_in (here (idle (present d ws (shared_by m))))) s d m m clear_for_eviction (pos n zeros m (eqb-false m 0 e)) i

  pub evict_is : (h : Home) → HomeIn n h → numbers.eviction_step (here h) ≡ enc_step n (here h) (evicted_home n h l k mem out back)
  unfolding numbers.eviction_step move_applied line_after_move with_numbers with_words words_from outgoing_put forward_of numbers.forward_row numbers.memory_put numbers_in moves.evict_line refused_step enc_home phase_number requester line_of enc_line directory_number holders enc_forward enc_step evicted_home rules.evict_line rules.asked_for
  evict_is (idle absent) i = refl
  evict_is (idle (present d ws uncached)) i = leaves n zeros (idle (present d ws uncached)) d Stay l k mem out back
  evict_is (idle (present d ws (shared_by m))) i = evicts_shared d ws m i (eqb m 0) refl
  evict_is (idle (present d ws (owned_by o))) i =
      ask_owner_lem (here (idle (present d ws (owned_by o)))) n l k mem out back zeros (idle (present d ws (owned_by o))) (numbers_in (here (idle (present d ws (owned_by o))))) d o eviction
  evict_is (awaiting_load (task r reading) x) i = refl
  evict_is (awaiting_load (task r (writing storing)) x) i = refl
  evict_is (awaiting_owner d ws o (request (task r reading))) i = refl
  evict_is (awaiting_owner d ws o (request (task r (writing storing)))) i = refl
  evict_is (awaiting_owner d ws o eviction) i = refl
  evict_is (awaiting_acks d ws m u (clear_for (task r storing))) i = refl
  evict_is (awaiting_acks d ws m u clear_for_eviction) i = refl
  evict_is (awaiting_store x) i = refl
