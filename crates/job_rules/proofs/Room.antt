-- A call's lines are at most 12,180 bytes: its own, of four numbers, and at most 64 messages of at most eleven flits. Assumes nothing.
use Prim.Native.Nat.{ℕ, suc, ◌+◌, ◌*◌, ◌≤◌}
use mathlib.Core.Path.{◌≡◌, refl, ap, sym}
use mathlib.Core.Bool.{Bool, true, false, cond}
use mathlib.Core.List.{List, [], ◌∷◌}
use native.Mathlib.Omega.{arith}
use borrow.Author.Tests.{eqb-true, le-leb}
use lib.Dec.{eqb, leb}
use lib.ListN.{length, length-append}
use Rattle.lists.specs.Over.{buffer_after, place_after, Placed, Put}
use Rattle.lists.proofs.OverLaws.{over_nil, placed_put, placed_length, join}
use Rattle.protocol.specs.Home.{members}
use Rattle.coherence.proofs.Falls.{members_length}
use Rattle.protocol.specs.declared.Answer.{Answer}
use Rattle.layout.specs.declared.queues.BenchQueue.{BenchQueue}
use Rattle.messages.specs.Queues.{queue_of_each, noc3_then_noc1, sent_queues}
use Rattle.messages.specs.declared.Sent.{Sent}
use Rattle.messages.specs.Rows.{sent_at}
use Rattle.message_flits.specs.Fields.{message_fields, message_data}
use Rattle.flits.specs.Writing.{write_refusal, flits_of}
use Rattle.listing.specs.Lines.{call_line}
use Rattle.listing.proofs.DigitLaws.{decimal_le}
use Rattle.listing.proofs.LineLaws.{call_length, message_length}
use Rattle.job_rules.specs.Buffers.{buffers_after, places_after}
use Rattle.job_rules.specs.AnswerLines.{sent_flits, sent_line, sent_lines, answer_lines}
use Rattle.job_rules.specs.Room.{bytes_of, most_call_bytes, FittedStatement, RoomStatement}
use Rattle.flits.proofs.Laws.{flits_length}
use Rattle.job_rules.proofs.Buffers.{fits}

-- ---- lines that fit

one : (l : List ℕ) (i : ℕ) (v : List ℕ) → Placed l (buffer_after l i v) i (place_after l i v) v
one l i v = record { place = refl; buffer = refl }

before : (l : List ℕ) (i : ℕ) (v : List ℕ) → place_after l i v ≤ length l → i ≤ length l
before l i v h = let p = placed_put l (buffer_after l i v) i (place_after l i v) v (one l i v) h in omega (arith, p.place)

-- a last place within the buffer means that each place is
inside : (l : List ℕ) (i : ℕ) (vs : List (List ℕ)) → places_after l i vs ≤ length l → i ≤ length l
unfolding places_after
inside l i [] h = h
inside l i (v ∷ vs) h =
    let n : length (buffer_after l i v) ≡ length l = placed_length l (buffer_after l i v) i (place_after l i v) v (one l i v) in
    before l i v (rw n at (inside (buffer_after l i v) (place_after l i v) vs (rw n h)))

fitted_at : (vs : List (List ℕ)) (l : List ℕ) (i : ℕ) → places_after l i vs ≤ length l → Put l (buffers_after l i vs) i (places_after l i vs) (bytes_of vs)
unfolding places_after buffers_after bytes_of
fitted_at [] l i h = record { place = omega arith; buffer = sym (over_nil l i) }
fitted_at (v ∷ vs) l i h =
    let n : length (buffer_after l i v) ≡ length l = placed_length l (buffer_after l i v) i (place_after l i v) v (one l i v) in
    let k : place_after l i v ≤ length l = rw n at (inside (buffer_after l i v) (place_after l i v) vs (rw n h)) in
    join l (buffer_after l i v) (buffers_after (buffer_after l i v) (place_after l i v) vs) i (place_after l i v) (places_after (buffer_after l i v) (place_after l i v) vs) v (bytes_of vs) (before l i v k)
    (placed_put l (buffer_after l i v) i (place_after l i v) v (one l i v) k)
    (fitted_at vs (buffer_after l i v) (place_after l i v) (rw n h))

pub fitted : FittedStatement
fitted l n i k vs p h = rw (p.place, p.buffer) (fitted_at vs l i (rw p.place at h))

-- ---- how long a call's lines are

call_le : (n r k v : ℕ) → length (call_line n r k v) ≤ 84
call_le n r k v = omega (arith, call_length n r k v _ _ _ _ refl refl refl refl, decimal_le 20 n, decimal_le 20 r, decimal_le 20 k, decimal_le 20 v)

flits_le : (line : ℕ) (m : Sent) → length (sent_flits line m) ≤ 11
unfolding sent_flits
flits_le line m = go (eqb (write_refusal (message_fields line m.queue m.tile m.row) (length (message_data m.row)) 11 0) 0) refl
  where
    go : (t : Bool) → eqb (write_refusal (message_fields line m.queue m.tile m.row) (length (message_data m.row)) 11 0) 0 ≡ t
        → length (cond t (flits_of (message_fields line m.queue m.tile m.row) (message_data m.row)) []) ≤ 11
    go true e = omega (arith, fits (message_fields line m.queue m.tile m.row) (message_data m.row) 11 (eqb-true _ _ e), flits_length (message_fields line m.queue m.tile m.row) (message_data m.row))
    go false e = omega arith

line_le : (line : ℕ) (m : Sent) → length (sent_line line m) ≤ 189
line_le line m = omega (arith, message_length (sent_flits line m), flits_le line m)

lines_le : (line : ℕ) (l : List ℕ) (ps : List BenchQueue) → length (bytes_of (sent_lines line l ps)) ≤ length ps * 189
unfolding sent_lines bytes_of
lines_le line l [] = omega arith
lines_le line l (p ∷ ps) = omega (arith, length-append (sent_line line (sent_at l p)) (bytes_of (sent_lines line l ps)), line_le line (sent_at l p), lines_le line l ps)

each_length : (q : ℕ) (ts : List ℕ) → length (queue_of_each q ts) ≡ length ts
unfolding queue_of_each
each_length q [] = refl
each_length q (t ∷ ts) = ap suc (each_length q ts)

both_le : (ts : List ℕ) → length (noc3_then_noc1 ts) ≤ 64
unfolding noc3_then_noc1
both_le [] = omega arith
both_le (t ∷ ts) = omega arith

places_if : (b : Bool) (x y : List BenchQueue) → length x ≤ 64 → length y ≤ 64 → length (cond b x y) ≤ 64
places_if true x y h k = h
places_if false x y h k = k

places_le : (s m : ℕ) → length (sent_queues s m) ≤ 64
unfolding sent_queues
places_le s m =
    places_if (eqb s 0) _ _ (omega arith)
    (places_if (leb s 3) _ _ (omega (arith, each_length s (members m 64), members_length m 64))
    (places_if (leb s 5) _ _ (omega arith) (places_if (eqb s 6) _ _ (both_le (members m 64)) (omega arith))))

pub answer_le : (line n : ℕ) (a : Answer) (l : List ℕ) → length (bytes_of (answer_lines line n a l)) ≤ most_call_bytes
unfolding answer_lines bytes_of
answer_le line n a l =
    omega (arith, length-append (call_line n a.refusal a.kind a.value) (bytes_of (sent_lines line l (sent_queues a.sent a.tiles))), call_le n a.refusal a.kind a.value, lines_le line l (sent_queues a.sent a.tiles), places_le a.sent a.tiles)

placed_at : (l : List ℕ) (i : ℕ) (v : List ℕ) → i + length v ≤ length l → place_after l i v ≡ i + length v
unfolding place_after
placed_at l i v h = rw (le-leb (i + length v) (length l) h)

-- lines for which there is room end within the buffer
ends : (vs : List (List ℕ)) (l : List ℕ) (i : ℕ) → i + length (bytes_of vs) ≤ length l → places_after l i vs ≤ length l
unfolding places_after bytes_of
ends [] l i h = omega arith
ends (v ∷ vs) l i h =
    let n : length (buffer_after l i v) ≡ length l = placed_length l (buffer_after l i v) i (place_after l i v) v (record { place = refl; buffer = refl }) in
    let s = length-append v (bytes_of vs) in
    let p : place_after l i v ≡ i + length v = placed_at l i v (omega arith) in
    rw n at (ends vs (buffer_after l i v) (place_after l i v) (rw n (rw p (omega arith))))

pub room : RoomStatement
room line n a w b b' i k p h = fitted b b' i k (answer_lines line n a w) p (rw p.place (ends (answer_lines line n a w) b i (omega (arith, answer_le line n a w))))
