-- Lines one after the other. Assumes nothing.
use Prim.Native.Nat.{ℕ, ◌+◌, ◌≤◌, ◌<◌}
use mathlib.Core.Path.{◌≡◌, refl, ap, ◌∙◌}
use mathlib.Core.Bool.{Bool, true, false, cond}
use mathlib.Core.List.{List, [], ◌∷◌, ◌++◌}
use native.Mathlib.Numerals.{add-one}
use native.Mathlib.Omega.{arith}
use Rattle.std.specs.Prelude.{Result, Ok, Err}
use Rattle.std.specs.Result.{result_unwrap_or}
use Rattle.numbers.specs.declared.refusals.Refusal.{Refusal}
use borrow.Author.Tests.{eqb-true}
use lib.Dec.{eqb}
use lib.ListN.{length, get_or, take, drop}
use lib.Seq.{drop-cons, take_at, drop-length}
use Rattle.lists.specs.Over.{over, Placed}
use Rattle.layout.specs.declared.queues.BenchQueue.{BenchQueue}
use Rattle.messages.specs.Queues.{no_queue}
use Rattle.messages.specs.declared.Sent.{Sent}
use Rattle.messages.specs.Rows.{sent_at}
use Rattle.flits.specs.Words.{Header}
use Rattle.flits.specs.Table.{row_of, header_extra}
use Rattle.flits.specs.Writing.{write_refusal, flits_of, told_written, written_of, buffer_of, WriteAnswer}
use Rattle.message_flits.specs.Fields.{message_fields, message_data}
use Rattle.flits.proofs.Laws.{flits_length, write_fits}
use Rattle.job_rules.specs.Buffers.{buffers_after, places_after, AllPlaced}
use Rattle.job_rules.specs.AnswerLines.{sent_flits, sent_line, sent_lines}

-- a line, then lines
pub placed_cons : (l m n : List ℕ) (i j k : ℕ) (v : List ℕ) (vs : List (List ℕ)) → Placed l m i j v → AllPlaced m n j k vs → AllPlaced l n i k (v ∷ vs)
unfolding buffers_after places_after
placed_cons l m n i j k v vs p q = record { place = rw (← p.buffer, ← p.place) q.place; buffer = rw (← p.buffer, ← p.place) q.buffer }

-- the lines from the i-th message on, put where the loop stands, end where all of them end
pub record Rest (line : ℕ) (l : List ℕ) (ps : List BenchQueue) (before : List ℕ) (at : ℕ) (b : List ℕ) (p i : ℕ) : Type 0 where
  pub place : places_after b p (sent_lines line l (drop i ps)) ≡ places_after before at (sent_lines line l ps)
  pub buffer : buffers_after b p (sent_lines line l (drop i ps)) ≡ buffers_after before at (sent_lines line l ps)

pub rest_step : (line : ℕ) (l : List ℕ) (ps : List BenchQueue) (before : List ℕ) (at : ℕ) (b b' : List ℕ) (p p' i : ℕ) → i < length ps
    → Rest line l ps before at b p i → Placed b b' p p' (sent_line line (sent_at l (get_or ps i no_queue))) → Rest line l ps before at b' p' (i + 1)
unfolding buffers_after places_after sent_lines
rest_step line l ps before at b b' p p' i h r q =
    record {
      place = rw (add-one, q.place, q.buffer) (rw (drop-cons ps i no_queue h) at r.place);
      buffer = rw (add-one, q.place, q.buffer) (rw (drop-cons ps i no_queue h) at r.buffer);
    }

pub rest_done : (line : ℕ) (l : List ℕ) (ps : List BenchQueue) (before : List ℕ) (at : ℕ) (b : List ℕ) (p i : ℕ) → i ≡ length ps
    → Rest line l ps before at b p i → AllPlaced before b at p (sent_lines line l ps)
unfolding buffers_after places_after sent_lines
rest_done line l ps before at b p i e r =
    record { place = rw (e, drop-length ps) at r.place; buffer = rw (e, drop-length ps) at r.buffer }

-- ---- the flits of a message in a buffer of eleven

module _ (h : Header) (ws : List ℕ) where
  abbrev n : ℕ
  n = header_extra (row_of h.opcode) + length ws + 1

  pub fits : (len : ℕ) → write_refusal h (length ws) len 0 ≡ 0 → n ≤ len
  fits len e = omega (arith, write_fits h (length ws) len 0 e)

module _ (h : Header) (ws b : List ℕ) (eleven : length b ≡ 11) where
  pub written_le : (written_of h (length ws) (length b) 0).flits ≤ 11
  unfolding written_of
  written_le = go (eqb (write_refusal h (length ws) (length b) 0) 0) refl
    where
      go : (t : Bool) → eqb (write_refusal h (length ws) (length b) 0) 0 ≡ t → cond t (n h ws) 0 ≤ 11
      go true e = let f = fits h ws (length b) (eqb-true _ _ e) in omega arith
      go false e = omega arith

  pub written_take : take (written_of h (length ws) (length b) 0).flits (buffer_of h ws b 0) ≡ cond (eqb (write_refusal h (length ws) 11 0) 0) (flits_of h ws) []
  unfolding written_of buffer_of over
  written_take = rw eleven (go (eqb (write_refusal h (length ws) 11 0) 0))
    where
      go : (t : Bool) → take (cond t (n h ws) 0) (cond t (take 0 b ++ (flits_of h ws ++ drop (0 + length (flits_of h ws)) b)) b) ≡ cond t (flits_of h ws) []
      go true = rw (← flits_length h ws) (take_at (flits_of h ws) _ (length (flits_of h ws)) refl)
      go false = refl

module _ (line : ℕ) (m : Sent) (b after : List ℕ) (r : Result ℕ Refusal) (n : ℕ) (eleven : length b ≡ 11) (count : n ≡ result_unwrap_or r 0) (done : (told_written r ≡ written_of (message_fields line m.queue m.tile m.row) (length (message_data m.row)) (length b) 0) × (after ≡ buffer_of (message_fields line m.queue m.tile m.row) (message_data m.row) b 0)) where
  count_is : n ≡ (written_of (message_fields line m.queue m.tile m.row) (length (message_data m.row)) (length b) 0).flits
  count_is = count ∙ go r ∙ ap (λ (x : WriteAnswer). x.flits) done.0
    where
      go : (r : Result ℕ Refusal) → result_unwrap_or r 0 ≡ (told_written r).flits
      go (Ok n) = refl
      go (Err r) = refl

  pub sent_le : n ≤ 11
  sent_le = omega (arith, count_is, written_le (message_fields line m.queue m.tile m.row) (message_data m.row) b eleven)

  pub sent_take : take n after ≡ sent_flits line m
  unfolding sent_flits
  sent_take = rw (count_is, done.1) (written_take (message_fields line m.queue m.tile m.row) (message_data m.row) b eleven)
