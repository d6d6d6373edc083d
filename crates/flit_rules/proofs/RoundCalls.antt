-- The round trips carried to what the calls answer and leave. Assumes nothing.
use mathlib.Core.Path.{◌≡◌, sym, ap, ◌∙◌}
use mathlib.Core.Bool.{cond}
use mathlib.Core.List.{List, ◌++◌}
use Prim.Native.Nat.{ℕ, ◌+◌, ◌≤◌, ◌<◌, ◌^◌}
use native.Mathlib.Omega.{arith}
use lib.Dec.{eqb}
use lib.ListN.{length, get_or, drop}
use borrow.Author.Tests.{eq-eqb}
use Rattle.lists.specs.Over.{over}
use Rattle.lists.proofs.OverLaws.{at_place}
use Rattle.flit_rules.specs.declared.Header.{Header}
use Rattle.flit_rules.specs.Words.{header_of_flits}
use Rattle.flit_rules.specs.Table.{row_of, header_extra}
use Rattle.flit_rules.specs.Reading.{ReadAnswer, read_refusal, read_accepted, read_of, data_of}
use Rattle.flit_rules.specs.Writing.{WriteAnswer, write_refusal, flits_of, written_of, buffer_of}
use Rattle.flit_rules.specs.RoundTrips.{copy_refusal, copied_of, copy_buffer, echo_of}
use Rattle.flit_rules.proofs.ReadLaws.{read_accepted_lem, refusal_of, data_length}
use Rattle.flit_rules.proofs.WriteLaws.{write_fits}
use Rattle.flit_rules.proofs.RoundTrips.{read_write, rewrite, write_read, write_data}

-- ---- read, then written

module _ (s b : List ℕ) (at : ℕ) where
  copy_refusal_lem : read_refusal s ≡ 0 → write_refusal (read_of s).header (length (data_of s)) (length b) at ≡ copy_refusal s (length b) at
  unfolding copy_refusal
  copy_refusal_lem z = rw (eq-eqb (read_refusal s) 0 z) (rewrite s z (length b) at)

  flits_copied : read_refusal s ≡ 0 → header_extra (row_of (read_of s).header.opcode) + length (data_of s) + 1 ≡ (read_of s).used
  unfolding header_of_flits
  flits_copied z = rw (read_accepted_lem s z) (ap (λ (k : ℕ). k + 1) (data_length s z))

  written_copied : read_refusal s ≡ 0 → written_of (read_of s).header (length (data_of s)) (length b) at ≡ copied_of s (length b) at
  unfolding written_of copied_of
  written_copied z = λ i. record { refusal = copy_refusal_lem z i; flits = cond (eqb (copy_refusal_lem z i) 0) (flits_copied z i) 0 }

  buffer_copied : ((k : ℕ) → get_or s k 0 < 2 ^ 64) → read_refusal s ≡ 0 → buffer_of (read_of s).header (data_of s) b at ≡ copy_buffer s b at
  unfolding buffer_of copy_buffer
  buffer_copied word z = λ i. cond (eqb (copy_refusal_lem z i) 0) (over b at (read_write s z word i)) b

  pub copy_done : (word : (k : ℕ) → get_or s k 0 < 2 ^ 64) {r : ReadAnswer} {ws b' : List ℕ} {w : WriteAnswer} → r ≡ read_of s → r.refusal ≡ 0 → ws ≡ data_of s
      → (w ≡ written_of r.header (length ws) (length b) at) × (b' ≡ buffer_of r.header ws b at)
      → (w ≡ copied_of s (length b) at) × (b' ≡ copy_buffer s b at)
  copy_done word e z d done =
      let q : read_refusal s ≡ 0 = sym (refusal_of s) ∙ sym (ap (λ (x : ReadAnswer). x.refusal) e) ∙ z in (
        done.0 ∙ (λ i. written_of (e i).header (length (d i)) (length b) at) ∙ written_copied q,
        done.1 ∙ (λ i. buffer_of (e i).header (d i) b at) ∙ buffer_copied word q,
      )

-- ---- written, then read

module _ (h : Header) (ws b : List ℕ) (at : ℕ) (zero : write_refusal h (length ws) (length b) at ≡ 0) where
  inside : at ≤ length b
  inside = omega (arith, write_fits h (length ws) (length b) at zero)

  there : drop at (buffer_of h ws b at) ≡ flits_of h ws ++ drop (at + length (flits_of h ws)) b
  unfolding buffer_of
  there = rw (eq-eqb (write_refusal h (length ws) (length b) at) 0 zero) (at_place b at (flits_of h ws) inside)

  -- a message that was written into a buffer is read from its place
  pub read_back : read_of (drop at (buffer_of h ws b at)) ≡ read_accepted h (header_extra (row_of h.opcode) + length ws + 1) (header_extra (row_of h.opcode) + 1)
  read_back = ap read_of there ∙ write_read h ws (drop (at + length (flits_of h ws)) b) (length b) at zero

  pub data_back : data_of (drop at (buffer_of h ws b at)) ≡ ws
  data_back = ap data_of there ∙ write_data h ws (drop (at + length (flits_of h ws)) b) (length b) at zero

module _ (h : Header) (ws b : List ℕ) (at : ℕ) {w : WriteAnswer} {b' : List ℕ} (done : (w ≡ written_of h (length ws) (length b) at) × (b' ≡ buffer_of h ws b at)) where
  number : w.refusal ≡ write_refusal h (length ws) (length b) at
  unfolding written_of
  number = ap (λ (x : WriteAnswer). x.refusal) done.0

  pub echo_done : {r : ReadAnswer} → w.refusal ≡ 0 → r ≡ read_of (drop at b') → r ≡ echo_of h (length ws) (length b) at
  unfolding echo_of
  echo_done z e =
      let q : write_refusal h (length ws) (length b) at ≡ 0 = sym number ∙ z in
      rw (eq-eqb (write_refusal h (length ws) (length b) at) 0 q)
      (e ∙ ap (λ (x : List ℕ). read_of (drop at x)) done.1 ∙ read_back h ws b at q)
