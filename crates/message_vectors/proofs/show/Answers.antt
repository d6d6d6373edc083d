-- A message that was written at the front of a buffer ends within it.
use Rattle.std.proofs.Common.{◌≡◌, ℕ, ◌+◌, ◌≤◌, ◌∙◌, sym, ap, arith, cond, eqb, Ok, length-take-le}
use Rattle.flit_rules.specs.declared.Header.{Header}
use Rattle.flit_rules.specs.Table.{row_of, header_extra}
use Rattle.flit_rules.specs.Writing.{WriteAnswer, write_refusal, written_of, told_written}
use Rattle.flit_rules.proofs.WriteLaws.{write_fits}
use Rattle.message_vectors.proofs.show.Goals as goal

within : (h : Header) (count room at n : ℕ) → told_written (Ok n) ≡ written_of h count room at → at + n ≤ room
unfolding written_of
within h count room at n e =
    let taken : write_refusal h count room at ≡ 0 = sym (ap (λ (a : WriteAnswer). a.refusal) e) in
    let flits = header_extra (row_of h.opcode) + count + 1 in
    let whole : n ≡ flits = ap (λ (a : WriteAnswer). a.flits) e ∙ ap (λ r. cond (eqb r 0) flits 0) taken in
    omega (arith, whole, write_fits h count room at taken)

pub slice_bounds-buffer-end : goal.slice_bounds-buffer-end
slice_bounds-buffer-end g c = omega (arith, within _ _ _ _ _ c.in-Ok.ensures.0, c.write_message.auto.buffer)

pub slice_bounds-writeln-end : goal.slice_bounds-writeln-end
slice_bounds-writeln-end g c =
    sym (length-take-le c.in-Ok.flits c.write_message.new.buffer (omega (arith, within _ _ _ _ _ c.in-Ok.ensures.0, c.write_message.auto.buffer)))
