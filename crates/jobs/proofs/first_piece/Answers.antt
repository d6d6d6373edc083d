use native.Mathlib.Omega.{arith}
use Rattle.numbers.specs.Refusals.{refusal_number}
use Rattle.jobs.proofs.PieceLaws.{refused_le, first_short, first_accepted, first_refused}
use Rattle.jobs.proofs.first_piece.Goals as goal

pub returns-then-buffer-lt-MOST_CALL_BYTES : goal.returns-then-buffer-lt-MOST_CALL_BYTES
returns-then-buffer-lt-MOST_CALL_BYTES c = first_short _ _ _ _ c.if-buffer-lt-MOST_CALL_BYTES.true c.end.ensures

pub refused-requires : goal.refused-requires
refused-requires c = omega (arith, refused_le (refusal_number c.in-Err.fault.refusal) c.in-Err.fault.offset)

pub returns-in-Ok : goal.returns-in-Ok
returns-in-Ok c = first_accepted _ _ _ _ _ _ c.if-buffer-lt-MOST_CALL_BYTES.false c.in-Ok.ensures c.accepted_piece.ensures

pub returns-in-Err : goal.returns-in-Err
returns-in-Err c = first_refused _ _ _ _ _ _ c.if-buffer-lt-MOST_CALL_BYTES.false c.in-Err.ensures c.refused.ensures
