use mathlib.Core.Path.{sym, ◌∙◌}
use native.Mathlib.Omega.{arith}
use Rattle.jobs.proofs.PieceLaws.{next_short, next_ended, next_turns, resumed_fewer}
use Rattle.jobs.proofs.next_piece.Goals as goal

pub returns-then-buffer-lt-MOST_CALL_BYTES : goal.returns-then-buffer-lt-MOST_CALL_BYTES
returns-then-buffer-lt-MOST_CALL_BYTES c = next_short _ _ _ _ _ c.if-buffer-lt-MOST_CALL_BYTES.true c.end.ensures

pub returns-in_default : goal.returns-in_default
returns-in_default c = next_ended _ _ _ _ _ c.if-buffer-lt-MOST_CALL_BYTES.false (sym c.resume.ensures ∙ c.in_default.is) c.end-in_default.ensures

pub call_after_call-requires : goal.call_after_call-requires
call_after_call-requires c = (omega arith, resumed_fewer c.args.run c.in-Some.rest (sym c.resume.ensures ∙ c.in-Some.is), omega arith)

pub returns : goal.returns
returns c = next_turns _ _ _ _ _ _ _ _ c.if-buffer-lt-MOST_CALL_BYTES.false (sym c.resume.ensures ∙ c.in-Some.is) c.call_after_call.ensures
