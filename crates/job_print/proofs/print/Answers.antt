use Rattle.std.proofs.Common.{sym, ◌∙◌}
use Rattle.job_rules.proofs.Pieces.{next_less, stands_first, stands_more, stands_last}
use Rattle.job_print.proofs.print.Goals as goal

pub loop-run-init : goal.loop-run-init
loop-run-init g c = stands_first _ _ _ _ _ c.first_piece-run.ensures.says c.first_piece-run.ensures.leaves

-- a piece less is left, and the loop stands behind it
pub loop-run-smaller : goal.loop-run-smaller
loop-run-smaller g c = next_less _ _ _ _ _ (sym c.is_some.ensures ∙ c.loop-run-test.true) c.next_piece-run.ensures.says

pub loop-run-preserved : goal.loop-run-preserved
loop-run-preserved g c =
    stands_more _ _ _ _ _ _ _ _ (c.loop-run.auto.buffer ∙ c.first_piece-run.auto.buffer) c.loop-run.invariant (sym c.is_some.ensures ∙ c.loop-run-test.true) c.next_piece-run.ensures.says c.next_piece-run.ensures.leaves

pub returns : goal.returns
returns g c = stands_last _ _ _ _ _ c.loop-run.invariant (sym c.is_some.ensures ∙ c.loop-run-test.false)
