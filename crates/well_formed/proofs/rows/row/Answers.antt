use Prim.Native.Nat.{◌+◌, ◌-◌}
use mathlib.Core.Path.{◌≡◌, ap, ◌∙◌}
use native.Mathlib.Omega.{arith}
use lib.ListN.{length, take, drop, length-drop}
use lib.Seq.{length-take-le}
use Rattle.well_formed.proofs.RowLaws.{row_there, row_only}
use Rattle.well_formed.proofs.rows.row.Goals as goal

pub returns : goal.returns
returns c =
    let at = c.args.at in
    let rest = drop at c.args.words.now in
    let n : at + 12 - at ≡ 12 = omega arith in
    let twelve = length-take-le 12 rest (simp length-drop (omega arith)) in
    row_there _ _ _ (row_only _ _ (ap (λ k. length (take k rest)) n ∙ twelve) c.as_chunks.ensures.front ∙ ap (λ k. take k rest) n)
