use Prim.Native.Nat.{ℕ}
use mathlib.Core.Path.{ap, ◌∙◌}
use lib.Bits.{bit_or}
use lib.Dec.{eqb}
use lib.ListN.{drop, take}
use borrow.Author.Rules.{rules}
use borrow.Author.Tests.{tests}
use Rattle.std.proofs.lemmas.Iterator.{YieldsList-from_slice}
use Rattle.std.proofs.lemmas.Iterator.Consumers.{fold_from_yields_List}
use Rattle.well_formed.proofs.RowLaws.{or_data}
use Rattle.well_formed.proofs.rows.or_data.Goals as goal

pub returns : goal.returns
returns c =
    ap (λ (r : ℕ). eqb r 0) (fold_from_yields_List _ bit_or 0 c.fold.result c.fold.ensures.ran (YieldsList-from_slice (take 8 (drop 4 c.args.row.now)) c.iter.ensures.rest) (λ a x b q k. search (rules, tests)))
    ∙ or_data c.args.row.now (search rules)
