use mathlib.Core.Path.{refl, ◌∙◌}
use native.Mathlib.Omega.{arith}
use borrow.Author.Rules.{rules}
use borrow.Author.Tests.{tests}
use Rattle.std.proofs.lemmas.Iterator.{YieldsList-from_range}
use Rattle.std.proofs.lemmas.Iterator.Search.{all_from_yields_List}
use Rattle.layout.specs.Blocks.{tile_place, tile_block_at}
use Rattle.layout.specs.Canonical.{tile_ok}
use Rattle.well_formed.proofs.TileLoop.{tiles_all}
use Rattle.well_formed.proofs.tiles_ok.Goals as goal

pub returns : goal.returns
returns c =
    let l = c.args.words.now in
    let n = c.args.count in
    all_from_yields_List (λ t. tile_ok (tile_block_at l (tile_place t))) _ _ _ c.all.ensures.ran (YieldsList-from_range 0 n n refl (omega arith)) (λ x b q k. search (rules, tests)) ∙ tiles_all l n 0
