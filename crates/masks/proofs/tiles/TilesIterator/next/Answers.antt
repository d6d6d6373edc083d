use mathlib.Core.Path.{◌∙◌, sym}
use Rattle.std.proofs.Common.{rules}
use Rattle.masks.proofs.TileLaws.{no_tile, one_tile}
use Rattle.masks.proofs.tiles.TilesIterator.next.Goals as goal

pub returns-then-tile-ge-WORD_BITS-clause-steps : goal.returns-then-tile-ge-WORD_BITS-clause-steps
returns-then-tile-ge-WORD_BITS-clause-steps c =
    let e = sym c.self.view_is ∙ no_tile c.self.inside.mask c.self.inside.from _ c.next-tile.ensures c.if-tile-ge-WORD_BITS.true in
    (e, e)

pub returns-clause-steps : goal.returns-clause-steps
returns-clause-steps c = sym c.self.view_is ∙ one_tile c.self.inside.mask c.self.inside.from _ c.next-tile.ensures c.if-tile-ge-WORD_BITS.false

pub returns-clause-goes : goal.returns-clause-goes
returns-clause-goes c =
    let e = sym c.self.view_is ∙ one_tile c.self.inside.mask c.self.inside.from _ c.next-tile.ensures c.if-tile-ge-WORD_BITS.false in
    rw e (search rules)
