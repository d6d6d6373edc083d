use mathlib.Core.Path.{◌∙◌}
use Prim.Native.Nat.{ℕ}
use mathlib.Core.List.{List}
use borrow.Author.Rules.{rules}
use borrow.Author.Tests.{tests}
use Rattle.std.proofs.lemmas.Iterator.Consumers.{YieldsList-from_first}
use Rattle.std.proofs.lemmas.Iterator.Search.{all_from_yields_List}
use Rattle.masks.specs.Tiles.{tiles_from}
use Rattle.home_words.proofs.ForwardLoops.{room, rooms_all}
use Rattle.home_words.proofs.forwards.has_rooms.Goals as goal

pub returns : goal.returns
returns c =
    let l = c.args.words.now in
    let n = c.args.count in
    all_from_yields_List (room l c.args.to n) _ _ _ c.all.ensures.ran (YieldsList-from_first (λ (x : ℕ). x) (λ (rest : List ℕ). rest) (tiles_from c.args.to 0) c.of.ensures) (λ x b q k. search (rules, tests)) ∙ rooms_all l c.args.to n c.requires.1
