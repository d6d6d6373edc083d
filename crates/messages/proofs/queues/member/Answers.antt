use Prim.Native.Nat.{ℕ}
use mathlib.Core.Path.{◌∙◌, sym}
use mathlib.Core.List.{List}
use Rattle.std.proofs.lemmas.Iterator.Consumers.{nth_from_yields_List, YieldsList-from_first}
use Rattle.protocol.specs.Home.{members}
use Rattle.messages.proofs.Members.{members_tiles, same_option}
use Rattle.messages.proofs.queues.member.Goals as goal

pub returns : goal.returns
returns c =
    sym (same_option c.nth.result)
    ∙ nth_from_yields_List c.nth.result c.nth.new.self c.args.index c.nth.ensures.ran
    (YieldsList-from_first (λ (x : ℕ). x) (λ (rest : List ℕ). rest) (members c.args.mask 64) (c.of.ensures ∙ members_tiles c.args.mask))
