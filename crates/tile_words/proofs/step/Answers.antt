use Prim.Native.Nat.{ℕ}
use mathlib.Core.Path.{ap, ◌∙◌}
use mathlib.Core.List.{List}
use Rattle.std.proofs.lemmas.Result.{err_from_is_err_and}
use Rattle.tile_rules.specs.Steps.{tile_step_on}
use Rattle.tile_words.specs.InPlace.{tile_in}
use Rattle.tile_words.proofs.Full.{full}
use Rattle.tile_words.proofs.step.Goals as goal

pub returns-in_err-check_room : goal.returns-in_err-check_room
returns-in_err-check_room c =
    let p = err_from_is_err_and c.from_residual-in_err-check_room.result c.from_residual-in_err-check_room.ensures.1 in
    rw (p.1, p.2)
    (full _ _ _ _ _ _ _ _ _ c.read_numbers-numbers.ensures c.step.ensures c.in_ok-made.was c.check_room.ensures c.in_err-check_room.was
    ∙ ap (λ (t : List ℕ). tile_step_on c.args.tag c.args.word c.args.value (tile_in t)) c.in-Some.ensures.cases.same)
