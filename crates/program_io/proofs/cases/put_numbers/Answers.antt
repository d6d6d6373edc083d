use Rattle.std.proofs.Common.{ℕ, List, length, rules, tests, not, ◌==◌, is_none, Result, OnOk, take, ◌≡◌, ◌++◌, ◌+◌, ◌≤◌}
use Rattle.std.specs.Vec.{vec_len, vec_capacity}
use Rattle.std.proofs.lemmas.Iterator.{YieldsList-from_map, YieldsList-from_take}
use Rattle.std.proofs.lemmas.Iterator.Adapters.{items_from_extend}
use Rattle.std.proofs.lemmas.Iterator.Consumers.{YieldsList-at, YieldsList-from_filter}
use Rattle.std.proofs.lemmas.Iterator.Splits.{YieldsList-from_slice_split}
use Rattle.std.proofs.lemmas.Result.{on_ok_weaker}
use Rattle.program_io.specs.Cases.{digit_of, number_of, numbers_of, most_numbers}
use Rattle.program_io.proofs.cases.put_numbers.Goals as goal

-- the first of three facts
first : {T E : Type 0} (A B C : Type 0) (r : Result T E) → OnOk r (A × B × C) → OnOk r A
first A B C r h = on_ok_weaker r (λ three. three.0) h

-- the chain, from its end to its source
pub returns : goal.returns
returns c =
    let base = c.args.base in
    let split = c.split.ensures in
    let old = c.args.numbers.now in
    let new = c.extend.new.self in
    let all = take most_numbers (numbers_of base c.args.text.now) in
    first (new.items ≡ old.items ++ all) (vec_len new ≡ vec_len old + length all) (vec_capacity old ≤ vec_capacity new) _
    (items_from_extend _ c.extend.ensures.ran
    (YieldsList-from_take most_numbers (YieldsList-at c.take.ensures.source
    (YieldsList-from_map _ (number_of base) (YieldsList-at c.map.ensures.source
    (YieldsList-from_filter _ (λ (digits : List ℕ). not (length digits == 0)) (YieldsList-at c.filter.ensures.source
    (YieldsList-from_slice_split _ (λ byte. is_none (digit_of base byte)) c.args.text.now split.rest split.done split.closure
    (λ x r q k. search (rules, tests))))
    c.filter.ensures.closure (λ x r q k. search (rules, tests))))
    c.map.ensures.closure (λ x r q k. search (rules, tests))))
    c.take.ensures.count))
