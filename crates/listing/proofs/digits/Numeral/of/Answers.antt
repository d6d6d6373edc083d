use Rattle.std.proofs.Common.{arith, ◌≡◌, ◌∙◌, length}
use Rattle.listing.specs.Digits.{decimal}
use Rattle.listing.proofs.DigitLaws.{by_power, below_ten, decimal_most}
use Rattle.listing.proofs.digits.Numeral.of.Goals as goal
use Rattle.listing.proofs.digits.Numeral.of.Goals.{in-0-to-9, in_default}

pub invariant_of-result : goal.invariant_of-result
invariant_of-result c =
    let e : c.if-number-lt10.count ≡ length (decimal c.args.number) =
    elim c.if-number-lt10.branch [
      | in-0-to-9 w ↦ w.count-is ∙ below_ten c.args.number (omega arith)
      | in_default w ↦ w.count-is ∙ by_power c.args.number w.ilog10.result w.ilog10.ensures.power_le w.ilog10.ensures.next_power_gt w.ilog10.ensures.bound
    ] in
    record { counted = e; short = omega (arith, decimal_most c.args.number) }
