use native.Mathlib.Omega.{arith}
use Rattle.listing.proofs.PutLaws.{number_put, one_put, one_wide}
use Rattle.listing.proofs.digits.Numeral.put.Goals as goal

pub returns-then-self-ge-DECIMAL : goal.returns-then-self-ge-DECIMAL
returns-then-self-ge-DECIMAL c = number_put _ _ _ _ _ _ c.args.self.counted c.put_tens.ensures

pub bounds-buffer-at : goal.bounds-buffer-at
bounds-buffer-at c = omega (arith, one_wide _ _ c.if-self-ge-DECIMAL.false c.args.self.counted)

pub returns : goal.returns
returns c = one_put _ _ _ c.if-self-ge-DECIMAL.false (omega (arith, one_wide _ _ c.if-self-ge-DECIMAL.false c.args.self.counted))
