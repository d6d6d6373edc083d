use Rattle.listing.proofs.DigitLaws.{digit_table}
use Rattle.listing.proofs.digits.digit.Goals as goal

pub returns : goal.returns
returns c = digit_table c.args.value c.requires
