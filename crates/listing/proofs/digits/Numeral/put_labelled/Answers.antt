use native.Mathlib.Omega.{arith}
use Rattle.lists.proofs.OverLaws.{join}
use Rattle.listing.proofs.digits.Numeral.put_labelled.Goals as goal

pub returns : goal.returns
returns c = join _ _ _ _ _ _ _ _ (omega arith) c.put_text-next.ensures c.put_then.ensures
