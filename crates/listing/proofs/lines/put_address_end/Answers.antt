use native.Mathlib.Omega.{arith}
use Rattle.lists.proofs.OverLaws.{join}
use Rattle.listing.proofs.DigitLaws.{length_digits}
use Rattle.listing.proofs.lines.put_address_end.Goals as goal

pub put_byte-requires : goal.put_byte-requires
put_byte-requires c = omega (arith, length_digits 16 12 c.args.address)

pub returns : goal.returns
returns c = join _ _ _ _ _ _ _ _ (omega (arith, c.requires)) c.put_hex-next.ensures c.put_byte.ensures
