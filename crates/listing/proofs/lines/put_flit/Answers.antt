use native.Mathlib.Omega.{arith}
use Rattle.lists.proofs.OverLaws.{join}
use Rattle.listing.proofs.lines.put_flit.Goals as goal

pub returns : goal.returns
returns c = join _ _ _ _ _ _ _ _ (omega (arith, c.requires)) c.put_byte-next.ensures c.put_hex.ensures
