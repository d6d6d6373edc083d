use native.Mathlib.Omega.{arith}
use Rattle.lists.proofs.OverLaws.{join}
use Rattle.listing.specs.Lines.{message_line}
use Rattle.listing.proofs.LineLaws.{length_flits}
use Rattle.listing.proofs.lines.put_message.Goals as goal

pub put_byte-requires : goal.put_byte-requires
put_byte-requires c = omega (arith, c.requires, length_flits c.args.flits.now)

pub returns : goal.returns
unfolding message_line
returns c = join _ _ _ _ _ _ _ _ (omega arith) c.put_byte-next.ensures (join _ _ _ _ _ _ _ _ (omega (arith, c.put_byte-next.ensures.place)) c.put_flits-next.ensures c.put_byte.ensures)
