-- 01's beats P1 to P10 hold. Assumes nothing.
use Rattle.protocol.proofs.Beats.{beats_hold}
use Rattle.flits.proofs.Laws.{p10}
use Rattle.theorems.specs.Beats.{P1ToP10}

pub beats : P1ToP10
beats = record { p1_to_p9 = beats_hold; p10 = p10 }
