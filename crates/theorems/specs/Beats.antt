-- Document 01, 'Beats on the bench': P1 to P10 under one statement. P1 to P9 are one run of two tiles with memory word 0 = 7
-- (crate protocol, specs/Beats.antt); P10 is a flit alone (crate flit_rules, specs/Examples.antt).
use Rattle.protocol.specs.Beats.{BeatsStatement}
use Rattle.flits.specs.RoundTrips.{P10Statement}

pub record P1ToP10 : Type 0 where
  pub p1_to_p9 : BeatsStatement
  pub p10 : P10Statement
