-- Passed on from flit_rules: the round trips, what is written, and 01's beats in flits. Assumes nothing.
pub use Rattle.flit_rules.proofs.WriteLaws.{flits_length, write_fits}
pub use Rattle.flit_rules.proofs.RoundTrips.{read_write, rewrite, write_read, write_data}
pub use Rattle.flit_rules.proofs.RoundCalls.{read_back, data_back}
pub use Rattle.flit_rules.proofs.Examples.{p10, data_ack_lem}
