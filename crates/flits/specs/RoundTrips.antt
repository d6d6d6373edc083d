-- Passed on from flit_rules: the round trips, and 01's beats in flits.
unfoldable pub use Rattle.flit_rules.specs.RoundTrips.{copy_refusal, copied_of, copy_buffer, echo_of}
pub use Rattle.flit_rules.specs.RoundTrips.{ReadWriteStatement, RewriteStatement, WriteReadStatement, WriteDataStatement}
pub use Rattle.flit_rules.specs.Examples.{P10Statement, DataAckStatement}
