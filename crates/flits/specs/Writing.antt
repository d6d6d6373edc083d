-- Passed on from flit_rules: writing a message at a place of a lent buffer.
pub use Rattle.flit_rules.specs.Writing.{WriteAnswer, told_written}
unfoldable pub use Rattle.flit_rules.specs.Writing.{write_refusal, flits_of, written_of, buffer_of}
