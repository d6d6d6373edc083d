-- Passed on from flit_rules: reading the front message of lent flits.
pub use Rattle.flit_rules.specs.declared.Read.{Read}
pub use Rattle.flit_rules.specs.Reading.{ReadAnswer, no_node, read_refused, read_accepted, told_read}
unfoldable pub use Rattle.flit_rules.specs.Reading.{read_refusal, read_of, data_of}
