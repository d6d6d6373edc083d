-- Passed on from flit_rules: the fields of a message, and where they stand in the flits.
pub use Rattle.flit_rules.specs.declared.Node.{Node}
pub use Rattle.flit_rules.specs.declared.Header.{Header}
pub use Rattle.flit_rules.specs.Words.{bits, address_bits}
