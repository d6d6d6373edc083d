-- Passed on from flit_rules: what a message must keep.
unfoldable pub use Rattle.flit_rules.specs.Rules.{ports_listed, fields_allowed}
