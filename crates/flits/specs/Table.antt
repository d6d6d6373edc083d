-- Passed on from flit_rules: the table of types.
pub use Rattle.flit_rules.specs.declared.TypeRow.{TypeRow}
pub use Rattle.flit_rules.specs.Table.{extra_flits, most_flits, header_extra}
unfoldable pub use Rattle.flit_rules.specs.Table.{row_of}
