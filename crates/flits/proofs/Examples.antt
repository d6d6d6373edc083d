-- The statement of specs/Walk, computed from the definitions. Assumes nothing.
use mathlib.Core.Path.{refl}
use Rattle.flit_rules.specs.Words.{header_of_flits}
use Rattle.flit_rules.specs.Table.{row_of}
use Rattle.flit_rules.specs.Rules.{ports_listed, reserved_clear, fields_allowed}
use Rattle.flit_rules.specs.Reading.{read_refusal, read_of}
use Rattle.flits.specs.Walk.{walk_from, walk_of, WalkStatement}

walked : WalkStatement
unfolding walk_of walk_from read_of read_refusal row_of header_of_flits ports_listed reserved_clear fields_allowed
walked = (refl, refl)
