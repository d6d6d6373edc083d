-- The statements of specs/Examples, computed from the definitions. Assumes nothing.
use mathlib.Core.Path.{refl}
use Rattle.bits.specs.Field.{put}
use Rattle.lists.specs.Over.{over}
use Rattle.flit_rules.specs.Words.{header_of_flits, flit1_of, flit2_of, flit3_of}
use Rattle.flit_rules.specs.Table.{row_of}
use Rattle.flit_rules.specs.Rules.{ports_listed, reserved_clear, fields_allowed}
use Rattle.flit_rules.specs.Reading.{read_refusal, read_of, data_of}
use Rattle.flit_rules.specs.Writing.{write_refusal, flits_of}
use Rattle.flit_rules.specs.RoundTrips.{copy_refusal, copied_of, copy_buffer, echo_of}
use Rattle.flit_rules.specs.Examples.{ListingFlitsStatement, FieldsStatement, P10Statement, DataAckStatement, LoadFwdAckStatement, ReadOrderStatement, WriteOrderStatement, RoundTripsStatement}

listing : ListingFlitsStatement
unfolding read_of data_of read_refusal row_of header_of_flits ports_listed reserved_clear fields_allowed flits_of flit1_of flit2_of flit3_of put write_refusal
listing = ((refl, refl, refl, refl), (refl, refl, refl, refl), (refl, refl, refl, refl), (refl, refl, refl, refl))

fields : FieldsStatement
unfolding read_of data_of read_refusal row_of header_of_flits ports_listed reserved_clear fields_allowed flits_of flit1_of flit2_of flit3_of put write_refusal
fields = ((refl, refl, refl, refl), (refl, refl, refl, refl), (refl, refl, refl, refl))

pub p10 : P10Statement
unfolding read_of read_refusal row_of header_of_flits ports_listed reserved_clear fields_allowed
p10 = (refl, refl)

pub data_ack_lem : DataAckStatement
unfolding read_of read_refusal row_of header_of_flits ports_listed reserved_clear fields_allowed
data_ack_lem = (refl, refl)

load_fwdack : LoadFwdAckStatement
unfolding read_refusal row_of header_of_flits ports_listed reserved_clear fields_allowed
load_fwdack = (refl, refl)

read_order : ReadOrderStatement
unfolding read_refusal row_of header_of_flits ports_listed reserved_clear fields_allowed
read_order = (refl, refl, refl, refl, refl, refl, refl, refl)

write_order : WriteOrderStatement
unfolding write_refusal row_of ports_listed fields_allowed
write_order = (refl, refl, refl, refl, refl, refl, refl, refl, refl)

round_trips : RoundTripsStatement
unfolding copied_of copy_buffer copy_refusal echo_of over read_of read_refusal row_of header_of_flits ports_listed reserved_clear fields_allowed write_refusal
round_trips = (refl, refl, refl, refl, refl, refl, refl)
