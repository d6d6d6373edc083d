use mathlib.Core.Path.{refl}
use Rattle.std.proofs.Common.{arith}
use Rattle.std.proofs.lemmas.Grind.{common_steps}
use Rattle.flit_rules.specs.Writing.{write_refusal, written_of, buffer_of}
use Rattle.flit_rules.proofs.ReadLaws.{refused_lem}
use Rattle.flit_rules.proofs.WriteLaws.{write_done}
use Rattle.flit_writer.proofs.writing.write.Goals as goal

pub returns-in_err-check_message : goal.returns-in_err-check_message
unfolding write_refusal written_of buffer_of
returns-in_err-check_message c = grind (arith, common_steps, refused_lem)

pub returns : goal.returns
returns c =
    let a = c.args in
    write_done a.header a.words.now a.buffer.now a.at c.type_row-row.ensures c.in_ok-check_message.ensures
    c.extra.result
    refl
    c.extra.ensures
    c.write_message.ensures
