use Rattle.std.proofs.Common.{arith}
use Rattle.std.proofs.lemmas.Grind.{common_steps}
use Rattle.flit_rules.specs.Reading.{read_refusal, read_of}
use Rattle.flit_rules.proofs.ReadLaws.{refused_lem}
use Rattle.flit_reader.proofs.reading.read.Goals as goal

pub returns-in_err-check_front : goal.returns-in_err-check_front
unfolding read_refusal read_of
returns-in_err-check_front c = grind (arith, common_steps, refused_lem)

pub returns : goal.returns
unfolding read_refusal read_of
returns c = grind (arith, common_steps)
