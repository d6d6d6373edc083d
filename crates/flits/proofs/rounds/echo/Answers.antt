use mathlib.Core.Path.{refl}
use Rattle.std.proofs.Common.{arith}
use Rattle.std.proofs.lemmas.Grind.{common_steps}
use Rattle.flit_rules.specs.Writing.{written_of}
use Rattle.flit_rules.specs.RoundTrips.{echo_of}
use Rattle.flit_rules.proofs.ReadLaws.{refused_lem}
use Rattle.flit_rules.proofs.RoundCalls.{echo_done}
use Rattle.flits.proofs.rounds.echo.Goals as goal

pub returns-in_err-write : goal.returns-in_err-write
unfolding written_of echo_of
returns-in_err-write c = grind (arith, common_steps, refused_lem)

pub returns : goal.returns
returns c =
    let done = c.in_ok-write.ensures in
    (echo_done c.args.header c.args.words.now c.args.buffer.now c.args.at done refl c.read_at.ensures, done.1)
