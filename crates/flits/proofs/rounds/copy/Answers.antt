use mathlib.Core.Path.{refl}
use Rattle.std.proofs.Common.{arith}
use Rattle.std.proofs.lemmas.Grind.{common_steps}
use Rattle.flit_rules.specs.RoundTrips.{copy_refusal, copied_of, copy_buffer}
use Rattle.flit_rules.proofs.ReadLaws.{refused_lem, refusal_of}
use Rattle.flit_rules.proofs.RoundCalls.{copy_done}
use Rattle.flits.proofs.rounds.copy.Goals as goal

pub returns-in_err-front : goal.returns-in_err-front
unfolding copy_refusal copied_of copy_buffer
returns-in_err-front c = grind (arith, common_steps, refused_lem, refusal_of)

pub returns : goal.returns
returns c =
    copy_done c.args.flits.now c.args.buffer.now c.args.at (λ k. (c.type_inv.flits k).fits)
    c.in_ok-front.ensures
    refl
    c.data_words-words.ensures
    c.write.ensures
