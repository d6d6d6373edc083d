use Rattle.layout.proofs.Parts.{noted}
use Rattle.layout.proofs.queues.push_numbers_at.Goals as goal

pub returns : goal.returns
returns c =
    let both = noted _ _ c.args.at _ c.requires c.free_place.ensures.free _ _ _ _ c.write_four.ensures in
    record { words_after = both.0; full = both.1 }
