use Rattle.layout.proofs.Parts.{pushed}
use Rattle.layout.proofs.queues.push_at.Goals as goal

pub returns : goal.returns
returns c =
    let both = pushed _ _ c.args.at _ c.requires c.free_place.ensures.free c.args.message c.write_row.ensures.full c.write_row.ensures.words_after in
    record { words_after = both.0; full = both.1 }
