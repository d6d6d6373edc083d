use Rattle.layout.proofs.Parts.{pop_last, pop_front}
use Rattle.layout.proofs.queues.pop_at.Goals as goal

pub returns-then-words-at-eq-NO_MESSAGE : goal.returns-then-words-at-eq-NO_MESSAGE
returns-then-words-at-eq-NO_MESSAGE c =
    let both = pop_last _ _ c.args.at _ c.requires c.if-words-at-eq-NO_MESSAGE.true c.bare_row-free.ensures c.write_row.ensures.words_after in
    record { words_after = both.0; full = both.1 }

pub returns-else-words-at-eq-NO_MESSAGE : goal.returns-else-words-at-eq-NO_MESSAGE
returns-else-words-at-eq-NO_MESSAGE c =
    let both = pop_front _ _ _ c.args.at _ _ c.requires c.if-words-at-eq-NO_MESSAGE.false c.read_row-second.ensures c.write_row-else-words-at-eq-NO_MESSAGE.ensures.words_after c.bare_row-free.ensures c.write_row-else-words-at-eq-NO_MESSAGE-2.ensures.words_after in
    record { words_after = both.0; full = both.1 }
