use Rattle.home_words.proofs.Committed.{move_full, move_done}
use Rattle.home_words.proofs.commits.commit.Goals as goal

pub returns-then-not-has_rooms : goal.returns-then-not-has_rooms
returns-then-not-has_rooms c = move_full c.args.words.now c.args.count c.args.decision.value c.args.decision.place c.args.decision.made _ c.tiles-tiles.ensures _ c.has_rooms.ensures c.if-not-has_rooms.true

pub returns : goal.returns
returns c =
    let taken = c.take_front-carried.ensures in
    move_done c.args.words.now c.args.count c.args.decision.value c.args.decision.place c.args.decision.made _ c.tiles-tiles.ensures _ c.has_rooms.ensures _ _ _ c.commit_move.ensures c.if-not-has_rooms.false taken.carried taken.after _ _ c.kind.ensures c.queues.ensures
