use native.Mathlib.Omega.{arith}
use Rattle.home_words.proofs.Committed.{finishes_alone, finishes_tiles}
use Rattle.home_words.proofs.commits.commit_move.Goals as goal

pub returns-in-Tiles : goal.returns-in-Tiles
returns-in-Tiles c = finishes_tiles c.args.words.now _ _ (omega arith) c.in-Some.ensures.cases.same (omega arith) c.args.count c.args.carried c.args.made c.make_move.ensures _ _ _ _ _ _ c.in-Tiles.is c.forward_row-forward.ensures c.send_all.ensures.words_after c.send_all.ensures.full

pub returns-in_default-sends : goal.returns-in_default-sends
returns-in_default-sends c = finishes_alone c.args.words.now _ _ (omega arith) c.in-Some.ensures.cases.same (omega arith) c.args.count c.args.carried c.args.made c.make_move.ensures c.in_default-sends.not-Tiles
