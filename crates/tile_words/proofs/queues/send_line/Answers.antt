use mathlib.Core.Path.{ap, ◌∙◌}
use native.Mathlib.Omega.{arith}
use Rattle.layout.specs.declared.rows.Row.{Row}
use Rattle.layout.specs.Blocks.{tile_block_at, pair_at}
use Rattle.layout.specs.Encode.{row}
use Rattle.layout.specs.Queues.{push_row}
use Rattle.tile_rules.specs.Steps.{with_noc3}
use Rattle.tile_words.proofs.InPlace.{put_read, put_noc3}
use Rattle.tile_words.proofs.queues.send_line.Goals as goal

pub returns : goal.returns
unfolding tile_block_at
returns c =
    put_read _ _ 0 _ (omega arith) (put_noc3 _ _ 0 (omega arith) _ c.push_at.ensures.full c.push_at.ensures.words_after)
    ∙ ap (λ (q : Row). with_noc3 (push_row (pair_at c.args.tile.now 60) q) (tile_block_at c.args.tile.now 0)) (c.row_of.ensures ∙ ap (row c.args.message 0 c.args.reported c.args.flag) c.read_line-line.ensures)
