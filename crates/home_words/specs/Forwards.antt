-- A device of the proofs: no public promise rests on it alone. A message put on NoC2 of every tile of a mask, and whether there is room
-- for it. That this is document 01's sending is proved (proofs/Sending.antt).
use Rattle.std.specs.Prelude.{ℕ, suc, ◌+◌, Bool, cond, true, ◌&&◌, List, ◌≤◌, length}
use Rattle.lists.specs.Over.{over}
use Rattle.masks.specs.Mask.{has}
use Rattle.layout.specs.declared.rows.Row.{Row}
use Rattle.layout.specs.declared.rows.TileBlock.{TileBlock}
use Rattle.layout.specs.Places.{tile_size}
use Rattle.numbers.specs.Limits.{most_tiles}
use Rattle.layout.specs.Blocks.{bench_words, tile_block_at, tile_block_words}
use Rattle.layout.specs.Queues.{has_room, push_row}
use Rattle.tile_rules.specs.Steps.{tile_block}

-- words that are enough for the home and n tiles, which are at most 64
abbrev pub HoldTiles : List ℕ → ℕ → Type 0
HoldTiles l n = (bench_words n ≤ length l) × (n ≤ most_tiles)

-- tile i, whose block is at place `at`, has room on NoC2 or is not in the mask
unfoldable pub has_room_for : List ℕ → ℕ → ℕ → ℕ → Bool
has_room_for l at i to = cond (has to i) (has_room (tile_block_at l at).noc2) true

-- a, and so for n tiles from tile i on
unfoldable pub has_rooms : Bool → List ℕ → ℕ → ℕ → ℕ → ℕ → Bool
has_rooms a l at i to ℕ.zero = a
has_rooms a l at i to (suc n) = has_rooms (a && has_room_for l at i to) l (at + tile_size) (i + 1) to n

-- a tile with m behind what is on its NoC2
unfoldable pub forward_put : Row → TileBlock → TileBlock
forward_put m x = tile_block x.head x.noc1 (push_row x.noc2 m) x.noc3

unfoldable pub forward_put_at : List ℕ → ℕ → ℕ → ℕ → Row → List ℕ
forward_put_at l at i to m = cond (has to i) (over l at (tile_block_words (forward_put m (tile_block_at l at)))) l

unfoldable pub forward_put_all : List ℕ → ℕ → ℕ → ℕ → Row → ℕ → List ℕ
forward_put_all l at i to m ℕ.zero = l
forward_put_all l at i to m (suc n) = forward_put_all (forward_put_at l at i to m) (at + tile_size) (i + 1) to m n
