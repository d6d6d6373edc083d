-- A device of the proofs: no public promise rests on it alone. The tiles of a bench's words that may be taken, and the round robin's choice
-- among them. That this is document 01's taking is proved (crate bench, proofs/Searched.antt).
use Rattle.std.specs.Prelude.{ℕ, suc, ◌+◌, Bool, cond, true, false, List, eqb, ltb, get_or}
use Rattle.numbers.specs.Limits.{most_tiles}
use Rattle.numbers.specs.Types.{no_message_type, wbguard_req_type}
use Rattle.layout.specs.Places.{tile_noc1_place}
use Rattle.layout.specs.Blocks.{tile_place}
use Rattle.masks.specs.Mask.{has, add64}
use Rattle.masks.specs.Next.{next}

-- may a tile be taken, by its NoC1 front and its mark
unfoldable pub may_take : Bool → ℕ → Bool
may_take mark k = cond (eqb k no_message_type) false (cond (eqb k wbguard_req_type) mark true)

-- tile i, with the marks k
unfoldable pub can_take : List ℕ → ℕ → ℕ → Bool
can_take l k i = may_take (has k i) (get_or l (tile_place i + tile_noc1_place) 0)

-- the tiles of the mask a, and those of n tiles from tile i on that may be taken
unfoldable pub ready_from : ℕ → List ℕ → ℕ → ℕ → ℕ → ℕ
ready_from a l k i ℕ.zero = a
ready_from a l k i (suc n) = ready_from (cond (can_take l k i) (add64 a i) a) l k (i + 1) n

-- of the mask `ready` the first beyond the last taken, else the first of all
unfoldable pub chosen : ℕ → ℕ → ℕ
chosen ready last = cond (ltb (next ready (last + 1)) most_tiles) (next ready (last + 1)) (next ready 0)
