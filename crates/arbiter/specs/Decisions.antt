-- A device of the proofs: no public promise rests on it alone. What the home does at each of its calls but the memory step, on the words of a
-- bench. That this is document 01's step is proved (crate bench, proofs/HomeCalls.antt).
use Rattle.std.specs.Prelude.{ℕ, ◌+◌, cond, List, eqb, ltb, get_or, Some, None, Result, Err}
use Rattle.numbers.specs.declared.refusals.Refusal.{Refusal}
use Rattle.numbers.specs.declared.refusals.Refusal.TheVariants.{NoTile}
use Rattle.numbers.specs.Tags.{tag_taking, tag_from_tile, tag_memory_ack}
use Rattle.layout.specs.Places.{message_state_place, message_flag_place, home_from_memory_place, tile_noc3_place}
use Rattle.layout.specs.Blocks.{tile_place, home_block_at}
use Rattle.home_rules.specs.declared.moves.HomeMove.{HomeMove}
use Rattle.home_rules.specs.Moves as moves
use Rattle.home_rules.specs.Steps.{numbers_in}
use Rattle.home_words.specs.declared.commits.Decision.{Decision}
use Rattle.arbiter.specs.Takings.{decision, taking_decision}

-- the move for the message at place i, from tile t
unfoldable pub reply_move : List ℕ → ℕ → ℕ → Result HomeMove Refusal
reply_move l t i = moves.accept_reply (numbers_in (home_block_at l)) t (get_or l i 0) (get_or l (i + message_state_place) 0) (get_or l (i + message_flag_place) 0)

-- 2 where there is no tile t
unfoldable pub from_tile_decision : List ℕ → ℕ → ℕ → Result Decision Refusal
from_tile_decision l n t =
    cond (ltb t n) (decision 0 (Some (tile_place t + tile_noc3_place)) (reply_move l t (tile_place t + tile_noc3_place)))
    (Err NoTile)

unfoldable pub memory_ack_decision : List ℕ → Result Decision Refusal
memory_ack_decision l = decision 0 (Some home_from_memory_place) (moves.memory_ack (numbers_in (home_block_at l)) (get_or l home_from_memory_place 0))

unfoldable pub eviction_decision : List ℕ → Result Decision Refusal
eviction_decision l = decision 0 None (moves.evict_line (numbers_in (home_block_at l)))

-- by tag
unfoldable pub decision_of : List ℕ → ℕ → ℕ → ℕ → Result Decision Refusal
decision_of l n c t =
    cond (eqb c tag_taking) (taking_decision l n)
    (cond (eqb c tag_from_tile) (from_tile_decision l n t)
    (cond (eqb c tag_memory_ack) (memory_ack_decision l) (eviction_decision l)))
