-- A device of the proofs: no public promise rests on it alone. What the home does at a taking, on the words of a bench. That this is document
-- 01's step is proved (crate bench, proofs/HomeCalls.antt).
use Rattle.std.specs.Prelude.{ℕ, ◌+◌, cond, List, eqb, ltb, get_or, Option, Some, Result, Ok, Err}
use Rattle.numbers.specs.declared.refusals.Refusal.{Refusal}
use Rattle.numbers.specs.declared.refusals.Refusal.TheVariants.{NotIdle, NothingThere}
use Rattle.layout.specs.Places.{home_phase_place, home_last_taken_place, home_marks_place, tile_noc1_place}
use Rattle.layout.specs.Codes.{phase_idle}
use Rattle.layout.specs.Blocks.{tile_place, home_block_at}
use Rattle.home_rules.specs.declared.moves.HomeMove.{HomeMove}
use Rattle.home_rules.specs.Moves as moves
use Rattle.home_rules.specs.Steps.{numbers_in}
use Rattle.arbiter.specs.RoundRobin.{ready_from, chosen}
use Rattle.home_words.specs.declared.commits.Decision.{Decision}

-- the move m, which answers the front message of the queue at a place with the value v
abbrev pub decision : ℕ → Option ℕ → Result HomeMove Refusal → Result Decision Refusal
decision v place (Ok m) = Ok (record { value = v; place = place; made = m })
decision v place (Err r) = Err r

-- tile t of n tiles is taken; 7 where it is none
abbrev pub taking_of : List ℕ → ℕ → ℕ → Result Decision Refusal
taking_of l n t =
    cond (ltb t n)
    (decision t (Some (tile_place t + tile_noc1_place)) (moves.take_front (numbers_in (home_block_at l)) t (get_or l (tile_place t + tile_noc1_place) 0)))
    (Err NothingThere)

-- 6 where the home is not idle
unfoldable pub taking_decision : List ℕ → ℕ → Result Decision Refusal
taking_decision l n =
    cond (eqb (get_or l home_phase_place 0) phase_idle)
    (taking_of l n (chosen (ready_from 0 l (get_or l home_marks_place 0) 0 n) (get_or l home_last_taken_place 0)))
    (Err NotIdle)
