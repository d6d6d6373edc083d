-- Lines put into a buffer one after the other, each where the one before it ended (lists, specs/Over).
use Rattle.std.specs.Prelude.{ℕ, ◌≡◌, List, [], ◌∷◌}
use Rattle.lists.specs.Over.{buffer_after, place_after}

unfoldable pub buffers_after : List ℕ → ℕ → List (List ℕ) → List ℕ
buffers_after l i [] = l
buffers_after l i (v ∷ vs) = buffers_after (buffer_after l i v) (place_after l i v) vs

unfoldable pub places_after : List ℕ → ℕ → List (List ℕ) → ℕ
places_after l i [] = i
places_after l i (v ∷ vs) = places_after (buffer_after l i v) (place_after l i v) vs

-- what a function that puts lines into a lent buffer promises, of the buffer before and after and of the places before and behind them
pub record AllPlaced (before after : List ℕ) (at next : ℕ) (lines : List (List ℕ)) : Type 0 where
  pub place : next ≡ places_after before at lines
  pub buffer : after ≡ buffers_after before at lines
