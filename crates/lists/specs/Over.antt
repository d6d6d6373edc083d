-- A list with others written over it from a place on.
use Rattle.std.specs.Prelude.{ℕ, ◌+◌, ◌≡◌, cond, List, ◌++◌, leb, length, take, drop}

unfoldable pub over : List ℕ → ℕ → List ℕ → List ℕ
over l i vs = take i l ++ (vs ++ drop (i + length vs) l)

-- numbers put into a buffer at a place: where they fit, the buffer holds them there and the next place is behind them; else the buffer is
-- as it was, and the place past its end says so. From that place on nothing fits, so of several puts only the last place need be looked at.
unfoldable pub buffer_after : List ℕ → ℕ → List ℕ → List ℕ
buffer_after l i vs = cond (leb (i + length vs) (length l)) (over l i vs) l

unfoldable pub place_after : List ℕ → ℕ → List ℕ → ℕ
place_after l i vs = cond (leb (i + length vs) (length l)) (i + length vs) (length l + 1)

-- what a function that puts numbers into a lent buffer promises, of the buffer before and after and of the places before and behind them
pub record Placed (before after : List ℕ) (at next : ℕ) (vs : List ℕ) : Type 0 where
  pub place : next ≡ place_after before at vs
  pub buffer : after ≡ buffer_after before at vs

-- the same of one that is called only where they fit
pub record Put (before after : List ℕ) (at next : ℕ) (vs : List ℕ) : Type 0 where
  pub place : next ≡ at + length vs
  pub buffer : after ≡ over before at vs
