-- Words put at the start of lent ones.
use Rattle.std.specs.Prelude.{ℕ, cond, List, ◌++◌, leb, length, drop}

-- the lent words l with the words vs at their start, where they have room for all of them; else as they were
unfoldable pub reported : List ℕ → List ℕ → List ℕ
reported l vs = cond (leb (length vs) (length l)) (vs ++ drop (length vs) l) l
