-- Room for a call's lines in a lent buffer: the statements. Their proofs are proofs/Room.antt.
use Rattle.std.specs.Prelude.{ℕ, ◌+◌, ◌≤◌, List, [], ◌∷◌, ◌++◌, length}
use Rattle.lists.specs.Over.{Put}
use Rattle.protocol.specs.declared.Answer.{Answer}
use Rattle.job_rules.specs.Buffers.{AllPlaced}
use Rattle.job_rules.specs.AnswerLines.{answer_lines}

-- all bytes of lines, one after the other
unfoldable pub bytes_of : List (List ℕ) → List ℕ
bytes_of [] = []
bytes_of (v ∷ vs) = v ++ bytes_of vs

-- Lines whose last place lies within the buffer stand in it whole, one after the other.
abbrev pub FittedStatement : Type 0
FittedStatement = (l n : List ℕ) (i k : ℕ) (vs : List (List ℕ)) → AllPlaced l n i k vs → k ≤ length l → Put l n i k (bytes_of vs)

-- A call's lines are never more bytes than this: where so many are left in the buffer, they stand in it whole.
abbrev pub most_call_bytes : ℕ
most_call_bytes = 12180

abbrev pub RoomStatement : Type 0
RoomStatement =
    (line n : ℕ) (a : Answer) (w b b' : List ℕ) (i k : ℕ) → AllPlaced b b' i k (answer_lines line n a w) → i + most_call_bytes ≤ length b → Put b b' i k (bytes_of (answer_lines line n a w))
