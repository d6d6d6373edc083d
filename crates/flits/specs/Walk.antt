-- A recording walked from a place on: message after message, until one is refused. At the end of a recording that is 10, no flit at all.
use Rattle.std.specs.Prelude.{cond, ◌≡◌, List, [], ◌∷◌, ℕ, zero, suc, ◌+◌, eqb, length, drop}
use Rattle.numbers.specs.Refusals.{refusal_number, no_refusal, no_flit_refusal, bad_field_refusal}
use Rattle.flit_rules.specs.Reading.{read_of}
use Rattle.flits.specs.declared.walker.Walked.{Walked}

-- how far a recording was walked, in numbers
pub record WalkAnswer : Type 0 where
  pub messages : ℕ
  pub at : ℕ
  pub refusal : ℕ

-- the place and the number of messages passed so far, and the refusal there
abbrev pub walk_stopped : List ℕ → ℕ → ℕ → WalkAnswer
walk_stopped s at count = record { messages = count; at = at; refusal = (read_of (drop at s)).refusal }

-- each message uses a flit at least, so as many steps as there are flits pass all of them
unfoldable pub walk_from : ℕ → List ℕ → ℕ → ℕ → WalkAnswer
walk_from zero s at count = walk_stopped s at count
walk_from (suc n) s at count =
    cond (eqb (read_of (drop at s)).refusal no_refusal)
    (walk_from n s (at + (read_of (drop at s)).used) (suc count))
    (walk_stopped s at count)

unfoldable pub walk_of : List ℕ → WalkAnswer
walk_of s = walk_from (length s) s 0 0

-- what the code answers, in those numbers
abbrev pub told_walked : Walked → WalkAnswer
told_walked w = record { messages = w.messages; at = w.at; refusal = refusal_number w.refusal }

-- 01's DATA_ACK and P10's flit, to the end; and P10's flit before one with bit 0 clear
abbrev pub WalkStatement : Type 0
WalkStatement =
    (walk_of (0x2074028 ∷ 7 ∷ 0 ∷ 0 ∷ 0 ∷ 0 ∷ 0 ∷ 0 ∷ 0 ∷ 0x5C041 ∷ []) ≡ record { messages = 2; at = 10; refusal = no_flit_refusal })
    × (walk_of (0x5C041 ∷ 0x5C040 ∷ 0x5C041 ∷ []) ≡ record { messages = 1; at = 1; refusal = bad_field_refusal })
