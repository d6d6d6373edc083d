-- A device of the proofs: no public promise rests on it alone. A home step committed to the words, with its message put on NoC2 of every
-- tile of a mask. That this is document 01's step is proved (proofs/Committed.antt).
use Rattle.std.specs.Prelude.{ℕ, true, false, List, ◌≡◌, length, ◌+◌, ◌≤◌, Option, None, Some, IfSome, Result}
use Rattle.numbers.specs.Limits.{words_in_line}
use Rattle.numbers.specs.declared.refusals.Refusal.{Refusal}
use Rattle.numbers.specs.Refusals.{no_refusal, queue_full_refusal}
use Rattle.lists.specs.Over.{over}
use Rattle.layout.specs.Places.{home_size, queue_size}
use Rattle.layout.specs.Blocks.{row_at, pair_at, home_block_at, pair_words, home_block_words, HomeFull}
use Rattle.layout.specs.Encode.{zeros}
use Rattle.layout.specs.Queues.{pop_row}
use Rattle.protocol.specs.declared.Answer.{Answer}
use Rattle.protocol.specs.Answers.{refusal}
use Rattle.home_rules.specs.declared.moves.HomeMove.{HomeMove}
use Rattle.home_rules.specs.Steps.{HomeStep, move_applied}
use Rattle.home_words.specs.Forwards.{has_rooms, forward_put_all}

-- the answer of a home step, with value v
abbrev pub home_answer : HomeStep → ℕ → Answer
home_answer s v = record { refusal = no_refusal; kind = s.kind; value = v; sent = s.sent; tiles = s.to }

-- words that have a queue at a place, if it is one
abbrev pub HaveQueue : List ℕ → Option ℕ → Type 0
HaveQueue l p = IfSome p (λ at. at + queue_size ≤ length l)

-- The words without the front message of the queue at a place, and the data of that message; at no place no message is answered. And the
-- step of a move that answers it.
unfoldable pub popped : List ℕ → Option ℕ → List ℕ
popped l None = l
popped l (Some i) = over l i (pair_words (pop_row (pair_at l i)))

unfoldable pub front_words : List ℕ → Option ℕ → List ℕ
front_words l None = zeros
front_words l (Some i) = (row_at l i).words

unfoldable pub answering : List ℕ → Option ℕ → Result HomeMove Refusal → HomeStep
answering l p m = move_applied (home_block_at (popped l p)) (front_words l p) m

-- m is k with the block of the home step s, and its message on its tiles' queues
pub record Finishes (k : List ℕ) (n : ℕ) (s : HomeStep) (m : List ℕ) : Type 0 where
  pub words : m ≡ forward_put_all (over k 0 (home_block_words s.home)) home_size 0 s.to s.forward n
  pub home : HomeFull s.home
  pub row : length s.forward.words ≡ words_in_line

-- A home step s committed to words l of n tiles, with k the words that it is written over, a the answer and m the words after it:
-- refused, refused 9 for want of room, or done.
pub record Committed (l k : List ℕ) (n v : ℕ) (s : HomeStep) (a : Answer) (m : List ℕ) : Type 0 where
  pub refusing : (s.refusal ≡ no_refusal → ⊥) → (a ≡ refusal s.refusal) × (m ≡ l)
  pub no_room : s.refusal ≡ no_refusal → has_rooms true l home_size 0 s.to n ≡ false → (a ≡ refusal queue_full_refusal) × (m ≡ l)
  pub done : s.refusal ≡ no_refusal → has_rooms true l home_size 0 s.to n ≡ true →
      (a ≡ home_answer s v) × Finishes k n s m
