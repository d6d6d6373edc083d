-- Where a job's run stands between its pieces (01, 'Jobs'), and what a piece puts into a lent buffer. Which pieces there are says Pieces.antt.
use Rattle.std.specs.Prelude.{ℕ, ◌+◌, ◌≤◌, ◌≡◌, Bool, false, cond, List, ltb, length, Option, Some, None}
use Rattle.lists.specs.Over.{over}
use Rattle.job_format.specs.Places.{header_bytes}
use Rattle.job_rules.specs.declared.states.Rest.{Rest}
use Rattle.job_rules.specs.declared.states.Run.{Run}

-- What a piece leaves: the bytes that it puts, where the job goes on, the calls made so far, whether there is more, and the bench's words.
pub record Left : Type 0 where
  pub bytes : List ℕ
  pub going : Bool
  pub at : ℕ
  pub calls : ℕ
  pub words : List ℕ

-- the last line, or nothing at all, and the end
abbrev pub ended : List ℕ → List ℕ → Left
ended bs l = record { bytes = bs; going = false; at = 0; calls = 0; words = l }

-- behind the first line
abbrev pub begun_rest : Rest
begun_rest = record { at = header_bytes; calls = 0 }

-- what a run goes on with: where its calls are not fewer than the bytes before its place, with nothing
abbrev pub with_fewer_calls : Option Rest → Option Rest
with_fewer_calls None = None
with_fewer_calls (Some r) = cond (ltb r.calls r.at) (Some r) None

unfoldable pub rest_to_resume : Run → Option Rest
rest_to_resume r = with_fewer_calls r.rest

-- what is left of the job
abbrev pub rest_of : Left → Option Rest
rest_of x = cond x.going (Some (record { at = x.at; calls = x.calls })) None

-- what is answered of a piece that began at the place p of the buffer
unfoldable pub run_of : ℕ → Left → Run
run_of p x = record { put = p + length x.bytes; rest = rest_of x }

-- What a function that puts a piece from place p of the lent buffer on promises: its answer, the words and the buffer after it. Nothing
-- else in the buffer changes.
pub record PutsPiece (p : ℕ) (before : List ℕ) (x : Left) (answer : Run) (words after : List ℕ) : Type 0 where
  pub says : answer ≡ run_of p x
  pub leaves : words ≡ x.words
  pub buffer : after ≡ over before p x.bytes
  pub inside : answer.put ≤ length before
