-- Document 02, order 1: one writer, and the last word stored. One claim about one list of calls on a fresh bench, as demand 3 takes them,
-- and of every machine (Runs.antt).
use Rattle.std.specs.Prelude.{ℕ, ◌≤◌, ◌≡◌, Bool, cond, true, false, List, [], ◌∷◌, eqb, length, get_or}
use Rattle.masks.specs.Mask.{has}
use Rattle.numbers.specs.Kinds.{kind_loaded, kind_stored}
use Rattle.numbers.specs.Limits.{most_tiles, words_in_line}
use Rattle.protocol.specs.declared.Answer.{Answer}
use Rattle.protocol.specs.Parts.{Words, shared, exclusive, modified, invalid, valid, Waiting, nothing, for_load, for_store, Tile, tile_of, Directory, uncached, shared_by, owned_by, Line, absent, present, Home, idle, awaiting_load, awaiting_owner, awaiting_acks, awaiting_store, Bench, bench_of, Call}
use Rattle.protocol.specs.Bench.{fresh, tile_at}
use Rattle.protocol.specs.Calls.{Role, accesses, delivers_to, takes, neither, role_of}
use Rattle.protocol.specs.Answers.{has_kind}
use Rattle.protocol.specs.Runs.{Machine, rules, runs, Event, event, history, waits_for_after, waits_for}
use Rattle.protocol.specs.Demand3.{tiles_of}

-- ---- one writer

-- a tile holds the line: it is in S, E or M
unfoldable pub holds : Tile → Bool
holds (tile_of invalid p q1 q2 q3) = false
holds (tile_of (valid r ws) p q1 q2 q3) = true

-- it is in E or M
unfoldable pub may_write : Tile → Bool
may_write (tile_of invalid p q1 q2 q3) = false
may_write (tile_of (valid shared ws) p q1 q2 q3) = false
may_write (tile_of (valid exclusive ws) p q1 q2 q3) = true
may_write (tile_of (valid modified ws) p q1 q2 q3) = true

-- the directory of the home's line
unfoldable pub line_directory : Line → Directory
line_directory absent = uncached
line_directory (present d ws x) = x

unfoldable pub home_directory : Home → Directory
home_directory (idle l) = line_directory l
home_directory (awaiting_load r l) = line_directory l
home_directory (awaiting_owner d ws o c) = owned_by o
home_directory (awaiting_acks d ws m owed c) = shared_by m
home_directory (awaiting_store l) = line_directory l

unfoldable pub directory_of : Bench → Directory
directory_of (bench_of h l k mem out back ts) = home_directory h

-- it names a tile, as owner or in the mask
unfoldable pub names : Directory → ℕ → Bool
names uncached t = false
names (shared_by m) t = has m t
names (owned_by o) t = eqb o t

pub record Coherent (b : Bench) : Type 0 where
  -- at most one tile is in E or M, and then no other tile holds the line
  pub one_writer : (t u : ℕ) → may_write (tile_at (tiles_of b) t) ≡ true → holds (tile_at (tiles_of b) u) ≡ true → t ≡ u
  -- every tile that holds the line is named by the directory
  pub named : (t : ℕ) → holds (tile_at (tiles_of b) t) ≡ true → names (directory_of b) t ≡ true

-- ---- the word last written, from the history of calls and answers alone

-- the word w, x before, after the store that a tile waited for
unfoldable pub stored_word : ℕ → Waiting → ℕ → ℕ
stored_word w nothing x = x
stored_word w (for_load u) x = x
stored_word w (for_store u v) x = cond (eqb u w) v x

-- The word w last written, x before the event, with q t what tile t waited for: a store of kind 2 writes, at a hit its own word and
-- value, at a fill those of the store that its tile waited for.
unfoldable pub word_by : ℕ → Role → Answer → (ℕ → Waiting) → ℕ → ℕ
word_by w (accesses t p) r q x = cond (has_kind kind_stored r) (stored_word w p x) x
word_by w (delivers_to t) r q x = cond (has_kind kind_stored r) (stored_word w (q t) x) x
word_by w takes r q x = x
word_by w neither r q x = x

unfoldable pub word_after : ℕ → Event → (ℕ → Waiting) → ℕ → ℕ
word_after w (event c r) q x = word_by w (role_of c) r q x

unfoldable pub word_since : ℕ → (ℕ → Waiting) → ℕ → List Event → ℕ
word_since w q x [] = x
word_since w q x (e ∷ es) = word_since w (λ t. waits_for_after t e (q t)) (word_after w e q x) es

-- from a fresh bench, in which nobody waits: the word w last written, or the starting memory word where none was
unfoldable pub last_written : Words → List Event → ℕ → ℕ
last_written mem es w = word_since w (λ t. nothing) (get_or mem w 0) es

-- ---- the claim

-- neither a load nor a store is answered
abbrev pub AnswersNeither : Answer → Type 0
AnswersNeither r = (has_kind kind_loaded r ≡ false) × (has_kind kind_stored r ≡ false)

-- What is claimed of a call in its role, answered r, with last w the word w last written before it and q t what tile t then waits for.
unfoldable pub GivesLast : (ℕ → ℕ) → (ℕ → Waiting) → Role → Answer → Type 0
-- a load answered at a hit gives the word last written
GivesLast last q (accesses t (for_load w)) r = (has_kind kind_loaded r ≡ true → r.value ≡ last w) × (has_kind kind_stored r ≡ false)
GivesLast last q (accesses t (for_store w v)) r = has_kind kind_loaded r ≡ false
-- a load answered at a fill is the one that its tile waits for, and gives the word last written; a store answered at a fill is the one that its
-- tile waits for
GivesLast last q (delivers_to t) r =
    (has_kind kind_loaded r ≡ true → (w : ℕ) × (q t ≡ for_load w) × (r.value ≡ last w)) × (has_kind kind_stored r ≡ true → (w : ℕ) × (v : ℕ) × (q t ≡ for_store w v))
-- no other call answers a load or a store
GivesLast last q (accesses t nothing) r = AnswersNeither r
GivesLast last q takes r = AnswersNeither r
GivesLast last q neither r = AnswersNeither r

-- The claim, of a machine begun with these memory words, the calls made so far with their answers, es, and the state s that they left.
pub record Order1 (m : Machine) (mem : Words) (es : List Event) (s : m.State) : Type 0 where
  -- one writer and the directory
  pub coherent : Coherent (m.view s)
  -- the last word stored, at every next call
  pub last_word : (c : Call) → GivesLast (last_written mem es) (waits_for es) (role_of c) (m.answer c s)

-- the claim of the list of calls cs, begun in the state s
abbrev pub Order1From : (m : Machine) → Words → m.State → List Call → Type 0
Order1From m mem s cs = Order1 m mem (history m cs s) (runs m cs s)

-- order 1 of the rules: after each of any calls, and at each of them, of every number of tiles from 1 to 64 and all memory words
abbrev pub Order1Statement : Type 0
Order1Statement = (n : ℕ) → 1 ≤ n → n ≤ most_tiles → (mem : Words) → length mem ≡ words_in_line → (cs : List Call) → Order1From rules mem (fresh n mem) cs
