-- Every message that a step sends from a bench in range is in range for the flit writer: it stands last on its queue in the bench after
-- the step, which is in range. Assumes nothing.
use Prim.Native.Nat.{ℕ, ◌≤◌, ◌<◌}
use mathlib.Core.Path.{◌≡◌, refl, ap, sym, subst}
use mathlib.Core.Bool.{Bool, true, false, cond}
use mathlib.Core.List.{List, [], ◌∷◌, map}
use mathlib.Core.Option
use mathlib.Core.Option.{Option, some, none}
use native.Mathlib.Omega.{arith}
use lib.ListN.{length, get_or, drop, length-take, get_or-eq_default}
use borrow.Author.Tests.{ltb-true, ltb-false}
use lib.Dec.{ltb}
use Rattle.protocol.specs.Parts.{Queue, empty, one, two, Message, on_noc1, on_noc2, on_noc3, to_memory, from_memory, Tile, tile_of, Bench, bench_of, Call, refused, accepted}
use Rattle.protocol.specs.Bench.{fresh_tile, tile_at, noc1, noc3, step, noc2}
use Rattle.protocol.specs.Runs.{kept, after}
use Rattle.layout.specs.Range as range
use Rattle.layout.specs.Range.{QueueIn, TileIn, TilesIn, InRange}
use Rattle.layout.proofs.RangeKept.{tile_in, after_in}
use Rattle.layout.specs.Decode.{decoded}
use Rattle.calls.specs.Calls.{well_formed, step_on}
use Rattle.theorems.proofs.WellFormed.{well_formed_iff}
use Rattle.messages.specs.LastMessages.{last_of, last_message_on, queue_of_message, There}
use Rattle.messages.proofs.Sends.{sent_there}
use Rattle.messages.specs.Rows.{numbers_of_message}
use Rattle.flits.specs.Table.{row_of}
use Rattle.message_flits.specs.Fields as fields
use Rattle.message_flits.specs.Fields.{message_data, data_count, Carried}
use Rattle.theorems.specs.Messages.{LineAddress}
use Rattle.theorems.proofs.Messages.{names}
use Rattle.theorems.proofs.Accepted.{carried_accepted}
use Rattle.message_flits.proofs.Count.{count_le}
use Rattle.job_rules.specs.AnswerLines.{sent_flits}
use Rattle.job_theorems.specs.Rules.{message_flits}

-- ---- the last message of a queue in range, of a bench of n tiles

abbrev Fine : ℕ → Option Message → Type 0
Fine n none = Unit {0}
Fine n (some (on_noc1 t m)) = (t < n) × range.RequestIn m
Fine n (some (on_noc2 t m)) = (t < n) × range.ForwardIn m
Fine n (some (on_noc3 t m)) = (t < n) × range.ReplyIn m
Fine n (some (to_memory m)) = range.ToMemoryIn m
Fine n (some (from_memory m)) = range.FromMemoryIn m

module _ {A : Type 0} (P : A → Type 0) (f : A → Message) (n : ℕ) (keep : (a : A) → P a → Fine n (some (f a))) where
  last_fine : (q : Queue A) → QueueIn P q → Fine n (Option.map f (last_of q))
  unfolding last_of
  last_fine empty h = tt
  last_fine (one a) h = keep a h
  last_fine (two a b) h = keep b h.1

-- a tile that there is, or none
module _ (n : ℕ) (ts : List Tile) (e : length ts ≡ n) (i : TilesIn ts) (t : ℕ) where
  tile_fine : (F : Tile → Type 0) → F fresh_tile → ((x : Tile) → t < n → TileIn x → F x) → F (tile_at ts t)
  tile_fine F z h = go (ltb t (length ts)) refl
    where
      go : (b : Bool) → ltb t (length ts) ≡ b → F (tile_at ts t)
      go true l = h (tile_at ts t) (omega (arith, ltb-true t (length ts) l)) (tile_in ts t i)
      go false l = subst F (sym (get_or-eq_default ts fresh_tile {n = t} (ltb-false t (length ts) l))) z

  noc1_fine : Fine n (Option.map (on_noc1 t) (last_of (noc1 (tile_at ts t))))
  unfolding noc1 last_of
  noc1_fine = tile_fine (λ x. Fine n (Option.map (on_noc1 t) (last_of (noc1 x)))) tt go
    where
      go : (x : Tile) → t < n → TileIn x → Fine n (Option.map (on_noc1 t) (last_of (noc1 x)))
      go (tile_of c p q1 q2 q3) below h = last_fine range.RequestIn (on_noc1 t) n (λ a p. (below, p)) q1 h.2

  noc2_fine : Fine n (Option.map (on_noc2 t) (last_of (noc2 (tile_at ts t))))
  unfolding noc2 last_of
  noc2_fine = tile_fine (λ x. Fine n (Option.map (on_noc2 t) (last_of (noc2 x)))) tt go
    where
      go : (x : Tile) → t < n → TileIn x → Fine n (Option.map (on_noc2 t) (last_of (noc2 x)))
      go (tile_of c p q1 q2 q3) below h = last_fine range.ForwardIn (on_noc2 t) n (λ a p. (below, p)) q2 h.3

  noc3_fine : Fine n (Option.map (on_noc3 t) (last_of (noc3 (tile_at ts t))))
  unfolding noc3 last_of
  noc3_fine = tile_fine (λ x. Fine n (Option.map (on_noc3 t) (last_of (noc3 x)))) tt go
    where
      go : (x : Tile) → t < n → TileIn x → Fine n (Option.map (on_noc3 t) (last_of (noc3 x)))
      go (tile_of c p q1 q2 q3) below h = last_fine range.ReplyIn (on_noc3 t) n (λ a p. (below, p)) q3 h.4

fine_at : (n : ℕ) (b : Bench) → InRange n b → (m : Message) → Fine n (last_message_on b (queue_of_message m))
unfolding last_message_on queue_of_message
fine_at n (bench_of h l k mem out back ts) i (on_noc1 t m) = noc1_fine n ts i.tiles_given i.tiles_in t
fine_at n (bench_of h l k mem out back ts) i (on_noc2 t m) = noc2_fine n ts i.tiles_given i.tiles_in t
fine_at n (bench_of h l k mem out back ts) i (on_noc3 t m) = noc3_fine n ts i.tiles_given i.tiles_in t
fine_at n (bench_of h l k mem out back ts) i (to_memory m) = last_fine range.ToMemoryIn to_memory n (λ a p. p) out i.out_in
fine_at n (bench_of h l k mem out back ts) i (from_memory m) = last_fine range.FromMemoryIn from_memory n (λ a p. p) back i.back_in

-- ---- such a message is one that the flit writer takes

pub record Taken (m : Message) : Type 0 where
  pub carried : Carried (numbers_of_message m).queue (numbers_of_message m).tile (numbers_of_message m).row

fine_taken : (n : ℕ) → n ≤ 64 → (m : Message) → Fine n (some m) → Taken m
unfolding numbers_of_message
fine_taken n h (on_noc1 t m) f = record { carried = fields.on_noc1 t m (omega (arith, f.0)) f.1 }
fine_taken n h (on_noc2 t m) f = record { carried = fields.on_noc2 t m (omega (arith, f.0)) f.1 }
fine_taken n h (on_noc3 t m) f = record { carried = fields.on_noc3 t m (omega (arith, f.0)) f.1 }
fine_taken n h (to_memory m) f = record { carried = fields.to_memory m f }
fine_taken n h (from_memory m) f = record { carried = fields.from_memory m f }

abbrev pub AllTaken : List Message → Type 0
AllTaken [] = Unit {0}
AllTaken (m ∷ ms) = Taken m × AllTaken ms

all_taken : (n : ℕ) (b : Bench) → InRange n b → n ≤ 64 → (ms : List Message) → map (last_message_on b) (map queue_of_message ms) ≡ map some ms → AllTaken ms
all_taken n b i h [] e = tt
all_taken n b i h (m ∷ ms) e = (
  fine_taken n h m (subst (Fine n) (ap (λ (l : List (Option Message)). get_or l 0 none) e) (fine_at n b i m)),
  all_taken n b i h ms (ap (λ (l : List (Option Message)). drop 1 l) e),
)

most : (n : ℕ) (b : Bench) → InRange n b → n ≤ 64
most n (bench_of h l k mem out back ts) i = i.tiles_fit

-- The messages of every accepted call on a bench in range.
pub sent_taken : (n : ℕ) (c : Call) (b : Bench) → InRange n b → (k v : ℕ) (b' : Bench) (ms : List Message) → step c b ≡ accepted k v b' ms → AllTaken ms
unfolding after kept
sent_taken n c b i k v b' ms e =
    let x : There ms b' = sent_there c b (names n b i) k v b' ms e in
    let r : InRange n b' = subst (InRange n) (ap (kept b) e) (after_in n c b i) in
    all_taken n b' r (most n b i) ms (rw x.queues at x.last)

-- .. and on any lent words
pub call_taken : (l : List ℕ) (c : Call) (k v : ℕ) (b : Bench) (ms : List Message) → step_on l c ≡ accepted k v b ms → AllTaken ms
unfolding step_on
call_taken l c k v b ms e = go (well_formed l) refl e
  where
    go : (w : Bool) → well_formed l ≡ w → cond w (step c (decoded l)) (refused 1) ≡ accepted k v b ms → AllTaken ms
    go true w q = sent_taken (get_or l 0 0) c (decoded l) ((well_formed_iff l).in_range w) k v b ms q
    go false w q = let z : ◌≡◌ {A = ℕ} 0 1 = cc in absurd (omega arith)

-- ---- its flits, with no test

pub taken_flits : (line : ℕ) → LineAddress line → (m : Message) → Taken m → sent_flits line (numbers_of_message m) ≡ message_flits line m
unfolding sent_flits message_flits message_data
taken_flits line is m x =
    rw (carried_accepted line is 11 0 (numbers_of_message m).queue (numbers_of_message m).tile (numbers_of_message m).row x.carried
    (omega (arith, three (row_of (numbers_of_message m).row.n0).three, length-take (data_count (row_of (numbers_of_message m).row.n0) (numbers_of_message m).row.n3) (numbers_of_message m).row.words, count_le (row_of (numbers_of_message m).row.n0) (numbers_of_message m).row.n3)))
  where
    three : (b : Bool) → cond b 2 0 ≤ 2
    three true = omega arith
    three false = omega arith
