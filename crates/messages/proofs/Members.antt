-- The tiles of a mask, and the queues of them. Assumes nothing.
use Prim.Native.Nat.{ℕ, zero, suc, ◌+◌, ◌/◌, ◌%◌, ◌^◌, ◌≤◌, ◌<◌}
use mathlib.Core.Path.{◌≡◌, refl, ap, sym, subst, ◌∙◌}
use mathlib.Core.Bool.{cond}
use mathlib.Core.List.{List, [], ◌∷◌}
use native.Mathlib.Omega.{arith}
use native.Mathlib.Numerals.{add-one}
use lib.Dec.{eqb}
use lib.ListN.{length, get_or}
use lib.Pow.{shr-shr, shr_lt}
use lib.Count.{ones, ones_step, ones-le}
use borrow.Author.Tests.{ne_eqb}
use Rattle.std.specs.Prelude.{Option, Some, None}
use Rattle.std.specs.Option.{option_map}
use Rattle.std.specs.List.{slice_get}
use Rattle.masks.specs.Mask.{has}
use Rattle.masks.specs.Tiles.{tiles_in, tiles_from}
use Rattle.protocol.specs.Home.{range, among, members}
use Rattle.messages.specs.Queues.{bench_queue, no_queue, queue_of_tile, queue_of_each, noc3_then_noc1}

up_one : (m i : ℕ) → m / 2 ^ suc i ≡ m / 2 ^ i / 2
up_one m i = ap (λ (k : ℕ). m / 2 ^ k) (sym (add-one i)) ∙ sym (shr-shr m i 1)

-- the tiles of a mask
among_tiles : (m i n : ℕ) → tiles_in m i n ≡ among m (range i n)
unfolding tiles_in among range
among_tiles m i zero = refl
among_tiles m i (suc n) = rw (among_tiles m (suc i) n) refl

pub members_tiles : (m : ℕ) → tiles_from m 0 ≡ members m 64
unfolding tiles_from members
members_tiles m = among_tiles m 0 64

pub same_option : (o : Option ℕ) → option_map (λ (x : ℕ). x) o ≡ o
same_option None = refl
same_option (Some x) = refl

-- a mask has as many tiles as ones
ones_from : (k m t : ℕ) → m / 2 ^ t < 2 ^ k → length (among m (range t k)) ≡ ones (m / 2 ^ t)
unfolding among range has
ones_from zero m t h = let z : m / 2 ^ t ≡ 0 = omega arith in sym (ap ones z ∙ none)
  where
    none : ones 0 ≡ 0
    none = let b : ones 0 ≤ 0 = ones-le 0 0 (omega arith) in omega (arith, b)
ones_from (suc k) m t h =
    let half : m / 2 ^ t / 2 < 2 ^ k = shr_lt k 1 (subst (λ (x : ℕ). m / 2 ^ t < 2 ^ x) (sym (add-one k)) h) in
    go (m / 2 ^ t % 2) refl (ones_from k m (suc t) (subst (λ (x : ℕ). x < 2 ^ k) (sym (up_one m t)) half)) ∙ sym (ones_step (m / 2 ^ t))
  where
    go : (r : ℕ) → m / 2 ^ t % 2 ≡ r → length (among m (range (suc t) k)) ≡ ones (m / 2 ^ suc t) → length (cond (eqb r 1) (t ∷ among m (range (suc t) k)) (among m (range (suc t) k))) ≡ m / 2 ^ t % 2 + ones (m / 2 ^ t / 2)
    go zero e ih = ih ∙ ap ones (up_one m t) ∙ omega arith
    go (suc zero) e ih = ap suc (ih ∙ ap ones (up_one m t)) ∙ omega arith
    go (suc (suc r)) e ih = absurd (omega arith)

pub ones_count : (m : ℕ) → m < 2 ^ 64 → ones m ≡ length (members m 64)
unfolding members
ones_count m h = let e : m / 2 ^ 0 ≡ m = omega arith in sym (ones_from 64 m 0 (subst (λ (x : ℕ). x < 2 ^ 64) (sym e) h) ∙ ap ones e)

-- the i-th queue of a list of tiles
each_at : (q i : ℕ) (us : List ℕ) → get_or (queue_of_each q us) i no_queue ≡ queue_of_tile q (slice_get us i)
unfolding queue_of_each queue_of_tile
each_at q i [] = refl
each_at q zero (u ∷ us) = refl
each_at q (suc i) (u ∷ us) = each_at q i us

pub tile_at_lem : (q m i : ℕ) → get_or (queue_of_each q (members m 64)) i no_queue ≡ queue_of_tile q (slice_get (members m 64) i)
tile_at_lem q m i = each_at q i (members m 64)

-- NoC3 and NoC1 of the first tile
both_first : (us : List ℕ) → get_or (noc3_then_noc1 us) 0 no_queue ≡ queue_of_tile 3 (slice_get us 0)
unfolding noc3_then_noc1 queue_of_tile
both_first [] = refl
both_first (u ∷ us) = refl

both_second : (us : List ℕ) → get_or (noc3_then_noc1 us) 1 no_queue ≡ queue_of_tile 1 (slice_get us 0)
unfolding noc3_then_noc1 queue_of_tile
both_second [] = refl
both_second (u ∷ us) = refl

both_past : (us : List ℕ) (i : ℕ) → 1 < i → get_or (noc3_then_noc1 us) i no_queue ≡ no_queue
unfolding noc3_then_noc1
both_past [] i h = refl
both_past (u ∷ us) zero h = absurd (omega arith)
both_past (u ∷ us) (suc zero) h = absurd (omega arith)
both_past (u ∷ us) (suc (suc i)) h = refl

pub both_none : (i : ℕ) → (i ≡ 0 → ⊥) → (i ≡ 1 → ⊥) → (m : ℕ) → get_or (noc3_then_noc1 (members m 64)) i no_queue ≡ no_queue
both_none i a b m = both_past (members m 64) i (omega arith)

pub both_3 : (m : ℕ) → get_or (noc3_then_noc1 (members m 64)) 0 no_queue ≡ queue_of_tile 3 (slice_get (members m 64) 0)
both_3 m = both_first (members m 64)

pub both_1 : (m : ℕ) → get_or (noc3_then_noc1 (members m 64)) 1 no_queue ≡ queue_of_tile 1 (slice_get (members m 64) 0)
both_1 m = both_second (members m 64)

pub length_each : (q : ℕ) (us : List ℕ) → length (queue_of_each q us) ≡ length us
unfolding queue_of_each
length_each q [] = refl
length_each q (u ∷ us) = ap suc (length_each q us)

pub length_both : (us : List ℕ) → length (noc3_then_noc1 us) ≡ cond (eqb (length us) 0) 0 2
unfolding noc3_then_noc1
length_both [] = refl
length_both (u ∷ us) = rw (ne_eqb (suc (length us)) 0 (λ e. omega arith))

pub past_one : (i : ℕ) → (i ≡ 0 → ⊥) → (s : ℕ) → get_or (bench_queue s 0 ∷ []) i no_queue ≡ no_queue
past_one zero h s = absurd (h refl)
past_one (suc i) h s = refl

-- the queue of a message by its index, and how many messages an answer has
pub ruleset found = (tile_at_lem, both_3, both_1, both_none, past_one)

pub ruleset counted = (length_each, length_both)
