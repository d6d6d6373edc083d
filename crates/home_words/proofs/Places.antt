-- A message sent to a tile in place, and where the rooms of NoC2 stand. Assumes nothing.
use Prim.Native.Nat.{ℕ, ◌+◌, ◌-◌, ◌≤◌}
use mathlib.Core.Path.{◌≡◌, refl, ap, sym, ◌∙◌}
use mathlib.Core.List.{List, ◌++◌}
use native.Mathlib.Omega.{arith}
use lib.Dec.{eqb}
use mathlib.Core.Bool.{Bool, true, false, cond}
use lib.ListN.{length, get_or, drop, take-append-drop}
use Rattle.lists.specs.Over.{over}
use Rattle.layout.specs.declared.rows.Row.{Row}
use Rattle.layout.specs.declared.rows.Pair.{Pair}
use Rattle.layout.specs.Blocks.{row_at, pair_at, tile_block_at, home_block_at, pair_words, tile_block_words, home_block_words, PairFull}
use Rattle.layout.proofs.Over.{home_words_lem, length_home}
use Rattle.layout.proofs.Reading.{home_full, home_front, over_behind}
use Rattle.layout.specs.Encode.{no_row}
use Rattle.layout.specs.Queues.{has_room, push_row, pop_row}
use Rattle.tile_words.proofs.InPlace.{put_noc2}
use Rattle.home_words.specs.Forwards.{forward_put}

-- a queue with a message more, or less, still has rows of eight words
pub push_full : (q : Pair) (m : Row) → PairFull q → length m.words ≡ 8 → PairFull (push_row q m)
unfolding push_row
push_full q m f n = go (eqb q.a.n0 0)
  where
    go : (b : Bool) → PairFull (cond b (record { a = m; b = q.b }) (record { a = q.a; b = m }))
    go true = record { first = n; second = f.second }
    go false = record { first = f.first; second = n }

pub pop_full : (q : Pair) → PairFull q → PairFull (pop_row q)
unfolding pop_row
pop_full q f = go (eqb q.b.n0 0)
  where
    go : (b : Bool) → PairFull (cond b (record { a = no_row; b = q.b }) (record { a = q.b; b = no_row }))
    go true = record { first = refl; second = f.second }
    go false = record { first = f.second; second = refl }

-- a message sent to a tile in place
pub told_over : (l k : List ℕ) (at : ℕ) (m : Row) → at + 84 ≤ length l → PairFull (push_row (pair_at l (at + 36)) m) → k ≡ over l (at + 36) (pair_words (push_row (pair_at l (at + 36)) m)) → k ≡ over l at (tile_block_words (forward_put m (tile_block_at l at)))
unfolding forward_put tile_block_at
told_over l k at m h n e = (put_noc2 l k at h (push_row (pair_at l (at + 36)) m) n e).words

-- the word that says whether a tile's NoC2 has room
pub room_word : (l : List ℕ) (at : ℕ) → eqb (get_or l (at + 48) 0) 0 ≡ has_room (tile_block_at l at).noc2
unfolding tile_block_at pair_at row_at has_room
room_word l at =
    let e : at + 48 ≡ at + 36 + 12 = omega arith in
    ap (λ (z : ℕ). eqb (get_or l z 0) 0) e

-- the home's block is untouched by what is written behind it
pub home_untouched : (l : List ℕ) (at : ℕ) (vs : List ℕ) → 74 ≤ length l → 74 ≤ at → home_block_at (over l at vs) ≡ home_block_at l
home_untouched l at vs long h =
    let A : List ℕ = home_block_words (home_block_at l) in
    let n : length A ≡ 74 = length_home (home_block_at l) (home_full l long) in
    let e : A ++ drop 74 l ≡ l = ap (λ (z : List ℕ). z ++ drop 74 l) (home_words_lem l long) ∙ take-append-drop 74 l in
    let p : at ≡ length A + (at - 74) = omega arith in
    ap (λ (z : List ℕ). home_block_at (over z at vs)) (sym e) ∙ ap (λ (z : ℕ). home_block_at (over (A ++ drop 74 l) z vs)) p ∙ ap home_block_at (over_behind A (drop 74 l) (at - 74) vs) ∙ home_front (home_block_at l) (over (drop 74 l) (at - 74) vs) (home_full l long)
