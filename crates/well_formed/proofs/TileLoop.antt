-- The tiles of a bench are tested one after the other. Assumes nothing.
use Prim.Native.Nat.{ℕ, suc, ◌+◌}
use mathlib.Core.Path.{◌≡◌, refl, sym, ap, ◌∙◌}
use mathlib.Core.Bool.{Bool, true, false, ◌&&◌}
use mathlib.Core.List.{List}
use native.Mathlib.Omega.{arith}
use Rattle.std.specs.List.{list_all, range_with_len}
use Rattle.layout.specs.Blocks.{tile_place, tile_block_at}
use Rattle.layout.specs.Canonical.{tile_ok}
use Rattle.calls.specs.Calls.{tiles_ok}

-- past a tile that fails no test changes the outcome
tiles_false : (l : List ℕ) (n at : ℕ) → tiles_ok false l at n ≡ false
unfolding tiles_ok
tiles_false l ℕ.zero at = refl
tiles_false l (suc n) at = tiles_false l n (at + 84)

-- all from tile a on
abbrev All : List ℕ → ℕ → ℕ → Bool
All l a n = list_all (λ t. tile_ok (tile_block_at l (tile_place t))) (range_with_len a n)

pub tiles_all : (l : List ℕ) (n a : ℕ) → list_all (λ t. tile_ok (tile_block_at l (tile_place t))) (range_with_len a n) ≡ tiles_ok true l (tile_place a) n
unfolding tiles_ok
tiles_all l ℕ.zero a = refl
tiles_all l (suc n) a = go (tile_ok (tile_block_at l (tile_place a))) (tiles_all l n (a + 1))
  where
    next : tile_place (a + 1) ≡ tile_place a + 84
    next = omega arith

    go : (b : Bool) → All l (a + 1) n ≡ tiles_ok true l (tile_place (a + 1)) n → (b && All l (a + 1) n) ≡ tiles_ok b l (tile_place a + 84) n
    go true rest = rest ∙ ap (λ i. tiles_ok true l i n) next
    go false rest = sym (tiles_false l n (tile_place a + 84))
