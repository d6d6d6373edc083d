-- A call by its tag is one at a tile, or at the home. Assumes nothing.
use Prim.Native.Nat.{ℕ}
use mathlib.Core.Path.{◌≡◌, refl}
use mathlib.Core.Bool.{Bool, true, false, cond}
use lib.Dec.{eqb}
use Rattle.protocol.specs.Calls.{call_table, tile_calls, home_calls, has_tag, call_from}

pub call_from_lem : (tag t w v : ℕ) → call_from call_table tag t w v ≡ cond (has_tag tile_calls tag) (call_from tile_calls tag t w v) (call_from home_calls tag t 0 0)
call_from_lem tag t w v = go (eqb tag 16) refl (eqb tag 17) refl (eqb tag 18) refl (eqb tag 20) refl
  where
    go : (a : Bool) → eqb tag 16 ≡ a → (b : Bool) → eqb tag 17 ≡ b → (d : Bool) → eqb tag 18 ≡ d → (e : Bool) → eqb tag 20 ≡ e →
        call_from call_table tag t w v ≡ cond (has_tag tile_calls tag) (call_from tile_calls tag t w v) (call_from home_calls tag t 0 0)
    go true p b q d r e s = simp p
    go false p true q d r e s = simp (p, q)
    go false p false q true r e s = simp (p, q, r)
    go false p false q false r true s = simp (p, q, r, s)
    go false p false q false r false s = simp (p, q, r, s)
