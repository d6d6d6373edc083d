-- A law of the number of data words. Assumes nothing.
use Prim.Native.Nat.{ℕ, ◌≤◌}
use mathlib.Core.Bool.{Bool, true, false, cond}
use native.Mathlib.Omega.{arith}
use lib.Dec.{eqb}
use Rattle.flits.specs.Table.{TypeRow, header_extra}
use Rattle.message_flits.specs.Fields.{data_count}

pub count_le : (e : TypeRow) (flag : ℕ) → data_count e flag ≤ 8
unfolding data_count
count_le e flag = go (eqb e.short e.long) (eqb e.long (header_extra e)) (eqb flag 0)
  where
    go : (a b c : Bool) → cond a (cond b 0 8) (cond c 0 8) ≤ 8
    go true true c = omega arith
    go true false c = omega arith
    go false b true = omega arith
    go false b false = omega arith
