-- Big-endian numbers read byte by byte. Assumes nothing.
use Prim.Native.Nat.{ℕ, ◌+◌, ◌*◌, ◌^◌, ◌<◌}
use mathlib.Core.Path.{◌≡◌}
use mathlib.Core.List.{List}
use native.Mathlib.Nat.{pow-suc, pow-le-pow_right, le_trans}
use native.Mathlib.Numerals.{add-one}
use native.Mathlib.Omega.{arith}
use lib.Arith.{digits_lt}
use lib.Dec.{lit<}
use lib.ListN.{get_or}
use Rattle.job_format.specs.Bytes.{big_at}

-- one byte more
pub big_more : (job : List ℕ) (at i acc b : ℕ) → acc ≡ big_at i job at → b ≡ get_or job (at + i) 0 → acc * 256 + b ≡ big_at (i + 1) job at
unfolding big_at
big_more job at i acc b e f = rw (add-one, e, f)

pub below_more : (i acc b : ℕ) → acc < 256 ^ i → b < 256 → acc * 256 + b < 256 ^ (i + 1)
below_more i acc b h k = rw (add-one, pow-suc) (digits_lt h k)

-- up to eight bytes fit a word
pub eight_fit : (i acc b : ℕ) → i < 8 → acc < 256 ^ i → b < 256 → acc * 256 + b < 2 ^ 64
eight_fit i acc b l h k = le_trans (below_more i acc b h k) (pow-le-pow_right {n = 256} (lit< tt) {i = i + 1} {j = 8} (omega arith))
