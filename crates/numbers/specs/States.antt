-- States of a line (01: 'States I=0, S=1, E=2, M=3').
use Rattle.std.specs.Prelude.{ℕ}

abbrev pub state_i : ℕ
state_i = 0

abbrev pub state_s : ℕ
state_s = 1

abbrev pub state_e : ℕ
state_e = 2

abbrev pub state_m : ℕ
state_m = 3
