-- Ports of a node (01: 'Ports are 0 processor, 2 west, 3 south, 4 east, 5 north').
use Rattle.std.specs.Prelude.{ℕ}

abbrev pub port_processor : ℕ
port_processor = 0

abbrev pub port_west : ℕ
port_west = 2

abbrev pub port_south : ℕ
port_south = 3

abbrev pub port_east : ℕ
port_east = 4

abbrev pub port_north : ℕ
port_north = 5
