-- The numbers by which a bench's words say the home's phase, the directory's state and what a tile waits for.
use Rattle.std.specs.Prelude.{ℕ}

-- The home's phase: idle; waiting for memory load, for the owner or for invalidations, each by what the home acts for (a load, a store or an
-- eviction, as far as 01 has it); for memory store.
abbrev pub phase_idle : ℕ
phase_idle = 0

abbrev pub phase_loading_for_load : ℕ
phase_loading_for_load = 1

abbrev pub phase_loading_for_store : ℕ
phase_loading_for_store = 2

abbrev pub phase_owner_for_load : ℕ
phase_owner_for_load = 3

abbrev pub phase_owner_for_store : ℕ
phase_owner_for_store = 4

abbrev pub phase_owner_for_eviction : ℕ
phase_owner_for_eviction = 5

abbrev pub phase_acks_for_store : ℕ
phase_acks_for_store = 6

abbrev pub phase_acks_for_eviction : ℕ
phase_acks_for_eviction = 7

abbrev pub phase_storing : ℕ
phase_storing = 8

-- The directory's state: I, S or E.
abbrev pub directory_i : ℕ
directory_i = 0

abbrev pub directory_s : ℕ
directory_s = 1

abbrev pub directory_e : ℕ
directory_e = 2

-- What a tile waits for: nothing, a load or a store.
abbrev pub waits_for_nothing : ℕ
waits_for_nothing = 0

abbrev pub waits_for_load : ℕ
waits_for_load = 1

abbrev pub waits_for_store : ℕ
waits_for_store = 2
