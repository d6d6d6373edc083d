-- Refusal numbers (01, 'Refusal numbers' and 'Jobs'), in the paper's order.
use Rattle.std.specs.Prelude.{ℕ}
use Rattle.numbers.specs.declared.refusals.Refusal.{Refusal}
use Rattle.numbers.specs.declared.refusals.Refusal.TheVariants.{Malformed, NoTile, NoWord, TileWaits, NoLine, NotIdle, NothingThere, Misfit, QueueFull, NoFlit, UnknownType, WrongLength, FlitsMissing, UnknownPort, ReservedSet, BadField, NoRoom, JobCut, JobTag, JobLength, JobPlace, JobValue, JobTooLong}

-- not refused
abbrev pub no_refusal : ℕ
no_refusal = 0

-- ---- the bench

-- bench malformed, or lent words fewer than T tiles need
abbrev pub malformed_refusal : ℕ
malformed_refusal = 1

-- tile number T or above; tile count not 1 to 64
abbrev pub no_tile_refusal : ℕ
no_tile_refusal = 2

-- word 8 or above
abbrev pub no_word_refusal : ℕ
no_word_refusal = 3

-- load or store at a tile that waits
abbrev pub tile_waits_refusal : ℕ
tile_waits_refusal = 4

-- tile in I, or home holds no line: nothing to evict
abbrev pub no_line_refusal : ℕ
no_line_refusal = 5

-- home not idle (taking, home eviction)
abbrev pub not_idle_refusal : ℕ
not_idle_refusal = 6

-- queue empty, or no tile can be taken
abbrev pub nothing_there_refusal : ℕ
nothing_there_refusal = 7

-- front message does not fit its receiver
abbrev pub misfit_refusal : ℕ
misfit_refusal = 8

-- a queue that must take a message holds two
abbrev pub queue_full_refusal : ℕ
queue_full_refusal = 9

-- ---- flits

-- no flit at all
abbrev pub no_flit_refusal : ℕ
no_flit_refusal = 10

-- type not in the table
abbrev pub unknown_type_refusal : ℕ
unknown_type_refusal = 11

-- length not of this type; on writing, data count wrong
abbrev pub wrong_length_refusal : ℕ
wrong_length_refusal = 12

-- fewer flits than the length says
abbrev pub flits_missing_refusal : ℕ
flits_missing_refusal = 13

-- port not listed
abbrev pub unknown_port_refusal : ℕ
unknown_port_refusal = 14

-- reserved bit set
abbrev pub reserved_set_refusal : ℕ
reserved_set_refusal = 15

-- field too wide or not allowed for its type
abbrev pub bad_field_refusal : ℕ
bad_field_refusal = 16

-- place for writing outside the buffer, or too little room there
abbrev pub no_room_refusal : ℕ
no_room_refusal = 17

-- ---- jobs

-- cut short in the head or in the value
abbrev pub job_cut_refusal : ℕ
job_cut_refusal = 20

-- tag
abbrev pub job_tag_refusal : ℕ
job_tag_refusal = 21

-- length
abbrev pub job_length_refusal : ℕ
job_length_refusal = 22

-- wrong place, or header field missing
abbrev pub job_place_refusal : ℕ
job_place_refusal = 23

-- tile count or line address
abbrev pub job_value_refusal : ℕ
job_value_refusal = 24

-- too long
abbrev pub job_too_long_refusal : ℕ
job_too_long_refusal = 25

-- the number of each refusal that the code names
abbrev pub refusal_number : Refusal → ℕ
refusal_number Malformed = malformed_refusal
refusal_number NoTile = no_tile_refusal
refusal_number NoWord = no_word_refusal
refusal_number TileWaits = tile_waits_refusal
refusal_number NoLine = no_line_refusal
refusal_number NotIdle = not_idle_refusal
refusal_number NothingThere = nothing_there_refusal
refusal_number Misfit = misfit_refusal
refusal_number QueueFull = queue_full_refusal
refusal_number NoFlit = no_flit_refusal
refusal_number UnknownType = unknown_type_refusal
refusal_number WrongLength = wrong_length_refusal
refusal_number FlitsMissing = flits_missing_refusal
refusal_number UnknownPort = unknown_port_refusal
refusal_number ReservedSet = reserved_set_refusal
refusal_number BadField = bad_field_refusal
refusal_number NoRoom = no_room_refusal
refusal_number JobCut = job_cut_refusal
refusal_number JobTag = job_tag_refusal
refusal_number JobLength = job_length_refusal
refusal_number JobPlace = job_place_refusal
refusal_number JobValue = job_value_refusal
refusal_number JobTooLong = job_too_long_refusal
