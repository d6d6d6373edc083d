-- Sizes that 01 fixes.
use Rattle.std.specs.Prelude.{ℕ}

-- tiles of a bench, 1 to 64
abbrev pub most_tiles : ℕ
most_tiles = 64

-- words of a line, and so word numbers below 8
abbrev pub words_in_line : ℕ
words_in_line = 8

-- bytes of a word
abbrev pub word_bytes : ℕ
word_bytes = 8

-- a line address is a multiple of it
abbrev pub line_bytes : ℕ
line_bytes = 64

-- bytes of a job
abbrev pub most_job_bytes : ℕ
most_job_bytes = 65536
