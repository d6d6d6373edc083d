-- The lines of a listing (01, 'Jobs') as bytes.
use Rattle.std.specs.Prelude.{ℕ, ◌+◌, List, [], ◌∷◌, ◌++◌}
use Rattle.listing.specs.Digits.{flit_digits, ascii, space, newline, hex16, hex12, number_then}

-- bench T ADDRESS
unfoldable pub bench_line : ℕ → ℕ → List ℕ
bench_line tiles address = ascii "bench " ++ (number_then tiles space ++ (hex12 address ++ ascii "\n"))

-- call number, refusal, kind, value
unfoldable pub call_line : ℕ → ℕ → ℕ → ℕ → List ℕ
call_line number refusal kind value = number_then number space ++ (number_then refusal space ++ (number_then kind space ++ number_then value newline))

-- '>' and the flits of a sent message, each with a space before it
abbrev pub flit_text : ℕ → List ℕ
flit_text flit = ascii " " ++ hex16 flit

unfoldable pub flits_text : List ℕ → List ℕ
flits_text [] = []
flits_text (f ∷ fs) = flit_text f ++ flits_text fs

unfoldable pub message_line : List ℕ → List ℕ
message_line flits = ascii ">" ++ (flits_text flits ++ ascii "\n")

-- end N
unfoldable pub end_line : ℕ → List ℕ
end_line calls = ascii "end " ++ number_then calls newline

-- job refused N at OFFSET
unfoldable pub refused_line : ℕ → ℕ → List ℕ
refused_line number offset = ascii "job refused " ++ (number_then number space ++ (ascii "at " ++ number_then offset newline))

-- ---- how many bytes of a message's line are not flits, and of a flit

abbrev pub message_fixed : ℕ
message_fixed = 2

abbrev pub flit_bytes : ℕ
flit_bytes = 1 + flit_digits
