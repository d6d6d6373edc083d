-- 01's listing, line by line and byte for byte, and numbers at the ends of their ranges, computed. Assumes nothing.
use mathlib.Core.Path.{◌≡◌, refl}
use mathlib.Core.List.{[], ◌∷◌}
use lib.ListN.{replicate}
use Rattle.listing.specs.Digits.{ascii, digit_byte, digits, hex16, hex12, decimal_from, decimal}
use Rattle.listing.specs.Lines.{bench_line, call_line, flits_text, message_line, end_line, refused_line}

first_line : bench_line 1 0x80001040 ≡ ascii "bench 1 000080001040\n"
unfolding bench_line decimal_from digits digit_byte
first_line = refl

call_lines_lem : (call_line 1 0 3 0 ≡ ascii "1 0 3 0\n") × (call_line 5 0 1 7 ≡ ascii "5 0 1 7\n") × (call_line 100 17 2 64 ≡ ascii "100 17 2 64\n")
unfolding call_line decimal_from digits digit_byte
call_lines_lem = (refl, refl, refl)

message_lines :
    (message_line (0x87C000 ∷ 0x0000800010400400 ∷ 0 ∷ []) ≡ ascii "> 000000000087C000 0000800010400400 0000000000000000\n")
    × (message_line (0x02074028 ∷ 7 ∷ replicate 7 0)
    ≡ ascii "> 0000000002074028 0000000000000007 0000000000000000 0000000000000000 0000000000000000 0000000000000000 0000000000000000 0000000000000000 0000000000000000\n")
unfolding message_line flits_text digits digit_byte
message_lines = (refl, refl)

last_line : end_line 5 ≡ ascii "end 5\n"
unfolding end_line decimal_from digit_byte
last_line = refl

refused_line_lem : refused_line 25 65536 ≡ ascii "job refused 25 at 65536\n"
unfolding refused_line decimal_from digit_byte
refused_line_lem = refl

numbers :
    (decimal 0 ≡ ascii "0") × (decimal 10 ≡ ascii "10") × (decimal 18446744073709551615 ≡ ascii "18446744073709551615")
    × (hex16 0x0123456789ABCDEF ≡ ascii "0123456789ABCDEF") × (hex12 0xFEDCBA987640 ≡ ascii "FEDCBA987640")
unfolding decimal_from digits digit_byte
numbers = (refl, refl, refl, refl, refl)
