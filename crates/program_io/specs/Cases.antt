-- Test cases as lines: what a line says, in numbers of a base.
use Rattle.std.specs.Prelude.{◌≡◌, ℕ, ◌+◌, ◌-◌, ◌*◌, ◌%◌, ◌^◌, not, ◌&&◌, is_none, List, ◌∷◌, ◌++◌, length, map, drop, fold, filter, filter_map, Option, Some, None, Contains, MatchOption, slice_get, ◌==◌, nat_lt, nat_le, if◌then◌else◌}
use Rattle.std.specs.List.{slice_split, prefix_len}
use Rattle.program_io.specs.declared.cases.Case.{Case}

-- the byte that ends a line
abbrev pub newline : ℕ
newline = 10

-- numbers of a line that are kept
abbrev pub most_numbers : ℕ
most_numbers = 64

-- the value of a byte, if it is a digit of the base: 0 to 9, then A to F
abbrev pub digit_of : ℕ → ℕ → Option ℕ
digit_of base byte =
    let below : ℕ → Option ℕ = λ value. if nat_lt value base then Some value else None in
    if nat_le 48 byte && nat_le byte 57 then below (byte - 48)
    else (if nat_le 65 byte && nat_le byte 70 then below (byte - 55) else None)

-- the number that digits say, modulo 2 ^ 64
abbrev pub number_of : ℕ → List ℕ → ℕ
number_of base digits = fold (λ number digit. ((number * base) % 2 ^ 64 + digit) % 2 ^ 64) 0 (filter_map (digit_of base) digits)

-- the numbers of a text: each run of digits that is as long as can be
abbrev pub numbers_of : ℕ → List ℕ → List ℕ
numbers_of base text =
    let runs = slice_split (λ byte. is_none (digit_of base byte)) text in
    map (number_of base) (filter (λ digits. not (length digits == 0)) runs)

-- a line from its first byte on that is not 0
abbrev pub without_zeros : List ℕ → List ℕ
without_zeros line = drop (prefix_len (λ byte. byte == 0) line) line

-- A line's first byte, and the text after it, whose numbers are in this base.
abbrev pub IsCase : ℕ → List ℕ → Case → Type 0
IsCase base line case = (case.command ≡ slice_get (without_zeros line) 0)
    × ((case.text.now ≡ drop 1 (without_zeros line)) × (case.base ≡ base))

-- The front line of an input goes, with its newline, and is the case. With no newline left, no case is.
abbrev pub ReadsCase : ℕ → List ℕ → Option Case → List ℕ → Type 0
ReadsCase base old read new =
    let Reads : Case → Type 0 =
    λ case. (line : List ℕ) × ((old ≡ line ++ newline ∷ new) × ¬ Contains line newline × IsCase base line case) in
    MatchOption read (¬ Contains old newline) Reads
