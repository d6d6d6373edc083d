-- Texts and numbers in a listing (01, 'Jobs'), as bytes.
use Rattle.std.specs.Prelude.{ℕ, suc, ◌+◌, ◌-◌, ◌/◌, ◌%◌, cond, List, [], ◌∷◌, ◌++◌, ltb}
use Prim.Native.Char.{code}
use Prim.Native.String.{String, [] as empty, ◌∷◌ as ◌then◌}

-- ---- texts

-- a byte for each character
abbrev pub ascii : String → List ℕ
ascii empty = []
ascii (c then text) = code c ∷ ascii text

abbrev pub space : ℕ
space = code " "

abbrev pub newline : ℕ
newline = code "\n"

-- ---- numbers

abbrev pub decimal_base : ℕ
decimal_base = 10

abbrev pub hexadecimal_base : ℕ
hexadecimal_base = 16

-- 0 to 9, then A to F
unfoldable pub digit_byte : ℕ → ℕ
digit_byte value = cond (ltb value decimal_base) (code "0" + value) (code "A" - decimal_base + value)

-- the last digits of a number, so many, the highest first
unfoldable pub digits : ℕ → ℕ → ℕ → List ℕ
digits base ℕ.zero number = []
digits base (suc count) number = digits base count (number / base) ++ (digit_byte (number % base) ∷ [])

-- a flit, and a line address
abbrev pub flit_digits : ℕ
flit_digits = 16

abbrev pub address_digits : ℕ
address_digits = 12

abbrev pub hex16 : ℕ → List ℕ
hex16 number = digits hexadecimal_base flit_digits number

abbrev pub hex12 : ℕ → List ℕ
hex12 number = digits hexadecimal_base address_digits number

-- in decimal without leading zeros, of at most so many digits; 20 are enough for 64 bits
unfoldable pub decimal_from : ℕ → ℕ → List ℕ
decimal_from ℕ.zero number = []
decimal_from (suc most) number =
    cond (ltb number decimal_base) (digit_byte number ∷ []) (decimal_from most (number / decimal_base) ++ (digit_byte (number % decimal_base) ∷ []))

abbrev pub most_decimal_digits : ℕ
most_decimal_digits = 20

abbrev pub decimal : ℕ → List ℕ
decimal number = decimal_from most_decimal_digits number

-- a number and the byte behind it
abbrev pub number_then : ℕ → ℕ → List ℕ
number_then number behind = decimal number ++ (behind ∷ [])
