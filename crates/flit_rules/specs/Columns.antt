-- A device of the proofs: no public promise rests on it alone.
-- An entry of the code's table: a row as a number with a hexadecimal digit for each column.
use Rattle.std.specs.Prelude.{ℕ, ◌*◌, ◌/◌, ◌%◌, ◌^◌, eqb}
use Rattle.flit_rules.specs.declared.TypeRow.{TypeRow}

-- the digit at place k; the lowest, at 0, is e % 16
abbrev pub digit : ℕ → ℕ → ℕ
digit e k = e / 2 ^ (4 * k) % 16

unfoldable pub row_of_entry : ℕ → TypeRow
row_of_entry e =
    record {
      network = digit e 15;
      three = eqb (digit e 14) 1;
      short = digit e 13;
      long = digit e 12;
      least = digit e 11;
      most = digit e 10;
      vector = digit e 9;
      icache = digit e 8;
      line = eqb (digit e 7) 1;
      options = eqb (digit e 6) 1;
      low = digit e 5;
      full = digit e 4;
      high = digit e 3;
      miss = digit e 2;
      address54 = digit e 1;
      last = digit e 0;
    }
