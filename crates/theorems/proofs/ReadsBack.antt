-- A message of a bench, written and read back. Assumes nothing.
use Prim.Native.Nat.{ℕ, ◌+◌}
use mathlib.Core.Path.{◌≡◌}
use mathlib.Core.List.{List}
use lib.ListN.{length}
use Rattle.flits.specs.Words.{Header}
use Rattle.flits.specs.Table.{row_of, header_extra}
use Rattle.flits.specs.Writing.{write_refusal, written_of}
use Rattle.flits.proofs.Laws.{read_back, data_back}
use Rattle.message_flits.specs.Fields.{message_header, message_fields, message_data}
use Rattle.theorems.specs.Messages.{ReadsBackStatement}
use Rattle.theorems.proofs.Accepted.{carried_accepted, carried_kept}

-- any message that the writer accepts
is_written : (h : Header) (ws b : List ℕ) (at : ℕ) → write_refusal h (length ws) (length b) at ≡ 0
    → written_of h (length ws) (length b) at ≡ record { refusal = 0; flits = header_extra (row_of h.opcode) + length ws + 1 }
unfolding written_of
is_written h ws b at zero = rw zero

-- Every message of its queue and in range, at every line address, where there is room for its flits.
pub reads_back : ReadsBackStatement
unfolding message_fields message_header
reads_back line q t m is carried b at fits =
    let zero = carried_accepted line is (length b) at q t m carried fits in
    record {
      written = is_written (message_fields line q t m) (message_data m) b at zero;
      fields = read_back (message_fields line q t m) (message_data m) b at zero;
      words = data_back (message_fields line q t m) (message_data m) b at zero;
      message = carried_kept line is (length b) at q t m carried;
    }
