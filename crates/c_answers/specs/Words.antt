-- The answers as words, in the order in which include/duzhmarqi.h names them.
use Rattle.std.specs.Prelude.{ℕ, Bool, cond, List, [], ◌∷◌}
use Rattle.protocol.specs.declared.Answer.{Answer}
use Rattle.flits.specs.Words.{Header}
use Rattle.flits.specs.Reading.{ReadAnswer}
use Rattle.flits.specs.Writing.{WriteAnswer}
use Rattle.job_format.specs.Check.{Checked}

-- true is 1, false is 0
abbrev pub truth : Bool → ℕ
truth b = cond b 1 0

-- of a call on a bench
abbrev pub answer_words : Answer → List ℕ
answer_words a = a.refusal ∷ a.kind ∷ a.value ∷ a.sent ∷ a.tiles ∷ []

-- the 18 fields of a message, in the order of `Header`
abbrev pub field_words : Header → List ℕ
field_words h =
    h.opcode ∷ h.tag ∷ h.to.chip ∷ h.to.x ∷ h.to.y ∷ h.to.port
    ∷ h.state ∷ h.miss ∷ h.address54 ∷ h.last ∷ h.address ∷ h.vector ∷ h.icache ∷ h.size
    ∷ h.from.chip ∷ h.from.x ∷ h.from.y ∷ h.from.port ∷ []

-- of a read: refusal number, flits used, where among them the data start, and the fields
abbrev pub read_words : ReadAnswer → List ℕ
read_words x = x.refusal ∷ x.used ∷ x.start ∷ field_words x.header

-- of a write: refusal number, and how many flits were written
abbrev pub written_words : WriteAnswer → List ℕ
written_words x = x.refusal ∷ x.flits ∷ []

-- of a job's check: refusal number, and the offset of the bad field
abbrev pub checked_words : Checked → List ℕ
checked_words x = x.refusal ∷ x.offset ∷ []
