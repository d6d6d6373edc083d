-- What an answer says, refusal number, kind and value, is all that waiting, writing and order 1 look at.
use Prim.Native.Nat.{ℕ}
use mathlib.Core.Path.{◌≡◌, refl}
use mathlib.Core.List.{List}
use Rattle.protocol.specs.declared.Answer.{Answer}
use Rattle.protocol.specs.Parts.{Words, Message, Waiting, nothing, for_load, for_store}
use Rattle.protocol.specs.Calls.{Role, accesses, delivers_to, takes, neither}
use Rattle.protocol.specs.Answers.{acceptance, has_kind}
use Rattle.protocol.specs.Runs.{waits_for_by}
use Rattle.protocol.specs.Order1.{GivesLast}
use Rattle.coherence.proofs.Written.{written_by}

-- an answer that sends nothing
abbrev pub answer : ℕ → ℕ → ℕ → Answer
answer n k v = record { refusal = n; kind = k; value = v; sent = 0; tiles = 0 }

pub said_waits : (t : ℕ) (o : Role) (k v : ℕ) (ms : List Message) (x : Waiting) → waits_for_by t o (answer 0 k v) x ≡ waits_for_by t o (acceptance k v ms) x
unfolding waits_for_by has_kind
said_waits t (accesses u p) k v ms x = refl
said_waits t (delivers_to u) k v ms x = refl
said_waits t takes k v ms x = refl
said_waits t neither k v ms x = refl

pub said_words : (o : Role) (k v : ℕ) (ms : List Message) (q : ℕ → Waiting) (ws : Words) → written_by o (answer 0 k v) q ws ≡ written_by o (acceptance k v ms) q ws
unfolding written_by has_kind
said_words (accesses t p) k v ms q ws = refl
said_words (delivers_to t) k v ms q ws = refl
said_words takes k v ms q ws = refl
said_words neither k v ms q ws = refl

pub said_gives : (last : ℕ → ℕ) (q : ℕ → Waiting) (o : Role) (k v : ℕ) (ms : List Message) → GivesLast last q o (answer 0 k v) → GivesLast last q o (acceptance k v ms)
unfolding GivesLast has_kind
said_gives last q (accesses t nothing) k v ms g = g
said_gives last q (accesses t (for_load w)) k v ms g = g
said_gives last q (accesses t (for_store w x)) k v ms g = g
said_gives last q (delivers_to t) k v ms g = g
said_gives last q takes k v ms g = g
said_gives last q neither k v ms g = g
