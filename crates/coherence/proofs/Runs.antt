-- The invariant of every bench that a list of calls leaves, of the words last written and of what each tile waits for by the history.
use Prim.Native.Nat.{ℕ}
use mathlib.Core.Path.{◌≡◌, refl, sym, subst, ◌∙◌}
use mathlib.Core.Bool.{false, and-false}
use mathlib.Core.List.{List, [], ◌∷◌}
use lib.Dec.{eqb}
use lib.ListN.{length, get_or, length-replicate, get_or-replicate}
use Rattle.masks.proofs.MaskLaws.{has_none}
use Rattle.protocol.specs.Parts.{Words, Waiting, nothing, for_load, for_store, Bench, Call, Result, refused, accepted, idle, absent}
use Rattle.protocol.specs.Bench.{fresh_tile, fresh, step}
use Rattle.protocol.specs.Answers.{acceptance, answer_of, has_kind}
use Rattle.protocol.specs.Calls.{Role, accesses, delivers_to, takes, neither, role_of}
use Rattle.protocol.specs.Runs.{rules, kept, after, runs, event, history, waits_for_by, waits_for_after, waits_for_since, waits_for}
use Rattle.protocol.specs.Order1.{last_written, GivesLast}
use Rattle.coherence.proofs.Said.{answer, said_waits, said_words, said_gives}
use Rattle.coherence.proofs.Invariant.{Sees, sees_absent, stranger_plain, resting, ok, absent_ok, idle_ok, At, at, Inv, inv, Holds, fine_refused, fine}
use Rattle.protocol.proofs.Tests.{false_true}
use Rattle.coherence.proofs.Written.{written_by, written_after, written_since, since_word}
use Rattle.coherence.proofs.Calls.{Next, step_fine}

pub fresh_inv : (n : ℕ) (mem : Words) → Inv mem (λ t. nothing) n (fresh n mem)
unfolding fresh
fresh_inv n mem =
    inv (length-replicate n fresh_tile) (idle_ok (absent_ok refl))
    (λ t lt. subst (At mem (λ u. nothing) 0 (Sees (idle absent)) t) (sym (get_or-replicate n t fresh_tile fresh_tile lt)) (at sees_absent (has_none t) (ok stranger_plain resting)))

-- ---- a refusal has kind 0: it writes nothing, answers no load, and nobody starts or ends waiting

no_kind_1 : (n : ℕ) → has_kind 1 (answer n 0 0) ≡ false
unfolding has_kind
no_kind_1 n = and-false (eqb n 0)

no_kind_2 : (n : ℕ) → has_kind 2 (answer n 0 0) ≡ false
unfolding has_kind
no_kind_2 n = and-false (eqb n 0)

no_kind_3 : (n : ℕ) → has_kind 3 (answer n 0 0) ≡ false
unfolding has_kind
no_kind_3 n = and-false (eqb n 0)

refused_words : (n : ℕ) (o : Role) (q : ℕ → Waiting) (ws : Words) → written_by o (answer n 0 0) q ws ≡ ws
unfolding written_by
refused_words n (accesses t p) q ws = rw (no_kind_2 n)
refused_words n (delivers_to t) q ws = rw (no_kind_2 n)
refused_words n takes q ws = refl
refused_words n neither q ws = refl

refused_waits : (n : ℕ) (o : Role) (t : ℕ) (x : Waiting) → waits_for_by t o (answer n 0 0) x ≡ x
unfolding waits_for_by
refused_waits n (accesses u p) t x = rw (no_kind_3 n, and-false (eqb u t))
refused_waits n (delivers_to u) t x = rw (no_kind_1 n, no_kind_2 n, and-false (eqb u t))
refused_waits n takes t x = refl
refused_waits n neither t x = refl

refused_gives : (n : ℕ) (o : Role) (q : ℕ → Waiting) (ws : Words) → GivesLast (λ w. get_or ws w 0) q o (answer n 0 0)
unfolding GivesLast
refused_gives n (accesses t nothing) q ws = (no_kind_1 n, no_kind_2 n)
refused_gives n (accesses t (for_load w)) q ws = ((λ e. false_true (sym (no_kind_1 n) ∙ e)), no_kind_2 n)
refused_gives n (accesses t (for_store w v)) q ws = no_kind_1 n
refused_gives n (delivers_to t) q ws = ((λ e. false_true (sym (no_kind_1 n) ∙ e)), (λ e. false_true (sym (no_kind_2 n) ∙ e)))
refused_gives n takes q ws = (no_kind_1 n, no_kind_2 n)
refused_gives n neither q ws = (no_kind_1 n, no_kind_2 n)

-- ---- one call, accepted or refused

kept_inv : {ws : Words} {q : ℕ → Waiting} {n : ℕ} {b : Bench} (c : Call) (r : Result Bench) → Inv ws q n b → Holds (Next ws q n c) r
    → Inv (written_after (event c (answer_of r)) q ws) (λ t. waits_for_after t (event c (answer_of r)) (q t)) n (kept b r)
unfolding kept answer_of written_after waits_for_after
kept_inv {ws} {q} {n} {b} c (refused k) i (fine_refused e) =
    subst (λ (us : Words). Inv us (λ t. waits_for_after t (event c (answer k 0 0)) (q t)) n b) (sym (refused_words k (role_of c) q ws))
    (subst (λ (p : ℕ → Waiting). Inv ws p n b) (λ j t. sym (refused_waits k (role_of c) t (q t)) j) i)
kept_inv {ws} {q} {n} c (accepted k v d ms) i (fine p) =
    subst (λ (us : Words). Inv us (λ t. waits_for_after t (event c (acceptance k v ms)) (q t)) n d) (said_words (role_of c) k v ms q ws)
    (subst (λ (o : ℕ → Waiting). Inv (written_by (role_of c) (answer 0 k v) q ws) o n d) (λ j t. said_waits t (role_of c) k v ms (q t) j) p.0)

kept_gives : (ws : Words) (q : ℕ → Waiting) (n : ℕ) (c : Call) (r : Result Bench) → Holds (Next ws q n c) r → GivesLast (λ w. get_or ws w 0) q (role_of c) (answer_of r)
unfolding answer_of
kept_gives ws q n c (refused k) (fine_refused e) = refused_gives k (role_of c) q ws
kept_gives ws q n c (accepted k v b ms) (fine p) = said_gives _ q (role_of c) k v ms p.1

-- ---- lists of calls

since_inv : {ws : Words} {q : ℕ → Waiting} {n : ℕ} {b : Bench} (cs : List Call) → Inv ws q n b → Inv (written_since q ws (history rules cs b)) (waits_for_since q (history rules cs b)) n (runs rules cs b)
unfolding runs after history written_since waits_for_since
since_inv [] i = i
since_inv {ws = ws} {q = q} {n = n} {b = b} (c ∷ cs) i = since_inv {ws = written_after (event c (answer_of (step c b))) q ws} cs (kept_inv c (step c b) i (step_fine c i))

-- the words last written after a list of calls on a fresh bench
abbrev pub words_last : ℕ → Words → List Call → Words
words_last n mem cs = written_since (λ t. nothing) mem (history rules cs (fresh n mem))

pub runs_inv : (n : ℕ) (mem : Words) (cs : List Call) → Inv (words_last n mem cs) (waits_for (history rules cs (fresh n mem))) n (runs rules cs (fresh n mem))
unfolding waits_for
runs_inv n mem cs = since_inv cs (fresh_inv n mem)

word_last : (n : ℕ) (mem : Words) → length mem ≡ 8 → (cs : List Call) (w : ℕ) → get_or (words_last n mem cs) w 0 ≡ last_written mem (history rules cs (fresh n mem)) w
unfolding last_written
word_last n mem eight cs w = since_word cs (fresh n mem) (λ t. nothing) mem w eight (λ t. tt)

-- the next call's answer
pub next_gives : (n : ℕ) (mem : Words) → length mem ≡ 8 → (cs : List Call) (c : Call)
    → GivesLast (last_written mem (history rules cs (fresh n mem))) (waits_for (history rules cs (fresh n mem))) (role_of c) (answer_of (step c (runs rules cs (fresh n mem))))
next_gives n mem eight cs c =
    subst (λ (last : ℕ → ℕ). GivesLast last (waits_for (history rules cs (fresh n mem))) (role_of c) (answer_of (step c (runs rules cs (fresh n mem))))) (λ j w. word_last n mem eight cs w j)
    (kept_gives _ _ n c (step c (runs rules cs (fresh n mem))) (step_fine c (runs_inv n mem cs)))
