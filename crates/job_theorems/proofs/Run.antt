-- All pieces of a run are the listing. Assumes nothing.
use Prim.Native.Nat.{ℕ, zero, suc, ◌+◌, ◌-◌, ◌≤◌, ◌<◌}
use mathlib.Core.Path.{◌≡◌, refl, ap, ap₂, sym, ◌∙◌}
use mathlib.Core.Bool.{Bool, true, false, cond}
use mathlib.Core.List.{List, [], ◌∷◌, ◌++◌, append_assoc, append-nil, map}
use native.Mathlib.Omega.{arith}
use borrow.Author.Tests.{lt-ltb, le-ltb, ltb-true, ltb-false, eq-eqb, ne_eqb, eqb-true, eqb-false}
use lib.Dec.{ltb, leb, eqb}
use lib.ListN.{length}
use Rattle.calls.specs.Calls.{lent_words, start_on, words_started}
use Rattle.protocol.specs.Runs.{runs}
use Rattle.theorems.proofs.Calls.{started}
use Rattle.listing.specs.Lines.{bench_line, end_line, refused_line}
use Rattle.job_format.specs.Bytes.{next_at}
use Rattle.job_format.specs.Fields.{field_refusal}
use Rattle.job_format.specs.Check.{Checked, job_accepted, job_refused, check_end, check_fields, check_job}
use Rattle.job_format.specs.Places.{header_bytes}
use Rattle.job_format.specs.Job.{tile_count_of, line_address_of, memory_words_of, call_numbers_at, calls_of, CallNumbers}
use Rattle.job_format.specs.Accepted.{calls_at}
use Rattle.job_format.proofs.CallLaws.{call_in_lem, next_in, calls_step, calls_end}
use Rattle.job_format.proofs.AcceptedLaws.{accepted_job}
use Rattle.job_rules.specs.Calls.{bench_call}
use Rattle.job_rules.specs.Listing.{call_lines, lines_from, listing_of}
use Rattle.job_theorems.specs.Rules.{rule_listing}
use Rattle.job_theorems.proofs.Rules.{eight, by_the_rules}
use Rattle.job_rules.specs.RunStates.{Left, ended, rest_to_resume, run_of}
use Rattle.job_rules.specs.Room.{bytes_of, most_call_bytes}
use Rattle.job_rules.specs.Pieces.{preceded, bytes_of_call, words_after_call, piece_from, piece_in, accepted_piece, first_piece, next_piece, last_from, words_printed}
use Rattle.job_rules.proofs.Pieces.{one_call, piece_further, piece_moves}
use Rattle.job_theorems.specs.Run.{Printed, printed_after, printed_from, printed, all_of, AcceptedRunStatement, RefusedRunStatement, printout, RunStatement, WordsStatement}

bytes_append : (xs ys : List (List ℕ)) → bytes_of (xs ++ ys) ≡ bytes_of xs ++ bytes_of ys
unfolding bytes_of
bytes_append [] ys = refl
bytes_append (x ∷ xs) ys = ap (λ (z : List ℕ). x ++ z) (bytes_append xs ys) ∙ sym (append_assoc x (bytes_of xs) (bytes_of ys))

-- ---- what is left of the listing from a place of the job on

abbrev rest_bytes : List ℕ → ℕ → ℕ → ℕ → List ℕ → List ℕ
rest_bytes job line n at l = bytes_of (lines_from line n (map bench_call (calls_at job at)) l)

rest_end : (job : List ℕ) (line n at : ℕ) (l : List ℕ) → length job ≤ at → rest_bytes job line n at l ≡ end_line n ++ []
unfolding lines_from bytes_of
rest_end job line n at l h = rw (calls_end job at h)

rest_call : (job : List ℕ) (line n at : ℕ) (l : List ℕ) → at < length job → rest_bytes job line n at l ≡ bytes_of_call job line n at l ++ rest_bytes job line (n + 1) (next_at job at) (words_after_call job at l)
unfolding lines_from
rest_call job line n at l h =
    ap (λ (z : List CallNumbers). bytes_of (lines_from line n (map bench_call z) l)) (calls_step job at h ∙ ap₂ {C = List CallNumbers} (λ c p. c ∷ calls_at job p) (call_in_lem job at h) (next_in job at h))
    ∙ bytes_append (call_lines line (n + 1) (bench_call (call_numbers_at job at)) l) _

-- what comes behind a piece
abbrev behind_it : List ℕ → ℕ → Left → List ℕ
behind_it job line x = cond x.going (rest_bytes job line x.calls x.at x.words) []

call_rest : (job : List ℕ) (line n at : ℕ) (l : List ℕ) (t u : Bool) (y : Left) → ltb at (length job) ≡ u
    → (u ≡ true → rest_bytes job line (n + 1) (next_at job at) (words_after_call job at l) ≡ y.bytes ++ behind_it job line y)
    → rest_bytes job line n at l ≡ (one_call job line n at l t u y).bytes ++ behind_it job line (one_call job line n at l t u y)
unfolding preceded
call_rest job line n at l false u y e ih = refl
call_rest job line n at l true true y e ih =
    rest_call job line n at l (ltb-true at (length job) e) ∙ ap (λ (z : List ℕ). bytes_of_call job line n at l ++ z) (ih refl) ∙ sym (append_assoc (bytes_of_call job line n at l) y.bytes (behind_it job line y))
call_rest job line n at l true false y e ih = rest_end job line n at l (ltb-false at (length job) e)

-- a piece and what comes behind it
piece_rest : (f : ℕ) (job : List ℕ) (line limit p n at : ℕ) (l : List ℕ) → length job ≤ f + at
    → rest_bytes job line n at l ≡ (piece_from (suc f) job line limit p n at l).bytes ++ behind_it job line (piece_from (suc f) job line limit p n at l)
unfolding piece_from
piece_rest zero job line limit p n at l h = call_rest job line n at l (leb p limit) (ltb at (length job)) _ refl (λ e. absurd (omega (arith, ltb-true at (length job) e)))
piece_rest (suc f) job line limit p n at l h =
    call_rest job line n at l (leb p limit) (ltb at (length job)) _ refl
    (λ e. piece_rest f job line limit (p + length (bytes_of_call job line n at l)) (n + 1) (next_at job at) (words_after_call job at l) (omega arith))

-- ---- all pieces

-- a run that goes on, and enough pieces left for it
record Goes (g : ℕ) (job : List ℕ) (x : Left) : Type 0 where
  fewer : x.calls < x.at
  some : 1 ≤ g
  enough : length job < g + x.at

next_is : (job : List ℕ) (len : ℕ) (x : Left) → most_call_bytes ≤ len → x.going ≡ true → x.calls < x.at → next_piece job len (run_of 0 x) x.words ≡ piece_in job len 0 x.calls x.at x.words
unfolding next_piece rest_to_resume run_of
next_is job len x h g f = rw (le-ltb len most_call_bytes h, g, lt-ltb x.calls x.at f)

next_goes : (g : ℕ) (job : List ℕ) (len : ℕ) (x : Left) → x.going ≡ true → Goes (suc g) job x → (piece_in job len 0 x.calls x.at x.words).going ≡ true → Goes g job (piece_in job len 0 x.calls x.at x.words)
next_goes g job len x e z f =
    let m = piece_moves (length job) job (line_address_of job) (len - most_call_bytes) 0 x.calls x.at x.words (omega arith) f in
    record { fewer = (piece_further (suc (length job)) job (line_address_of job) (len - most_call_bytes) 0 x.calls x.at x.words f).fewer z.fewer; some = omega (arith, m.1, z.enough); enough = omega (arith, m.0, z.enough) }

all_pieces : (g : ℕ) (job : List ℕ) (len : ℕ) (x : Left) → most_call_bytes ≤ len → (x.going ≡ true → Goes g job x) → printed_from g job len x ≡ all_of (x.bytes ++ behind_it job (line_address_of job) x)
unfolding printed_from printed_after
all_pieces zero job len x h k = go x.going refl
  where
    go : (t : Bool) → x.going ≡ t → record { bytes = x.bytes; going = x.going } ≡ all_of (x.bytes ++ cond t (rest_bytes job (line_address_of job) x.calls x.at x.words) [])
    go true e = absurd (omega (arith, (k e).some))
    go false e = ap₂ {C = Printed} (λ b t. record { bytes = b; going = t }) (sym (append-nil x.bytes)) e
all_pieces (suc g) job len x h k =
    go x.going refl
    (λ e. let z = k e in
    let i = next_is job len x h e z.fewer in
    rw i (all_pieces g job len (piece_in job len 0 x.calls x.at x.words) h (next_goes g job len x e z)))
  where
    go : (t : Bool) → x.going ≡ t
        → (x.going ≡ true → printed_from g job len (next_piece job len (run_of 0 x) x.words) ≡ all_of ((piece_in job len 0 x.calls x.at x.words).bytes ++ behind_it job (line_address_of job) (piece_in job len 0 x.calls x.at x.words)))
        → cond t (printed_after x.bytes (printed_from g job len (next_piece job len (run_of 0 x) x.words))) (record { bytes = x.bytes; going = false })
        ≡ all_of (x.bytes ++ cond t (rest_bytes job (line_address_of job) x.calls x.at x.words) [])
    go true e ih = rw (ih e) (ap (λ (b : List ℕ). all_of (x.bytes ++ b)) (sym (piece_rest (length job) job (line_address_of job) (len - most_call_bytes) 0 x.calls x.at x.words (omega arith))))
    go false e ih = ap all_of (sym (append-nil x.bytes))

-- ---- the first piece

first_accepted : (job : List ℕ) (len : ℕ) (l : List ℕ) → most_call_bytes ≤ len → (check_job job).refusal ≡ 0 → first_piece job len l ≡ accepted_piece job len l
unfolding first_piece
first_accepted job len l h e = rw (le-ltb len most_call_bytes h, eq-eqb (check_job job).refusal 0 e)

pub accepted_run : AcceptedRunStatement
unfolding printed accepted_piece preceded bytes_of listing_of calls_of
accepted_run job l len y e w h =
    let a = accepted_job job e in
    let bs : List ℕ = bench_line (tile_count_of job) (line_address_of job) in
    let x : Left = piece_in job len (length bs) 0 header_bytes (words_started l (tile_count_of job) (start_on l (tile_count_of job) (memory_words_of job))) in
    rw (first_accepted job len l h (ap (λ (z : Checked). z.refusal) e))
    (all_pieces (length job) job len (preceded bs x) h
    (λ g. let z = piece_further (suc (length job)) job (line_address_of job) (len - most_call_bytes) (length bs) 0 header_bytes _ g in record { fewer = z.fewer (omega arith); some = omega (arith, a.header); enough = omega (arith, z.further) })
    ∙ ap all_of (append_assoc bs x.bytes (behind_it job (line_address_of job) x)
    ∙ ap (λ (z : List ℕ). bs ++ z) (sym (piece_rest (length job) job (line_address_of job) (len - most_call_bytes) (length bs) 0 header_bytes (words_started l (tile_count_of job) (start_on l (tile_count_of job) (memory_words_of job))) (omega arith)))
    ∙ ap bytes_of (by_the_rules job l y e w)))

ended_pieces : (f : ℕ) (job : List ℕ) (len : ℕ) (bs l : List ℕ) → printed_from f job len (ended bs l) ≡ all_of bs
unfolding printed_from
ended_pieces zero job len bs l = refl
ended_pieces (suc f) job len bs l = refl

pub refused_run : RefusedRunStatement
unfolding printed first_piece
refused_run job l len f e h = rw (le-ltb len most_call_bytes h, ne_eqb (check_job job).refusal 0 e) (ended_pieces f job len (refused_line (check_job job).refusal (check_job job).offset) l)

-- ---- every byte string: a job with refusal number 0 is accepted

end_zero : (at k : ℕ) (t : Bool) → (cond t (job_refused 23 at) job_accepted).refusal ≡ 0 → cond t (job_refused 23 at) job_accepted ≡ job_accepted
end_zero at k true e = absurd (omega arith)
end_zero at k false e = refl

field_zero : (n at : ℕ) (t u : Bool) (y z : Checked) → eqb n 0 ≡ u → (y.refusal ≡ 0 → y ≡ job_accepted) → (z.refusal ≡ 0 → z ≡ job_accepted)
    → (cond t (cond u y (job_refused n at)) z).refusal ≡ 0 → cond t (cond u y (job_refused n at)) z ≡ job_accepted
field_zero n at true true y z e f g h = f h
field_zero n at true false y z e f g h = absurd (eqb-false n 0 e h)
field_zero n at false u y z e f g h = g h

fields_zero : (f : ℕ) (job : List ℕ) (at k : ℕ) → (check_fields f job at k).refusal ≡ 0 → check_fields f job at k ≡ job_accepted
unfolding check_fields check_end
fields_zero zero job at k = end_zero at k (ltb k 3)
fields_zero (suc f) job at k = field_zero (field_refusal job at k) at (ltb at (length job)) (eqb (field_refusal job at k) 0) _ _ refl (fields_zero f job (next_at job at) (k + 1)) (end_zero at k (ltb k 3))

pub zero_accepted : (job : List ℕ) → (check_job job).refusal ≡ 0 → check_job job ≡ job_accepted
unfolding check_job
zero_accepted job = go (ltb 65536 (length job))
  where
    go : (t : Bool) → (cond t (job_refused 25 65536) (check_fields (length job) job 0 0)).refusal ≡ 0 → cond t (job_refused 25 65536) (check_fields (length job) job 0 0) ≡ job_accepted
    go true e = absurd (omega arith)
    go false e = fields_zero (length job) job 0 0 e

pub run : RunStatement
unfolding printout
run job l len y w h = go (eqb (check_job job).refusal 0) refl
  where
    go : (t : Bool) → eqb (check_job job).refusal 0 ≡ t → printed (length job) job len l ≡ all_of (cond t (bytes_of (rule_listing job)) (refused_line (check_job job).refusal (check_job job).offset))
    go true e = let a = zero_accepted job (eqb-true _ _ e) in accepted_run job l len y a (omega (arith, (accepted_job job a).tiles_fit)) h
    go false e = refused_run job l len (length job) (eqb-false _ _ e) h

-- ---- the words that it leaves

abbrev rest_words : List ℕ → ℕ → List ℕ → List ℕ
rest_words job at l = runs lent_words (map bench_call (calls_at job at)) l

words_end : (job : List ℕ) (at : ℕ) (l : List ℕ) → length job ≤ at → rest_words job at l ≡ l
unfolding runs
words_end job at l h = rw (calls_end job at h)

words_call : (job : List ℕ) (at : ℕ) (l : List ℕ) → at < length job → rest_words job at l ≡ rest_words job (next_at job at) (words_after_call job at l)
unfolding runs
words_call job at l h = ap (λ (z : List CallNumbers). runs lent_words (map bench_call z) l) (calls_step job at h ∙ ap₂ {C = List CallNumbers} (λ c p. c ∷ calls_at job p) (call_in_lem job at h) (next_in job at h))

abbrev words_behind : List ℕ → Left → List ℕ
words_behind job x = cond x.going (rest_words job x.at x.words) x.words

call_words : (job : List ℕ) (line n at : ℕ) (l : List ℕ) (t u : Bool) (y : Left) → ltb at (length job) ≡ u → (u ≡ true → rest_words job (next_at job at) (words_after_call job at l) ≡ words_behind job y)
    → rest_words job at l ≡ words_behind job (one_call job line n at l t u y)
unfolding preceded
call_words job line n at l false u y e ih = refl
call_words job line n at l true true y e ih = words_call job at l (ltb-true at (length job) e) ∙ ih refl
call_words job line n at l true false y e ih = words_end job at l (ltb-false at (length job) e)

piece_words : (f : ℕ) (job : List ℕ) (line limit p n at : ℕ) (l : List ℕ) → length job ≤ f + at → rest_words job at l ≡ words_behind job (piece_from (suc f) job line limit p n at l)
unfolding piece_from
piece_words zero job line limit p n at l h = call_words job line n at l (leb p limit) (ltb at (length job)) _ refl (λ e. absurd (omega (arith, ltb-true at (length job) e)))
piece_words (suc f) job line limit p n at l h =
    call_words job line n at l (leb p limit) (ltb at (length job)) _ refl
    (λ e. piece_words f job line limit (p + length (bytes_of_call job line n at l)) (n + 1) (next_at job at) (words_after_call job at l) (omega arith))

last_words : (g : ℕ) (job : List ℕ) (len : ℕ) (x : Left) → most_call_bytes ≤ len → (x.going ≡ true → Goes g job x) → (last_from g job len x).words ≡ words_behind job x
unfolding last_from
last_words zero job len x h k = go x.going refl
  where
    go : (t : Bool) → x.going ≡ t → x.words ≡ cond t (rest_words job x.at x.words) x.words
    go true e = absurd (omega (arith, (k e).some))
    go false e = refl
last_words (suc g) job len x h k =
    go x.going refl
    (λ e. let z = k e in
    let i = next_is job len x h e z.fewer in
    rw i (last_words g job len (piece_in job len 0 x.calls x.at x.words) h (next_goes g job len x e z)))
  where
    go : (t : Bool) → x.going ≡ t → (x.going ≡ true → (last_from g job len (next_piece job len (run_of 0 x) x.words)).words ≡ words_behind job (piece_in job len 0 x.calls x.at x.words))
        → (cond t (last_from g job len (next_piece job len (run_of 0 x) x.words)) x).words ≡ cond t (rest_words job x.at x.words) x.words
    go true e ih = ih e ∙ sym (piece_words (length job) job (line_address_of job) (len - most_call_bytes) 0 x.calls x.at x.words (omega arith))
    go false e ih = refl

pub all_words : WordsStatement
unfolding words_printed accepted_piece preceded calls_of
all_words job l len e w h =
    let a = accepted_job job e in
    let bs : List ℕ = bench_line (tile_count_of job) (line_address_of job) in
    let x : Left = piece_in job len (length bs) 0 header_bytes (words_started l (tile_count_of job) (start_on l (tile_count_of job) (memory_words_of job))) in
    ap (λ (z : Left). (last_from (suc (length job)) job len z).words) (first_accepted job len l h (ap (λ (z : Checked). z.refusal) e))
    ∙ last_words (suc (length job)) job len (preceded bs x) h
    (λ g. let z = piece_further (suc (length job)) job (line_address_of job) (len - most_call_bytes) (length bs) 0 header_bytes _ g in record { fewer = z.fewer (omega arith); some = omega arith; enough = omega (arith, z.further) })
    ∙ sym (piece_words (length job) job (line_address_of job) (len - most_call_bytes) (length bs) 0 header_bytes (words_started l (tile_count_of job) (start_on l (tile_count_of job) (memory_words_of job))) (omega arith))
    ∙ (started (tile_count_of job) a.some_tiles a.tiles_fit (memory_words_of job) (eight job) l w (map bench_call (calls_of job))).after
