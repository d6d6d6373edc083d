-- The listing on words is that of the rules. Assumes nothing.
use Prim.Native.Nat.{ℕ, zero, suc, ◌+◌, ◌%◌, ◌^◌, ◌<◌}
use native.Mathlib.Numerals.{add-one}
use mathlib.Core.Path.{◌≡◌, refl, ap, ap₂, subst, ◌∙◌}
use mathlib.Core.List.{List, [], ◌∷◌, ◌++◌, map}
use native.Mathlib.Omega.{arith}
use lib.ListN.{length, get_or, drop}
use Rattle.protocol.specs.Parts.{Message, Bench, Call, Result, refused, accepted}
use Rattle.protocol.specs.Bench.{fresh}
use Rattle.protocol.specs.Answers.{answer_of}
use Rattle.protocol.specs.Runs.{after}
use Rattle.layout.specs.Encode.{encode}
use Rattle.layout.specs.Range.{InRange}
use Rattle.layout.proofs.RangeKept.{after_in, fresh_in}
use Rattle.calls.specs.Calls.{step_on, words_after, after_call}
use Rattle.layout.specs.Blocks.{bench_words}
use Rattle.theorems.specs.Messages.{Gives, LineAddress}
use Rattle.theorems.proofs.Calls.{on_step, on_words, start_words}
use Rattle.layout.specs.declared.queues.BenchQueue.{BenchQueue}
use Rattle.messages.specs.Queues.{no_queue, sent_queues}
use Rattle.messages.specs.Rows.{sent_at, sent_message, numbers_of_message, no_sent}
use Rattle.theorems.proofs.Messages.{sent_by_call}
use Rattle.listing.specs.Lines.{bench_line, call_line, message_line}
use Rattle.job_format.specs.Bytes.{big_at}
use Rattle.job_format.specs.Job.{tile_count_of, line_address_of, memory_words_of, calls_of}
use Rattle.job_format.proofs.ByteLaws.{below_more}
use Rattle.job_format.proofs.AcceptedLaws.{accepted_job}
use Rattle.job_rules.specs.Calls.{bench_call}
use Rattle.job_rules.specs.AnswerLines.{sent_lines, answer_lines}
use Rattle.job_rules.specs.Listing.{call_lines, lines_from, listing_of}
use Rattle.job_theorems.specs.Rules.{message_lines, result_lines, step_lines, rule_listing, Bytes, RulesStatement}
use Rattle.job_theorems.proofs.Carried.{AllTaken, call_taken, taken_flits}

module _ (line : ℕ) (is : LineAddress line) where
  -- messages read at as many places as there are messages, each as it was sent and such as the flit writer takes
  same_lines : (l : List ℕ) (ps : List BenchQueue) (ms : List Message) → length ps ≡ length ms → ((i : ℕ) → sent_at l (get_or ps i no_queue) ≡ get_or (map numbers_of_message ms) i no_sent) → AllTaken ms
      → sent_lines line l ps ≡ message_lines line ms
  unfolding sent_lines message_lines
  same_lines l [] [] e each taken = refl
  same_lines l [] (m ∷ ms) e each taken = absurd (omega arith)
  same_lines l (p ∷ ps) [] e each taken = absurd (omega arith)
  same_lines l (p ∷ ps) (m ∷ ms) e each taken =
      rw (each 0) (ap₂ {C = List (List ℕ)} (λ x y. message_line x ∷ y) (taken_flits line is m taken.0) (same_lines l ps ms (omega arith) (λ i. each (suc i)) taken.1))

  gives_lines : (l : List ℕ) (s m : ℕ) (ms : List Message) → Gives l s m ms → AllTaken ms → sent_lines line l (sent_queues s m) ≡ message_lines line ms
  unfolding sent_message
  gives_lines l s m ms g taken = same_lines l (sent_queues s m) ms g.number g.each taken

  result_lines_lem : (n : ℕ) (l : List ℕ) (c : Call) (x : Result Bench) → step_on l c ≡ x → answer_lines line n (answer_of x) (words_after l x) ≡ result_lines line n x
  unfolding answer_lines answer_of result_lines sent_queues sent_lines
  result_lines_lem n l c (refused r) e = refl
  result_lines_lem n l c (accepted k v b ms) e =
      ap (λ (y : List (List ℕ)). call_line n 0 k v ∷ y)
      (gives_lines (words_after l (accepted k v b ms)) (answer_of (accepted k v b ms)).sent (answer_of (accepted k v b ms)).tiles ms
      (subst (λ (x : Result Bench). Gives (words_after l x) (answer_of x).sent (answer_of x).tiles ms) e (sent_by_call l c k v b ms e)) (call_taken l c k v b ms e))

  -- one call's lines on any words
  pub call_lines_lem : (n : ℕ) (c : Call) (l : List ℕ) → call_lines line n c l ≡ result_lines line n (step_on l c)
  unfolding call_lines
  call_lines_lem n c l = result_lines_lem n l c (step_on l c) refl

-- a list of calls, on the words of a bench in range
steps : (line : ℕ) → LineAddress line → (t n : ℕ) (cs : List Call) (b : Bench) (r l : List ℕ) → InRange t b → l ≡ encode b ++ r → lines_from line n cs l ≡ step_lines line n cs b
unfolding lines_from step_lines
steps line is t n [] b r l i e = refl
steps line is t n (c ∷ cs) b r l i e =
    ap₂ {C = List (List ℕ)} (λ x y. x ++ y) (call_lines_lem line is (n + 1) c l ∙ ap (result_lines line (n + 1)) (on_step t b r l i e c))
    (steps line is t (n + 1) cs (after c b) r (after_call c l) (after_in t c b i) (on_words t b r l i e c))

-- the line address of an accepted job
big_lt : (n : ℕ) (job : List ℕ) (at : ℕ) → Bytes job → big_at n job at < 256 ^ n
unfolding big_at
big_lt zero job at h = omega arith
big_lt (suc n) job at h = rw add-one at (below_more n (big_at n job at) (get_or job (at + n) 0) (big_lt n job at h) (h (at + n)))

address : (job : List ℕ) → Bytes job → line_address_of job % 64 ≡ 0 → LineAddress (line_address_of job)
unfolding line_address_of
address job h e = record { narrow = big_lt 6 job 7 h; whole = e }

pub eight : (job : List ℕ) → length (memory_words_of job) ≡ 8
unfolding memory_words_of
eight job = refl

pub by_the_rules : RulesStatement
unfolding listing_of rule_listing
by_the_rules job l h e enough =
    let a = accepted_job job e in
    ap (λ (x : List (List ℕ)). bench_line (tile_count_of job) (line_address_of job) ∷ x)
    (steps (line_address_of job) (address job h a.aligned) (tile_count_of job) 0 (map bench_call (calls_of job)) (fresh (tile_count_of job) (memory_words_of job)) (drop (bench_words (tile_count_of job)) l) _
    (fresh_in (tile_count_of job) (memory_words_of job) a.some_tiles a.tiles_fit (eight job)) (start_words l (tile_count_of job) (memory_words_of job) a.some_tiles a.tiles_fit enough))
