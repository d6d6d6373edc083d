-- The messages that an accepted call sent can be had after it: as many as it sent, in the order of sending, each with its queue, its
-- tile and its row. Assumes nothing.
use Prim.Native.Nat.{ℕ, suc, ◌%◌, ◌^◌, ◌≤◌}
use mathlib.Core.Path.{◌≡◌, refl, ap, sym, ◌∙◌, subst}
use mathlib.Core.Bool.{Bool, true, false, cond}
use mathlib.Core.List.{List, [], ◌∷◌, ◌++◌, map}
use native.Mathlib.Omega.{arith}
use lib.ListN.{length, get_or, drop}
use Rattle.layout.specs.declared.rows.HomeBlock.{HomeBlock}
use Rattle.layout.specs.Blocks.{bench_words, home_block_at}
use Rattle.protocol.specs.Parts.{Message, request, eviction, clear_for, clear_for_eviction, uncached, shared_by, owned_by, Line, absent, present, Home, idle, awaiting_load, awaiting_owner, awaiting_acks, awaiting_store, Bench, bench_of, Call, Result, refused, accepted, task, storing}
use Rattle.protocol.specs.Bench.{step}
use Rattle.layout.specs.Encode.{enc_home, encode}
use Rattle.layout.specs.Decode.{dec_tiles, dec_home, dec_queue, dec_to_memory, dec_from_memory, bench_from, decoded}
use Rattle.protocol.specs.Answers.{sent_on, sent_to, answer_of}
use Rattle.layout.proofs.Canonical.{home_canonical}
use Rattle.messages.specs.LastMessages.{queue_of_message, There, OwnerIn, HomeNames, NamesTiles}
use Rattle.messages.proofs.Sends.{sent_there}
use Rattle.calls.specs.Calls.{tile_count, well_formed, step_on, words_after}
use Rattle.calls.proofs.Laid.{Laid}
use Rattle.calls.proofs.Decoded.{found, count, laid_out}
use Rattle.messages.specs.Rows.{sent_message}
use Rattle.layout.specs.Range.{LineIn, HomeIn, InRange}
use Rattle.layout.proofs.RangeKept.{after_in}
use Rattle.protocol.specs.Runs.{after, kept}
use Rattle.theorems.specs.Messages.{Gives, SentByCallStatement}
use Rattle.theorems.proofs.WellFormed.{encodes, decoded_in}
use Rattle.theorems.proofs.Read.{read_all}

-- the words l are those of the bench b, of at most 64 tiles, and r behind it
abbrev pub Holds : List ℕ → Bench → List ℕ → Type 0
Holds l (bench_of h t k mem out back ts) r = Laid l (enc_home (length ts) h t k mem out back) ts r × (length ts ≤ 64)

length_queues : (ms : List Message) → length (map queue_of_message ms) ≡ length ms
length_queues [] = refl
length_queues (m ∷ ms) = ap suc (length_queues ms)

-- messages that are the last on their queues are read out of the words of that bench
pub there_gives : (l : List ℕ) (b : Bench) (r : List ℕ) (ms : List Message) → Holds l b r → There ms b → Gives l (sent_on ms) (sent_to ms) ms
unfolding sent_message
there_gives l (bench_of h t k mem out back ts) r ms holds there =
    record {
      number = ap length there.queues ∙ length_queues ms;
      each = λ i. rw there.queues (read_all l h t k mem out back ts r holds.0 holds.1 ms i (rw there.queues at there.last));
    }

-- so those of an accepted step
pub step_gives : (c : Call) (b : Bench) → NamesTiles b → (k v : ℕ) (b' : Bench) (ms : List Message) → step c b ≡ accepted k v b' ms
    → (l r : List ℕ) → Holds l b' r → Gives l (sent_on ms) (sent_to ms) ms
step_gives c b names k v b' ms e l r holds = there_gives l b' r ms holds (sent_there c b names k v b' ms e)

-- ---- the tiles that a home in range may name are tiles of its bench

line_names : (n : ℕ) (x : Line) → LineIn n x → OwnerIn n x
line_names n absent h = tt
line_names n (present d ws uncached) h = tt
line_names n (present d ws (shared_by m)) h = tt
line_names n (present d ws (owned_by o)) h = h

home_names : (n : ℕ) (x : Home) → HomeIn n x → HomeNames n x
home_names n (idle l) h = line_names n l h
home_names n (awaiting_load (task r a) l) h = h.0
home_names n (awaiting_owner d ws o (request (task r a))) h = h.1
home_names n (awaiting_owner d ws o eviction) h = tt
home_names n (awaiting_acks d ws m u (clear_for (task r storing))) h = h.2
home_names n (awaiting_acks d ws m u clear_for_eviction) h = tt
home_names n (awaiting_store l) h = tt

pub names : (n : ℕ) (b : Bench) → InRange n b → NamesTiles b
names n (bench_of h l k mem out back ts) i = (omega (arith, i.tiles_given, i.tiles_fit), subst (λ (z : ℕ). HomeNames z h) (sym i.tiles_given) (home_names n h i.home_in))

-- ---- words that pass the test

decoded_names : (l : List ℕ) → well_formed l ≡ true → NamesTiles (decoded l)
decoded_names l w = names (tile_count l) (decoded l) (decoded_in l w)

pub decoded_holds : (l : List ℕ) → well_formed l ≡ true → Holds l (decoded l) (drop (bench_words (get_or l 0 0)) l)
unfolding decoded bench_from home_block_at
decoded_holds l w = (
  subst (λ (n : ℕ). Laid l (enc_home n (dec_home (home_block_at l).count (home_block_at l).phase (home_block_at l).line (home_block_at l).control.n2 (home_block_at l).control.n3) ((home_block_at l).control.n0 % (home_block_at l).count) ((home_block_at l).control.n1 % 2 ^ (home_block_at l).count) (home_block_at l).control.words (dec_queue dec_to_memory (home_block_at l).out) (dec_queue dec_from_memory (home_block_at l).back)) (dec_tiles l 74 (get_or l 0 0)) (drop (bench_words (get_or l 0 0)) l)) (sym (count l 74 (get_or l 0 0)))
      (subst (λ (H : HomeBlock). Laid l H (dec_tiles l 74 (get_or l 0 0)) (drop (bench_words (get_or l 0 0)) l)) (sym (home_canonical (home_block_at l) (found l w).home)) (laid_out l (found l w))),
  rw (count l 74 (get_or l 0 0)) (found l w).most,
)

-- The answer of an accepted call gives its messages, in the words of the bench after it.
pub call_gives : (l : List ℕ) (c : Call) (k v : ℕ) (b' : Bench) (ms : List Message) → step_on l c ≡ accepted k v b' ms → (l' r : List ℕ) → Holds l' b' r
    → Gives l' (answer_of (step_on l c)).sent (answer_of (step_on l c)).tiles ms
unfolding answer_of step_on
call_gives l c k v b' ms e l' r holds = subst (λ (x : Result Bench). Gives l' (answer_of x).sent (answer_of x).tiles ms) (sym e) (go (well_formed l) refl e)
  where
    go : (w : Bool) → well_formed l ≡ w → cond w (step c (decoded l)) (refused 1) ≡ accepted k v b' ms → Gives l' (sent_on ms) (sent_to ms) ms
    go true w q = step_gives c (decoded l) (decoded_names l w) k v b' ms q l' r holds
    go false w q = let z : ◌≡◌ {A = ℕ} 0 1 = cc in absurd (omega arith)

stepped : (l : List ℕ) (c : Call) (k v : ℕ) (b : Bench) (ms : List Message) → step_on l c ≡ accepted k v b ms → (well_formed l ≡ true) × (step c (decoded l) ≡ accepted k v b ms)
unfolding step_on
stepped l c k v b ms e = go (well_formed l) refl e
  where
    go : (w : Bool) → well_formed l ≡ w → cond w (step c (decoded l)) (refused 1) ≡ accepted k v b ms → (well_formed l ≡ true) × (step c (decoded l) ≡ accepted k v b ms)
    go true q e = (q, e)
    go false q e = let z : ◌≡◌ {A = ℕ} 0 1 = cc in absurd (omega arith)

-- out of the words that the call left
pub sent_by_call : SentByCallStatement
unfolding after kept words_after
sent_by_call l c k v b ms e =
    let s = stepped l c k v b ms e in
    let words : words_after l (step_on l c) ≡ encode b ++ drop (bench_words (get_or l 0 0)) l = ap (words_after l) e in
    let same : after c (decoded l) ≡ b = ap (kept (decoded l)) s.1 in
    let inside : InRange (get_or l 0 0) b = subst (InRange (get_or l 0 0)) same (after_in (get_or l 0 0) c (decoded l) (decoded_in l s.0)) in
    let there = encodes (get_or l 0 0) b (drop (bench_words (get_or l 0 0)) l) (words_after l (step_on l c)) inside words in
    call_gives l c k v b ms e (words_after l (step_on l c)) _ (subst (λ (z : Bench). Holds (words_after l (step_on l c)) z (drop (bench_words (get_or (words_after l (step_on l c)) 0 0)) (words_after l (step_on l c)))) there.decodes (decoded_holds (words_after l (step_on l c)) there.is_well_formed))
