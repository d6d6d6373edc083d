-- The eight words last written, as a list: each call writes it as it writes the word of protocol's specs/Order1.
use Prim.Native.Nat.{ℕ, ◌<◌}
use mathlib.Core.Path.{◌≡◌, refl, sym, ap, subst, ◌∙◌}
use mathlib.Core.Bool.{Bool, cond, true, false, ◌&&◌, ◌||◌}
use mathlib.Core.List.{List, [], ◌∷◌}
use native.Mathlib.Omega.{arith}
use borrow.Author.Tests.{ltb-true, eqb-true, eqb-false}
use lib.Dec.{eqb, ltb}
use lib.ListN.{length, get_or, set, length-set}
use lib.Seq.{get_or-set_same, get_or-set_other}
use Rattle.protocol.specs.Parts.{Words, Waiting, nothing, for_load, for_store, Tile, Bench, bench_of, Call, load, store, evict, taking, to_tile, from_tile, memory_step, memory_ack, home_eviction, Result, refused}
use Rattle.protocol.specs.Tile.{load_at, store_at}
use Rattle.protocol.specs.Bench.{settle, at_tile, at_word, step}
use Rattle.protocol.specs.Answers.{answer_of, has_kind}
use Rattle.protocol.specs.declared.Answer.{Answer}
use Rattle.protocol.specs.Calls.{Role, accesses, delivers_to, takes, neither, role_of}
use Rattle.protocol.specs.Runs.{rules, after, Event, event, history, waits_for_by, waits_for_after}
use Rattle.protocol.specs.Order1.{stored_word, word_by, word_after, word_since}
use Rattle.protocol.proofs.Tests.{clash, by_test}

unfoldable pub writes : Waiting → Words → Words
writes nothing ws = ws
writes (for_load w) ws = ws
writes (for_store w v) ws = set ws w v

unfoldable pub written_by : Role → Answer → (ℕ → Waiting) → Words → Words
written_by (accesses t p) r q ws = cond (has_kind 2 r) (writes p ws) ws
written_by (delivers_to t) r q ws = cond (has_kind 2 r) (writes (q t) ws) ws
written_by takes r q ws = ws
written_by neither r q ws = ws

unfoldable pub written_after : Event → (ℕ → Waiting) → Words → Words
written_after (event c r) q ws = written_by (role_of c) r q ws

unfoldable pub written_since : (ℕ → Waiting) → Words → List Event → Words
written_since q ws [] = ws
written_since q ws (e ∷ es) = written_since (λ t. waits_for_after t e (q t)) (written_after e q ws) es

-- ---- an accepted load or store has a word below 8

never : (t w j : ℕ) (f : Tile → Result Tile) (b : Bench) → ltb w 8 ≡ false → has_kind j (answer_of (at_tile t (λ x. at_word w (f x)) b)) ≡ false
unfolding at_tile at_word settle answer_of has_kind
never t w j f (bench_of h l k mem out back ts) e =
    rw e
    (by_test (λ (r : Result Bench). has_kind j (answer_of r) ≡ false) (ltb t (length ts)) (refused 3) (refused 2) (λ y. refl) (λ y. refl))

below : (t w j : ℕ) (f : Tile → Result Tile) (b : Bench) → has_kind j (answer_of (at_tile t (λ x. at_word w (f x)) b)) ≡ true → w < 8
below t w j f b h = go (ltb w 8) refl
  where
    go : (e : Bool) → ltb w 8 ≡ e → w < 8
    go true e = ltb-true w 8 e
    go false e = clash h (never t w j f b e)

-- what a tile waits for has a word below 8
abbrev Small : Waiting → Type 0
Small nothing = Unit {0}
Small (for_load w) = w < 8
Small (for_store w v) = w < 8

small_if : (b : Bool) (x y : Waiting) → (b ≡ true → Small x) → Small y → Small (cond b x y)
small_if b x y f s = by_test Small b x y f (λ e. s)

and_right : (a b : Bool) → a && b ≡ true → b ≡ true
and_right true b e = e
and_right false b e = clash e refl

small_after : (c : Call) (b : Bench) (t : ℕ) (x : Waiting) → Small x → Small (waits_for_after t (event c (answer_of (step c b))) x)
unfolding waits_for_after waits_for_by step
small_after (load u w) b t x s = small_if _ (for_load w) x (λ e. below u w 3 (λ y. load_at u w y) b (and_right (eqb u t) _ e)) s
small_after (store u w v) b t x s = small_if _ (for_store w v) x (λ e. below u w 3 (λ y. store_at u w v y) b (and_right (eqb u t) _ e)) s
small_after (evict u) b t x s = s
small_after taking b t x s = s
small_after (to_tile u) b t x s = small_if (eqb u t && (has_kind 1 (answer_of (step (to_tile u) b)) || has_kind 2 (answer_of (step (to_tile u) b)))) nothing x (λ e. tt) s
small_after (from_tile u) b t x s = s
small_after memory_step b t x s = s
small_after memory_ack b t x s = s
small_after home_eviction b t x s = s

-- ---- the list's words are those of protocol's specs/Order1

set_word : (ws : Words) (u w v : ℕ) → u < length ws → get_or (set ws u v) w 0 ≡ cond (eqb u w) v (get_or ws w 0)
set_word ws u w v h =
    by_test (λ (x : ℕ). get_or (set ws u v) w 0 ≡ x) (eqb u w) v (get_or ws w 0)
    (λ e. subst (λ (z : ℕ). get_or (set ws u v) z 0 ≡ v) (eqb-true u w e) (get_or-set_same ws u v 0 h))
    (λ e. get_or-set_other ws u w v 0 (λ z. eqb-false u w e (sym z)))

writes_word : (ws : Words) (w : ℕ) (x : Waiting) → length ws ≡ 8 → Small x → get_or (writes x ws) w 0 ≡ stored_word w x (get_or ws w 0)
unfolding writes stored_word
writes_word ws w nothing len s = refl
writes_word ws w (for_load u) len s = refl
writes_word ws w (for_store u v) len s = set_word ws u w v (omega arith)

-- both sides of the same test
both : (b : Bool) (w : ℕ) (xs ys : Words) (x y : ℕ) → (b ≡ true → get_or xs w 0 ≡ x) → get_or ys w 0 ≡ y → get_or (cond b xs ys) w 0 ≡ cond b x y
both true w xs ys x y f e = f refl
both false w xs ys x y f e = e

after_word : (c : Call) (b : Bench) (q : ℕ → Waiting) (ws : Words) (w : ℕ) → length ws ≡ 8 → ((t : ℕ) → Small (q t))
    → get_or (written_after (event c (answer_of (step c b))) q ws) w 0 ≡ word_after w (event c (answer_of (step c b))) q (get_or ws w 0)
unfolding written_after written_by word_after word_by step
after_word (load t u) b q ws w len s = both _ w (writes (for_load u) ws) ws _ _ (λ e. writes_word ws w (for_load u) len (below t u 2 (λ y. load_at t u y) b e)) refl
after_word (store t u v) b q ws w len s = both _ w (writes (for_store u v) ws) ws _ _ (λ e. writes_word ws w (for_store u v) len (below t u 2 (λ y. store_at t u v y) b e)) refl
after_word (evict t) b q ws w len s = refl
after_word taking b q ws w len s = refl
after_word (to_tile t) b q ws w len s = both (has_kind 2 (answer_of (step (to_tile t) b))) w (writes (q t) ws) ws _ _ (λ e. writes_word ws w (q t) len (s t)) refl
after_word (from_tile t) b q ws w len s = refl
after_word memory_step b q ws w len s = refl
after_word memory_ack b q ws w len s = refl
after_word home_eviction b q ws w len s = refl

-- there are eight
writes_length : (x : Waiting) (ws : Words) → length (writes x ws) ≡ length ws
unfolding writes
writes_length nothing ws = refl
writes_length (for_load w) ws = refl
writes_length (for_store w v) ws = length-set ws w v

by_length : (o : Role) (r : Answer) (q : ℕ → Waiting) (ws : Words) → length (written_by o r q ws) ≡ length ws
unfolding written_by
by_length (accesses t p) r q ws = by_test (λ (us : Words). length us ≡ length ws) (has_kind 2 r) (writes p ws) ws (λ e. writes_length p ws) (λ e. refl)
by_length (delivers_to t) r q ws = by_test (λ (us : Words). length us ≡ length ws) (has_kind 2 r) (writes (q t) ws) ws (λ e. writes_length (q t) ws) (λ e. refl)
by_length takes r q ws = refl
by_length neither r q ws = refl

after_length : (e : Event) (q : ℕ → Waiting) (ws : Words) → length (written_after e q ws) ≡ length ws
unfolding written_after
after_length (event c r) q ws = by_length (role_of c) r q ws

pub since_word : (cs : List Call) (b : Bench) (q : ℕ → Waiting) (ws : Words) (w : ℕ) → length ws ≡ 8 → ((t : ℕ) → Small (q t)) → get_or (written_since q ws (history rules cs b)) w 0 ≡ word_since w q (get_or ws w 0) (history rules cs b)
unfolding written_since word_since history
since_word [] b q ws w len s = refl
since_word (c ∷ cs) b q ws w len s =
    since_word cs (after c b) (λ t. waits_for_after t (event c (answer_of (step c b))) (q t)) (written_after (event c (answer_of (step c b))) q ws) w
    (after_length (event c (answer_of (step c b))) q ws ∙ len)
    (λ t. small_after c b t (q t) (s t))
    ∙ ap (λ (x : ℕ). word_since w (λ t. waits_for_after t (event c (answer_of (step c b))) (q t)) x (history rules cs (after c b))) (after_word c b q ws w len s)
