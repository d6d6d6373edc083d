-- The calls at one tile, on words: what the code does with the tile's block is document 01's step. Assumes nothing.
use Prim.Native.Nat.{ℕ, ◌+◌, ◌*◌, ◌^◌, ◌≤◌, ◌<◌}
use mathlib.Core.Path.{◌≡◌, refl, ap, sym, ◌∙◌, subst}
use mathlib.Core.Bool.{Bool, cond, true, false, false≢true}
use mathlib.Core.List.{List, [], ◌∷◌}
use mathlib.Core.Option.{Option, some, none, map}
use native.Mathlib.Omega.{arith}
use lib.Dec.{eqb, ltb}
use lib.ListN.{length, get_or, set, drop, length-set}
use lib.Seq.{get_or-set_same, set-set}
use borrow.Author.Tests.{lt-ltb, le-ltb, eq-eqb}
use Rattle.lists.specs.Over.{over}
use Rattle.masks.specs.Mask.{add, add64}
use Rattle.masks.proofs.MaskLaws.{has_add}
use Rattle.layout.specs.declared.rows.TileBlock.{TileBlock}
use Rattle.layout.specs.Blocks as blocks
use Rattle.layout.specs.Blocks.{bench_words, tile_block_words, home_block_at, TileFull}
use Rattle.protocol.specs.Parts.{Words, Queue, empty, one, two, shared, exclusive, modified, Cache, invalid, valid, Waiting, nothing, for_load, for_store, Request, Forward, Reply, Message, on_noc1, on_noc2, on_noc3, to_memory, from_memory, ToMemory, FromMemory, Tile, tile_of, Home, Bench, bench_of, load, store, evict, to_tile, Result, refused, accepted}
use Rattle.protocol.specs.Tile as rules
use Rattle.protocol.specs.Bench as bench
use Rattle.protocol.specs.Bench.{tile_at, settle, at_tile, outcome, send, send_to, send_one, posted, on_tile1, on_tile3, step, at_word}
use Rattle.layout.specs.Encode.{enc_tile}
use Rattle.layout.specs.Decode.{decoded, bench_from, dec_tiles}
use Rattle.protocol.specs.Answers.{sent_on, sent_to, answer_of, refusal}
use Rattle.std.specs.Prelude as std
use Rattle.std.specs.Prelude.{Ok, Err}
use Rattle.numbers.specs.declared.queues.Queues.{Queues}
use Rattle.numbers.specs.declared.queues.Queues.TheVariants as queues
use Rattle.numbers.specs.Kinds.{kind_number}
use Rattle.numbers.specs.Queues.{queues_number}
use Rattle.numbers.specs.declared.refusals.Refusal.{Refusal}
use Rattle.numbers.specs.Refusals.{refusal_number}
use Rattle.calls.specs.declared.answers.Accepted.{Accepted}
use Rattle.calls.specs.Answers.{accepted_answer, tiles_of}
use Rattle.home_words.proofs.Committed.{refusal_above}
use Rattle.tile_words.specs.declared.StepAnswer.{StepAnswer}
use Rattle.tile_rules.specs.Steps.{TileStep, tile_step_on}
use Rattle.tile_words.specs.InPlace.{Stepped, Steps}
use Rattle.tile_words.proofs.InPlace.{put_same}
use Rattle.tile_rules.proofs.Rules.{own_one, own_to, own_all, enc_after, enc_step, rule_of, rule_numbers}
use Rattle.protocol.specs.declared.Answer.{Answer}
use Rattle.calls.specs.Calls.{well_formed, step_on, words_after}
use Rattle.protocol.specs.Calls.{tile_calls, call_from}
use Rattle.calls.proofs.Laid.{Laid, laid_tile, write_tile}
use Rattle.calls.proofs.Meets.{Meets}
use Rattle.calls.proofs.Decoded.{found, count, laid_out, encoded}

-- a rule's messages are on the tile's own queues, and its refusal is no 0
abbrev Own : ℕ → List Message → Type 0
Own t [] = Unit {0}
Own t (on_noc1 u m ∷ ms) = (u ≡ t) × Own t ms
Own t (on_noc2 u m ∷ ms) = ⊥
Own t (on_noc3 u m ∷ ms) = (u ≡ t) × Own t ms
Own t (to_memory m ∷ ms) = ⊥
Own t (from_memory m ∷ ms) = ⊥

abbrev Local : ℕ → Result Tile → Type 0
Local t (refused n) = eqb n 0 ≡ false
Local t (accepted k v x ms) = Own t ms

load_local : (t w : ℕ) (x : Tile) → Local t (rules.load_at t w x)
unfolding rules.load_at
load_local t w (tile_of c (for_load u) q1 q2 q3) = refl
load_local t w (tile_of c (for_store u v) q1 q2 q3) = refl
load_local t w (tile_of (valid r ws) nothing q1 q2 q3) = tt
load_local t w (tile_of invalid nothing q1 q2 q3) = (refl, tt)

store_local : (t w v : ℕ) (x : Tile) → Local t (rules.store_at t w v x)
unfolding rules.store_at
store_local t w v (tile_of c (for_load u) q1 q2 q3) = refl
store_local t w v (tile_of c (for_store u y) q1 q2 q3) = refl
store_local t w v (tile_of (valid modified ws) nothing q1 q2 q3) = tt
store_local t w v (tile_of (valid exclusive ws) nothing q1 q2 q3) = tt
store_local t w v (tile_of (valid shared ws) nothing q1 q2 q3) = (refl, tt)
store_local t w v (tile_of invalid nothing q1 q2 q3) = (refl, tt)

evict_local : (t : ℕ) (x : Tile) → Local t (rules.evict_at t x)
unfolding rules.evict_at
evict_local t (tile_of invalid p q1 q2 q3) = refl
evict_local t (tile_of (valid shared ws) p q1 q2 q3) = tt
evict_local t (tile_of (valid exclusive ws) p q1 q2 q3) = tt
evict_local t (tile_of (valid modified ws) p q1 q2 q3) = (refl, (refl, tt))

received_local : (t : ℕ) (r : rules.Received) (c : Cache) (p : Waiting) (q1 : Queue Request) (q2 : Queue Forward) (q3 : Queue Reply) → Local t (rules.received t r c p q1 q2 q3)
unfolding rules.received
received_local t rules.misfit c p q1 q2 q3 = refl
received_local t (rules.filled k v d) c p q1 q2 q3 = tt
received_local t (rules.replied d a) c p q1 q2 q3 = (refl, tt)

deliver_local : (t : ℕ) (x : Tile) → Local t (rules.deliver_to t x)
unfolding rules.deliver_to
deliver_local t (tile_of c p q1 empty q3) = refl
deliver_local t (tile_of c p q1 (one m) q3) = received_local t (rules.receive m c p) c p q1 empty q3
deliver_local t (tile_of c p q1 (two m n) q3) = received_local t (rules.receive m c p) c p q1 (one n) q3

word_local : (t w : ℕ) (r : Result Tile) → Local t r → Local t (at_word w r)
unfolding at_word
word_local t w r h = go (ltb w 8)
  where
    go : (b : Bool) → Local t (cond b r (refused 3))
    go true = h
    go false = refl

-- the four calls by tag
rule_local : (c t w v : ℕ) (x : Tile) → Local t (rule_of c t w v x)
unfolding rule_of
rule_local c t w v x = go (eqb c 16) (eqb c 17) (eqb c 18)
  where
    go : (a b d : Bool) → Local t (cond a (at_word w (rules.load_at t w x)) (cond b (at_word w (rules.store_at t w v x)) (cond d (rules.evict_at t x) (rules.deliver_to t x))))
    go true b d = word_local t w (rules.load_at t w x) (load_local t w x)
    go false true d = word_local t w (rules.store_at t w v x) (store_local t w v x)
    go false false true = evict_local t x
    go false false false = deliver_local t x

rule_step : (c t w v : ℕ) (b : Bench) → step (call_from tile_calls c t w v) b ≡ at_tile t (rule_of c t w v) b
unfolding step rule_of
rule_step c t w v b = go (eqb c 16) (eqb c 17) (eqb c 18)
  where
    go : (a d e : Bool) → step (cond a (load t w) (cond d (store t w v) (cond e (evict t) (to_tile t)))) b
        ≡ at_tile t (λ (x : Tile). cond a (at_word w (rules.load_at t w x)) (cond d (at_word w (rules.store_at t w v x)) (cond e (rules.evict_at t x) (rules.deliver_to t x)))) b
    go true d e = refl
    go false true e = refl
    go false false true = refl
    go false false false = refl

-- what a tile sends to its own queues is sent in the bench
module _ (h : Home) (l k : ℕ) (mem : Words) (out : Queue ToMemory) (back : Queue FromMemory) (ts : List Tile) (t : ℕ) (below : t < length ts) where
  abbrev put : Tile → Bench
  put y = bench_of h l k mem out back (set ts t y)

  again : (x : Tile) (o : Option Tile) → map (λ (y : Tile). bench_of h l k mem out back (set (set ts t x) t y)) o ≡ map put o
  again x none = refl
  again x (some y) = ap (λ (z : List Tile). some (bench_of h l k mem out back z)) (set-set ts t x y)

  own_one_lem : (m : Message) (ms : List Message) → Own t (m ∷ ms) → (o : Option Tile) → send_to m (map put o) ≡ map put (own_to m o)
  unfolding send_to own_to send_one own_one
  own_one_lem (on_noc1 u m) ms own none = refl
  own_one_lem (on_noc1 u m) ms own (some x) = rw (own.0, get_or-set_same ts t x bench.fresh_tile below) (again x (on_tile1 m x))
  own_one_lem (on_noc3 u m) ms own none = refl
  own_one_lem (on_noc3 u m) ms own (some x) = rw (own.0, get_or-set_same ts t x bench.fresh_tile below) (again x (on_tile3 m x))
  own_one_lem (on_noc2 u m) ms own o = absurd own
  own_one_lem (to_memory m) ms own o = absurd own
  own_one_lem (from_memory m) ms own o = absurd own

  pub own_send : (ms : List Message) → Own t ms → (o : Option Tile) → send ms (map put o) ≡ map put (own_all ms o)
  unfolding send own_all
  own_send [] own o = refl
  own_send (on_noc1 u m ∷ ms) own o = ap (send ms) (own_one_lem (on_noc1 u m) ms own o) ∙ own_send ms own.1 (own_to (on_noc1 u m) o)
  own_send (on_noc3 u m ∷ ms) own o = ap (send ms) (own_one_lem (on_noc3 u m) ms own o) ∙ own_send ms own.1 (own_to (on_noc3 u m) o)
  own_send (on_noc2 u m ∷ ms) own o = absurd own
  own_send (to_memory m ∷ ms) own o = absurd own
  own_send (from_memory m ∷ ms) own o = absurd own

-- the tiles named by what a tile sends: itself, where it sends anything
add_again : (t : ℕ) → add (add 0 t) t ≡ add 0 t
unfolding add
add_again t = ap (λ (b : Bool). cond b (add 0 t) (add 0 t + 2 ^ t)) (has_add 0 t)

add_below : (t : ℕ) → t < 64 → add64 0 t ≡ add 0 t
add_below t h = rw (lt-ltb t 64 h)

own_more : (t x : ℕ) (b : Bool) → x ≡ cond b 0 (add 0 t) → add x t ≡ add 0 t
own_more t x true e = rw e
own_more t x false e = rw e (add_again t)

own_tiles : (t : ℕ) (ms : List Message) → Own t ms → sent_to ms ≡ cond (eqb (sent_on ms) 0) 0 (add 0 t)
unfolding sent_to sent_on
own_tiles t [] own = refl
own_tiles t (on_noc1 u m ∷ ms) own = rw own.0 (own_more t (sent_to ms) (eqb (sent_on ms) 0) (own_tiles t ms own.1))
own_tiles t (on_noc3 u m ∷ []) own = rw own.0
own_tiles t (on_noc3 u m ∷ x ∷ ms) own = rw own.0 (own_more t (sent_to (x ∷ ms)) (eqb (sent_on (x ∷ ms)) 0) (own_tiles t (x ∷ ms) own.1))
own_tiles t (on_noc2 u m ∷ ms) own = absurd own
own_tiles t (to_memory m ∷ ms) own = absurd own
own_tiles t (from_memory m ∷ ms) own = absurd own

-- the same by the queues
tiles_are : (t : ℕ) (q : Queues) → tiles_of q t ≡ cond (eqb (queues_number q) 0) 0 (add64 0 t)
tiles_are t queues.Nothing = refl
tiles_are t queues.Noc1 = refl
tiles_are t queues.Noc2 = refl
tiles_are t queues.Noc3 = refl
tiles_are t queues.ToMemory = refl
tiles_are t queues.FromMemory = refl
tiles_are t queues.Noc3ThenNoc1 = refl

module _ (l : List ℕ) (c t w v : ℕ) (h : well_formed l ≡ true) where
  abbrev ts : List Tile
  ts = dec_tiles l 74 (get_or l 0 0)

  abbrev x : Tile
  x = tile_at ts t

  step_is : step_on l (call_from tile_calls c t w v) ≡ cond (ltb t (length ts)) (settle t (decoded l) (rule_of c t w v x)) (refused 2)
  unfolding step_on at_tile decoded bench_from home_block_at
  step_is = rw h (rule_step c t w v (decoded l))

  pub no_tile : get_or l 0 0 ≤ t → Meets l (step_on l (call_from tile_calls c t w v)) (refusal 2) l
  unfolding answer_of words_after
  no_tile below =
      let e : step_on l (call_from tile_calls c t w v) ≡ refused 2 = step_is ∙ rw (le-ltb t (length ts) (rw (count l 74 (get_or l 0 0)) below)) in
      rw e (record { answer = refl; words = refl })

  module _ (below : t < get_or l 0 0) (s : TileStep) (is : s ≡ tile_step_on c w v (blocks.tile_block_at l (74 + 84 * t))) where
    small : t < 64
    small = omega (arith, (found l h).most)

    inside : t < length ts
    inside = rw (count l 74 (get_or l 0 0)) below

    settled : step_on l (call_from tile_calls c t w v) ≡ settle t (decoded l) (rule_of c t w v x)
    settled = step_is ∙ rw (lt-ltb t (length ts) inside)

    block : blocks.tile_block_at l (74 + 84 * t) ≡ enc_tile x
    block = laid_tile l (home_block_at l) ts (drop (bench_words (get_or l 0 0)) l) (laid_out l (found l h)) t inside

    step_numbers : s ≡ enc_step (enc_tile x) (rule_of c t w v x)
    step_numbers = is ∙ rw block (rule_numbers c t w v x)

    -- put into the bench: what becomes of the tile after its messages
    after : (k u : ℕ) (y : Tile) (ms : List Message) → Own t ms → settle t (decoded l) (accepted k u y ms) ≡ outcome k u ms (map (λ (z : Tile). bench_from (home_block_at l) (set ts t z)) (own_all ms (some y)))
    unfolding settle decoded bench_from home_block_at posted
    after k u y ms own = ap (outcome k u ms) (own_send _ _ _ _ _ _ ts t inside ms own (some y))

    refused_by : (r : Result Tile) → Local t r → s ≡ enc_step (enc_tile x) r → (s.refusal ≡ 0 → ⊥) → Meets l (settle t (decoded l) r) (refusal s.refusal) l
    unfolding answer_of words_after settle outcome enc_step enc_after
    refused_by (refused n) own e wrong = record { answer = ap (λ (z : TileStep). refusal z.refusal) e; words = refl }
    refused_by (accepted k u y ms) own e wrong = rw (after k u y ms own) (go (own_all ms (some y)) e)
      where
        go : (o : Option Tile) → s ≡ enc_after k u (sent_on ms) (enc_tile x) o → Meets l (outcome k u ms (map (λ (z : Tile). bench_from (home_block_at l) (set ts t z)) o)) (refusal s.refusal) l
        go none e = record { answer = ap (λ (z : TileStep). refusal z.refusal) e; words = refl }
        go (some z) e = absurd (wrong (ap (λ (z : TileStep). z.refusal) e))

    pub tile_refused : (s.refusal ≡ 0 → ⊥) → Meets l (step_on l (call_from tile_calls c t w v)) (refusal s.refusal) l
    tile_refused wrong = rw settled (refused_by (rule_of c t w v x) (rule_local c t w v x) step_numbers wrong)

    kept_by : (r : Result Tile) → s ≡ enc_step (enc_tile x) r → (s.refusal ≡ 0 → ⊥) → s.tile ≡ enc_tile x
    unfolding enc_step enc_after
    kept_by (refused n) e wrong = ap (λ (z : TileStep). z.tile) e
    kept_by (accepted k u y ms) e wrong = go (own_all ms (some y)) e
      where
        go : (o : Option Tile) → s ≡ enc_after k u (sent_on ms) (enc_tile x) o → s.tile ≡ enc_tile x
        go none e = ap (λ (z : TileStep). z.tile) e
        go (some z) e = absurd (wrong (ap (λ (z : TileStep). z.refusal) e))

    placed : (at : ℕ) (r : std.Result StepAnswer Refusal) (m : List ℕ) → at ≡ 74 + 84 * t → Steps l at (tile_step_on c w v) r m → Stepped l (74 + 84 * t) s r m
    placed at r m place q = subst (λ (z : TileStep). Stepped l (74 + 84 * t) z r m) (sym is) (subst (λ (z : ℕ). Steps l z (tile_step_on c w v) r m) place q)

    -- a step that is refused in place wrote nothing
    pub refused_in_place : (at : ℕ) (r : Refusal) (m : List ℕ) → at ≡ 74 + 84 * t → Steps l at (tile_step_on c w v) (Err r) m → Meets l (step_on l (call_from tile_calls c t w v)) (refusal (refusal_number r)) m
    refused_in_place at r m place q =
        let i : ℕ = 74 + 84 * t in
        let p = placed at (Err r) m place q in
        let fits : i + 84 ≤ length l = omega (arith, (found l h).enough) in
        let e : refusal_number r ≡ s.refusal = ap (λ (z : TileStep). z.refusal) p.answer in
        let no_step : s.refusal ≡ 0 → ⊥ = λ z. omega (arith, refusal_above r, e, z) in
        let same : m ≡ l = p.put.words ∙ ap (λ (y : TileBlock). over l i (tile_block_words y)) (kept_by (rule_of c t w v x) step_numbers no_step ∙ sym block) ∙ sym (put_same l l i fits).words in
        subst (λ (k : ℕ). Meets l (step_on l (call_from tile_calls c t w v)) (refusal k) m) (sym e) (subst (Meets l (step_on l (call_from tile_calls c t w v)) (refusal s.refusal)) (sym same) (tile_refused no_step))

    abbrev answer_given : TileStep → Answer
    answer_given z = record { refusal = 0; kind = z.kind; value = z.value; sent = z.sent; tiles = cond (eqb z.sent 0) 0 (add64 0 t) }

    abbrev given : Answer
    given = answer_given s

    module _ (m : List ℕ) (full : TileFull s.tile) (written : m ≡ over l (74 + 84 * t) (tile_block_words s.tile)) where
      done_by_lem : (r : Result Tile) → Local t r → s ≡ enc_step (enc_tile x) r → s.refusal ≡ 0 → Meets l (settle t (decoded l) r) given m
      unfolding answer_of words_after settle outcome enc_step enc_after
      done_by_lem (refused n) own e zero = absurd (false≢true (sym own ∙ eq-eqb n 0 (sym (ap (λ (z : TileStep). z.refusal) e) ∙ zero)))
      done_by_lem (accepted k u y ms) own e zero = rw (after k u y ms own) (go (own_all ms (some y)) e)
        where
          go : (o : Option Tile) → s ≡ enc_after k u (sent_on ms) (enc_tile x) o → Meets l (outcome k u ms (map (λ (z : Tile). bench_from (home_block_at l) (set ts t z)) o)) given m
          go none e = let q : ◌≡◌ {A = ℕ} 9 0 = sym (ap (λ (z : TileStep). z.refusal) e) ∙ zero in absurd (omega arith)
          go (some z) e =
              let kinds = ap (λ (q : TileStep). q.kind) e in
              let values = ap (λ (q : TileStep). q.value) e in
              let sents = ap (λ (q : TileStep). q.sent) e in
              let named = ap (λ (q : TileStep). cond (eqb q.sent 0) 0 (add64 0 t)) e ∙ ap (λ (q : ℕ). cond (eqb (sent_on ms) 0) 0 q) (add_below t small) ∙ sym (own_tiles t ms own) in
              let blocks-are = ap (λ (q : TileStep). q.tile) e in
              let here = write_tile l (home_block_at l) ts (drop (bench_words (get_or l 0 0)) l) (laid_out l (found l h)) t z inside (subst TileFull blocks-are full) in
              let put-there : m ≡ over l (74 + 84 * t) (tile_block_words (enc_tile z)) = written ∙ ap (λ (q : TileBlock). over l (74 + 84 * t) (tile_block_words q)) blocks-are in
              record {
                answer = λ i. record { refusal = 0; kind = kinds i; value = values i; sent = sents i; tiles = named i };
                words = encoded l m (set ts t z) (drop (bench_words (get_or l 0 0)) l) (found l h) (length-set ts t z ∙ count l 74 (get_or l 0 0)) (subst (λ (q : List ℕ). Laid q (home_block_at l) (set ts t z) (drop (bench_words (get_or l 0 0)) l)) (sym put-there) here);
              }

      pub tile_done : s.refusal ≡ 0 → Meets l (step_on l (call_from tile_calls c t w v)) given m
      tile_done zero = rw settled (done_by_lem (rule_of c t w v x) (rule_local c t w v x) step_numbers zero)

    pub done_in_place : (at : ℕ) (q : StepAnswer) (m : List ℕ) (b : Accepted) → at ≡ 74 + 84 * t → Steps l at (tile_step_on c w v) (Ok q) m → b ≡ record { kind = q.kind; value = q.value; sent = q.sent; tiles = tiles_of q.sent t } →
        Meets l (step_on l (call_from tile_calls c t w v)) (accepted_answer b) m
    done_in_place at q m b place made e =
        let p = placed at (Ok q) m place made in
        let zero : s.refusal ≡ 0 = sym (ap (λ (z : TileStep). z.refusal) p.answer) in
        let is : accepted_answer b ≡ given = ap accepted_answer e ∙ ap (λ (z : ℕ). record { refusal = 0; kind = kind_number q.kind; value = q.value; sent = queues_number q.sent; tiles = z }) (tiles_are t q.sent) ∙ ap answer_given p.answer in
        subst (λ (z : Answer). Meets l (step_on l (call_from tile_calls c t w v)) z m) (sym is) (tile_done m p.put.full p.put.words zero)
