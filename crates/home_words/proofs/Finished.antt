-- A home step, committed to the words, is the rules' step of the bench. Assumes nothing.
use Prim.Native.Nat.{ℕ, suc, ◌+◌, ◌^◌, ◌≤◌, ◌<◌}
use mathlib.Core.Path.{◌≡◌, refl, ap, sym, ◌∙◌, subst}
use mathlib.Core.Bool.{Bool, cond, true, false, false≢true}
use mathlib.Core.List.{List, [], ◌∷◌, ◌++◌, map}
use mathlib.Core.Option
use mathlib.Core.Option.{some}
use native.Mathlib.Omega.{arith}
use lib.ListN.{length}
use Rattle.lists.specs.Over.{over}
use Rattle.masks.specs.Mask.{has, add}
use Rattle.masks.proofs.MaskLaws.{has_none}
use Rattle.layout.specs.declared.rows.Row.{Row}
use Rattle.layout.specs.declared.rows.HomeBlock.{HomeBlock}
use Rattle.layout.specs.Blocks.{home_block_words, HomeFull}
use Rattle.protocol.specs.Parts.{Words, Queue, Forward, ToMemory, FromMemory, Message, on_noc2, to_memory, from_memory, Tile, Home, Bench, bench_of, refused, accepted}
use Rattle.protocol.specs.Home.{range, among, members}
use Rattle.protocol.specs.Bench.{outcome, kind_of}
use Rattle.layout.specs.Encode.{enc_forward, enc_home, encode}
use Rattle.protocol.specs.Answers.{sent_on, sent_to}
use Rattle.home_rules.specs.Steps.{HomeStep, refused_step, forward_step}
use Rattle.home_rules.specs.Results.{HomeResult, went, spread, forward_all, forward_to, forward_one, enc_step, targets, forward_row, forwards_to, Sends, refuses, silent, sends_forwards, sends_to_memory, sends_from_memory}
use Rattle.home_rules.proofs.Forwards.{add_small, told_targets, told_step}
use Rattle.home_words.specs.Forwards.{forward_put_at, forward_put_all}
use Rattle.calls.proofs.Laid.{Laid, write_home, laid_encode}
use Rattle.home_words.proofs.Sending.{tell_tiles, sent_tiles, all_room, not_told, told_words}

-- the empty mask
none_room : (ts : List Tile) (i j : ℕ) → all_room ts i 0 j ≡ true
unfolding all_room
none_room ts i ℕ.zero = refl
none_room ts i (suc j) = rw (has_none i) (none_room ts (suc i) j)

pub none_told : (l : List ℕ) (at i : ℕ) (m : Row) (j : ℕ) → forward_put_all l at i 0 m j ≡ l
unfolding forward_put_all forward_put_at
none_told l at i m ℕ.zero = refl
none_told l at i m (suc j) = rw (has_none i) (none_told l (at + 84) (i + 1) m j)

-- the two numbers of the messages for the tiles of a mask
module _ (f : Forward) where
  to_each : (m i j : ℕ) → i + j ≤ 64 → sent_to (map (λ u. on_noc2 u f) (among m (range i j))) ≡ targets (map (λ u. on_noc2 u f) (among m (range i j)))
  unfolding among range sent_to targets
  to_each m i ℕ.zero h = refl
  to_each m i (suc j) h = go (has m i) (to_each m (suc i) j (omega arith))
    where
      go : (b : Bool) → sent_to (map (λ u. on_noc2 u f) (among m (range (suc i) j))) ≡ targets (map (λ u. on_noc2 u f) (among m (range (suc i) j))) →
          sent_to (map (λ u. on_noc2 u f) (cond b (i ∷ among m (range (suc i) j)) (among m (range (suc i) j)))) ≡ targets (map (λ u. on_noc2 u f) (cond b (i ∷ among m (range (suc i) j)) (among m (range (suc i) j))))
      go true ih = ap (λ (z : ℕ). add z i) ih ∙ sym (add_small _ i (omega arith))
      go false ih = ih

  to_told : (n m : ℕ) → n ≤ 64 → m < 2 ^ n → sent_to (forwards_to n m f) ≡ m
  unfolding forwards_to members
  to_told n m s b = to_each m 0 n (omega arith) ∙ told_targets f n m s b

  pub forward_told : (n m : ℕ) (h : Home) (l k : ℕ) (mem : Words) (out : Queue ToMemory) (back : Queue FromMemory) (ts : List Tile) →
      forward_all (forwards_to n m f) (some (bench_of h l k mem out back ts)) ≡ Option.map (λ (us : List Tile). bench_of h l k mem out back us) (tell_tiles m f 0 n ts)
  unfolding forwards_to members
  forward_told n m h l k mem out back ts = sent_tiles h l k mem out back m f n 0 ts

-- what committing a step gives, with m the words after it
pub record Finished (s : HomeStep) (v : ℕ) (R : HomeResult) (ts : List Tile) (r m : List ℕ) : Type 0 where
  pub bench : Bench
  pub ms : List Message
  pub by_rules : spread v R ts ≡ accepted s.kind v bench ms
  pub words : m ≡ encode bench ++ r
  pub on : sent_on ms ≡ s.sent
  pub to : sent_to ms ≡ s.to

module _ (n : ℕ) (small : n ≤ 64) (B : HomeBlock) (s : HomeStep) (v : ℕ) (ts : List Tile) (count : length ts ≡ n) where
  pub refused_by : (R : HomeResult) → Sends n R → s ≡ enc_step n B R → (s.refusal ≡ 0 → ⊥) → spread v R ts ≡ refused s.refusal
  unfolding spread enc_step refused_step kind_of sent_on targets forward_row
  refused_by R (refuses k p) e wrong = ap (λ (x : HomeStep). refused x.refusal) (sym e)
  refused_by R silent e wrong = absurd (wrong (ap (λ (x : HomeStep). x.refusal) e))
  refused_by R (sends_forwards m f p b q) e wrong = absurd (wrong (ap (λ (x : HomeStep). x.refusal) e))
  refused_by R sends_to_memory e wrong = absurd (wrong (ap (λ (x : HomeStep). x.refusal) e))
  refused_by R sends_from_memory e wrong = absurd (wrong (ap (λ (x : HomeStep). x.refusal) e))

  -- 9: one of the tiles has no room
  pub no_room : (R : HomeResult) → Sends n R → s ≡ enc_step n B R → s.refusal ≡ 0 → all_room ts 0 s.to n ≡ false → spread v R ts ≡ refused 9
  unfolding spread enc_step refused_step kind_of sent_on targets forward_row outcome forward_step
  no_room R (refuses k p) e zero full = let q : k ≡ 0 = sym (ap (λ (x : HomeStep). x.refusal) e) ∙ zero in absurd (omega arith)
  no_room R silent e zero full = absurd (false≢true (sym full ∙ ap (λ (x : HomeStep). all_room ts 0 x.to n) e ∙ none_room ts 0 n))
  no_room R sends_to_memory e zero full = absurd (false≢true (sym full ∙ ap (λ (x : HomeStep). all_room ts 0 x.to n) e ∙ none_room ts 0 n))
  no_room R sends_from_memory e zero full = absurd (false≢true (sym full ∙ ap (λ (x : HomeStep). all_room ts 0 x.to n) e ∙ none_room ts 0 n))
  no_room R (sends_forwards {h = h} {l = l} {k = k} {mem = mem} {out = out} {back = back} m f p b {ms = ms} q) e zero full =
      let t : s ≡ forward_step (enc_home n h l k mem out back) m (enc_forward f) = e ∙ ap (λ (z : List Message). enc_step n B (went h l k mem out back z)) q ∙ told_step f n m small p b B h l k mem out back in
      ap (outcome (kind_of ms) v ms) (ap (λ (z : List Message). forward_all z (some (bench_of h l k mem out back ts))) q ∙ forward_told f n m h l k mem out back ts
      ∙ ap (Option.map (λ (us : List Tile). bench_of h l k mem out back us)) (not_told m f n 0 ts (sym (ap (λ (x : HomeStep). all_room ts 0 x.to n) t) ∙ full)))

  module _ (l r : List ℕ) (G : HomeBlock) (lay : Laid l G ts r) (full : HomeFull s.home) (eight : length s.forward.words ≡ 8) where
    abbrev after : List ℕ
    after = forward_put_all (over l 0 (home_block_words s.home)) 74 0 s.to s.forward n

    -- the words with the home's new block
    homed : Laid (over l 0 (home_block_words s.home)) s.home ts r
    homed = write_home l G ts r lay s.home full

    encoded_as : (us : List Tile) (m : List ℕ) (h : Home) (t k : ℕ) (mem : Words) (out : Queue ToMemory) (back : Queue FromMemory) → length us ≡ n → s.home ≡ enc_home n h t k mem out back → Laid m s.home us r →
        m ≡ encode (bench_of h t k mem out back us) ++ r
    encoded_as us m h t k mem out back c e la =
        laid_encode m h t k mem out back us r (subst (λ (H : HomeBlock). Laid m H us r) (e ∙ ap (λ (z : ℕ). enc_home z h t k mem out back) (sym c)) la)

    -- a step that sends to no tile
    quietly : (ms : List Message) (h : Home) (t k : ℕ) (mem : Words) (out : Queue ToMemory) (back : Queue FromMemory) → forward_all ms (some (bench_of h t k mem out back ts)) ≡ some (bench_of h t k mem out back ts) →
        s ≡ enc_step n B (went h t k mem out back ms) → targets ms ≡ 0 → sent_to ms ≡ 0 → Finished s v (went h t k mem out back ms) ts r after
    unfolding spread enc_step outcome
    quietly ms h t k mem out back e is z y =
        let to_none : s.to ≡ 0 = ap (λ (x : HomeStep). x.to) is ∙ z in
        let same : after ≡ over l 0 (home_block_words s.home) = ap (λ (q : ℕ). forward_put_all (over l 0 (home_block_words s.home)) 74 0 q s.forward n) to_none ∙ none_told (over l 0 (home_block_words s.home)) 74 0 s.forward n in
        record {
          bench = bench_of h t k mem out back ts;
          ms = ms;
          by_rules = ap (outcome (kind_of ms) v ms) e ∙ ap (λ (q : ℕ). accepted q v (bench_of h t k mem out back ts) ms) (sym (ap (λ (x : HomeStep). x.kind) is));
          words = same ∙ encoded_as ts (over l 0 (home_block_words s.home)) h t k mem out back count (ap (λ (x : HomeStep). x.home) is) homed;
          on = sym (ap (λ (x : HomeStep). x.sent) is);
          to = y ∙ sym to_none;
        }

    telling : (m : ℕ) (f : Forward) → 0 < m → m < 2 ^ n → (ms : List Message) → ms ≡ forwards_to n m f → (h : Home) (t k : ℕ) (mem : Words) (out : Queue ToMemory) (back : Queue FromMemory) → s ≡ enc_step n B (went h t k mem out back ms) →
        all_room ts 0 s.to n ≡ true → Finished s v (went h t k mem out back ms) ts r after
    unfolding spread outcome forward_step enc_step
    telling m f p b ms q h t k mem out back is rm =
        let e : s ≡ forward_step (enc_home n h t k mem out back) m (enc_forward f) = is ∙ ap (λ (z : List Message). enc_step n B (went h t k mem out back z)) q ∙ told_step f n m small p b B h t k mem out back in
        let to-m : s.to ≡ m = ap (λ (x : HomeStep). x.to) e in
        let row_is : s.forward ≡ enc_forward f = ap (λ (x : HomeStep). x.forward) e in
        let d = told_words s.home r m f (subst (λ (x : Row). length x.words ≡ 8) row_is eight) n 0 (over l 0 (home_block_words s.home)) ts homed (omega arith) (sym (ap (λ (z : ℕ). all_room ts 0 z n) to-m) ∙ rm) in
        let same : after ≡ forward_put_all (over l 0 (home_block_words s.home)) 74 0 m (enc_forward f) n =
        ap (λ (z : ℕ). forward_put_all (over l 0 (home_block_words s.home)) 74 0 z s.forward n) to-m ∙ ap (λ (z : Row). forward_put_all (over l 0 (home_block_words s.home)) 74 0 m z n) row_is in
        record {
          bench = bench_of h t k mem out back d.tiles;
          ms = ms;
          by_rules =
              ap (outcome (kind_of ms) v ms) (ap (λ (z : List Message). forward_all z (some (bench_of h t k mem out back ts))) q ∙ forward_told f n m h t k mem out back ts ∙ ap (Option.map (λ (us : List Tile). bench_of h t k mem out back us)) d.by_rules)
              ∙ ap (λ (z : ℕ). accepted z v (bench_of h t k mem out back d.tiles) ms) (sym (ap (λ (x : HomeStep). x.kind) is));
          words = same ∙ encoded_as d.tiles (forward_put_all (over l 0 (home_block_words s.home)) 74 0 m (enc_forward f) n) h t k mem out back (d.count ∙ count) (ap (λ (x : HomeStep). x.home) e) d.laid;
          on = sym (ap (λ (x : HomeStep). x.sent) is);
          to = ap sent_to q ∙ to_told f n m small b ∙ sym to-m;
        }

    pub finished : (R : HomeResult) → Sends n R → s ≡ enc_step n B R → s.refusal ≡ 0 → all_room ts 0 s.to n ≡ true → Finished s v R ts r after
    unfolding enc_step refused_step forward_all forward_to forward_one targets sent_to sent_on
    finished R (refuses k p) e zero rm = let q : k ≡ 0 = sym (ap (λ (x : HomeStep). x.refusal) e) ∙ zero in absurd (omega arith)
    finished R (silent {h = h} {l = t} {k = k} {mem = mem} {out = out} {back = back}) e zero rm = quietly [] h t k mem out back refl e refl refl
    finished R (sends_forwards {h = h} {l = t} {k = k} {mem = mem} {out = out} {back = back} m f p b {ms = ms} q) e zero rm = telling m f p b ms q h t k mem out back e rm
    finished R (sends_to_memory {h = h} {l = t} {k = k} {mem = mem} {out = out} {back = back} {m = m}) e zero rm = quietly (to_memory m ∷ []) h t k mem out back refl e refl refl
    finished R (sends_from_memory {h = h} {l = t} {k = k} {mem = mem} {out = out} {back = back} {m = m}) e zero rm = quietly (from_memory m ∷ []) h t k mem out back refl e refl refl
