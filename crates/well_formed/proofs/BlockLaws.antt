-- The tests of a tile's head and of the home's block are those by encoding anew. Assumes nothing.
use Prim.Native.Nat.{ℕ, ◌+◌, ◌%◌, ◌^◌, ◌<◌}
use mathlib.Core.Path.{◌≡◌, refl, ap, sym, ◌∙◌}
use mathlib.Core.Bool.{Bool, true, false, ◌&&◌, and-true, and-false, and_assoc, and_comm}
use mathlib.Core.List.{List}
use native.Mathlib.Omega.{arith}
use lib.Dec.{eqb, ltb}
use lib.ListN.{get_or}
use lib.Bits.{bit_or}
use borrow.Author.Tests.{eqb-true}
use Rattle.layout.specs.declared.rows.Row.{Row}
use Rattle.layout.specs.declared.rows.HomeBlock.{HomeBlock}
use Rattle.layout.specs.Blocks.{row_at, pair_at}
use Rattle.protocol.specs.Parts.{present, shared_by, owned_by, Home, cache_state}
use Rattle.layout.specs.Encode.{enc_head, cache_words, waiting_number, waiting_word, waiting_value, directory_number, holders, phase_number, requester, owed_tiles, enc_line, line_of}
use Rattle.layout.specs.Decode.{is_set, dec_cache, dec_waiting, dec_directory, dec_line, dec_home}
use Rattle.layout.specs.Canonical.{same, same_row, same_pair, canon_queue, canon_control, home_ok}
use Rattle.well_formed.specs.Fields.{waiting_numbers_ok, phase_numbers_ok}
use Rattle.well_formed.proofs.NumberLaws.{or_none, or_clear, mod_below, flip, zero_left, equal_self}
use Rattle.well_formed.specs.Rows.{none_at}
use Rattle.well_formed.proofs.RowLaws.{same_self}
use Rattle.well_formed.specs.Blocks.{queues_ok, memory_ok, cache_ok}

abbrev Waits : Row → Bool
Waits r = eqb (waiting_number (dec_waiting r)) r.n1 && (eqb (waiting_word (dec_waiting r)) r.n2 && eqb (waiting_value (dec_waiting r)) r.n3)

waiting : (r : Row) → waiting_numbers_ok r.n1 r.n2 r.n3 ≡ Waits r
unfolding waiting_numbers_ok waiting_number waiting_word waiting_value dec_waiting
waiting r = go (eqb r.n1 0) refl (eqb r.n1 1) refl (eqb r.n1 2) refl
  where
    small : eqb (r.n2 % 8) r.n2 ≡ ltb r.n2 8
    small = mod_below r.n2 8 (omega arith)

    go : (a : Bool) → eqb r.n1 0 ≡ a → (b : Bool) → eqb r.n1 1 ≡ b → (d : Bool) → eqb r.n1 2 ≡ d → waiting_numbers_ok r.n1 r.n2 r.n3 ≡ Waits r
    go true p b q d s = simp (eqb-true r.n1 0 p, or_clear, zero_left)
    go false p true q d s = simp (eqb-true r.n1 1 q, small, zero_left)
    go false p false q true s = simp (eqb-true r.n1 2 s, small, equal_self, and-true)
    go false p false q false s = simp (p, q, s, flip 2 r.n1)

order_head : (s d k a v : Bool) → (s && d && (k && (a && v))) ≡ (s && (k && (a && (v && d))))
order_head true true k a v = ap (λ (x : Bool). k && (a && x)) (sym (and-true v))
order_head true false true true v = sym (and-false v)
order_head true false true false v = refl
order_head true false false a v = refl
order_head false d k a v = refl

pub head : (r : Row) → (cache_ok r && waiting_numbers_ok r.n1 r.n2 r.n3) ≡ same_row (enc_head (dec_cache r) (dec_waiting r)) r
unfolding cache_ok same_row enc_head
head r =
    rw (waiting r) (order_head (eqb (cache_state (dec_cache r)) r.n0) (same (cache_words (dec_cache r)) r.words) (eqb (waiting_number (dec_waiting r)) r.n1) (eqb (waiting_word (dec_waiting r)) r.n2) (eqb (waiting_value (dec_waiting r)) r.n3))

gather : (l d a b : Bool) → (l && (d && a && b)) ≡ (a && b && (l && d))
gather true true a b = sym (and-true (a && b))
gather true false a b = sym (and-false (a && b))
gather false d a b = sym (and-false (a && b))

-- what each phase asks of the home's line x, of n tiles
module _ (n : ℕ) (some : 0 < n) (x : Row) where
  abbrev Held : Bool
  Held = same_row (enc_line (dec_line n x)) x

  owned : (Held && eqb x.n2 2) ≡ same_row (enc_line (present (is_set x.n1) x.words (owned_by (x.n3 % n)))) x
  unfolding same_row enc_line dec_line dec_directory directory_number holders
  owned = go (eqb x.n0 0) refl (eqb x.n2 2) refl
    where
      go : (a : Bool) → eqb x.n0 0 ≡ a → (b : Bool) → eqb x.n2 2 ≡ b → (Held && eqb x.n2 2) ≡ same_row (enc_line (present (is_set x.n1) x.words (owned_by (x.n3 % n)))) x
      go true p true q = simp (eqb-true x.n0 0 p, eqb-true x.n2 2 q, and-false)
      go true p false q = simp (eqb-true x.n0 0 p, q, and-false)
      go false p true q = simp (p, eqb-true x.n2 2 q, and-true)
      go false p false q = simp (q, flip 2 x.n2, and-false)

  shared : (Held && eqb x.n2 1) ≡ same_row (enc_line (present (is_set x.n1) x.words (shared_by (x.n3 % 2 ^ n)))) x
  unfolding same_row enc_line dec_line dec_directory directory_number holders
  shared = go (eqb x.n0 0) refl (eqb x.n2 1) refl
    where
      go : (a : Bool) → eqb x.n0 0 ≡ a → (b : Bool) → eqb x.n2 1 ≡ b → (Held && eqb x.n2 1) ≡ same_row (enc_line (present (is_set x.n1) x.words (shared_by (x.n3 % 2 ^ n)))) x
      go true p true q = simp (eqb-true x.n0 0 p, eqb-true x.n2 1 q, and-false)
      go true p false q = simp (eqb-true x.n0 0 p, q, and-false)
      go false p true q = simp (p, eqb-true x.n2 1 q, and-true)
      go false p false q = simp (q, flip 1 x.n2, and-false)

  -- the phase with the requester and the tiles owed
  abbrev Phase : Home → ℕ → ℕ → ℕ → Bool
  Phase h p by owed = eqb (phase_number h) p && (eqb (requester h) by && eqb (owed_tiles h) owed)

  held : (p by owed : ℕ) → (Held && phase_numbers_ok n p x.n2 by owed) ≡ (Phase (dec_home n p x by owed) p by owed && same_row (enc_line (line_of (dec_home n p x by owed))) x)
  unfolding phase_numbers_ok phase_number requester owed_tiles line_of dec_home
  held p by owed =
      go (eqb p 0) refl (eqb p 1) refl (eqb p 2) refl (eqb p 3) refl (eqb p 4) refl (eqb p 5) refl (eqb p 6) refl (eqb p 7) refl (eqb p 8) refl
    where
      small : eqb (by % n) by ≡ ltb by n
      small = mod_below by n some

      go : (a0 : Bool) → eqb p 0 ≡ a0 → (a1 : Bool) → eqb p 1 ≡ a1 → (a2 : Bool) → eqb p 2 ≡ a2 → (a3 : Bool) → eqb p 3 ≡ a3 → (a4 : Bool) → eqb p 4 ≡ a4 →
          (a5 : Bool) → eqb p 5 ≡ a5 → (a6 : Bool) → eqb p 6 ≡ a6 → (a7 : Bool) → eqb p 7 ≡ a7 → (a8 : Bool) → eqb p 8 ≡ a8 →
          (Held && phase_numbers_ok n p x.n2 by owed) ≡ (Phase (dec_home n p x by owed) p by owed && same_row (enc_line (line_of (dec_home n p x by owed))) x)
      go true e a1 e1 a2 e2 a3 e3 a4 e4 a5 e5 a6 e6 a7 e7 a8 e8 = simp (eqb-true p 0 e, or_clear, zero_left) (and_comm Held (eqb by 0 && eqb owed 0))
      go false e true f a2 e2 a3 e3 a4 e4 a5 e5 a6 e6 a7 e7 a8 e8 = simp (eqb-true p 1 f, small, zero_left) (and_comm Held (ltb by n && eqb owed 0))
      go false e false f true g a3 e3 a4 e4 a5 e5 a6 e6 a7 e7 a8 e8 = simp (eqb-true p 2 g, small, zero_left) (and_comm Held (ltb by n && eqb owed 0))
      go false e false f false g true h a4 e4 a5 e5 a6 e6 a7 e7 a8 e8 = simp (eqb-true p 3 h, small, zero_left, ← owned) (gather Held (eqb x.n2 2) (ltb by n) (eqb owed 0))
      go false e false f false g false h true i a5 e5 a6 e6 a7 e7 a8 e8 = simp (eqb-true p 4 i, small, zero_left, ← owned) (gather Held (eqb x.n2 2) (ltb by n) (eqb owed 0))
      go false e false f false g false h false i true j a6 e6 a7 e7 a8 e8 =
          simp (eqb-true p 5 j, or_clear, zero_left, ← owned) (sym (and_assoc Held (eqb x.n2 2) (eqb by 0 && eqb owed 0)) ∙ and_comm (Held && eqb x.n2 2) (eqb by 0 && eqb owed 0))
      go false e false f false g false h false i false j true k a7 e7 a8 e8 = simp (eqb-true p 6 k, small, ← shared) (gather Held (eqb x.n2 1) (ltb by n) (eqb (owed % 2 ^ n) owed))
      go false e false f false g false h false i false j false k true m a8 e8 = simp (eqb-true p 7 m, zero_left, ← shared) (gather Held (eqb x.n2 1) (eqb by 0) (eqb (owed % 2 ^ n) owed))
      go false e false f false g false h false i false j false k false m true o = simp (eqb-true p 8 o, or_clear, zero_left) (and_comm Held (eqb by 0 && eqb owed 0))
      go false e false f false g false h false i false j false k false m false o = simp (e, f, g, h, i, j, k, m, o, flip 8 p, and-false)

order_home : (a l last marks b u q : Bool) → (a && (b && u) && l && (last && (marks && q))) ≡ (a && (l && (last && (marks && (b && (u && true))) && q)))
order_home false l last marks b u q = refl
order_home true l last marks false u q = go l last marks
  where
    go : (l last marks : Bool) → ◌≡◌ {A = Bool} false (l && (last && (marks && false) && q))
    go true true true = refl
    go true true false = refl
    go true false marks = refl
    go false last marks = refl
order_home true l last marks true false q = go l last marks
  where
    go : (l last marks : Bool) → ◌≡◌ {A = Bool} false (l && (last && (marks && false) && q))
    go true true true = refl
    go true true false = refl
    go true false marks = refl
    go false last marks = refl
order_home true true true true true true q = refl
order_home true true true false true true q = refl
order_home true true false marks true true q = refl
order_home true false last marks true true q = refl

-- the whole block, test after test
module _ (x : HomeBlock) (some : 0 < x.count) where
  abbrev Line : Bool
  Line = same_row (enc_line (dec_line x.count x.line)) x.line

  abbrev WaitsFor : Bool
  WaitsFor = phase_numbers_ok x.count x.phase x.line.n2 x.control.n2 x.control.n3

  abbrev Others : Bool
  Others =
      eqb (x.control.n0 % x.count) x.control.n0
      && (eqb (x.control.n1 % 2 ^ x.count) x.control.n1 && (same_pair (canon_queue 4 x.out) x.out && same_pair (canon_queue 5 x.back) x.back))

  home : (Line && WaitsFor && Others) ≡ home_ok x
  unfolding home_ok canon_control same_row
  home =
      let h : Home = dec_home x.count x.phase x.line x.control.n2 x.control.n3 in
      rw (held x.count some x.line x.phase x.control.n2 x.control.n3, same_self x.control.words)
      (order_home (eqb (phase_number h) x.phase) (same_row (enc_line (line_of h)) x.line) (eqb (x.control.n0 % x.count) x.control.n0) (eqb (x.control.n1 % 2 ^ x.count) x.control.n1) (eqb (requester h) x.control.n2) (eqb (owed_tiles h) x.control.n3)
      (same_pair (canon_queue 4 x.out) x.out && same_pair (canon_queue 5 x.back) x.back))

  -- the tests one after the other, each made only where those before it hold
  pub home_chain : {a b d e : Bool} → a ≡ (Line && WaitsFor) → b ≡ (a && eqb (x.control.n0 % x.count) x.control.n0) →
      d ≡ (b && eqb (x.control.n1 % 2 ^ x.count) x.control.n1) → e ≡ (d && (same_pair (canon_queue 4 x.out) x.out && same_pair (canon_queue 5 x.back) x.back)) → e ≡ home_ok x
  home_chain p q r s = s ∙ rw (r, q, p) (simp and_assoc) ∙ home

-- three queues whose first types are or-ed to 0
queue_none : (way : ℕ) (l : List ℕ) (i : ℕ) → get_or l i 0 ≡ 0 → none_at l i ≡ same_pair (canon_queue way (pair_at l i)) (pair_at l i)
unfolding none_at same_pair canon_queue pair_at row_at
queue_none way l i h = simp (h)

pub queues_none : (l : List ℕ) (i : ℕ) → bit_or (bit_or (get_or l i 0) (get_or l (i + 24) 0)) (get_or l (i + 48) 0) ≡ 0 → (none_at l i && (none_at l (i + 24) && none_at l (i + 48))) ≡ queues_ok l i
unfolding queues_ok
queues_none l i h =
    let p = or_none (bit_or (get_or l i 0) (get_or l (i + 24) 0)) (get_or l (i + 48) 0) h in
    let q = or_none (get_or l i 0) (get_or l (i + 24) 0) p.0 in
    rw (queue_none 1 l i q.0, queue_none 2 l (i + 24) q.1, queue_none 3 l (i + 48) p.1)

-- and the two of memory
pub memory_none : (l : List ℕ) → bit_or (get_or l 26 0) (get_or l 50 0) ≡ 0 → (none_at l 26 && none_at l 50) ≡ memory_ok l
unfolding memory_ok
memory_none l h =
    let p = or_none (get_or l 26 0) (get_or l 50 0) h in
    rw (queue_none 4 l 26 p.0, queue_none 5 l 50 p.1)
