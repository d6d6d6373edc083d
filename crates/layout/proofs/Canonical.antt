-- A block that passes its test is the encoding of what it is read as. Assumes nothing.
use Prim.Native.Nat.{ℕ, ◌%◌, ◌^◌}
use mathlib.Core.Path.{◌≡◌, refl, sym, ◌∙◌}
use mathlib.Core.Bool.{Bool, cond, true, false, ◌&&◌, false≢true}
use mathlib.Core.List.{List, [], ◌∷◌}
use lib.Dec.{eqb}
use borrow.Author.Tests.{eqb-true}
use Rattle.layout.specs.declared.rows.Row.{Row}
use Rattle.layout.specs.declared.rows.Pair.{Pair}
use Rattle.layout.specs.declared.rows.TileBlock.{TileBlock}
use Rattle.layout.specs.declared.rows.HomeBlock.{HomeBlock}
use Rattle.protocol.specs.Parts.{empty, one, two}
use Rattle.layout.specs.Encode.{no_row, enc_request, enc_forward, enc_reply, enc_to_memory, enc_from_memory, enc_queue, enc_head, enc_tile, enc_home, enc_line, line_of, phase_number}
use Rattle.layout.specs.Decode.{dec_request, dec_forward, dec_reply, dec_to_memory, dec_from_memory, dec_queue, dec_cache, dec_waiting, dec_tile, dec_home}
use Rattle.layout.specs.Canonical.{same, same_row, same_pair, canon_message, canon_queue, tile_ok, canon_control, home_ok}

pub both_true : (a b : Bool) → (a && b) ≡ true → (a ≡ true) × (b ≡ true)
both_true true b h = (refl, h)
both_true false b h = absurd (false≢true h)

pub same_true : (xs ys : List ℕ) → same xs ys ≡ true → xs ≡ ys
unfolding same
same_true [] [] h = refl
same_true [] (y ∷ ys) h = absurd (false≢true h)
same_true (x ∷ xs) [] h = absurd (false≢true h)
same_true (x ∷ xs) (y ∷ ys) h =
    let p = both_true (eqb x y) (same xs ys) h in
    let e : x ≡ y = eqb-true x y p.0 in
    let es : xs ≡ ys = same_true xs ys p.1 in
    rw (e, es)

pub row_path : (x y : Row) → x.n0 ≡ y.n0 → x.n1 ≡ y.n1 → x.n2 ≡ y.n2 → x.n3 ≡ y.n3 → x.words ≡ y.words → x ≡ y
row_path x y a b c d e = λ i. record { n0 = a i; n1 = b i; n2 = c i; n3 = d i; words = e i }

pub row_true : (x y : Row) → same_row x y ≡ true → x ≡ y
unfolding same_row
row_true x y h =
    let p = both_true (eqb x.n0 y.n0) _ h in
    let q = both_true (eqb x.n1 y.n1) _ p.1 in
    let r = both_true (eqb x.n2 y.n2) _ q.1 in
    let s = both_true (eqb x.n3 y.n3) _ r.1 in
    row_path x y (eqb-true _ _ p.0) (eqb-true _ _ q.0) (eqb-true _ _ r.0) (eqb-true _ _ s.0) (same_true x.words y.words s.1)

pub pair_true : (x y : Pair) → same_pair x y ≡ true → x ≡ y
unfolding same_pair
pair_true x y h =
    let p = both_true (same_row x.a y.a) _ h in
    λ i. record { a = row_true x.a y.a p.0 i; b = row_true x.b y.b p.1 i }

-- a queue in canonical numbers, by what its messages are read and written as
queue_canon : {A : Type 0} (f : A → Row) (g : Row → A) (q : Pair) →
    cond (eqb q.a.n0 0) (record { a = no_row; b = no_row }) (cond (eqb q.b.n0 0) (record { a = f (g q.a); b = no_row }) (record { a = f (g q.a); b = f (g q.b) })) ≡ enc_queue f (dec_queue g q)
unfolding enc_queue dec_queue
queue_canon f g q = go (eqb q.a.n0 0) (eqb q.b.n0 0)
  where
    go : (s t : Bool) →
        cond s (record { a = no_row; b = no_row }) (cond t (record { a = f (g q.a); b = no_row }) (record { a = f (g q.a); b = f (g q.b) }))
        ≡ enc_queue f (cond s empty (cond t (one (g q.a)) (two (g q.a) (g q.b))))
    go true t = refl
    go false true = refl
    go false false = refl

module _ (q : Pair) where
  pub canon1 : canon_queue 1 q ≡ enc_queue enc_request (dec_queue dec_request q)
  unfolding canon_queue canon_message
  canon1 = queue_canon enc_request dec_request q

  pub canon2 : canon_queue 2 q ≡ enc_queue enc_forward (dec_queue dec_forward q)
  unfolding canon_queue canon_message
  canon2 = queue_canon enc_forward dec_forward q

  pub canon3 : canon_queue 3 q ≡ enc_queue enc_reply (dec_queue dec_reply q)
  unfolding canon_queue canon_message
  canon3 = queue_canon enc_reply dec_reply q

  pub canon4 : canon_queue 4 q ≡ enc_queue enc_to_memory (dec_queue dec_to_memory q)
  unfolding canon_queue canon_message
  canon4 = queue_canon enc_to_memory dec_to_memory q

  pub canon5 : canon_queue 5 q ≡ enc_queue enc_from_memory (dec_queue dec_from_memory q)
  unfolding canon_queue canon_message
  canon5 = queue_canon enc_from_memory dec_from_memory q

pub tile_canonical : (x : TileBlock) → tile_ok x ≡ true → enc_tile (dec_tile x) ≡ x
unfolding tile_ok enc_tile dec_tile
tile_canonical x h =
    let p = both_true (same_row (enc_head (dec_cache x.head) (dec_waiting x.head)) x.head) _ h in
    let q = both_true (same_pair (canon_queue 1 x.noc1) x.noc1) _ p.1 in
    let r = both_true (same_pair (canon_queue 2 x.noc2) x.noc2) _ q.1 in
    let a = row_true _ _ p.0 in
    let b = sym (canon1 x.noc1) ∙ pair_true _ _ q.0 in
    let c = sym (canon2 x.noc2) ∙ pair_true _ _ r.0 in
    let d = sym (canon3 x.noc3) ∙ pair_true _ _ r.1 in
    λ i. record { head = a i; noc1 = b i; noc2 = c i; noc3 = d i }

-- the home's part of what a block is read as
abbrev pub home_from : HomeBlock → HomeBlock
home_from x =
    enc_home x.count (dec_home x.count x.phase x.line x.control.n2 x.control.n3) (x.control.n0 % x.count) (x.control.n1 % 2 ^ x.count) x.control.words (dec_queue dec_to_memory x.out)
    (dec_queue dec_from_memory x.back)

pub home_canonical : (x : HomeBlock) → home_ok x ≡ true → home_from x ≡ x
unfolding home_ok enc_home canon_control
home_canonical x h =
    let p = both_true (eqb (phase_number (dec_home x.count x.phase x.line x.control.n2 x.control.n3)) x.phase) _ h in
    let q = both_true (same_row (enc_line (line_of (dec_home x.count x.phase x.line x.control.n2 x.control.n3))) x.line) _ p.1 in
    let r = both_true (same_row (canon_control x.count x.phase x.line x.control) x.control) _ q.1 in
    let s = both_true (same_pair (canon_queue 4 x.out) x.out) _ r.1 in
    let a = eqb-true _ _ p.0 in
    let b = row_true _ _ q.0 in
    let c = row_true _ _ r.0 in
    let d = sym (canon4 x.out) ∙ pair_true _ _ s.0 in
    let e = sym (canon5 x.back) ∙ pair_true _ _ s.1 in
    λ i. record { count = x.count; phase = a i; line = b i; control = c i; out = d i; back = e i }
