-- The tests of a request, a forward and a reply are those by encoding anew. Assumes nothing.
use Prim.Native.Nat.{ℕ, ◌%◌, ◌≤◌}
use mathlib.Core.Path.{◌≡◌, refl}
use mathlib.Core.Bool.{Bool, true, false, ◌&&◌, and-true, and-false, and_assoc}
use native.Mathlib.Omega.{arith}
use lib.Dec.{eqb, ltb}
use borrow.Author.Tests.{eqb-true, eqb-false, lt-leb, ne_eqb}
use Rattle.layout.specs.declared.rows.Row.{Row}
use Rattle.layout.specs.Encode.{zeros, enc_request, enc_forward, enc_reply}
use Rattle.layout.specs.Decode.{dec_request, dec_forward, dec_reply, ack_data}
use Rattle.layout.specs.Canonical.{same, same_row}
use Rattle.well_formed.specs.Fields.{request_word_ok, reply_numbers_ok}
use Rattle.well_formed.proofs.NumberLaws.{flip, zero_left, one_left, ne_left, or_clear, mod_below}
use Rattle.well_formed.specs.Rows.{clear_behind, bare}
use Rattle.well_formed.proofs.RowLaws.{same_self}

pub request : (r : Row) → (request_word_ok r.n0 r.n1 && clear_behind r) ≡ same_row (enc_request (dec_request r)) r
unfolding request_word_ok clear_behind same_row enc_request dec_request
request r = go (eqb r.n0 31) refl (eqb r.n0 2) refl (eqb r.n0 13) refl
  where
    small : eqb (r.n1 % 8) r.n1 ≡ ltb r.n1 8
    small = mod_below r.n1 8 (omega arith)

    go : (s : Bool) → eqb r.n0 31 ≡ s → (t : Bool) → eqb r.n0 2 ≡ t → (u : Bool) → eqb r.n0 13 ≡ u → (request_word_ok r.n0 r.n1 && clear_behind r) ≡ same_row (enc_request (dec_request r)) r
    go true p t q u v = simp (eqb-true r.n0 31 p, small)
    go false p true q u v = simp (eqb-true r.n0 2 q, small)
    go false p false q true v = simp (eqb-true r.n0 13 v, zero_left)
    go false p false q false v = simp (p, q, v, flip 13 r.n0)

-- a forward without data
pub forward_bare : (r : Row) → 16 ≤ r.n0 → r.n0 ≤ 18 → bare r ≡ same_row (enc_forward (dec_forward r)) r
unfolding bare clear_behind same_row enc_forward dec_forward
forward_bare r low high = go (eqb r.n0 16) refl (eqb r.n0 17) refl (eqb r.n0 18) refl
  where
    go : (s : Bool) → eqb r.n0 16 ≡ s → (t : Bool) → eqb r.n0 17 ≡ t → (u : Bool) → eqb r.n0 18 ≡ u → bare r ≡ same_row (enc_forward (dec_forward r)) r
    go true p t q u v = simp (eqb-true r.n0 16 p)
    go false p true q u v = simp (eqb-true r.n0 17 q)
    go false p false q true v = simp (eqb-true r.n0 18 v)
    go false p false q false v =
        let a = eqb-false r.n0 16 p in
        let b = eqb-false r.n0 17 q in
        let c = eqb-false r.n0 18 v in
        absurd (omega arith)

-- no forward
pub forward_none : (r : Row) → (16 ≤ r.n0 → r.n0 ≤ 18 → ⊥) → (r.n0 ≡ 29 → ⊥) → false ≡ same_row (enc_forward (dec_forward r)) r
unfolding same_row enc_forward dec_forward
forward_none r out other =
    let a : r.n0 ≡ 16 → ⊥ = λ e. out (omega arith) (omega arith) in
    let b : r.n0 ≡ 17 → ⊥ = λ e. out (omega arith) (omega arith) in
    let c : r.n0 ≡ 18 → ⊥ = λ e. out (omega arith) (omega arith) in
    simp (ne_eqb r.n0 16 a, ne_eqb r.n0 17 b, ne_eqb r.n0 18 c, ne_left r.n0 29 other)

-- a reply of each type; its data are there, or its flag is 0 and so are they
pub reply : (r : Row) → reply_numbers_ok r.n0 r.n1 r.n2 r.n3 (same zeros r.words) ≡ same_row (enc_reply (dec_reply r)) r
unfolding reply_numbers_ok same_row enc_reply dec_reply ack_data
reply r = go (eqb r.n0 12) refl (eqb r.n0 21) refl (eqb r.n0 22) refl (eqb r.n2 0) refl (eqb r.n2 1) refl (eqb r.n3 0) refl (eqb r.n3 1) refl
  where
    two : (x : ℕ) → eqb x 0 ≡ false → eqb x 1 ≡ false → 2 ≤ x
    two x p q =
        let a = eqb-false x 0 p in
        let b = eqb-false x 1 q in
        omega arith

    go : (a : Bool) → eqb r.n0 12 ≡ a → (b : Bool) → eqb r.n0 21 ≡ b → (d : Bool) → eqb r.n0 22 ≡ d →
        (s : Bool) → eqb r.n2 0 ≡ s → (t : Bool) → eqb r.n2 1 ≡ t → (u : Bool) → eqb r.n3 0 ≡ u → (v : Bool) → eqb r.n3 1 ≡ v →
        reply_numbers_ok r.n0 r.n1 r.n2 r.n3 (same zeros r.words) ≡ same_row (enc_reply (dec_reply r)) r
    go true h b i d j s p t q u x v y = simp (eqb-true r.n0 12 h, or_clear, zero_left, and_assoc, same_self, and-true)
    go false g true h d j true p t q true x v y = simp (eqb-true r.n0 21 h, eqb-true r.n2 0 p, eqb-true r.n3 0 x, zero_left, and-true)
    go false g true h d j true p t q false x v y =
        let z : r.n3 ≡ 0 → ⊥ = eqb-false r.n3 0 x in
        simp (eqb-true r.n0 21 h, eqb-true r.n2 0 p, lt-leb r.n3 0 (omega arith), x, zero_left, and-true, and-false)
    go false g true h d j false p true q true x v y = simp (eqb-true r.n0 21 h, eqb-true r.n2 1 q, eqb-true r.n3 0 x, zero_left, and-true)
    go false g true h d j false p true q false x true y = simp (eqb-true r.n0 21 h, eqb-true r.n2 1 q, eqb-true r.n3 1 y, zero_left, and-true, same_self)
    go false g true h d j false p true q false x false y =
        let z : 2 ≤ r.n3 = two r.n3 x y in
        simp (eqb-true r.n0 21 h, eqb-true r.n2 1 q, lt-leb r.n3 1 (omega arith), x, y, one_left, zero_left, and-true, and-false)
    go false g true h d j false p false q true x v y = simp (eqb-true r.n0 21 h, lt-leb r.n2 1 (two r.n2 p q), p, q, x, one_left, and-false)
    go false g true h d j false p false q false x v y = simp (eqb-true r.n0 21 h, lt-leb r.n2 1 (two r.n2 p q), p, q, x, one_left, and-false)
    go false g false h true j s p t q true x v y = simp (eqb-true r.n0 22 j, eqb-true r.n3 0 x, zero_left, and_assoc, and-true)
    go false g false h true j s p t q false x true y = simp (eqb-true r.n0 22 j, eqb-true r.n3 1 y, zero_left, and_assoc, and-true, same_self)
    go false g false h true j s p t q false x false y = simp (eqb-true r.n0 22 j, lt-leb r.n3 1 (two r.n3 x y), x, y, one_left, zero_left, and_assoc, and-false)
    go false g false h false j s p t q true x v y = simp (g, h, j, eqb-true r.n3 0 x, flip 23 r.n0, or_clear, zero_left, and_assoc, and-true)
    go false g false h false j s p t q false x v y = simp (g, h, j, x, flip 23 r.n0, or_clear, zero_left, and_assoc, and-false)
