-- Laws of a list written over from a place on. Assumes nothing.
use Prim.Native.Nat.{ℕ, suc, ◌+◌, ◌-◌, ◌≤◌, ◌<◌}
use mathlib.Core.Path.{◌≡◌, refl, ap, sym, ◌∙◌, subst}
use mathlib.Core.Bool.{Bool, true, false}
use mathlib.Core.List.{List, [], ◌∷◌, ◌++◌, append_assoc}
use native.Mathlib.Omega.{arith}
use native.Mathlib.Nat.{add_assoc, add-zero}
use native.Mathlib.Numerals.{add-one}
use lib.Dec.{leb}
use lib.ListN.{length, set, take, drop, length-append, length-take, length-drop, length-set, take-append-drop}
use lib.Seq.{drop-append-add, drop-drop, drop-cons, length-take-le, take_at, drop_at, set_split, take-set-le, drop-set-lt, get_or-set_same}
use borrow.Author.Tests.{le-leb, lt-leb, leb-true, leb-false}
use Rattle.lists.specs.Over.{over, buffer_after, place_after, Placed, Put}

-- the room test, without a sum that could wrap
pub room_test : (len at n : ℕ) → at ≤ len → leb n (len - at) ≡ leb (at + n) len
room_test len at n h = go (leb n (len - at)) refl
  where
    go : (b : Bool) → leb n (len - at) ≡ b → b ≡ leb (at + n) len
    go true e = let l = leb-true n (len - at) e in sym (le-leb (at + n) len (omega arith))
    go false e = let l = leb-false n (len - at) e in sym (lt-leb (at + n) len (omega arith))

pub past_room : (len at n : ℕ) → len < at → false ≡ leb (at + n) len
past_room len at n h = sym (lt-leb (at + n) len (omega arith))

pub length_over : (l : List ℕ) (i : ℕ) (vs : List ℕ) → i + length vs ≤ length l → length (over l i vs) ≡ length l
unfolding over
length_over l i vs h = simp (length-append, length-take, length-drop) (omega arith)

-- nothing written
pub over_nil : (l : List ℕ) (i : ℕ) → over l i [] ≡ l
unfolding over
over_nil l i = rw add-zero (take-append-drop i l)

-- one number
pub over_one : (l : List ℕ) (i a : ℕ) → i < length l → set l i a ≡ over l i (a ∷ [])
unfolding over
over_one l i a h = rw add-one (set_split l i a h)

-- what was written stands at its place, before what stood behind it
pub at_place : (l : List ℕ) (i : ℕ) (vs : List ℕ) → i ≤ length l → drop i (over l i vs) ≡ vs ++ drop (i + length vs) l
unfolding over
at_place l i vs h = drop_at (take i l) (vs ++ drop (i + length vs) l) i (length-take-le i l h)

-- two pieces one after the other are one
pub over_over : (l : List ℕ) (i j : ℕ) (xs ys : List ℕ) → i ≤ length l → j ≡ i + length xs → over (over l i xs) j ys ≡ over l i (xs ++ ys)
unfolding over
over_over l i j xs ys h e =
    let A : List ℕ = take i l in
    let D : List ℕ = drop (i + length xs) l in
    let n : length (A ++ xs) ≡ j = simp length-append (ap (λ (k : ℕ). k + length xs) (length-take-le i l h) ∙ sym e) in
    let back : drop (j + length ys) (A ++ xs ++ D) ≡ drop (i + length (xs ++ ys)) l =
    ap (λ (k : ℕ). drop (k + length ys) (A ++ xs ++ D)) (sym n) ∙ drop-append-add (A ++ xs) D (length ys) ∙ drop-drop (length ys) (i + length xs) l
    ∙ ap (λ (k : ℕ). drop k l) (add_assoc i (length xs) (length ys) ∙ ap (λ (k : ℕ). i + k) (sym (length-append xs ys))) in
    rw (← append_assoc A xs D) (ap (λ (k : List ℕ). k ++ (ys ++ drop (j + length ys) (A ++ xs ++ D))) (take_at (A ++ xs) D j n)
    ∙ ap (λ (k : List ℕ). A ++ xs ++ (ys ++ k)) back ∙ append_assoc A xs (ys ++ drop (i + length (xs ++ ys)) l)
    ∙ ap (λ (k : List ℕ). A ++ k) (sym (append_assoc xs ys (drop (i + length (xs ++ ys)) l))))

-- a list written over in pieces, each on what the last one left
pub then_over : (l m n : List ℕ) (i j : ℕ) (xs ys : List ℕ) → i ≤ length l → j ≡ i + length xs → m ≡ over l i xs → n ≡ over m j ys → n ≡ over l i (xs ++ ys)
then_over l m n i j xs ys h e p q = q ∙ ap (λ (x : List ℕ). over x j ys) p ∙ over_over l i j xs ys h e

-- the last number stored first
pub over_last : (l : List ℕ) (i : ℕ) (xs : List ℕ) (a : ℕ) → i + length xs < length l → over (set l (i + length xs) a) i xs ≡ over l i (xs ++ (a ∷ []))
unfolding over
over_last l i xs a h =
    let j : ℕ = i + length xs in
    let back : drop j (set l j a) ≡ a ∷ drop (suc j) l =
    drop-cons (set l j a) j 0 (simp length-set (omega arith)) ∙ rw (get_or-set_same l j a 0 h, drop-set-lt (suc j) l j a (omega arith)) in
    let q : suc (i + length xs) ≡ i + length (xs ++ (a ∷ [])) = omega (arith, length-append xs (a ∷ [])) in
    rw (take-set-le i l j a (omega arith), back)
    (ap (λ (r : List ℕ). take i l ++ r)
    (ap (λ (r : ℕ). xs ++ (a ∷ drop r l)) q ∙ sym (append_assoc xs (a ∷ []) (drop (i + length (xs ++ (a ∷ []))) l))))

-- two pieces put one after the other
pub join : (l m n : List ℕ) (i j k : ℕ) (xs ys : List ℕ) → i ≤ length l → Put l m i j xs → Put m n j k ys → Put l n i k (xs ++ ys)
join l m n i j k xs ys h p q =
    record { place = omega (arith, p.place, q.place, length-append xs ys); buffer = then_over l m n i j xs ys h p.place p.buffer q.buffer }

-- two pieces of two pieces
pub four_put : (l m n : List ℕ) (i j k : ℕ) (a b c d : List ℕ) → i ≤ length l → Put l m i j (a ++ b) → Put m n j k (c ++ d) → Put l n i k (a ++ (b ++ (c ++ d)))
four_put l m n i j k a b c d h p q = subst (λ (vs : List ℕ). Put l n i k vs) (append_assoc a b (c ++ d)) (join l m n i j k (a ++ b) (c ++ d) h p q)

-- put where it fits, and where it does not
pub fits : (l m : List ℕ) (i j : ℕ) (vs : List ℕ) → i + length vs ≤ length l → Put l m i j vs → Placed l m i j vs
unfolding buffer_after place_after
fits l m i j vs h p = record { place = rw (le-leb (i + length vs) (length l) h) p.place; buffer = rw (le-leb (i + length vs) (length l) h) p.buffer }

pub does_not_fit : (l : List ℕ) (i : ℕ) (vs : List ℕ) → length l < i + length vs → Placed l l i (length l + 1) vs
unfolding buffer_after place_after
does_not_fit l i vs h = record { place = rw (lt-leb (i + length vs) (length l) h); buffer = rw (lt-leb (i + length vs) (length l) h) }

-- the same by the answer of a room test for n elements
pub has_room_lem : {b : Bool} (len i n : ℕ) → b ≡ leb (i + n) len → b ≡ true → i + n ≤ len
has_room_lem len i n e t = leb-true (i + n) len (sym e ∙ t)

pub with_room : {b : Bool} (l m : List ℕ) (i j n : ℕ) (vs : List ℕ) → n ≡ length vs → b ≡ leb (i + n) (length l) → b ≡ true → Put l m i j vs → Placed l m i j vs
with_room l m i j n vs s e t p = fits l m i j vs (rw s at (has_room_lem (length l) i n e t)) p

pub without_room : {b : Bool} (l : List ℕ) (i n : ℕ) (vs : List ℕ) → n ≡ length vs → b ≡ leb (i + n) (length l) → b ≡ false → Placed l l i (length l + 1) vs
without_room l i n vs s e t = does_not_fit l i vs (rw s at (leb-false (i + n) (length l) (sym e ∙ t)))

-- ---- several puts one after the other: if the last place lies within the buffer, all of them fitted
pub placed_put : (l m : List ℕ) (i j : ℕ) (vs : List ℕ) → Placed l m i j vs → j ≤ length l → Put l m i j vs
unfolding buffer_after place_after
placed_put l m i j vs p h = go (leb (i + length vs) (length l)) refl
  where
    go : (b : Bool) → leb (i + length vs) (length l) ≡ b → Put l m i j vs
    go true e = record { place = rw e at p.place; buffer = rw e at p.buffer }
    go false e = absurd (let q : j ≡ length l + 1 = rw e at p.place in omega arith)

pub placed_length : (l m : List ℕ) (i j : ℕ) (vs : List ℕ) → Placed l m i j vs → length m ≡ length l
unfolding buffer_after
placed_length l m i j vs p = go (leb (i + length vs) (length l)) refl
  where
    go : (b : Bool) → leb (i + length vs) (length l) ≡ b → length m ≡ length l
    go true e = ap length (rw e at p.buffer) ∙ length_over l i vs (leb-true (i + length vs) (length l) e)
    go false e = ap length (rw e at p.buffer)

pub two_placed : (l m n : List ℕ) (i j k : ℕ) (xs ys : List ℕ) → Placed l m i j xs → Placed m n j k ys → k ≤ length l → Put l n i k (xs ++ ys)
two_placed l m n i j k xs ys p q h =
    let s : length m ≡ length l = placed_length l m i j xs p in
    let b : Put m n j k ys = placed_put m n j k ys q (omega arith) in
    let a : Put l m i j xs = placed_put l m i j xs p (omega (arith, b.place)) in
    join l m n i j k xs ys (omega (arith, a.place, b.place)) a b
