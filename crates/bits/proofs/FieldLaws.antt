-- Fields of a word: the laws over place and width on which every use of a bit field rests. Assumes nothing.
--     cut_put        what was set is cut out again, whatever stood there before
--     cut_put_other  a field that lies apart is untouched
--     cut_lt, put_lt bounds
--     put_cut        setting what stands there changes nothing
--     put_next       the bits below a field and the field are the bits below its end
--     put_or         how `put` is computed by shift, mask and or
use mathlib.Core.Path.{◌≡◌, refl, sym, ap, ap₂, ◌∙◌, subst}
use mathlib.Core.Bool.{Bool, true, false, ◌||◌}
use Prim.Native.Nat.{ℕ, ◌+◌, ◌-◌, ◌*◌, ◌/◌, ◌%◌, ◌^◌, ◌≤◌, ◌<◌}
use native.Mathlib.Nat.{add_comm, add_assoc, mul_assoc, add-mul, mod-lt, mod-eq_of_lt, mod-mod, div-eq_of_lt, zero-mul, zero-add, sub-add_cancel, lt_of_lt_of_le, lt_of_le_of_lt}
use native.Mathlib.Omega.{arith}
use lib.Dec.{leb}
use lib.Arith.{digits_lt}
use lib.Bits.{bit_or, or_shifted}
use lib.Pow.{pow_pos, pow_mono, pow-add, split, high, low, field, mod-mod-pow, mod-pow-add, shr-shr, shr_lt, shl_exact}
use borrow.Author.Tests.{leb-true, le-leb, lt-leb}
use Rattle.bits.specs.Field.{cut, put, put64}

pub cut_lt : (w p k : ℕ) → cut w p k < 2 ^ k
cut_lt w p k = mod-lt (w / 2 ^ p) (pow_pos k)

-- the field and the bits below it, as one number
below : ℕ → ℕ → ℕ → ℕ → ℕ
below w p k v = v % 2 ^ k * 2 ^ p + w % 2 ^ p

below_lt : (w p k v : ℕ) → below w p k v < 2 ^ (p + k)
unfolding below
below_lt w p k v =
    subst (λ (n : ℕ). v % 2 ^ k * 2 ^ p + w % 2 ^ p < n)
    (sym (ap (λ (n : ℕ). 2 ^ n) (add_comm p k) ∙ pow-add 2 k p))
    (digits_lt (mod-lt v (pow_pos k)) (mod-lt w (pow_pos p)))

-- the bits above and the field, as one number, and the bits below
above : (w p k v : ℕ) → put w p k v ≡ (w / 2 ^ (p + k) * 2 ^ k + v % 2 ^ k) * 2 ^ p + w % 2 ^ p
unfolding put
above w p k v =
    ap (λ (n : ℕ). w / 2 ^ (p + k) * n + (v % 2 ^ k * 2 ^ p + w % 2 ^ p)) (ap (λ (n : ℕ). 2 ^ n) (add_comm p k) ∙ pow-add 2 k p)
    ∙ ap (λ (n : ℕ). n + (v % 2 ^ k * 2 ^ p + w % 2 ^ p)) (sym (mul_assoc (w / 2 ^ (p + k)) (2 ^ k) (2 ^ p)))
    ∙ sym (add_assoc (w / 2 ^ (p + k) * 2 ^ k * 2 ^ p) (v % 2 ^ k * 2 ^ p) (w % 2 ^ p))
    ∙ ap (λ (n : ℕ). n + w % 2 ^ p) (sym (add-mul (w / 2 ^ (p + k) * 2 ^ k) (v % 2 ^ k) (2 ^ p)))

put_shr : (w p k v : ℕ) → put w p k v / 2 ^ p ≡ w / 2 ^ (p + k) * 2 ^ k + v % 2 ^ k
put_shr w p k v =
    ap (λ (n : ℕ). n / 2 ^ p) (above w p k v) ∙ high (w / 2 ^ (p + k) * 2 ^ k + v % 2 ^ k) p (mod-lt w (pow_pos p))

-- the bits below the field, and those above it, are as they were
put_low : (w p k v : ℕ) → put w p k v % 2 ^ p ≡ w % 2 ^ p
put_low w p k v =
    ap (λ (n : ℕ). n % 2 ^ p) (above w p k v) ∙ low (w / 2 ^ (p + k) * 2 ^ k + v % 2 ^ k) p (mod-lt w (pow_pos p))

put_high : (w p k v : ℕ) → put w p k v / 2 ^ (p + k) ≡ w / 2 ^ (p + k)
unfolding put below
put_high w p k v = high (w / 2 ^ (p + k)) (p + k) (below_lt w p k v)

pub cut_put : (w p k v : ℕ) → cut (put w p k v) p k ≡ v % 2 ^ k
cut_put w p k v =
    ap (λ (n : ℕ). n % 2 ^ k) (put_shr w p k v) ∙ low (w / 2 ^ (p + k)) k (mod-lt v (pow_pos k))

-- of a value that fits the field
pub cut_put_fits : (w p k v : ℕ) → v < 2 ^ k → cut (put w p k v) p k ≡ v
cut_put_fits w p k v h = cut_put w p k v ∙ mod-eq_of_lt h

-- a field from n on is cut from the bits from n on; one that ends by n, from the bits below n
cut_from : (w n p k : ℕ) → n ≤ p → cut w p k ≡ cut (w / 2 ^ n) (p - n) k
cut_from w n p k h =
    sym
    (ap (λ (x : ℕ). x % 2 ^ k)
    (shr-shr w n (p - n) ∙ ap (λ (x : ℕ). w / 2 ^ x) (add_comm n (p - n) ∙ sub-add_cancel h)))

cut_below : (w n p k : ℕ) → p + k ≤ n → cut w p k ≡ cut (w % 2 ^ n) p k
cut_below w n p k h =
    sym (field w k p)
    ∙ ap (λ (x : ℕ). x / 2 ^ p) (sym (mod-mod-pow w (n - (k + p)) (k + p)))
    ∙ ap (λ (x : ℕ). w % 2 ^ x % 2 ^ (k + p) / 2 ^ p) (sub-add_cancel (omega arith))
    ∙ field (w % 2 ^ n) k p

-- two fields share no bit
abbrev pub apart : ℕ → ℕ → ℕ → ℕ → Bool
apart p k q j = leb (p + k) q || leb (q + j) p

pub cut_put_other : (w p k v q j : ℕ) → apart p k q j ≡ true → cut (put w p k v) q j ≡ cut w q j
cut_put_other w p k v q j e = go (leb (p + k) q) refl e
  where
    go : (b : Bool) → leb (p + k) q ≡ b → (b || leb (q + j) p) ≡ true → cut (put w p k v) q j ≡ cut w q j
    go true h e =
        cut_from (put w p k v) (p + k) q j (leb-true (p + k) q h)
        ∙ ap (λ (x : ℕ). cut x (q - (p + k)) j) (put_high w p k v)
        ∙ sym (cut_from w (p + k) q j (leb-true (p + k) q h))
    go false h e =
        cut_below (put w p k v) p q j (leb-true (q + j) p e)
        ∙ ap (λ (x : ℕ). cut x q j) (put_low w p k v)
        ∙ sym (cut_below w p q j (leb-true (q + j) p e))

pub put_lt : (n w p k v : ℕ) → w < 2 ^ n → p + k ≤ n → put w p k v < 2 ^ n
unfolding put below
put_lt n w p k v hw hp =
    let e : n - (p + k) + (p + k) ≡ n = sub-add_cancel hp in
    subst (λ (x : ℕ). w / 2 ^ (p + k) * 2 ^ (p + k) + below w p k v < x)
    (sym (pow-add 2 (n - (p + k)) (p + k)) ∙ ap (λ (x : ℕ). 2 ^ x) e)
    (digits_lt (shr_lt (n - (p + k)) (p + k) (subst (λ (x : ℕ). w < 2 ^ x) (sym e) hw)) (below_lt w p k v))

-- the bits below p and the field at p are the bits below p + k
low_field : (w p k : ℕ) → cut w p k % 2 ^ k * 2 ^ p + w % 2 ^ p ≡ w % 2 ^ (p + k)
low_field w p k =
    ap (λ (x : ℕ). x * 2 ^ p + w % 2 ^ p) (mod-eq_of_lt (cut_lt w p k))
    ∙ sym (mod-pow-add w k p)
    ∙ ap (λ (x : ℕ). w % 2 ^ x) (add_comm k p)

pub put_cut : (w p k : ℕ) → put w p k (cut w p k) ≡ w
unfolding put
put_cut w p k = ap (λ (x : ℕ). w / 2 ^ (p + k) * 2 ^ (p + k) + x) (low_field w p k) ∙ split w (p + k)

pub put_next : (w p k : ℕ) → put (w % 2 ^ p) p k (cut w p k) ≡ w % 2 ^ (p + k)
unfolding put
put_next w p k =
    let small : w % 2 ^ p < 2 ^ (p + k) = lt_of_lt_of_le (mod-lt w (pow_pos p)) (pow_mono (omega arith)) in
    ap₂ (λ (x y : ℕ). x * 2 ^ (p + k) + (cut w p k % 2 ^ k * 2 ^ p + y)) (div-eq_of_lt small) (mod-mod w (2 ^ p))
    ∙ ap (λ (x : ℕ). x + (cut w p k % 2 ^ k * 2 ^ p + w % 2 ^ p)) (zero-mul (2 ^ (p + k)))
    ∙ zero-add (cut w p k % 2 ^ k * 2 ^ p + w % 2 ^ p)
    ∙ low_field w p k

-- `((w >> end) << end) | ((v & ones) << place) | (w & ones)`, the shifts at 64 bits
pub put_or : (w p k v : ℕ) → w < 2 ^ 64 → p + k ≤ 64
    → bit_or (w / 2 ^ (p + k) * 2 ^ (p + k) % 2 ^ 64) (bit_or (v % 2 ^ k * 2 ^ p % 2 ^ 64) (w % 2 ^ p)) ≡ put w p k v
unfolding put below
put_or w p k v hw hp =
    ap₂ bit_or
    (mod-eq_of_lt
    (lt_of_le_of_lt
    (subst (λ (x : ℕ). w / 2 ^ (p + k) * 2 ^ (p + k) ≤ x) (split w (p + k)) (omega arith))
    hw))
    (ap (λ (x : ℕ). bit_or x (w % 2 ^ p)) (shl_exact {a = v % 2 ^ k} k p 64 (mod-lt v (pow_pos k)) (omega arith))
    ∙ or_shifted (v % 2 ^ k) p (w % 2 ^ p) (mod-lt w (pow_pos p)))
    ∙ or_shifted (w / 2 ^ (p + k)) (p + k) (below w p k v) (below_lt w p k v)

-- of a word: a field that lies inside is set as the code sets it, and no other
pub put_word : (w p k v : ℕ) → w < 2 ^ 64 → p + k ≤ 64 → {a b c d e : ℕ}
    → a ≡ w / 2 ^ (p + k) → b ≡ a * 2 ^ (p + k) % 2 ^ 64 → c ≡ v % 2 ^ k → d ≡ c * 2 ^ p % 2 ^ 64 → e ≡ w % 2 ^ p
    → bit_or b (bit_or d e) ≡ put64 w p k v
put_word w p k v hw hp ea eb ec ed ee =
    rw (le-leb (p + k) 64 hp)
    (ap₂ bit_or
    (eb ∙ ap (λ (x : ℕ). x * 2 ^ (p + k) % 2 ^ 64) ea)
    (ap₂ bit_or (ed ∙ ap (λ (x : ℕ). x * 2 ^ p % 2 ^ 64) ec) ee)
    ∙ put_or w p k v hw hp)

pub put_none : (w p k v : ℕ) → 64 < p + k → w ≡ put64 w p k v
put_none w p k v h = rw (lt-leb (p + k) 64 h)

-- a field that lies inside the word
pub put64_inside : (w p k v : ℕ) → leb (p + k) 64 ≡ true → put64 w p k v ≡ put w p k v
put64_inside w p k v e = rw e
