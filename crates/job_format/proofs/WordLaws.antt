-- Eight words by each of them. Assumes nothing.
use Prim.Native.Nat.{ℕ}
use mathlib.Core.Path.{◌≡◌}
use mathlib.Core.List.{List, [], ◌∷◌}
use native.Mathlib.Omega.{arith}
use lib.ListN.{length, get_or}

pub eight_words : (xs : List ℕ) (a b c d e f g h : ℕ) → length xs ≡ 8 → get_or xs 0 0 ≡ a → get_or xs 1 0 ≡ b → get_or xs 2 0 ≡ c → get_or xs 3 0 ≡ d
    → get_or xs 4 0 ≡ e → get_or xs 5 0 ≡ f → get_or xs 6 0 ≡ g → get_or xs 7 0 ≡ h → xs ≡ a ∷ b ∷ c ∷ d ∷ e ∷ f ∷ g ∷ h ∷ []
eight_words (s ∷ t ∷ u ∷ v ∷ w ∷ x ∷ y ∷ z ∷ []) a b c d e f g h n p0 p1 p2 p3 p4 p5 p6 p7 = cc
eight_words xs a b c d e f g h n p0 p1 p2 p3 p4 p5 p6 p7 = absurd (omega arith)
