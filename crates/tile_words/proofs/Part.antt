-- A tile's words as a part of a bench's: a step of the tile there is its step by itself. Assumes nothing.
use Prim.Native.Nat.{ℕ, ◌+◌, ◌≤◌}
use mathlib.Core.Path.{◌≡◌, refl, ap, sym, ◌∙◌, subst}
use mathlib.Core.List.{List, [], ◌++◌}
use native.Mathlib.Omega.{arith}
use lib.ListN.{length, take, drop}
use lib.Seq.{drop-drop}
use borrow.Rule.Slice.PartMut.{put_mid}
use Rattle.std.specs.Prelude.{Result, Ok, Err}
use Rattle.std.proofs.lemmas.List.{append-nil, take_all}
use Rattle.numbers.specs.declared.refusals.Refusal.{Refusal}
use Rattle.lists.specs.Over.{over}
use Rattle.layout.specs.declared.rows.TileBlock.{TileBlock}
use Rattle.layout.specs.Blocks.{tile_block_at, tile_block_words}
use Rattle.layout.proofs.Over.{tile_words}
use Rattle.layout.proofs.Reading.{tile_full, tile_at_lem}
use Rattle.tile_rules.specs.Steps.{TileStep}
use Rattle.tile_words.specs.declared.StepAnswer.{StepAnswer}
use Rattle.tile_words.specs.InPlace.{TilePut, Steps, told_step}

told_tile : (r : Result StepAnswer Refusal) (y : TileBlock) → (told_step r y).tile ≡ y
told_tile (Ok a) y = refl
told_tile (Err e) y = refl

module _ (l : List ℕ) (i : ℕ) (h : i + 84 ≤ length l) where
  abbrev x : TileBlock
  x = tile_block_at l i

  part_is : (t : List ℕ) → t ≡ take 84 (drop i l) → tile_block_at t 0 ≡ x
  part_is t e = ap (λ (z : List ℕ). tile_block_at z 0) (e ∙ sym (tile_words l i h) ∙ sym (append-nil (tile_block_words x))) ∙ tile_at_lem [] [] x 0 refl (tile_full l i h)

  put_back : (k : ℕ) (u : List ℕ) → k ≡ 84 → length u ≡ 84 → TilePut l i (tile_block_at u 0) (put_mid i k l u)
  unfolding over
  put_back k u ek n =
      let fits : 84 ≤ length u = omega arith in
      let ys : List ℕ = tile_block_words (tile_block_at u 0) in
      let whole : ys ≡ u = tile_words u 0 fits ∙ take_all 84 u (omega arith) in
      let behind : drop k (drop i l) ≡ drop (i + length u) l = drop-drop k i l ∙ ap (λ (j : ℕ). drop (i + j) l) (ek ∙ sym n) in
      record { words = ap (λ (z : List ℕ). take i l ++ (u ++ z)) behind ∙ sym (ap (over l i) whole); full = tile_full u 0 fits }

  pub step_placed : (f : TileBlock → TileStep) (r : Result StepAnswer Refusal) (k : ℕ) (t u : List ℕ) → k ≡ 84 → t ≡ take k (drop i l) → length u ≡ 84 →
      told_step r (tile_block_at u 0) ≡ f (tile_block_at t 0) → Steps l i f r (put_mid i k l u)
  step_placed f r k t u ek et n e =
      let e1 : told_step r (tile_block_at u 0) ≡ f x = e ∙ ap f (part_is t (et ∙ ap (λ (j : ℕ). take j (drop i l)) ek)) in
      let after : (f x).tile ≡ tile_block_at u 0 = sym (ap (λ (s : TileStep). s.tile) e1) ∙ told_tile r (tile_block_at u 0) in
      record { answer = ap (told_step r) after ∙ e1; put = subst (λ (y : TileBlock). TilePut l i y (put_mid i k l u)) (sym after) (put_back k u ek n) }
