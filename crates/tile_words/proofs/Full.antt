-- A step that finds a queue full. Assumes nothing.
use Prim.Native.Nat.{ℕ}
use mathlib.Core.Path.{◌≡◌, ap, sym, ◌∙◌}
use mathlib.Core.Bool.{Bool, cond, true, false}
use Rattle.std.specs.Prelude.{Result, Ok, Err}
use Rattle.numbers.specs.declared.refusals.Refusal.{Refusal}
use Rattle.numbers.specs.declared.refusals.Refusal.TheVariants.{QueueFull}
use Rattle.numbers.specs.Refusals.{refusal_number}
use Rattle.layout.specs.declared.rows.TileBlock.{TileBlock}
use Rattle.tile_rules.specs.declared.moves.TileNumbers.{TileNumbers}
use Rattle.tile_rules.specs.declared.moves.TileMove.{TileMove}
use Rattle.tile_rules.specs.Moves as moves
use Rattle.tile_rules.specs.Steps.{TileStep, refused_step, numbers_in, move_applied, tile_step_on}

no_room : (b : Bool) (e : Refusal) (s : TileStep) (x : TileBlock) → ◌≡◌ {A = Result Unit Refusal} (cond b (Ok tt) (Err QueueFull)) (Err e) → refused_step (refusal_number e) x ≡ cond b s (refused_step 9 x)
no_room true e s x p = cc
no_room false e s x p = let q : e ≡ QueueFull = cc in ap (λ (r : Refusal). refused_step (refusal_number r) x) q

pub full : (x : TileBlock) (c w v : ℕ) (n : TileNumbers) (d : Result TileMove Refusal) (z : TileMove) (q : Result Unit Refusal) (e : Refusal) →
    n ≡ numbers_in x → d ≡ moves.step n c w v → d ≡ Ok z → q ≡ moves.room_for n z → q ≡ Err e → refused_step (refusal_number e) x ≡ tile_step_on c w v x
unfolding tile_step_on move_applied
full x c w v n d z q e e1 e2 e3 e4 e5 =
    no_room _ e _ x (ap (λ (y : TileNumbers). moves.room_for y z) (sym e1) ∙ sym e4 ∙ e5) ∙ ap (move_applied x) (sym e3 ∙ e2 ∙ ap (λ (y : TileNumbers). moves.step y c w v) e1)
