-- Waiting in the history of calls is waiting in the tile.
use Prim.Native.Nat.{ℕ, suc}
use mathlib.Core.Path.{◌≡◌, refl, sym, ap, ◌∙◌}
use mathlib.Core.List.{List, [], ◌∷◌}
use lib.ListN.{replicate}
use Rattle.protocol.specs.Parts.{Words, Waiting, nothing, Bench, Call}
use Rattle.protocol.specs.Bench.{fresh_tile, fresh, tile_at}
use Rattle.protocol.specs.Runs.{after, rules, runs, history, waits_for_since, waits_for}
use Rattle.protocol.specs.Demand3.{is_waiting, waits, waiting_of, tiles_of}
use Rattle.coherence.proofs.Effect.{left}

-- tile t of a fresh bench, also past its end
pub fresh_tile_lem : (n t : ℕ) → tile_at (replicate n fresh_tile) t ≡ fresh_tile
fresh_tile_lem ℕ.zero t = refl
fresh_tile_lem (suc n) ℕ.zero = refl
fresh_tile_lem (suc n) (suc t) = fresh_tile_lem n t

-- what every tile of a bench waits for
abbrev waitings : Bench → ℕ → Waiting
waitings b t = waiting_of (tile_at (tiles_of b) t)

since : (cs : List Call) (b : Bench) (t : ℕ) → waits_for_since (waitings b) (history rules cs b) t ≡ waitings (runs rules cs b) t
unfolding waits_for_since history runs
since [] b t = refl
since (c ∷ cs) b t = ap (λ (q : ℕ → Waiting). waits_for_since q (history rules cs (after c b)) t) (λ j u. sym ((left c b).waiting u) j) ∙ since cs (after c b) t

fresh_nobody : (n : ℕ) (mem : Words) (t : ℕ) → waitings (fresh n mem) t ≡ nothing
unfolding fresh tiles_of waiting_of
fresh_nobody n mem t = ap waiting_of (fresh_tile_lem n t)

pub waiting_in_tile : (n : ℕ) (mem : Words) (cs : List Call) (t : ℕ) → waits t (history rules cs (fresh n mem)) ≡ is_waiting (waitings (runs rules cs (fresh n mem)) t)
unfolding waits waits_for
waiting_in_tile n mem cs t =
    ap is_waiting (ap (λ (q : ℕ → Waiting). waits_for_since q (history rules cs (fresh n mem)) t) (λ j u. sym (fresh_nobody n mem u) j) ∙ since cs (fresh n mem) t)
