-- A move committed to the words is a step on the block that stands there. Assumes nothing.
use Prim.Native.Nat.{ℕ, ◌≤◌}
use mathlib.Core.Path.{◌≡◌, refl, ap, ◌∙◌, subst}
use mathlib.Core.List.{List}
use native.Mathlib.Omega.{arith}
use lib.ListN.{length, get_or}
use Rattle.lists.specs.Over.{over}
use Rattle.layout.specs.declared.rows.HomeBlock.{HomeBlock}
use Rattle.layout.specs.Blocks.{row_at, pair_at, home_block_at, home_block_words}
use Rattle.layout.proofs.Reading.{pair_full}
use Rattle.std.specs.Prelude.{Result, Some, None}
use Rattle.numbers.specs.declared.refusals.Refusal.{Refusal}
use Rattle.home_rules.specs.declared.moves.HomeMove.{HomeMove}
use Rattle.home_rules.specs.Moves as moves
use Rattle.home_rules.specs.Steps.{HomeStep, numbers_in, move_applied, without_ack, taking_step, reply_step, memory_ack_step, eviction_step}
use Rattle.home_words.specs.InPlace.{HomePut}
use Rattle.home_words.proofs.InPlace.{home_home, home_read, acked_at}
use Rattle.protocol.specs.declared.Answer.{Answer}
use Rattle.home_words.specs.Forwards.{forward_put_all}
use Rattle.home_words.proofs.Places.{pop_full, home_untouched}
use Rattle.home_words.specs.Commits.{popped, front_words, answering, Finishes, Committed}
use Rattle.arbiter.specs.Decisions.{reply_move}

module _ (l : List ℕ) (long : 74 ≤ length l) where
  abbrev H : HomeBlock
  H = home_block_at l

  -- the front message of a tile's queue taken off
  off_tile : (at : ℕ) (q : Result HomeMove Refusal) → 74 ≤ at → answering l (Some at) q ≡ move_applied H (row_at l at).words q
  unfolding answering popped front_words
  off_tile at q h = ap (λ (x : HomeBlock). move_applied x (row_at l at).words q) (home_untouched l at _ long h)

  pub as_accept : (at t : ℕ) → 74 ≤ at → answering l (Some at) (reply_move l t at) ≡ reply_step H t (row_at l at)
  unfolding reply_step reply_move row_at
  as_accept at t h = off_tile at (reply_move l t at) h

  pub as_take : (at t : ℕ) → 74 ≤ at → answering l (Some at) (moves.take_front (numbers_in H) t (get_or l at 0)) ≡ taking_step H t (row_at l at)
  unfolding taking_step row_at
  as_take at t h = off_tile at (moves.take_front (numbers_in H) t (get_or l at 0)) h

  -- the front message from memory taken off
  back_popped : HomePut l (without_ack H) (popped l (Some 50))
  unfolding popped
  back_popped = acked_at l _ long (pop_full (pair_at l 50) (pair_full l 50 (omega arith))) refl

  as_ack : answering l (Some 50) (moves.memory_ack (numbers_in H) (get_or l 50 0)) ≡ memory_ack_step H
  unfolding answering front_words memory_ack_step home_block_at pair_at row_at
  as_ack = ap (λ (z : HomeBlock). move_applied z (row_at l 50).words (moves.memory_ack (numbers_in H) (get_or l 50 0))) (home_read l (popped l (Some 50)) (without_ack H) back_popped)

  module _ (n v : ℕ) (a : Answer) (m : List ℕ) where
    over_back : (s : HomeStep) → Finishes (popped l (Some 50)) n s m → Finishes l n s m
    over_back s f =
        let e : over (popped l (Some 50)) 0 (home_block_words s.home) ≡ over l 0 (home_block_words s.home) =
        ap (λ (z : List ℕ). over z 0 (home_block_words s.home)) back_popped.words ∙ home_home l (without_ack H) s.home back_popped.full f.home in
        record { words = f.words ∙ ap (λ (z : List ℕ). forward_put_all z 74 0 s.to s.forward n) e; home = f.home; row = f.row }

    commit_back : (s : HomeStep) → Committed l (popped l (Some 50)) n v s a m → Committed l l n v s a m
    commit_back s p =
        record {
          refusing = p.refusing;
          no_room = p.no_room;
          done = λ z t. ((p.done z t).0, over_back s (p.done z t).1);
        }

    -- the home alone
    pub on_ack : Committed l (popped l (Some 50)) n v (answering l (Some 50) (moves.memory_ack (numbers_in H) (get_or l 50 0))) a m → Committed l l n v (memory_ack_step H) a m
    on_ack p = commit_back (memory_ack_step H) (subst (λ (s : HomeStep). Committed l (popped l (Some 50)) n v s a m) as_ack p)

    pub on_evict : Committed l (popped l None) n v (answering l None (moves.evict_line (numbers_in H))) a m → Committed l l n v (eviction_step H) a m
    unfolding answering popped front_words eviction_step
    on_evict p = p
