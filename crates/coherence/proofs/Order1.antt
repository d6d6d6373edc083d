-- Order 1, whole: of every number of tiles from 1 to 64, all memory words and every list of calls. Assumes nothing.
use Prim.Native.Nat.{ℕ, ◌<◌}
use mathlib.Core.Path.{◌≡◌, refl}
use mathlib.Core.Bool.{Bool, true, false}
use mathlib.Core.Option.{Option}
use native.Mathlib.Omega.{arith}
use lib.ListN.{length}
use Rattle.protocol.specs.Parts.{Words, Waiting, Queue, Access, Forward, ToMemory, FromMemory, Tile, Home, Bench}
use Rattle.protocol.specs.Bench.{tile_at}
use Rattle.protocol.specs.Demand3.{tiles_of}
use Rattle.protocol.specs.Order1.{holds, may_write, line_directory, home_directory, directory_of, names, Coherent, Order1Statement}
use Rattle.protocol.proofs.Tests.{false_true, clash, eqb_same, at_or_not, there}
use Rattle.coherence.proofs.Invariant.{Relation, sharer, owner, shares_I, shares_S, stranger_plain, stranger_in, sharer_plain, sharer_replied, owner_plain, owner_replied, owner_shared, owner_out, owner_out_replied, owner_in, owner_in_replied, TileOk, ok, Sees, sees_sharer, sees_owner, asked_owner, owing, storer, in_mask, HomeOk, acks_ok, At, at, Inv, inv}
use Rattle.coherence.proofs.Calls.{IsStranger, is_stranger, beside_owner}
use Rattle.coherence.proofs.Runs.{runs_inv, next_gives}

-- ---- one tile

-- who holds the line is a sharer or the owner; who may write it is the owner
data Holder : Relation → Type 0 where
  holds_shared : Holder sharer
  holds_owned : {hs : Words} → Holder (owner hs)

data Writer : Relation → Type 0 where
  writer : {hs : Words} → Writer (owner hs)

holder : {ws : Words} {p : Waiting} {rel : Relation} {cur : Option Access} {ask : Option Forward} {mark : Bool} {x : Tile} → TileOk ws p rel cur ask mark x → holds x ≡ true → Holder rel
unfolding holds
holder (ok stranger_plain k) e = false_true e
holder (ok stranger_in k) e = false_true e
holder (ok (sharer_plain a c s) k) e = holds_shared
holder (ok sharer_replied k) e = holds_shared
holder (ok (owner_plain a o) k) e = holds_owned
holder (ok (owner_replied r) k) e = holds_owned
holder (ok (owner_shared c h) k) e = holds_owned
holder (ok (owner_out a) k) e = holds_owned
holder (ok (owner_out_replied r) k) e = holds_owned
holder (ok (owner_in h a) k) e = holds_owned
holder (ok (owner_in_replied h r) k) e = holds_owned

writing_owner : {ws : Words} {p : Waiting} {rel : Relation} {cur : Option Access} {ask : Option Forward} {mark : Bool} {x : Tile} → TileOk ws p rel cur ask mark x → may_write x ≡ true → Writer rel
unfolding may_write
writing_owner (ok stranger_plain k) e = false_true e
writing_owner (ok stranger_in k) e = false_true e
writing_owner (ok (sharer_plain a shares_I s) k) e = false_true e
writing_owner (ok (sharer_plain a shares_S s) k) e = false_true e
writing_owner (ok sharer_replied k) e = false_true e
writing_owner (ok (owner_plain a o) k) e = writer
writing_owner (ok (owner_replied r) k) e = writer
writing_owner (ok (owner_shared c h) k) e = writer
writing_owner (ok (owner_out a) k) e = writer
writing_owner (ok (owner_out_replied r) k) e = writer
writing_owner (ok (owner_in h a) k) e = writer
writing_owner (ok (owner_in_replied h r) k) e = writer

-- a stranger does not hold the line
strangers : {ws : Words} {p : Waiting} {rel : Relation} {cur : Option Access} {ask : Option Forward} {mark : Bool} {x : Tile} → IsStranger rel → TileOk ws p rel cur ask mark x → holds x ≡ false
unfolding holds
strangers is_stranger (ok stranger_plain k) = refl
strangers is_stranger (ok stranger_in k) = refl

-- ---- the bench

-- the directory names sharers and owners
named_by : {n t : ℕ} {mem ws : Words} {h : Home} {out : Queue ToMemory} {back : Queue FromMemory} {rel : Relation} {cur : Option Access} {ask : Option Forward}
    → HomeOk n mem ws h out back → Sees h t rel cur ask → Holder rel → names (home_directory h) t ≡ true
unfolding names home_directory line_directory
named_by hok (sees_sharer e) k = e
named_by {t} hok sees_owner k = eqb_same t
named_by {t} hok (asked_owner a) k = eqb_same t
named_by {t} (acks_ok cl lo ne sub c) (owing e) k = sub t e
named_by hok (storer e (in_mask i)) k = i
named_by {n = n} {t = t} {mem = mem} {ws = ws} {out = out} {back = back} hok Rattle.coherence.proofs.Invariant.sees_absent k = elim k [ ]
named_by {n = n} {t = t} {mem = mem} {ws = ws} {out = out} {back = back} hok (Rattle.coherence.proofs.Invariant.sees_uncached {d = d}) k = elim k [ ]
named_by {n = n} {t = t} {mem = mem} {ws = ws} {out = out} {back = back} hok (Rattle.coherence.proofs.Invariant.sees_outsider {m = m} {d = d} _) k = elim k [ ]
named_by {n = n} {t = t} {mem = mem} {ws = ws} {out = out} {back = back} hok (Rattle.coherence.proofs.Invariant.sees_unowning {o = o} {d = d} _) k = elim k [ ]
named_by {n = n} {t = t} {mem = mem} {ws = ws} {out = out} {back = back} hok (Rattle.coherence.proofs.Invariant.loads {a = a} {l = l}) k = elim k [ ]
named_by {n = n} {t = t} {mem = mem} {ws = ws} {out = out} {back = back} hok (Rattle.coherence.proofs.Invariant.loads_not {r = r} {a = a} {l = l} _) k = elim k [ ]
named_by {n = n} {t = t} {mem = mem} {ws = ws} {out = out} {back = back} hok (Rattle.coherence.proofs.Invariant.requester {o = o} {d = d} {a = a} _) k = elim k [ ]
named_by {n = n} {t = t} {mem = mem} {ws = ws} {out = out} {back = back} hok (Rattle.coherence.proofs.Invariant.bystander {o = o} {d = d} {c = c} _ _) k = elim k [ ]
named_by {n = n} {t = t} {mem = mem} {ws = ws} {out = out} {back = back} hok (storer {m = m} {owed = owed} {b = b} {d = d} e Rattle.coherence.proofs.Invariant.off_mask) k = elim k [ ]
named_by {n = n} {t = t} {mem = mem} {ws = ws} {out = out} {back = back} hok (Rattle.coherence.proofs.Invariant.cleared_out {m = m} {owed = owed} {d = d} {c = c} _ _) k = elim k [ ]
named_by {n = n} {t = t} {mem = mem} {ws = ws} {out = out} {back = back} hok (Rattle.coherence.proofs.Invariant.sees_leaving {l = l}) k = elim k [ ]

-- beside a tile that may write no other holds the line
beside_owning : {h : Home} {t u : ℕ} {rel rel' : Relation} {cur cur' : Option Access} {ask ask' : Option Forward} → Writer rel → (t ≡ u → ⊥) → Sees h t rel cur ask → Sees h u rel' cur' ask' → IsStranger rel'
beside_owning writer ne s z = beside_owner ne s z

beside_writer : {h : Home} {ws : Words} {q : ℕ → Waiting} {k t u : ℕ} {x y : Tile} → (t ≡ u → ⊥) → At ws q k (Sees h) t x → At ws q k (Sees h) u y → may_write x ≡ true → holds y ≡ false
beside_writer ne (at s m o) (at z l i) e = strangers (beside_owning (writing_owner o e) ne s z) i

coherent : {ws : Words} {q : ℕ → Waiting} {n : ℕ} {b : Bench} → Inv ws q n b → Coherent b
unfolding tiles_of directory_of holds may_write
coherent {ws} {q} {n} (inv {h} {k} {ts} len hok all) =
    record {
      one_writer = λ t u e f.
          let lt : t < length ts = there may_write ts t refl e in
          let lu : u < length ts = there holds ts u refl f in
          at_or_not (λ (z : ℕ). z < length ts → holds (tile_at ts z) ≡ true → t ≡ z) t u (λ a g. refl) (λ ne a g. clash g (beside_writer ne (all t (omega arith)) (all u (omega arith)) e)) lu f;
      named = λ t f. let lt : t < length ts = there holds ts t refl f in named (all t (omega arith)) f;
    }
  where
    named : {t : ℕ} {x : Tile} → At ws q k (Sees h) t x → holds x ≡ true → names (home_directory h) t ≡ true
    named (at s m o) e = named_by hok s (holder o e)

pub order1 : Order1Statement
order1 n one_up most mem eight cs = record { coherent = coherent (runs_inv n mem cs); last_word = next_gives n mem eight cs }
