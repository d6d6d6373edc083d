-- What follows for a header whose tests hold: its fields have their widths, and what its type does not have is 0. Assumes nothing.
use mathlib.Core.Path.{◌≡◌, refl, sym, ap, ◌∙◌, subst}
use mathlib.Core.Logic.{⊎_elim}
use mathlib.Core.Bool.{Bool, true, false, not, ◌&&◌, ◌||◌, and-eq-true_iff}
use mathlib.Core.List.{List, [], ◌∷◌}
use Prim.Native.Nat.{ℕ, zero, suc, ◌<◌, ◌^◌}
use native.Mathlib.Omega.{arith}
use lib.Dec.{T, eqb, leb}
use lib.ListN.{get_or}
use borrow.Author.Tests.{eqb-true, ltb-true, leb-true, leb-false, eq-eqb}
use Rattle.bits.specs.Field.{put}
use Rattle.flit_rules.specs.declared.Header.{Header}
use Rattle.flit_rules.specs.declared.TypeRow.{TypeRow}
use Rattle.flit_rules.specs.Words.{bits, options_of, flit1_of, flit2_of, flit3_of}
use Rattle.flit_rules.specs.Table.{row_of}
use Rattle.flit_rules.specs.Rules.{all, all_from, in_table, port_listed, ports_listed, reserved_clear, width_tests, fields_narrow, absent_tests, absent_clear, suit_tests, fields_suit, fields_allowed}
use Rattle.flit_rules.proofs.Tests.{is_true, or_cases}
use Rattle.flit_rules.proofs.Entries.{past}
use Rattle.flit_rules.proofs.TableLaws.{row_holds, every}
use Rattle.flit_rules.proofs.HeaderLaws.{HeaderFits, reserved2, reserved3, options_clear}

-- every test of a list holds where `all` does
from_at : (b : Bool) (ts : List Bool) → all_from b ts ≡ true → (b ≡ true) × ((k : ℕ) → get_or ts k true ≡ true)
from_at b [] e = (e, λ k. refl)
from_at b (t ∷ ts) e =
    let r = from_at (b && t) ts e in
    let both = (and-eq-true_iff b t).0 r.0 in
    (both.0, λ k. pick k both.1 r.1)
  where
    pick : (k : ℕ) → t ≡ true → ((j : ℕ) → get_or ts j true ≡ true) → get_or (t ∷ ts) k true ≡ true
    pick zero x y = x
    pick (suc k) x y = y k

pub all_at : (ts : List Bool) → all ts ≡ true → (k : ℕ) → get_or ts k true ≡ true
all_at [] e k = refl
all_at (t ∷ ts) e zero = (from_at t ts e).0
all_at (t ∷ ts) e (suc k) = (from_at t ts e).1 k

pub reserved_zero : (row : TypeRow) (f1 f2 f3 : ℕ) → reserved_clear row f1 f2 f3 ≡ true → (bits 7 0 f2 ≡ 0) × (bits 29 0 f3 ≡ 0)
unfolding reserved_clear
reserved_zero row f1 f2 f3 e =
    let at = all_at ((row.options || eqb (options_of f1) 0) ∷ eqb (bits 7 0 f2) 0 ∷ eqb (bits 29 0 f3) 0 ∷ []) e in
    (eqb-true (bits 7 0 f2) 0 (at 1), eqb-true (bits 29 0 f3) 0 (at 2))

-- ---- widths

listed_lt : (p : ℕ) → port_listed p ≡ true → p < 2 ^ 4
listed_lt p e =
    ⊎_elim (λ (a : (eqb p 0 || eqb p 2 || eqb p 3 || eqb p 4) ≡ true).
    ⊎_elim (λ (b : (eqb p 0 || eqb p 2 || eqb p 3) ≡ true).
    ⊎_elim (λ (c : (eqb p 0 || eqb p 2) ≡ true).
    ⊎_elim (λ (d : eqb p 0 ≡ true). omega (arith, eqb-true p 0 d)) (λ (d : eqb p 2 ≡ true). omega (arith, eqb-true p 2 d)) (or_cases (eqb p 0) (eqb p 2) c))
    (λ (c : eqb p 3 ≡ true). omega (arith, eqb-true p 3 c)) (or_cases (eqb p 0 || eqb p 2) (eqb p 3) b))
    (λ (b : eqb p 4 ≡ true). omega (arith, eqb-true p 4 b)) (or_cases (eqb p 0 || eqb p 2 || eqb p 3) (eqb p 4) a))
    (λ (a : eqb p 5 ≡ true). omega (arith, eqb-true p 5 a)) (or_cases (eqb p 0 || eqb p 2 || eqb p 3 || eqb p 4) (eqb p 5) e)

pub known_lt : (t : ℕ) → in_table (row_of t) ≡ true → t < 32
known_lt t e = go (leb 32 t) refl
  where
    go : (b : Bool) → leb 32 t ≡ b → t < 32
    go true l = absurd (subst T (sym (sym (ap in_table (past t (leb-true 32 t l))) ∙ e)) tt)
    go false l = leb-false 32 t l

-- the source's port: listed on three header flits, 0 else
from_port : (row : TypeRow) (h : Header) → ports_listed row h ≡ true → absent_clear row h ≡ true → h.from.port < 2 ^ 4
unfolding ports_listed
from_port row h p a = go row.three refl
  where
    go : (t : Bool) → row.three ≡ t → h.from.port < 2 ^ 4
    go true e =
        listed_lt h.from.port (rw e at ((and-eq-true_iff (port_listed h.to.port) (not row.three || port_listed h.from.port)).0 p).1)
    go false e =
        let z : all (absent_tests h) ≡ true = rw e at a in
        omega (arith, eqb-true h.from.port 0 (all_at (absent_tests h) z 4))

-- the three parts of 16
pub parts : (row : TypeRow) (w : Bool) (h : Header) → fields_allowed row w h ≡ true → (fields_narrow h ≡ true) × (absent_clear row h ≡ true) × (fields_suit row w h ≡ true)
unfolding fields_allowed
parts row w h e =
    let a = (and-eq-true_iff (fields_narrow h && absent_clear row h) (fields_suit row w h)).0 e in
    let b = (and-eq-true_iff (fields_narrow h) (absent_clear row h)).0 a.0 in
    (b.0, b.1, a.1)

pub header_fits : (h : Header) (w : Bool) → in_table (row_of h.opcode) ≡ true → ports_listed (row_of h.opcode) h ≡ true → fields_allowed (row_of h.opcode) w h ≡ true → HeaderFits h
unfolding ports_listed
header_fits h w k p a =
    let row = row_of h.opcode in
    let q = parts row w h a in
    let at : (j : ℕ) → get_or (width_tests h) j true ≡ true = all_at (width_tests h) q.0 in
    let o : h.opcode < 32 = known_lt h.opcode k in
    record {
      opcode = omega arith;
      tag = ltb-true h.tag (2 ^ 8) (at 3);
      to =
          record {
            chip = ltb-true h.to.chip (2 ^ 14) (at 0);
            x = ltb-true h.to.x (2 ^ 8) (at 1);
            y = ltb-true h.to.y (2 ^ 8) (at 2);
            port = listed_lt h.to.port ((and-eq-true_iff (port_listed h.to.port) (not row.three || port_listed h.from.port)).0 p).0;
          };
      state = ltb-true h.state (2 ^ 2) (at 4);
      miss = ltb-true h.miss (2 ^ 1) (at 5);
      address54 = ltb-true h.address54 (2 ^ 2) (at 6);
      last = ltb-true h.last (2 ^ 1) (at 7);
      address = ltb-true h.address (2 ^ 48) (at 8);
      vector = ltb-true h.vector (2 ^ 4) (at 9);
      icache = ltb-true h.icache (2 ^ 1) (at 10);
      size = ltb-true h.size (2 ^ 3) (at 11);
      from =
          record {
            chip = ltb-true h.from.chip (2 ^ 14) (at 12);
            x = ltb-true h.from.x (2 ^ 8) (at 13);
            y = ltb-true h.from.y (2 ^ 8) (at 14);
            port = from_port row h p q.1;
          };
    }

-- ---- fields that a type does not have

-- one header flit: no size, vector, icache bit. Reserved options: no state, miss, address_5_4, last. Tests over all rows
abbrev no_flit2 : TypeRow → List Bool
no_flit2 row = eqb row.most 0 ∷ eqb row.vector 0 ∷ eqb row.icache 0 ∷ []

one_row : (t : ℕ) → ((row_of t).three || all (no_flit2 (row_of t))) ≡ true
unfolding every
one_row t = is_true ((row_of t).three || all (no_flit2 (row_of t))) (row_holds (λ r. r.three || all (no_flit2 r)) tt tt t)

abbrev no_options : TypeRow → List Bool
no_options row = eqb row.high 0 ∷ eqb row.miss 0 ∷ eqb row.address54 0 ∷ eqb row.last 0 ∷ []

options_row : (t : ℕ) → ((row_of t).options || all (no_options (row_of t))) ≡ true
unfolding every
options_row t = is_true ((row_of t).options || all (no_options (row_of t))) (row_holds (λ r. r.options || all (no_options r)) tt tt t)

module _ (h : Header) (w : Bool) (a : fields_allowed (row_of h.opcode) w h ≡ true) where
  suit : (k : ℕ) → get_or (suit_tests (row_of h.opcode) w h) k true ≡ true
  suit = all_at (suit_tests (row_of h.opcode) w h) (parts (row_of h.opcode) w h a).2

  -- flits 2 and 3 of a type with one header flit would be 0
  pub flit2_none : (row_of h.opcode).three ≡ false → flit2_of h ≡ 0
  unfolding flit2_of put
  flit2_none e =
      let row = row_of h.opcode in
      let z : all (absent_tests h) ≡ true = rw e at (parts row w h a).1 in
      let r : all (no_flit2 row) ≡ true = rw e at (one_row h.opcode) in
      let address : h.address ≡ 0 = eqb-true h.address 0 (all_at (absent_tests h) z 0) in
      let vector : h.vector ≡ 0 = eqb-true h.vector row.vector (suit 2) ∙ eqb-true row.vector 0 (all_at (no_flit2 row) r 1) in
      let icache : h.icache ≡ 0 = omega (arith, leb-true h.icache row.icache (suit 3), eqb-true row.icache 0 (all_at (no_flit2 row) r 2)) in
      let size : h.size ≡ 0 = omega (arith, leb-true h.size row.most (suit 1), eqb-true row.most 0 (all_at (no_flit2 row) r 0)) in
      rw (address, vector, icache, size)

  pub flit3_none : (row_of h.opcode).three ≡ false → flit3_of h ≡ 0
  unfolding flit3_of put
  flit3_none e =
      let row = row_of h.opcode in
      let z : all (absent_tests h) ≡ true = rw e at (parts row w h a).1 in
      let chip : h.from.chip ≡ 0 = eqb-true h.from.chip 0 (all_at (absent_tests h) z 1) in
      let x : h.from.x ≡ 0 = eqb-true h.from.x 0 (all_at (absent_tests h) z 2) in
      let y : h.from.y ≡ 0 = eqb-true h.from.y 0 (all_at (absent_tests h) z 3) in
      let port : h.from.port ≡ 0 = eqb-true h.from.port 0 (all_at (absent_tests h) z 4) in
      rw (chip, x, y, port)

  options_none : (n : ℕ) → (row_of h.opcode).options ≡ false → options_of (flit1_of h n) ≡ 0
  options_none n e =
      let row = row_of h.opcode in
      let r : all (no_options row) ≡ true = rw e at (options_row h.opcode) in
      let state : h.state ≡ 0 = omega (arith, leb-true h.state row.high (suit 7), eqb-true row.high 0 (all_at (no_options row) r 0)) in
      let miss : h.miss ≡ 0 = omega (arith, leb-true h.miss row.miss (suit 8), eqb-true row.miss 0 (all_at (no_options row) r 1)) in
      let address54 : h.address54 ≡ 0 = omega (arith, leb-true h.address54 row.address54 (suit 9), eqb-true row.address54 0 (all_at (no_options row) r 2)) in
      let last : h.last ≡ 0 = eqb-true h.last row.last (suit 10) ∙ eqb-true row.last 0 (all_at (no_options row) r 3) in
      options_clear h n state miss address54 last

  -- what is written has its reserved bits clear
  pub written_clear : (n : ℕ) → reserved_clear (row_of h.opcode) (flit1_of h n) (flit2_of h) (flit3_of h) ≡ true
  unfolding reserved_clear
  written_clear n =
      rw (eq-eqb _ 0 (reserved2 h), eq-eqb _ 0 (reserved3 h)) (go (row_of h.opcode).options refl)
    where
      go : (o : Bool) → (row_of h.opcode).options ≡ o → (o || eqb (options_of (flit1_of h n)) 0) && true && true ≡ true
      go true e = refl
      go false e = rw (eq-eqb _ 0 (options_none n e))
