use mathlib.Core.Path.{◌≡◌}
use mathlib.Core.Bool.{◌&&◌}
use Prim.Native.Nat.{◌%◌, ◌^◌}
use lib.Dec.{eqb}
use Rattle.layout.specs.Blocks.{home_block_at, row_at}
use Rattle.layout.specs.Encode.{enc_line}
use Rattle.layout.specs.Decode.{dec_line}
use Rattle.layout.specs.Canonical.{same_row}
use Rattle.well_formed.specs.Fields.{phase_numbers_ok}
use Rattle.well_formed.specs.Blocks.{memory_ok}
use Rattle.well_formed.proofs.BlockLaws.{home_chain}
use Rattle.well_formed.proofs.home_block.home_ok_at.Goals as goal
use Rattle.well_formed.proofs.home_block.home_ok_at.Goals.{then-line_ok, else-line_ok, then-phase_numbers_ok, else-phase_numbers_ok, then-below, else-below}

pub returns-then-in_mask : goal.returns-then-in_mask
unfolding memory_ok home_block_at row_at
returns-then-in_mask c =
    let x = home_block_at c.args.words.now in
    let a : c.if-line_ok.value ≡ (same_row (enc_line (dec_line x.count x.line)) x.line && phase_numbers_ok x.count x.phase x.line.n2 x.control.n2 x.control.n3) = elim c.if-line_ok.branch [ then-line_ok w ↦ simp (w.value-is, w.phase_numbers_ok.ensures, ← c.line_ok.ensures, w.if-line_ok.true) | else-line_ok w ↦ simp (w.value-is, ← c.line_ok.ensures, w.if-line_ok.false) ] in
    let b : c.if-phase_numbers_ok.value ≡ (c.if-line_ok.value && eqb (x.control.n0 % x.count) x.control.n0) = elim c.if-phase_numbers_ok.branch [ then-phase_numbers_ok w ↦ simp (w.value-is, w.below.ensures, w.if-phase_numbers_ok.true) | else-phase_numbers_ok w ↦ simp (w.value-is, w.if-phase_numbers_ok.false) ] in
    let d : c.if-below.value ≡ (c.if-phase_numbers_ok.value && eqb (x.control.n1 % 2 ^ x.count) x.control.n1) = elim c.if-below.branch [ then-below w ↦ simp (w.value-is, w.in_mask.ensures, w.if-below.true) | else-below w ↦ simp (w.value-is, w.if-below.false) ] in
    home_chain x c.requires.1 a b d (simp (c.memory_ok.ensures, c.if-in_mask.true))

pub returns-else-in_mask : goal.returns-else-in_mask
unfolding home_block_at row_at
returns-else-in_mask c =
    let x = home_block_at c.args.words.now in
    let a : c.if-line_ok.value ≡ (same_row (enc_line (dec_line x.count x.line)) x.line && phase_numbers_ok x.count x.phase x.line.n2 x.control.n2 x.control.n3) = elim c.if-line_ok.branch [ then-line_ok w ↦ simp (w.value-is, w.phase_numbers_ok.ensures, ← c.line_ok.ensures, w.if-line_ok.true) | else-line_ok w ↦ simp (w.value-is, ← c.line_ok.ensures, w.if-line_ok.false) ] in
    let b : c.if-phase_numbers_ok.value ≡ (c.if-line_ok.value && eqb (x.control.n0 % x.count) x.control.n0) = elim c.if-phase_numbers_ok.branch [ then-phase_numbers_ok w ↦ simp (w.value-is, w.below.ensures, w.if-phase_numbers_ok.true) | else-phase_numbers_ok w ↦ simp (w.value-is, w.if-phase_numbers_ok.false) ] in
    let d : c.if-below.value ≡ (c.if-phase_numbers_ok.value && eqb (x.control.n1 % 2 ^ x.count) x.control.n1) = elim c.if-below.branch [ then-below w ↦ simp (w.value-is, w.in_mask.ensures, w.if-below.true) | else-below w ↦ simp (w.value-is, w.if-below.false) ] in
    home_chain x c.requires.1 a b d (simp c.if-in_mask.false)
