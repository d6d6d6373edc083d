-- The header flits of a message and its fields are each other's inverse, by the two laws of `bits` over place and width. Assumes nothing.
use mathlib.Core.Path.{◌≡◌, sym, ap, ◌∙◌}
use Prim.Native.Nat.{ℕ, ◌%◌, ◌^◌, ◌<◌}
use native.Mathlib.Nat.{mod-eq_of_lt, mod-one, div-one}
use Rattle.bits.specs.Field.{cut, put}
use Rattle.bits.proofs.FieldLaws.{cut_put_fits, cut_put_other, put_next}
use Rattle.flit_rules.specs.declared.Node.{Node}
use Rattle.flit_rules.specs.declared.Header.{Header}
use Rattle.flit_rules.specs.Words.{bits, set_bits, node_of, set_node, length_of, opcode_of, options_of, header_of_flits, flit1_of, flit2_of, flit3_of}

-- the fields of a node have their widths
pub record NodeFits (n : Node) : Type 0 where
  pub chip : n.chip < 2 ^ 14
  pub x : n.x < 2 ^ 8
  pub y : n.y < 2 ^ 8
  pub port : n.port < 2 ^ 4

pub node_set : (n : Node) (w : ℕ) → NodeFits n → node_of (set_node n w) ≡ n
node_set n w f =
    let a : n.chip < 2 ^ 14 = f.chip in
    let b : n.x < 2 ^ 8 = f.x in
    let c : n.y < 2 ^ 8 = f.y in
    let d : n.port < 2 ^ 4 = f.port in
    simp (cut_put_fits, cut_put_other)

pub record HeaderFits (h : Header) : Type 0 where
  pub opcode : h.opcode < 2 ^ 8
  pub tag : h.tag < 2 ^ 8
  pub to : NodeFits h.to
  pub state : h.state < 2 ^ 2
  pub miss : h.miss < 2 ^ 1
  pub address54 : h.address54 < 2 ^ 2
  pub last : h.last < 2 ^ 1
  pub address : h.address < 2 ^ 48
  pub vector : h.vector < 2 ^ 4
  pub icache : h.icache < 2 ^ 1
  pub size : h.size < 2 ^ 3
  pub from : NodeFits h.from

pub header_flits_lem : (h : Header) (n : ℕ) → HeaderFits h → header_of_flits (flit1_of h n) (flit2_of h) (flit3_of h) ≡ h
unfolding header_of_flits flit1_of flit2_of flit3_of
header_flits_lem h n f =
    let a : h.opcode < 2 ^ 8 = f.opcode in
    let b : h.tag < 2 ^ 8 = f.tag in
    let c : h.state < 2 ^ 2 = f.state in
    let d : h.miss < 2 ^ 1 = f.miss in
    let e : h.address54 < 2 ^ 2 = f.address54 in
    let g : h.last < 2 ^ 1 = f.last in
    let i : h.address < 2 ^ 48 = f.address in
    let j : h.vector < 2 ^ 4 = f.vector in
    let k : h.icache < 2 ^ 1 = f.icache in
    let l : h.size < 2 ^ 3 = f.size in
    let ato : h.to.chip < 2 ^ 14 = f.to.chip in
    let bto : h.to.x < 2 ^ 8 = f.to.x in
    let cto : h.to.y < 2 ^ 8 = f.to.y in
    let dto : h.to.port < 2 ^ 4 = f.to.port in
    let afrom : h.from.chip < 2 ^ 14 = f.from.chip in
    let bfrom : h.from.x < 2 ^ 8 = f.from.x in
    let cfrom : h.from.y < 2 ^ 8 = f.from.y in
    let dfrom : h.from.port < 2 ^ 4 = f.from.port in
    simp (cut_put_fits, cut_put_other)

pub length_flits : (h : Header) (n : ℕ) → n < 2 ^ 8 → length_of (flit1_of h n) ≡ n
unfolding flit1_of
length_flits h n f = simp (cut_put_fits, cut_put_other)

pub opcode_flits : (h : Header) (n : ℕ) → h.opcode < 2 ^ 8 → opcode_of (flit1_of h n) ≡ h.opcode
unfolding flit1_of
opcode_flits h n f = simp (cut_put_fits, cut_put_other)

cut_low : (w k : ℕ) → cut w 0 k ≡ w % 2 ^ k
cut_low w k = ap (λ (x : ℕ). x % 2 ^ k) (div-one w)

node_next : (w : ℕ) → w < 2 ^ 64 → set_node (node_of w) (w % 2 ^ 30) ≡ w
node_next w h = rw (put_next w 30 4, put_next w 34 8, put_next w 42 8, put_next w 50 14) (mod-eq_of_lt h)

pub flit1_header : (f1 f2 f3 : ℕ) → f1 < 2 ^ 64 → flit1_of (header_of_flits f1 f2 f3) (length_of f1) ≡ f1
unfolding header_of_flits flit1_of
flit1_header f1 f2 f3 h =
    go 0 (sym (mod-one f1))
  where
    go : (z : ℕ) → z ≡ f1 % 2 ^ 0 → set_node (node_of f1) (set_bits 29 22 (bits 29 22 f1) (set_bits 21 14 (bits 21 14 f1) (set_bits 13 6 (bits 13 6 f1) (set_bits 5 4 (bits 5 4 f1) (set_bits 3 3 (bits 3 3 f1) (set_bits 2 1 (bits 2 1 f1) (set_bits 0 0 (bits 0 0 f1) z))))))) ≡ f1
    go z e = rw (e, put_next f1 0 1, put_next f1 1 2, put_next f1 3 1, put_next f1 4 2, put_next f1 6 8, put_next f1 14 8, put_next f1 22 8) (node_next f1 h)

pub flit2_header : (f1 f2 f3 : ℕ) → f2 < 2 ^ 64 → bits 7 0 f2 ≡ 0 → flit2_of (header_of_flits f1 f2 f3) ≡ f2
unfolding header_of_flits flit2_of
flit2_header f1 f2 f3 h r = go 0 (sym r ∙ cut_low f2 8)
  where
    go : (z : ℕ) → z ≡ f2 % 2 ^ 8 → set_bits 63 16 (bits 63 16 f2) (set_bits 15 12 (bits 15 12 f2) (set_bits 11 11 (bits 11 11 f2) (set_bits 10 8 (bits 10 8 f2) z))) ≡ f2
    go z e = rw (e, put_next f2 8 3, put_next f2 11 1, put_next f2 12 4, put_next f2 16 48) (mod-eq_of_lt h)

pub flit3_header : (f1 f2 f3 : ℕ) → f3 < 2 ^ 64 → bits 29 0 f3 ≡ 0 → flit3_of (header_of_flits f1 f2 f3) ≡ f3
unfolding header_of_flits flit3_of
flit3_header f1 f2 f3 h r = ap (λ (z : ℕ). set_node (node_of f3) z) (sym r ∙ cut_low f3 30) ∙ node_next f3 h

-- reserved bits are clear in what is written
pub reserved2 : (h : Header) → bits 7 0 (flit2_of h) ≡ 0
unfolding flit2_of
reserved2 h = simp cut_put_other

pub reserved3 : (h : Header) → bits 29 0 (flit3_of h) ≡ 0
unfolding flit3_of
reserved3 h = simp cut_put_other

pub options_clear : (h : Header) (n : ℕ) → h.state ≡ 0 → h.miss ≡ 0 → h.address54 ≡ 0 → h.last ≡ 0 → options_of (flit1_of h n) ≡ 0
unfolding put flit1_of
options_clear h n a b c d = rw (a, b, c, d) (simp cut_put_other)
