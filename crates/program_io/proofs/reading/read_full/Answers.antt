-- What a read put behind the bytes that stand is what it consumed.
use Rattle.std.proofs.Common.{◌≡◌, ℕ, ◌+◌, ◌-◌, ◌≤◌, List, ◌++◌, rules, length, take, drop, sym, ap, ◌∙◌, subst, le_refl, drop_at, length-take-le}
use Rattle.std.proofs.lemmas.Slice.{take-put_mid_below}
use Rattle.std.specs.Io.KnownBytes.{Consumes}
use Rattle.std.proofs.KnownBytes.{Consumes-trans}
use borrow.Rule.Slice.PartMut.{put_mid, post_of}
use lib.Seq.{take-add, take-append-le}
use Rattle.program_io.proofs.reading.read_full.Goals as goal

-- the first a + n items, where n items of ys were put behind the first a of xs
put_behind : (a k n : ℕ) (xs ys : List ℕ) → a ≤ length xs → n ≤ length ys → take a xs ++ take n ys ≡ take (a + n) (put_mid a k xs ys)
put_behind a k n xs ys within fits =
    let new = put_mid a k xs ys in
    let after = post_of a k xs in
    let front : take a new ≡ take a xs = take-put_mid_below _ _ _ _ _ (le_refl _) within in
    let behind = ap (take n) (drop_at (take a xs) (ys ++ after) a (length-take-le a xs within)) ∙ take-append-le n ys after fits in
    sym (take-add a n new ∙ ap (λ l. l ++ take n (drop a new)) front ∙ ap (λ l. take a xs ++ l) behind)

pub loop-count-preserved : goal.loop-count-preserved
loop-count-preserved g c =
    let count = c.loop-count.count in
    let whole = c.loop-count.buffer in
    let room = length whole - count in
    let read = c.in_ok-read.read in
    let put = put_behind count room read whole c.read.new.buf c.loop-count.invariant.0 c.in_ok-read.ensures.bound.0 in
    (search rules, subst (Consumes _ _) put (Consumes-trans _ _ _ _ _ c.loop-count.invariant.1 c.in_ok-read.ensures.bytes.0))
