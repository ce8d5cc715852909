use mathlib.Core.Path.{sym, ◌∙◌}
use native.Mathlib.Omega.{arith}
use Prim.Native.Nat.{◌*◌, ◌+◌}
use Rattle.std.specs.Prelude.{◌≡◌}
use borrow.Author.Tests.{lt-ltb, le-ltb}
use Rattle.fat_sectors.specs.Gathered.{judged_as}
use Rattle.fat_sectors.proofs.BlockLaws.{block-same}
use Rattle.fat_sectors.proofs.GatherLaws.{gathered-start, gathered-past, gathered-all}
use Rattle.fat_sectors.proofs.fat_sector.FatSector.gather.Goals as goal

pub loop-block-init : goal.loop-block-init
loop-block-init c = gathered-start (judged_as c.args.self.now)

pub loop-block-preserved-then-same_slot : goal.loop-block-preserved-then-same_slot
loop-block-preserved-then-same_slot c =
    let x = judged_as c.args.self.now in
    let b = c.loop-block.block in
    let q : (b + 1) * 16 ≡ b * 16 + 16 = omega arith in
    rw q (gathered-past x 16 (b * 16) c.loop-block.gathered c.loop-block.invariant (block-same x.shown x.written b (sym c.same_slot.ensures ∙ c.if-same_slot.true)))

pub returns-then-free_pairs-gathered : goal.returns-then-free_pairs-gathered
returns-then-free_pairs-gathered c =
    let e : c.loop-block.block * 16 ≡ 256 = omega arith in
    let a = gathered-all (judged_as c.args.self.now) c.loop-block.gathered (rw e at c.loop-block.invariant) in
    sym (a ∙ rw (← c.free_pairs.ensures, lt-ltb _ _ c.if-free_pairs-gathered.true))

pub returns : goal.returns
returns c =
    let e : c.loop-block.block * 16 ≡ 256 = omega arith in
    let a = gathered-all (judged_as c.args.self.now) c.loop-block.gathered (rw e at c.loop-block.invariant) in
    (a ∙ rw (← c.free_pairs.ensures, le-ltb _ _ c.if-free_pairs-gathered.false), rw e at c.loop-block.invariant.marks, rw e at c.loop-block.invariant.any)
