use mathlib.Core.Path.{sym, ◌∙◌}
use native.Mathlib.Omega.{arith}
use Prim.Native.Nat.{◌*◌}
use Rattle.std.specs.Prelude.{◌≡◌}
use Rattle.loops.specs.Loops.{fold-end}
use Rattle.loops.specs.Facts.{fold-still}
use Rattle.fat_sectors.specs.Fat.{apply_at}
use Rattle.fat_sectors.specs.FatLaws.{unchanged-entry}
use Rattle.fat_sectors.specs.Gathered.{judged_as}
use Rattle.fat_sectors.proofs.BlockLaws.{block-same, fold-block}
use Rattle.fat_sectors.proofs.fat_sector.FatSector.apply.Goals as goal

pub loop-block-preserved-then-same_slot : goal.loop-block-preserved-then-same_slot
loop-block-preserved-then-same_slot c =
    let x = judged_as c.args.self.now in
    let b = c.loop-block.block in
    let w = c.loop-block.w in
    let same = block-same x.shown x.written b (sym c.same_slot.ensures ∙ c.if-same_slot.true) in
    fold-block (apply_at x) b _ w w c.loop-block.invariant c.loop-block-test.true
    (sym (fold-still (apply_at x) 16 (b * 16) w (λ k l h. unchanged-entry x k w (same k l h))))

pub loop-block-preserved : goal.loop-block-preserved
loop-block-preserved c =
    fold-block (apply_at (judged_as c.args.self.now)) c.loop-block.block _ c.loop-block.w _ c.loop-block.invariant c.loop-block-test.true c.apply_block.ensures

pub returns : goal.returns
returns c =
    let e : c.loop-block.block ≡ 16 = omega arith in
    let x = judged_as c.args.self.now in
    fold-end (apply_at x) 256 256 c.loop-block.w _ (rw e at c.loop-block.invariant) (omega arith)
