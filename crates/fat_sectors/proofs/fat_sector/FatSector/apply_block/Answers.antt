use mathlib.Core.Path.{sym, ◌∙◌, ap}
use native.Mathlib.Omega.{arith}
use Prim.Native.Nat.{◌+◌, ◌-◌, ◌*◌}
use Rattle.loops.specs.Loops.{fold, fold-go, fold-end}
use Rattle.fat_sectors.specs.Fat.{apply_at}
use Rattle.fat_sectors.specs.FatLaws.{unchanged-entry}
use Rattle.fat_sectors.specs.Gathered.{judged_as}
use Rattle.fat_sectors.proofs.fat_sector.FatSector.apply_block.Goals.{then-is_changed, else-is_changed}
use Rattle.fat_sectors.proofs.fat_sector.FatSector.apply_block.Goals as goal

pub loop-i-preserved : goal.loop-i-preserved
loop-i-preserved c =
    let x = judged_as c.args.self.now in
    let m = c.args.block * 16 + 16 in
    let i = c.loop-i.i in
    let on = fold-go (apply_at x) m i c.loop-i.w _ c.loop-i.invariant (omega arith) in
    elim c.if-is_changed.branch [
      | then-is_changed w ↦ rw w.w-is (on ∙ ap (fold (apply_at x) (m - (i + 1)) (i + 1)) (sym w.apply_entry.ensures))
      | else-is_changed w ↦ rw w.w-is (on ∙ ap (fold (apply_at x) (m - (i + 1)) (i + 1)) (unchanged-entry x i c.loop-i.w (sym c.is_changed.ensures ∙ w.if-is_changed.false)))
    ]

pub returns : goal.returns
returns c =
    fold-end (apply_at (judged_as c.args.self.now)) (c.args.block * 16 + 16) c.loop-i.i c.loop-i.w _ c.loop-i.invariant (omega arith)
