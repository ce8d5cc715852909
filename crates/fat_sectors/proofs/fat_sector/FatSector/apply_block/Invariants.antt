use Rattle.std.proofs.Common.{◌≡◌, ◌+◌, ◌-◌, ◌*◌}
use Rattle.loops.specs.Loops.{fold}
use Rattle.fat_sectors.specs.Fat.{apply_at}
use Rattle.fat_sectors.specs.Gathered.{judged_as}
use Rattle.fat_sectors.proofs.fat_sector.FatSector.apply_block.Given as goal

abbrev pub invariant-loop-i : goal.invariant-loop-i
invariant-loop-i l = fold (apply_at (judged_as l.self)) 16 (l.block * 16) l.initial.w ≡ fold (apply_at (judged_as l.self)) (l.block * 16 + 16 - l.i) l.i l.w
