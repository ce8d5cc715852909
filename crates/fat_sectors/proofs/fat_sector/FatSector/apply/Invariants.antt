use Rattle.std.proofs.Common.{◌≡◌, ◌-◌, ◌*◌}
use Rattle.loops.specs.Loops.{fold}
use Rattle.fat_sectors.specs.Fat.{apply_at}
use Rattle.fat_sectors.specs.Gathered.{judged_as}
use Rattle.fat_sectors.proofs.fat_sector.FatSector.apply.Given as goal

abbrev pub invariant-loop-block : goal.invariant-loop-block
invariant-loop-block l = fold (apply_at (judged_as l.self)) 256 0 l.initial.w ≡ fold (apply_at (judged_as l.self)) (256 - l.block * 16) (l.block * 16) l.w
