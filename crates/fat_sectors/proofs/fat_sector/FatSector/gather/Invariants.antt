use Rattle.std.proofs.Common.{◌*◌}
use Rattle.fat_sectors.specs.Gathered.{judged_as, GatheredTo}
use Rattle.fat_sectors.proofs.fat_sector.FatSector.gather.Given as goal

abbrev pub invariant-loop-block : goal.invariant-loop-block
invariant-loop-block l = GatheredTo (judged_as l.self) (l.block * 16) l.gathered
