use Rattle.fat_sectors.specs.Gathered.{judged_as, GatheredTo}
use Rattle.fat_sectors.proofs.fat_sector.FatSector.gather_block.Given as goal

abbrev pub invariant-loop-i : goal.invariant-loop-i
invariant-loop-i l = GatheredTo (judged_as l.self) l.i l.gathered
