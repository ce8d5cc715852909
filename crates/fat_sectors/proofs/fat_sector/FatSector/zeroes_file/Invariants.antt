use Rattle.std.proofs.Common.{◌≡◌, ◌+◌, ◌-◌, ◌≤◌}
use Rattle.loops.specs.Loops.{all}
use Rattle.fat_sectors.specs.FatLaws.{zero_of}
use Rattle.fat_sectors.specs.Gathered.{judged_as}
use Rattle.fat_sectors.proofs.fat_sector.FatSector.zeroes_file.Given as goal

abbrev pub invariant-loop-c : goal.invariant-loop-c
invariant-loop-c l =
    (l.base ≤ l.from) × (l.last ≤ l.base + 256)
    × (all (zero_of (judged_as l.self)) (l.last - l.from) l.from ≡ all (zero_of (judged_as l.self)) (l.last - l.c) l.c)
