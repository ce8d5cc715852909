use Rattle.std.proofs.Common.{◌+◌, ◌≤◌}
use Rattle.fat_sectors.proofs.sectors.differing_from.Given as goal

abbrev pub invariant-loop-i : goal.invariant-loop-i
invariant-loop-i l = l.differing + l.at ≤ l.i
