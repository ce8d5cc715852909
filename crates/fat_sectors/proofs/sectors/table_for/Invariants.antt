use Rattle.std.proofs.Common.{◌*◌, ◌≤◌}
use Rattle.fat_sectors.proofs.sectors.table_for.Given as goal

abbrev pub invariant-loop-quarter : goal.invariant-loop-quarter
invariant-loop-quarter l = l.differing ≤ l.quarter * 128
