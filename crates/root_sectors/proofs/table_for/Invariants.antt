use Rattle.std.proofs.Common.{◌≤◌}
use Rattle.root_sectors.proofs.table_for.Given as goal

abbrev pub invariant-loop-i : goal.invariant-loop-i
invariant-loop-i l = l.early ≤ l.i
