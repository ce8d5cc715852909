-- the rows fit the table, and each takes a byte or more
use Rattle.std.proofs.Common.{◌≤◌, length}
use Rattle.table_lines.proofs.start.rows.Given as goal

abbrev pub invariant-loop-left : goal.invariant-loop-left
invariant-loop-left l = l.n ≤ 401

abbrev pub decreases-loop-left : goal.decreases-loop-left
decreases-loop-left l = length l.left
