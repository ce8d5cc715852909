-- the bytes that are left
use Rattle.std.proofs.Common.{length}
use Rattle.write_lines.proofs.sectors.changes.Given as goal

abbrev pub decreases-loop-left : goal.decreases-loop-left
decreases-loop-left l = length l.left
