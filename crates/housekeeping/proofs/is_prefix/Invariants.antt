use mathlib.Core.Path.{◌≡◌}
use Rattle.housekeeping.specs.Housekeeping.{is_prefix}
use Rattle.housekeeping.proofs.PrefixLaws.{cut}
use Rattle.housekeeping.proofs.ByteLaws.{prefix_from}
use Rattle.housekeeping.proofs.is_prefix.Given as goal

abbrev pub invariant-loop-i : goal.invariant-loop-i
invariant-loop-i l = is_prefix (cut l.at l.end) l.name ≡ prefix_from l.at l.end l.name l.i
