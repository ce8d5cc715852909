use Prim.Native.Nat.{◌-◌}
use mathlib.Core.Path.{◌≡◌}
use Rattle.loops.specs.Loops.{some}
use Rattle.housekeeping.specs.Housekeeping.{is_prefix, is_housekeeping}
use Rattle.housekeeping.proofs.PrefixLaws.{cut_at}
use Rattle.housekeeping.proofs.housekeeping.Given as goal

abbrev pub invariant-loop-i : goal.invariant-loop-i
invariant-loop-i l = is_housekeeping l.name ≡ some (λ k. is_prefix (cut_at k) l.name) (10 - l.i) l.i
