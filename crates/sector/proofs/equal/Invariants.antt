use lib.ListN.{length}
use mathlib.Core.Path.{◌≡◌}
use Rattle.loops.specs.Loops.{all}
use Rattle.sector.specs.Bytes.{same_at}
use Rattle.sector.specs.Laws.{gathered}
use Rattle.sector.proofs.equal.Given as goal

abbrev pub invariant-loop-x : goal.invariant-loop-x
invariant-loop-x l = all (same_at l.a l.b) (length l.a) 0 ≡ gathered (same_at l.a l.b) (length l.a) (length l.yielded) l.differing
