use mathlib.Core.Path.{◌≡◌}
use lib.ListN.{length}
use Rattle.loops.specs.Loops.{all}
use Rattle.sector.specs.Bytes.{zero_at}
use Rattle.sector.specs.Laws.{gathered}
use Rattle.sector.proofs.is_zero.Given as goal

abbrev pub invariant-loop-x : goal.invariant-loop-x
invariant-loop-x l = all (zero_at l.a) (length l.a) 0 ≡ gathered (zero_at l.a) (length l.a) l.x-index l.seen
