use mathlib.Core.Path.{◌≡◌}
use lib.ListN.{length}
use Rattle.body.specs.LoopLaws.{Checked}
use Rattle.body.proofs.check.Given as goal

abbrev pub invariant-loop-q : goal.invariant-loop-q
invariant-loop-q l = (length l.sec ≡ 512) × Checked l.fat l.area l.st l.chain l.size l.sec l.sum l.q
