use Rattle.root_sectors.specs.RootLaws.{Keeping}
use Rattle.root_sectors.proofs.kept.keep_slots.Given as goal

abbrev pub invariant-loop-i : goal.invariant-loop-i
invariant-loop-i l = Keeping l.s l.sectors.shown.now l.sectors.written.now l.initial.rec l.any l.rec l.i
