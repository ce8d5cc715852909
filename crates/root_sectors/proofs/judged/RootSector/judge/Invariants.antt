use Prim.Native.Nat.{◌≤◌}
use Rattle.root_sectors.specs.Judged.{judged_as}
use Rattle.root_sectors.specs.RootLaws.{Judging}
use Rattle.root_sectors.proofs.judged.RootSector.judge.Given as goal

abbrev pub invariant-loop-i : goal.invariant-loop-i
invariant-loop-i l = (l.needed ≤ l.i) × Judging (judged_as l.self) l.needed l.i
