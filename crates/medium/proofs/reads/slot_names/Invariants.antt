use Prim.Native.Nat.{◌-◌}
use mathlib.Core.Path.{◌≡◌}
use Rattle.loops.specs.Loops.{some}
use Rattle.slots.specs.Slots.{refers_to}
use Rattle.medium.specs.Reads.{sector_of}
use Rattle.medium.proofs.reads.slot_names.Given as goal

abbrev pub invariant-loop-s : goal.invariant-loop-s
invariant-loop-s l = some (λ k. refers_to (sector_of l.fat l.area l.x k) l.start l.size) 64 0 ≡ some (λ k. refers_to (sector_of l.fat l.area l.x k) l.start l.size) (64 - l.s) l.s
