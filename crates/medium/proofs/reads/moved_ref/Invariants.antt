use Prim.Native.Nat.{◌-◌}
use mathlib.Core.Path.{◌≡◌}
use lib.ListN.{get_or}
use Rattle.loops.specs.Loops.{some}
use Rattle.state.specs.State.{max_slots, no_st}
use Rattle.medium.specs.Reads.{slot_names}
use Rattle.medium.proofs.reads.moved_ref.Given as goal

abbrev pub invariant-loop-x : goal.invariant-loop-x
invariant-loop-x l =
    some (λ k. slot_names l.fat l.area (get_or l.st k no_st) l.start l.size) max_slots 0
    ≡ some (λ k. slot_names l.fat l.area (get_or l.st k no_st) l.start l.size) (max_slots - l.x-index) l.x-index
