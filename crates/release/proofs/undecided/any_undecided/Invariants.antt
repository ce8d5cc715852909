use Prim.Native.Nat.{◌-◌}
use mathlib.Core.Bool.{not, ◌&&◌}
use mathlib.Core.Path.{◌≡◌}
use lib.ListN.{get_or}
use Rattle.loops.specs.Loops.{some}
use Rattle.records.specs.Records.{max_records, no_rec}
use Rattle.release.specs.Undecided.{is_update, is_decided}
use Rattle.release.proofs.undecided.any_undecided.Given as goal

abbrev pub invariant-loop-r : goal.invariant-loop-r
invariant-loop-r l = some (λ n. is_update (get_or l.rec n no_rec) && not (is_decided (get_or l.rec n no_rec) l.done l.ver)) max_records 0
    ≡ some (λ n. is_update (get_or l.rec n no_rec) && not (is_decided (get_or l.rec n no_rec) l.done l.ver)) (max_records - l.r-index) l.r-index
