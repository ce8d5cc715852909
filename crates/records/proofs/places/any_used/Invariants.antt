use Prim.Native.Nat.{◌-◌}
use mathlib.Core.Path.{◌≡◌}
use mathlib.Core.Bool.{not}
use lib.ListN.{length}
use Rattle.loops.specs.Loops.{some}
use Rattle.loops.specs.Keyed.{free_place}
use Rattle.records.proofs.places.any_used.Given as goal

abbrev pub invariant-loop-p : goal.invariant-loop-p
invariant-loop-p g l =
    (d : _)
    → some (λ i. not (free_place g.P.Place.key d l.places i)) (length l.places) 0
    ≡ some (λ i. not (free_place g.P.Place.key d l.places i)) (length l.places - l.p-index) l.p-index
