use Prim.Native.Nat.{◌+◌, ◌-◌, ◌≤◌}
use mathlib.Core.Path.{◌≡◌}
use lib.ListN.{length}
use Rattle.loops.specs.Loops.{count}
use Rattle.loops.specs.Keyed.{free_place}
use Rattle.records.proofs.places.count_free.Given as goal

abbrev pub invariant-loop-p : goal.invariant-loop-p
invariant-loop-p g l =
    (l.n ≤ l.p-index)
    × ((d : _) → count (free_place g.P.Place.key d l.places) (length l.places) 0
    ≡ l.n + count (free_place g.P.Place.key d l.places) (length l.places - l.p-index) l.p-index)
