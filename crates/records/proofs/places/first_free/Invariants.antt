use mathlib.Core.Path.{◌≡◌}
use lib.ListN.{length}
use Rattle.loops.specs.Found.{find, find_from}
use Rattle.loops.specs.Keyed.{free_place}
use Rattle.records.proofs.places.first_free.Given as goal

abbrev pub invariant-loop-i : goal.invariant-loop-i
invariant-loop-i g l = (d : _) → find (free_place g.P.Place.key d l.places) (length l.places) ≡ find_from (free_place g.P.Place.key d l.places) (length l.places) l.i
