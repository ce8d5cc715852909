use mathlib.Core.Path.{◌≡◌}
use lib.ListN.{length}
use Rattle.loops.specs.Found.{find, find_from}
use Rattle.loops.specs.Keyed.{used_place}
use Rattle.records.proofs.places.index_of.Given as goal

abbrev pub invariant-loop-i : goal.invariant-loop-i
invariant-loop-i g l = (d : _) → find (used_place g.P.Place.key d l.places l.c) (length l.places) ≡ find_from (used_place g.P.Place.key d l.places l.c) (length l.places) l.i
