use mathlib.Core.Path.{◌≡◌}
use lib.ListN.{get_or}
use Rattle.std.specs.Prelude.{eqb}
use Rattle.loops.specs.Loops.{some}
use Rattle.loops.specs.Sought.{sought}
use Rattle.file_table.proofs.is_repeated.Given as goal

abbrev pub invariant-loop-earlier : goal.invariant-loop-earlier
invariant-loop-earlier l =
    some (λ i. eqb (get_or l.keys i 0) (get_or l.keys l.j 0)) l.j 0
    ≡ sought (λ i. eqb (get_or l.keys i 0) (get_or l.keys l.j 0)) l.j l.earlier-index l.found
