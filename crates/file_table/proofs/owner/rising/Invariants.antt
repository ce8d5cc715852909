use Prim.Native.Nat.{◌-◌}
use mathlib.Core.List.{map}
use mathlib.Core.Path.{◌≡◌}
use lib.ListN.{length}
use Rattle.loops.specs.Loops.{some}
use Rattle.loops.specs.Sought.{sought}
use Rattle.file_table.proofs.RowLaws.{falls_at}
use Rattle.file_table.specs.Files.{start_of}
use Rattle.file_table.proofs.owner.rising.Given as goal

abbrev pub invariant-loop-j : goal.invariant-loop-j
invariant-loop-j l =
    some (falls_at (map start_of l.rows)) (length (map start_of l.rows) - 1) 0
    ≡ sought (falls_at (map start_of l.rows)) (length (map start_of l.rows) - 1) (l.j - 1) l.falls
