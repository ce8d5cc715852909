use mathlib.Core.List.{map}
use mathlib.Core.Path.{◌≡◌}
use lib.ListN.{length}
use Rattle.loops.specs.Loops.{last}
use Rattle.vdisk.specs.Owner.{starts_by}
use Rattle.file_table.specs.Files.{start_of}
use Rattle.file_table.proofs.owner.up_to_by_rows.Given as goal

abbrev pub invariant-loop-j : goal.invariant-loop-j
invariant-loop-j l = last (starts_by (map start_of l.rows) l.c) (length (map start_of l.rows)) ≡ last (starts_by (map start_of l.rows) l.c) l.j
