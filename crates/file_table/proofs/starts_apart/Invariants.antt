use Prim.Native.Nat.{◌-◌}
use mathlib.Core.List.{map}
use mathlib.Core.Path.{◌≡◌}
use lib.ListN.{length}
use Rattle.loops.specs.Loops.{all}
use Rattle.file_table.specs.Files.{start_of, size_of}
use Rattle.file_table.specs.TableLaws.{ends_by}
use Rattle.file_table.proofs.starts_apart.Given as goal

abbrev pub invariant-loop-j : goal.invariant-loop-j
invariant-loop-j l =
    all (ends_by (map start_of l.files) (map size_of l.files)) (length (map start_of l.files) - 1) 0
    ≡ all (ends_by (map start_of l.files) (map size_of l.files)) (length (map start_of l.files) - 1 - (l.j - 1)) (l.j - 1)
