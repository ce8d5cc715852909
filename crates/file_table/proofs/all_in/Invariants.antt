use Prim.Native.Nat.{◌-◌}
use mathlib.Core.List.{map}
use mathlib.Core.Path.{◌≡◌}
use lib.ListN.{length}
use Rattle.loops.specs.Loops.{all}
use Rattle.file_table.specs.Files.{start_of, size_of}
use Rattle.file_table.specs.Table.{file_in}
use Rattle.file_table.proofs.all_in.Given as goal

abbrev pub invariant-loop-f : goal.invariant-loop-f
invariant-loop-f l =
    all (file_in (map start_of l.files) (map size_of l.files) l.first) (length (map start_of l.files)) 0
    ≡ all (file_in (map start_of l.files) (map size_of l.files) l.first) (length (map start_of l.files) - l.f-index) l.f-index
