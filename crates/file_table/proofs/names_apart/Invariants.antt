use Prim.Native.Nat.{◌-◌}
use mathlib.Core.List.{map}
use mathlib.Core.Path.{◌≡◌}
use lib.ListN.{length}
use mathlib.Core.Bool.{not}
use Rattle.loops.specs.Loops.{all}
use Rattle.file_table.specs.Files.{id_of}
use Rattle.file_table.specs.Table.{max_files, shares_name}
use Rattle.file_table.proofs.KeyLaws.{Keyed, name_at}
use Rattle.file_table.proofs.names_apart.Given as goal

abbrev pub invariant-loop-j : goal.invariant-loop-j
invariant-loop-j l =
    (all (λ k. not (shares_name (map id_of l.files) k)) (length (map id_of l.files)) 0
    ≡ all (λ k. not (shares_name (map id_of l.files) k)) (length (map id_of l.files) - l.j) l.j)
    × Keyed (name_at (map id_of l.files)) l.keys l.j
    × (length l.keys ≡ max_files)
