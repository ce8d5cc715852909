use Prim.Native.Nat.{◌-◌}
use mathlib.Core.List.{map}
use mathlib.Core.Path.{◌≡◌}
use lib.ListN.{length}
use mathlib.Core.Bool.{not}
use Rattle.loops.specs.Loops.{all}
use Rattle.file_table.specs.Files.{id_of, dir_slot_of}
use Rattle.file_table.specs.Table.{max_files, shares_place}
use Rattle.file_table.proofs.KeyLaws.{Keyed, Narrow, place_at}
use Rattle.file_table.proofs.places_apart.Given as goal

abbrev pub invariant-loop-j : goal.invariant-loop-j
invariant-loop-j l =
    (all (λ k. not (shares_place (map id_of l.files) (map dir_slot_of l.files) k)) (length (map id_of l.files)) 0
    ≡ all (λ k. not (shares_place (map id_of l.files) (map dir_slot_of l.files) k)) (length (map id_of l.files) - l.j) l.j)
    × Keyed (place_at (map id_of l.files) (map dir_slot_of l.files)) l.keys l.j
    × (length l.keys ≡ max_files)
    × Narrow (map dir_slot_of l.files) l.j
