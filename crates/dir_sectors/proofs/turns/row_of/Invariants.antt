use Prim.Native.Nat.{ℕ}
use mathlib.Core.List.{List, map}
use mathlib.Core.Path.{◌≡◌}
use lib.ListN.{length}
use Rattle.loops.specs.Found.{find, find_from}
use Rattle.file_table.specs.Files.{id_of}
use Rattle.dir_sectors.specs.Dir.{dir_in, file_at}
use Rattle.dir_sectors.proofs.turns.row_of.Given as goal

abbrev pub invariant-loop-j : goal.invariant-loop-j
invariant-loop-j l =
    (s : ℕ) (shown written : List ℕ)
    → find (file_at (dir_in l.files l.k s shown written) l.n) (length (map id_of l.files))
    ≡ find_from (file_at (dir_in l.files l.k s shown written) l.n) (length (map id_of l.files)) l.j
