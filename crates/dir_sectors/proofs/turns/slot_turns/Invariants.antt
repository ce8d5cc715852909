use Prim.Native.Nat.{◌-◌}
use mathlib.Core.Path.{◌≡◌}
use lib.ListN.{length}
use Rattle.loops.specs.Loops.{all, some}
use Rattle.loops.specs.Sought.{sought}
use Rattle.loops.specs.Marks.{Marks}
use Rattle.file_table.specs.Table.{max_files}
use Rattle.dir_sectors.specs.Dir.{dir_in, turned_by, is_found, slot_passes}
use Rattle.dir_sectors.specs.Turned.{Begins, Ends}
use Rattle.dir_sectors.proofs.turns.slot_turns.Given as goal

abbrev pub invariant-loop-i : goal.invariant-loop-i
invariant-loop-i l =
    let x = dir_in l.files l.k l.s l.sectors.shown.now l.sectors.written.now in
    (length l.rows ≡ max_files)
    × Marks (turned_by x) max_files l.i l.rows
    × (all (slot_passes x) 16 0 ≡ all (slot_passes x) (16 - l.i) l.i)
    × Begins l.rows l.from
    × Ends l.rows l.end
    × (some (λ n. is_found (turned_by x n)) 16 0 ≡ sought (λ n. is_found (turned_by x n)) 16 l.i l.any)
