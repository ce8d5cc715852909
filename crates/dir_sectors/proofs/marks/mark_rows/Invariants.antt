use Rattle.std.proofs.Common.{◌≡◌, map, take}
use Rattle.loops.specs.Rows.{rows}
use Rattle.file_table.specs.Files.{id_of, start_of, size_of, with_ids}
use Rattle.dir_sectors.specs.Turned.{mark_id}
use Rattle.dir_sectors.proofs.marks.mark_rows.Given as goal

abbrev pub invariant-loop-j : goal.invariant-loop-j
invariant-loop-j l =
    l.files ≡ with_ids l.initial.files (take l.j (rows (mark_id l.rows (map start_of l.initial.files) (map size_of l.initial.files) l.fat l.area l.st) (map id_of l.initial.files)))
