use Rattle.std.proofs.Common.{◌≡◌, eqb, map, get_or, take}
use Rattle.loops.specs.Loops.{pick}
use Rattle.loops.specs.Rows.{rows as rows_of}
use Rattle.bits.specs.Bit.{set_bit}
use Rattle.file_table.specs.Files.{id_of, with_ids}
use Rattle.fat_sectors.proofs.sectors.mark_freed.Given as goal

abbrev pub invariant-loop-j : goal.invariant-loop-j
invariant-loop-j l = l.files ≡ with_ids l.initial.files (take l.j (rows_of (λ j id. pick (eqb (get_or l.rows j 0) 1) (set_bit id 13) id) (map id_of l.initial.files)))
