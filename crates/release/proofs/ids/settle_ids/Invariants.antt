use Rattle.std.proofs.Common.{◌≡◌, map, take}
use Rattle.loops.specs.Rows.{rows}
use Rattle.file_table.specs.Files.{id_of, with_ids}
use Rattle.release.specs.Notes.{settled_id}
use Rattle.release.proofs.ids.settle_ids.Given as goal

abbrev pub invariant-loop-i : goal.invariant-loop-i
invariant-loop-i l = l.files ≡ with_ids l.initial.files (take l.i (rows (λ k id. settled_id id) (map id_of l.initial.files)))
