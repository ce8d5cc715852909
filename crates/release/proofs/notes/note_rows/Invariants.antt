use Rattle.std.proofs.Common.{ℕ, Bool, ◌&&◌, List, map, eqb, get_or}
use Rattle.file_table.specs.Files.{start_of, size_of}
use Rattle.release.specs.Notes.{has_file}
use Rattle.release.proofs.FileNotes.{PassedFiles}
use Rattle.release.proofs.notes.note_rows.Given as goal

-- the k-th of the list is row j, which has that start and length
abbrev pub names : List ℕ → List ℕ → List ℕ → ℕ → ℕ → ℕ → ℕ → Bool
names starts sizes waiting start size j k = eqb (get_or waiting k 0) j && has_file starts sizes start size j

abbrev pub invariant-loop-row : goal.invariant-loop-row
invariant-loop-row l = PassedFiles (names (map start_of l.initial.files) (map size_of l.initial.files) l.waiting l.slot_start l.slot_size) l.row-index l.initial.files l.files
