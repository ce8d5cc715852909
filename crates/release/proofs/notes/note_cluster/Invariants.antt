use Rattle.std.proofs.Common.{ℕ, Bool, List, map}
use Rattle.state.specs.declared.w.St.{St}
use Rattle.medium.specs.Reads.{sector_of}
use Rattle.file_table.specs.Files.{start_of, size_of}
use Rattle.release.specs.Notes.{listed, by_sector}
use Rattle.release.proofs.FileNotes.{PassedFiles}
use Rattle.release.proofs.notes.note_cluster.Given as goal

-- row j is listed, and sector s names it
abbrev pub names : List ℕ → List ℕ → List ℕ → List ℕ → List ℕ → St → ℕ → ℕ → Bool
names waiting starts sizes fat area x j s = listed waiting (by_sector starts sizes (sector_of fat area x s)) j

abbrev pub invariant-loop-s : goal.invariant-loop-s
invariant-loop-s l = PassedFiles (names l.waiting (map start_of l.initial.files) (map size_of l.initial.files) l.fat l.area l.x) l.s l.initial.files l.files
