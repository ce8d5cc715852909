use Rattle.std.proofs.Common.{ℕ, ◌*◌, Bool, List, map}
use Rattle.file_table.specs.Files.{start_of, size_of}
use Rattle.release.specs.Notes.{listed, by_slot}
use Rattle.release.proofs.FileNotes.{PassedFiles}
use Rattle.release.proofs.notes.note_sector.Given as goal

-- row j is listed, and slot i names it
abbrev pub names : List ℕ → List ℕ → List ℕ → List ℕ → ℕ → ℕ → Bool
names waiting starts sizes d j i = listed waiting (by_slot starts sizes d (i * 32)) j

abbrev pub invariant-loop-k : goal.invariant-loop-k
invariant-loop-k l = PassedFiles (names l.waiting (map start_of l.initial.files) (map size_of l.initial.files) l.d) l.k l.initial.files l.files
