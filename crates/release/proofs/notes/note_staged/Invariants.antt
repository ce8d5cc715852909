use Rattle.std.proofs.Common.{ℕ, Bool, List, map, get_or, take}
use Rattle.state.specs.State.{no_st}
use Rattle.state.specs.declared.w.St.{St}
use Rattle.file_table.specs.Files.{start_of, size_of}
use Rattle.release.specs.Notes.{listed, by_cluster}
use Rattle.release.proofs.FileNotes.{PassedFiles}
use Rattle.release.proofs.notes.note_staged.Given as goal

-- row j is listed, and staged cluster i names it
abbrev pub names : List ℕ → List ℕ → List ℕ → List ℕ → List ℕ → List St → ℕ → ℕ → Bool
names waiting starts sizes fat area st j i = listed waiting (by_cluster starts sizes fat area (get_or st i no_st)) j

abbrev pub invariant-loop-x : goal.invariant-loop-x
invariant-loop-x l = PassedFiles (names (take l.n l.waiting) (map start_of l.initial.files) (map size_of l.initial.files) l.fat l.area l.st) l.x-index l.initial.files l.files
