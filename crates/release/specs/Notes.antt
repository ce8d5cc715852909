-- A release's one pass over the staged sectors: a row that waits for a sector that names it is freed there, and the rows are settled by that.
use Rattle.std.specs.Prelude.{ℕ, ◌+◌, ◌<◌, Bool, not, ◌&&◌, List, [], ◌∷◌, map, eqb, length, get_or}
use Rattle.loops.specs.Loops.{pick, some}
use Rattle.loops.specs.Rows.{rows}
use Rattle.bits.specs.Bit.{set_bit}
use Rattle.vdisk.specs.Ids.{turned, freed, gone, moved, cleared, handed}
use Rattle.file_table.specs.Files.{id_of, with_ids}
use Rattle.file_table.specs.declared.VF.{VF}
use Rattle.slots.specs.Slots.{names_file, refers_to}
use Rattle.state.specs.declared.w.St.{St}
use Rattle.medium.specs.Reads.{slot_names, moved_ref}

-- a row waits: turned and moved, neither gone nor freed
unfoldable pub waits : ℕ → Bool
waits id = not (freed id) && turned id && not (gone id) && moved id

-- a row that waits is freed where it is named
unfoldable pub note_id : Bool → ℕ → ℕ
note_id named id = pick (waits id && named) (set_bit id 13) id

-- all rows, each by whether it is named
abbrev pub noted : (ℕ → Bool) → List ℕ → List ℕ
noted named ids = rows (λ j id. note_id (named j) id) ids

-- the same of files, whose other fields stay
abbrev pub noted_files : (ℕ → Bool) → List VF → List VF
noted_files named files = with_ids files (noted named (map id_of files))

-- the rows that wait, listed from row i on
unfoldable pub waiters_from : ℕ → List ℕ → List ℕ
waiters_from i [] = []
waiters_from i (id ∷ ids) = pick (waits id) (i ∷ waiters_from (i + 1) ids) (waiters_from (i + 1) ids)

abbrev pub waiters : List ℕ → List ℕ
waiters ids = waiters_from 0 ids

-- a list has row j; all that it has are rows of a table of n; row j is in the list and so
abbrev pub has_row : List ℕ → ℕ → Bool
has_row rs j = some (λ k. eqb (get_or rs k 0) j) (length rs) 0

abbrev pub InTable : ℕ → List ℕ → Type 0
InTable n rs = (k : ℕ) → k < length rs → get_or rs k 0 < n

abbrev pub listed : List ℕ → (ℕ → Bool) → ℕ → Bool
listed rs f j = has_row rs j && f j

-- is row j named: by a start and a length, by the slot at a place, by a sector, by a staged cluster, by any
abbrev pub has_file : List ℕ → List ℕ → ℕ → ℕ → ℕ → Bool
has_file starts sizes start size j = eqb start (get_or starts j 0) && eqb size (get_or sizes j 0)

abbrev pub by_slot : List ℕ → List ℕ → List ℕ → ℕ → ℕ → Bool
by_slot starts sizes d at j = names_file d (get_or starts j 0) (get_or sizes j 0) at

abbrev pub by_sector : List ℕ → List ℕ → List ℕ → ℕ → Bool
by_sector starts sizes d j = refers_to d (get_or starts j 0) (get_or sizes j 0)

abbrev pub by_cluster : List ℕ → List ℕ → List ℕ → List ℕ → St → ℕ → Bool
by_cluster starts sizes fat area x j = slot_names fat area x (get_or starts j 0) (get_or sizes j 0)

abbrev pub by_staged : List ℕ → List ℕ → List ℕ → List ℕ → List St → ℕ → Bool
by_staged starts sizes fat area st j = moved_ref fat area st (get_or starts j 0) (get_or sizes j 0)

-- a row is settled: handed on where it is handed then. All other marks are cleared.
unfoldable pub settled_id : ℕ → ℕ
settled_id id = pick (handed id) (set_bit (set_bit (cleared id) 12) 13) (cleared id)
