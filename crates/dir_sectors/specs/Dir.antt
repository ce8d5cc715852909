-- How a written sector of a generated directory is judged (document 01, "Judging a sector").
use Rattle.std.specs.Prelude.{ℕ, ◌+◌, ◌*◌, Bool, true, false, not, ◌&&◌, ◌||◌, List, map, ltb, eqb, length, get_or, Option, Some, None}
use Rattle.loops.specs.Loops.{pick, all, some}
use Rattle.loops.specs.Found.{find}
use Rattle.loops.specs.Rows.{rows}
use Rattle.loops.specs.Marks.{picked_by}
use Rattle.bits.specs.Bit.{set_bit}
use Rattle.vdisk.specs.Ids.{turned, id_dir_of}
use Rattle.slots.specs.Slots.{dates_only, turn_at}
use Rattle.file_table.specs.Files.{id_of, dir_slot_of, start_of, size_of}
use Rattle.file_table.specs.declared.VF.{VF}
use Rattle.state.specs.declared.w.St.{St}
use Rattle.medium.specs.Reads.{moved_ref}

-- A directory sector as it is judged: the table's columns, the directory (3 for INFO and DEBUG), the sector of its cluster, the sector shown and
-- written.
pub record DirWrite : Type 0 where
  pub ids : List ℕ
  pub slots : List ℕ
  pub starts : List ℕ
  pub sizes : List ℕ
  pub k : ℕ
  pub s : ℕ
  pub shown : List ℕ
  pub written : List ℕ

abbrev pub dir_write : List ℕ → List ℕ → List ℕ → List ℕ → ℕ → ℕ → List ℕ → List ℕ → DirWrite
dir_write ids slots starts sizes k s shown written =
    record { ids = ids; slots = slots; starts = starts; sizes = sizes; k = k; s = s; shown = shown; written = written }

-- of a lent table
abbrev pub dir_in : List VF → ℕ → ℕ → List ℕ → List ℕ → DirWrite
dir_in files k s shown written = dir_write (map id_of files) (map dir_slot_of files) (map start_of files) (map size_of files) k s shown written

-- row j is an unturned file of that directory and slot
unfoldable pub file_at : DirWrite → ℕ → ℕ → Bool
file_at x n j = eqb (id_dir_of (get_or x.ids j 0)) x.k && eqb (get_or x.slots j 0) n && not (turned (get_or x.ids j 0))

-- the first such row
unfoldable pub row_of : DirWrite → ℕ → Option ℕ
row_of x n = find (file_at x n) (length x.ids)

-- the file that slot i of the sector turns: a turn (0xE5, dates besides) of an unturned file of that directory and slot
unfoldable pub turned_by : DirWrite → ℕ → Option ℕ
turned_by x i = pick (ltb x.k 3 && turn_at x.shown x.written (i * 32)) (row_of x (x.s * 16 + i)) None

unfoldable pub is_found : Option ℕ → Bool
is_found (Some j) = true
is_found None = false

-- dates are dropped; a turn passes; anything else is 9
unfoldable pub slot_passes : DirWrite → ℕ → Bool
slot_passes x i = dates_only x.shown x.written (i * 32) || is_found (turned_by x i)

unfoldable pub dir_number : DirWrite → ℕ
dir_number x = pick (all (slot_passes x) 16 0) 0 9

-- row j is turned by this sector
unfoldable pub turns_row : DirWrite → ℕ → Bool
turns_row x j = picked_by (turned_by x) 16 j

-- which marks it turned, and moved if a staged sector already names it
unfoldable pub turn_id : DirWrite → List ℕ → List ℕ → List St → ℕ → ℕ → ℕ
turn_id x fat area st j id =
    pick (moved_ref fat area st (get_or x.starts j 0) (get_or x.sizes j 0)) (set_bit (set_bit id 12) 15) (set_bit id 12)

unfoldable pub dir_id : DirWrite → List ℕ → List ℕ → List St → ℕ → ℕ → ℕ
dir_id x fat area st j id = pick (turns_row x j) (turn_id x fat area st j id) id

unfoldable pub dir_ids : DirWrite → List ℕ → List ℕ → List St → List ℕ
dir_ids x fat area st = pick (eqb (dir_number x) 0) (rows (dir_id x fat area st) x.ids) x.ids

-- the session is opened unless nothing but dates changed
unfoldable pub dir_changed : DirWrite → Bool
dir_changed x = eqb (dir_number x) 0 && some (λ i. is_found (turned_by x i)) 16 0
