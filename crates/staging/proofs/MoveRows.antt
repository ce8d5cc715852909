-- The loop over the rows of a table that marks the files that staged data names.
use Rattle.std.specs.Prelude.{ℕ, ◌+◌, ◌<◌, true, false, not, ◌&&◌, List, map, ◌≡◌, length, get_or, set, take}
use Rattle.std.proofs.Common.{sym, ap, ◌∙◌}
use Rattle.std.proofs.Math.Seq.{set-get_or}
use Rattle.loops.specs.Loops.{pick}
use Rattle.loops.specs.Rows.{rows}
use Rattle.bits.specs.Bit.{bit, set_bit}
use Rattle.vdisk.specs.Ids.{turned}
use Rattle.file_table.specs.Files.{id_of, start_of, size_of, with_id, with_ids}
use Rattle.file_table.specs.declared.VF.{VF}
use Rattle.file_table.proofs.FileRows.{column-at, files-read, files-more}
use Rattle.file_table.proofs.RowLaws.{any_file}
use Rattle.slots.specs.Slots.{refers_to}
use Rattle.staging.specs.Staging.{table_write, move_id}
use Rattle.staging.specs.MoveLaws.{moved-set, moved-left}

-- what becomes of a row
abbrev pub move_row : List VF → List ℕ → ℕ → ℕ → ℕ
move_row fs written = move_id (table_write (map id_of fs) (map start_of fs) (map size_of fs) written)

-- the first j rows are marked
abbrev pub MovedTo : List VF → List ℕ → ℕ → List VF → Type 0
MovedTo fs written j gs = gs ≡ with_ids fs (take j (rows (move_row fs written) (map id_of fs)))

module _ (fs : List VF) (written : List ℕ) (j : ℕ) (gs : List VF) (inv : MovedTo fs written j gs) (l : j < length fs) where
  abbrev file : VF
  file = get_or gs j any_file

  -- by its start and size, which no mark changes
  moved-as : (v : ℕ) → v ≡ pick (turned file.id && refers_to written file.vstart file.vsize) (set_bit file.id 15) file.id → v ≡ move_row fs written j file.id
  unfolding move_id
  moved-as v e =
      let r = files-read (move_row fs written) fs gs j inv any_file in
      let a : get_or (map start_of fs) j 0 ≡ file.vstart = column-at start_of fs j any_file l ∙ ap start_of (sym r) in
      let b : get_or (map size_of fs) j 0 ≡ file.vsize = column-at size_of fs j any_file l ∙ ap size_of (sym r) in
      rw (a, b) e

  -- it is named and not moved yet, or it stays
  pub row-set : (turned file.id && not (bit file.id 15) && refers_to written file.vstart file.vsize) ≡ true
      → (v : ℕ) → v ≡ set_bit file.id 15 → MovedTo fs written (j + 1) (set gs j (with_id file v))
  row-set t v e =
      files-more (move_row fs written) fs gs j inv any_file v (moved-as v (e ∙ sym (moved-set file.id file.vstart file.vsize written t))) l

  pub row-left : (turned file.id && not (bit file.id 15) && refers_to written file.vstart file.vsize) ≡ false → MovedTo fs written (j + 1) gs
  row-left t =
      sym (set-get_or gs j any_file)
      ∙ files-more (move_row fs written) fs gs j inv any_file file.id (moved-as file.id (sym (moved-left file.id file.vstart file.vsize written t))) l
