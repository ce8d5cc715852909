-- The calls of a session over the lent table: what each leaves, in its contract and in demand 3's lists alike.
use Rattle.std.specs.Prelude.{ℕ, ◌<◌, ◌≤◌, Bool, true, false, List, map, ◌≡◌, length, get_or}
use Rattle.vdisk.specs.Ids.{handed}
use Rattle.file_table.specs.Table.{Table, max_files}
use Rattle.file_table.specs.Files.{id_of, with_ids}
use Rattle.file_table.specs.declared.VF.{VF}
use Rattle.state.specs.declared.w.W.{W}
use Rattle.sessions.specs.Sessions.{report_gone, start, set_read_only, mode_reset}

-- a report of a row: the number, the table
abbrev pub ReportsBy : ℕ → List VF → ℕ → List VF → Type 0
ReportsBy row files r files_left = (r ≡ (report_gone (map id_of files) row).number) × (files_left ≡ with_ids files (report_gone (map id_of files) row).ids)

-- a start with a table: the number, the state
abbrev pub StartsBy : Table → W → ℕ → W → Type 0
StartsBy t w r w_left = (r ≡ (start t w).number) × (w_left ≡ (start t w).w)

-- a mode is asked for; the one that was asked for comes into force
abbrev pub AsksMode : Bool → W → W → Type 0
AsksMode on w w_left = w_left ≡ set_read_only w on

abbrev pub SetsMode : W → W → Type 0
SetsMode w w_left = w_left ≡ mode_reset w

-- what the finder answers: the number, is a file handed, and its row, 0 where none is
pub record HandedAnswer : Type 0 where
  pub no : ℕ
  pub found : Bool
  pub row : ℕ

-- the finder over n files: 10 for more than 400; else the row of a handed file, any one, none only where none is
unfoldable pub FindsHanded : ℕ → List ℕ → HandedAnswer → Type 0
FindsHanded n ids r =
    (max_files < n → r ≡ record { no = 10; found = false; row = 0 })
    × (n ≤ max_files → r.found ≡ true → (r.no ≡ 0) × (r.row < n) × (handed (get_or ids r.row 0) ≡ true))
    × (n ≤ max_files → r.found ≡ false → (r.no ≡ 0) × (r.row ≡ 0) × ((j : ℕ) → j < n → handed (get_or ids j 0) ≡ false))

abbrev pub FindsFile : List VF → HandedAnswer → Type 0
FindsFile files r = FindsHanded (length files) (map id_of files) r
