-- How a written sector is classified (document 01, "Judging a sector").
use Rattle.std.specs.Prelude.{ℕ, Bool, true, false, ◌||◌, List, map, ◌≡◌, eqb, get_or, Option, Some, None, Result}
use Rattle.loops.specs.Loops.{pick, all}
use Rattle.sector.specs.Bytes.{same, same_at}
use Rattle.vdisk.specs.Drive.{place_of, dir_kind_of}
use Rattle.vdisk.specs.Owner.{owner_of}
use Rattle.vdisk.specs.declared.drive.Place.{Place}
use Rattle.vdisk.specs.declared.drive.Place.TheVariants.{Boot, Fat, Root, Data, Outside}
use Rattle.vdisk.specs.declared.owner.Own.{Own}
use Rattle.vdisk.specs.declared.owner.Own.TheVariants.{Reserved, Fixed, Dyn, Free}
use Rattle.file_table.specs.Files.{id_of, dir_slot_of, start_of, size_of, with_ids}
use Rattle.file_table.specs.declared.VF.{VF}
use Rattle.refusals.specs.Refusals.{told, value_or}
use Rattle.refusals.specs.declared.Refusal.{Refusal}
use Rattle.state.specs.Setters.{with_boot}
use Rattle.state.specs.declared.w.W.{W}
use Rattle.clusters.specs.Clusters.{host_cluster}
use Rattle.fat_sectors.specs.Fat.{FatWrite, fat_write, fat_number, fat_state, fat_ids}
use Rattle.root_sectors.specs.Root.{RootWrite, root_write, root_number, root_state, root_changed}
use Rattle.dir_sectors.specs.Dir.{DirWrite, dir_write, dir_number, dir_ids, dir_changed}
use Rattle.staging.specs.Staging.{StageWrite, Staged, stage}

-- A written sector: its place, the sector shown and written, the busy flag, the medium, and the table's columns.
pub record SectorWrite : Type 0 where
  pub lba : ℕ
  pub shown : List ℕ
  pub written : List ℕ
  pub busy : Bool
  pub fat : List ℕ
  pub area : List ℕ
  pub ids : List ℕ
  pub slots : List ℕ
  pub starts : List ℕ
  pub sizes : List ℕ

abbrev pub sector_write : ℕ → List ℕ → List ℕ → Bool → List ℕ → List ℕ → List ℕ → List ℕ → List ℕ → List ℕ → SectorWrite
sector_write lba shown written busy fat area ids slots starts sizes =
    record { lba = lba; shown = shown; written = written; busy = busy; fat = fat; area = area; ids = ids; slots = slots; starts = starts; sizes = sizes }

-- of a lent table
abbrev pub files_write : ℕ → List ℕ → List ℕ → Bool → List ℕ → List ℕ → List VF → SectorWrite
files_write lba shown written busy fat area files =
    sector_write lba shown written busy fat area (map id_of files) (map dir_slot_of files) (map start_of files) (map size_of files)

-- How it was judged: the refusal number, 0 where it is taken; whether that opens the session; the state, the table's ids and the data area then.
pub record Outcome : Type 0 where
  pub number : ℕ
  pub changed : Bool
  pub w : W
  pub ids : List ℕ
  pub area : List ℕ

-- A call that judges leaves that: what it tells, the state, the files with these ids, the data area.
pub record Leaves (o : Outcome) (files : List VF) (told_by : Result Bool Refusal) (w_left : W) (files_left : List VF) (area_left : List ℕ) : Type 0 where
  pub number : told told_by ≡ o.number
  pub changed : value_or false told_by ≡ o.changed
  pub state : w_left ≡ o.w
  pub table : files_left ≡ with_ids files o.ids
  pub medium : area_left ≡ o.area

abbrev pub refused : SectorWrite → W → ℕ → Outcome
refused x w n = record { number = n; changed = false; w = w; ids = x.ids; area = x.area }

-- a sector equal to the shown one is accepted unchanged, else its handler
unfoldable pub unless_shown : SectorWrite → W → Outcome → Outcome
unless_shown x w o =
    pick (same x.shown x.written) (record { number = 0; changed = false; w = w; ids = x.ids; area = x.area }) o

-- Boot: only byte 0x25 may differ; it is kept.
unfoldable pub boot_passes : List ℕ → List ℕ → Bool
boot_passes shown written = all (λ i. eqb i 0x25 || same_at shown written i) 512 0

unfoldable pub boot : SectorWrite → W → Outcome
boot x w =
    pick (boot_passes x.shown x.written)
    (record { number = 0; changed = true; w = with_boot w (get_or x.written 0x25 0); ids = x.ids; area = x.area })
    (refused x w 3)

-- FAT: sector s of either copy
abbrev pub fat_of : SectorWrite → W → ℕ → FatWrite
fat_of x w s = fat_write x.ids x.starts x.sizes w.first w.pair s x.shown x.written

unfoldable pub fat : SectorWrite → W → ℕ → Outcome
fat x w s =
    record { number = fat_number (fat_of x w s); changed = eqb (fat_number (fat_of x w s)) 0; w = fat_state (fat_of x w s) w; ids = fat_ids (fat_of x w s); area = x.area }

-- Root
abbrev pub root_of : SectorWrite → W → ℕ → RootWrite
root_of x w s = root_write x.ids x.starts x.sizes w.first w.pair w.rec s x.shown x.written

unfoldable pub root : SectorWrite → W → ℕ → Outcome
root x w s =
    record { number = root_number (root_of x w s); changed = root_changed (root_of x w s); w = root_state (root_of x w s) w; ids = x.ids; area = x.area }

-- Directory: sector s of directory k
abbrev pub dir_of : SectorWrite → ℕ → ℕ → DirWrite
dir_of x k s = dir_write x.ids x.slots x.starts x.sizes k s x.shown x.written

unfoldable pub dir : SectorWrite → W → ℕ → ℕ → Outcome
dir x w k s =
    record { number = dir_number (dir_of x k s); changed = dir_changed (dir_of x k s); w = w; ids = dir_ids (dir_of x k s) x.fat x.area w.st; area = x.area }

-- Other data: 5 or 13
unfoldable pub data_number : Own → ℕ
data_number Reserved = 5
data_number Fixed = 5
data_number (Dyn j) = 13
data_number Free = 13

abbrev pub owner_in : SectorWrite → W → ℕ → Own
owner_in x w c = owner_of x.starts x.sizes w.first c

unfoldable pub other_data : SectorWrite → W → ℕ → Outcome
other_data x w c = refused x w (data_number (owner_in x w c))

-- Staging: sector s of a host cluster
abbrev pub stage_of : SectorWrite → ℕ → ℕ → StageWrite
stage_of x c s =
    record { c = c; s = s; written = x.written; busy = x.busy; fat = x.fat; area = x.area; ids = x.ids; starts = x.starts; sizes = x.sizes }

abbrev pub outcome_of : Staged → Outcome
outcome_of r = record { number = r.number; changed = r.changed; w = r.w; ids = r.ids; area = r.area }

-- A host cluster (Free, or in a file and not live) is staged.
unfoldable pub cluster : SectorWrite → W → ℕ → ℕ → Option ℕ → Outcome
cluster x w c s (Some k) = unless_shown x w (dir x w k s)
cluster x w c s None =
    pick (host_cluster x.ids x.starts x.sizes w.first w.pair c) (outcome_of (stage (stage_of x c s) w)) (unless_shown x w (other_data x w c))

unfoldable pub at_place : SectorWrite → W → Place → Outcome
at_place x w Boot = unless_shown x w (boot x w)
at_place x w (Fat s) = unless_shown x w (fat x w s)
at_place x w (Root s) = unless_shown x w (root x w s)
at_place x w (Data c s) = cluster x w c s (dir_kind_of c)
at_place x w Outside = refused x w 2

-- `classify`
unfoldable pub classify : SectorWrite → W → Outcome
classify x w = at_place x w (place_of x.lba)
