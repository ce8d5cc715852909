-- What a written sector holds of a file (document 01, the sentences on demand 3). Turned and zeroed are read off the shown and written sector
-- alone, never off a mark or the state.
use Rattle.std.specs.Prelude.{ℕ, ◌+◌, ◌*◌, ◌/◌, ◌%◌, Bool, false, not, ◌&&◌, ◌||◌, List, eqb, get_or, Option, Some, None}
use Rattle.loops.specs.Loops.{all}
use Rattle.sector.specs.Bytes.{word, same, zeros}
use Rattle.vdisk.specs.Drive.{place_of, dir_kind_of}
use Rattle.vdisk.specs.Ids.{id_dir_of}
use Rattle.vdisk.specs.declared.drive.Place.{Place}
use Rattle.vdisk.specs.declared.drive.Place.TheVariants.{Boot, Fat, Root, Data, Outside}
use Rattle.file_table.specs.Table.{Table, in_file}
use Rattle.slots.specs.Slots.{turn_at, refers_to}
use Rattle.state.specs.State.{no_st}
use Rattle.state.specs.Staged.{slot_of}
use Rattle.state.specs.declared.w.St.{St}
use Rattle.state.specs.declared.w.W.{W}
use Rattle.clusters.specs.Clusters.{host_cluster}
use Rattle.medium.specs.Reads.{sector_of}
use Rattle.staging.specs.Blocks.{is_parked}
use Rattle.judge.specs.Classify.{SectorWrite}

-- the directory that shows file j, and its slot there; its start and shown size
abbrev pub dir_in : Table → ℕ → ℕ
dir_in t j = id_dir_of (get_or t.ids j 0)

abbrev pub slot_in : Table → ℕ → ℕ
slot_in t j = get_or t.slots j 0

abbrev pub start_in : Table → ℕ → ℕ
start_in t j = get_or t.starts j 0

abbrev pub size_in : Table → ℕ → ℕ
size_in t j = get_or t.sizes j 0

-- the file's slot stands in sector s of its directory and is turned there
unfoldable pub turned_in : Table → ℕ → ℕ → List ℕ → List ℕ → Bool
turned_in t j s shown written = eqb (slot_in t j / 16) s && turn_at shown written (slot_in t j % 16 * 32)

unfoldable pub turns_in : Table → ℕ → ℕ → List ℕ → List ℕ → Option ℕ → Bool
turns_in t j s shown written (Some k) = eqb (dir_in t j) k && turned_in t j s shown written
turns_in t j s shown written None = false

unfoldable pub turns_at : Table → ℕ → List ℕ → List ℕ → Place → Bool
turns_at t j shown written Boot = false
turns_at t j shown written (Fat s) = false
turns_at t j shown written (Root s) = false
turns_at t j shown written (Data c s) = turns_in t j s shown written (dir_kind_of c)
turns_at t j shown written Outside = false

-- turned by a turn of the file's slot
unfoldable pub turns_slot : Table → ℕ → SectorWrite → Bool
turns_slot t j x = turns_at t j x.shown x.written (place_of x.lba)

-- all entries of the file's clusters in FAT sector s are 0 in this sector
unfoldable pub zero_in : List ℕ → List ℕ → ℕ → ℕ → List ℕ → ℕ → Bool
zero_in starts sizes j s sector i = not (in_file starts sizes j (s * 256 + i)) || eqb (word sector (i * 2)) 0

unfoldable pub all_zero : List ℕ → List ℕ → ℕ → ℕ → List ℕ → Bool
all_zero starts sizes j s sector = all (zero_in starts sizes j s sector) 256 0

unfoldable pub zeroes_in : Table → ℕ → ℕ → List ℕ → List ℕ → Bool
zeroes_in t j s shown written = all_zero t.starts t.sizes j s written && not (all_zero t.starts t.sizes j s shown)

unfoldable pub zeroes_at : Table → ℕ → List ℕ → List ℕ → Place → Bool
zeroes_at t j shown written Boot = false
zeroes_at t j shown written (Fat s) = zeroes_in t j s shown written
zeroes_at t j shown written (Root s) = false
zeroes_at t j shown written (Data c s) = false
zeroes_at t j shown written Outside = false

-- zeroed where all entries of its clusters in that FAT sector are written 0 and one is shown otherwise
unfoldable pub zeroes_entries : Table → ℕ → SectorWrite → Bool
zeroes_entries t j x = zeroes_at t j x.shown x.written (place_of x.lba)

-- in a parked block a sector equal to what `staged_read` shows is accepted unchanged, so it isn't staged
unfoldable pub parked_same : List ℕ → List ℕ → List St → ℕ → List ℕ → Option ℕ → Bool
parked_same fat area st s written (Some i) = is_parked (get_or st i no_st) s && same (sector_of fat area (get_or st i no_st) s) written
parked_same fat area st s written None = false

-- A host cluster is staged, which goes by the state and the marks, as the judging does.
unfoldable pub stages_in : SectorWrite → W → ℕ → ℕ → Option ℕ → Bool
stages_in x w c s (Some k) = false
stages_in x w c s None =
    host_cluster x.ids x.starts x.sizes w.first w.pair c && not (parked_same x.fat x.area w.st s x.written (slot_of w.st c))

unfoldable pub stages_at : SectorWrite → W → Place → Bool
stages_at x w Boot = false
stages_at x w (Fat s) = false
stages_at x w (Root s) = false
stages_at x w (Data c s) = stages_in x w c s (dir_kind_of c)
stages_at x w Outside = false

-- non-zero data that names the file by its start and length
unfoldable pub data_names : Table → ℕ → List ℕ → Bool
data_names t j written = not (zeros written) && refers_to written (start_in t j) (size_in t j)

-- such data is staged
unfoldable pub stages_name : Table → ℕ → SectorWrite → W → Bool
stages_name t j x w = stages_at x w (place_of x.lba) && data_names t j x.written
