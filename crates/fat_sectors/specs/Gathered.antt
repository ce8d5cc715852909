-- What the code holds of a written FAT sector, and what it gathers of its entries.
use Rattle.std.specs.Prelude.{ℕ, ◌<◌, Bool, true, false, not, List, map, ◌≡◌, eqb, get_or, Option, Some, None, Result, Ok, Err}
use Rattle.loops.specs.Loops.{some, count}
use Rattle.loops.specs.Marks.{Marks}
use Rattle.vdisk.specs.declared.owner.Own.{Own}
use Rattle.vdisk.specs.declared.owner.Own.TheVariants.{Reserved, Fixed, Dyn, Free}
use Rattle.file_table.specs.Files.{id_of, start_of, size_of}
use Rattle.file_table.specs.Table.{max_files}
use Rattle.clusters.specs.Clusters.{is_nothing}
use Rattle.refusals.specs.Refusals.{number_of}
use Rattle.refusals.specs.declared.Refusal.{Refusal}
use Rattle.fat_sectors.specs.Fat.{FatWrite, fat_write, zeroes_file, entry_number, needs_pair, fat_number, freed_by}
use Rattle.fat_sectors.specs.declared.fat_sector.FatSector.{FatSector}
use Rattle.fat_sectors.specs.declared.entries.Entry.{Entry}
use Rattle.fat_sectors.specs.declared.entries.Entry.TheVariants.{Passes, NeedsPair, Frees}
use Rattle.fat_sectors.specs.declared.gathered.Gathered.{Gathered}

-- the sector that is judged
abbrev pub judged_as : FatSector → FatWrite
judged_as x =
    fat_write (map id_of x.files.rows.now) (map start_of x.files.rows.now) (map size_of x.files.rows.now) x.files.first x.pair.now x.s x.sectors.shown.now x.sectors.written.now

-- what an entry does: it needs a place for a pair, it frees a row
abbrev pub needs : Entry → Bool
needs Passes = false
needs NeedsPair = true
needs (Frees j) = false

abbrev pub frees : Entry → Option ℕ
frees Passes = None
frees NeedsPair = None
frees (Frees j) = Some j

-- each file whose row is marked 1 has all its entries in this sector written 0
abbrev pub AreZeroed : FatWrite → List ℕ → Type 0
AreZeroed x rows = (j : ℕ) → get_or rows j 0 ≡ 1 → zeroes_file x j ≡ true

-- entry i frees a row
unfoldable pub frees_at : FatWrite → ℕ → Bool
frees_at x i = not (is_nothing (freed_by x i))

-- none of the first n entries is refused, so many of them need a pair, the rows that they free are marked, and whether one frees a row is told
pub record GatheredTo (x : FatWrite) (n : ℕ) (g : Gathered) : Type 0 where
  pub taken : (i : ℕ) → i < n → entry_number x i ≡ 0
  pub need : g.need ≡ count (needs_pair x) n 0
  pub marks : Marks (freed_by x) max_files n g.rows
  pub zeroed : AreZeroed x g.rows
  pub any : g.any ≡ some (frees_at x) n 0

-- of all entries: a sector that is taken with the rows that it frees and whether there are any, or the number of its refusal
abbrev pub GatheredAs : FatWrite → Result Gathered Refusal → Type 0
GatheredAs x (Ok g) = (fat_number x ≡ 0) × Marks (freed_by x) max_files 256 g.rows × (g.any ≡ some (frees_at x) 256 0)
GatheredAs x (Err e) = number_of e ≡ fat_number x

-- the owner is a file whose row is marked 1
unfoldable pub marked_owner : List ℕ → Own → Bool
marked_owner rows Reserved = false
marked_owner rows Fixed = false
marked_owner rows (Dyn j) = eqb (get_or rows j 0) 1
marked_owner rows Free = false
