-- How a written FAT sector is judged (document 01, "Judging a sector").
use Rattle.std.specs.Prelude.{ℕ, ◌+◌, ◌*◌, Bool, false, not, ◌&&◌, ◌||◌, List, map, ltb, eqb, Option, Some, None}
use Rattle.loops.specs.Loops.{pick, all, first, count, fold}
use Rattle.loops.specs.Rows.{rows}
use Rattle.loops.specs.Marks.{picked_by}
use Rattle.bits.specs.Bit.{set_bit}
use Rattle.sector.specs.Bytes.{word}
use Rattle.vdisk.specs.Owner.{owner_of}
use Rattle.vdisk.specs.declared.owner.Own.{Own}
use Rattle.vdisk.specs.declared.owner.Own.TheVariants.{Reserved, Fixed, Dyn, Free}
use Rattle.file_table.specs.Files.{id_of, start_of, size_of}
use Rattle.file_table.specs.Table.{in_file}
use Rattle.file_table.specs.declared.VF.{VF}
use Rattle.state.specs.Pairs.{pair_idx, free_pairs, set_pair}
use Rattle.state.specs.Setters.{with_fat1}
use Rattle.state.specs.declared.w.Pair.{Pair}
use Rattle.state.specs.declared.w.W.{W}
use Rattle.clusters.specs.Clusters.{is_nothing, is_live, host_own}
use Rattle.fat_sectors.specs.Values.{fat1_passes, host_value}

-- A FAT sector as it is judged: the table's columns and first session cluster, the pairs, the sector's number, the sector shown and written.
pub record FatWrite : Type 0 where
  pub ids : List ℕ
  pub starts : List ℕ
  pub sizes : List ℕ
  pub first : ℕ
  pub pairs : List Pair
  pub s : ℕ
  pub shown : List ℕ
  pub written : List ℕ

abbrev pub fat_write : List ℕ → List ℕ → List ℕ → ℕ → List Pair → ℕ → List ℕ → List ℕ → FatWrite
fat_write ids starts sizes first pairs s shown written =
    record { ids = ids; starts = starts; sizes = sizes; first = first; pairs = pairs; s = s; shown = shown; written = written }

-- sector s over a lent table and in a state, as shown and as written
abbrev pub fat_in : List VF → W → ℕ → List ℕ → List ℕ → FatWrite
fat_in files w s shown written = fat_write (map id_of files) (map start_of files) (map size_of files) w.first w.pair s shown written

-- entry i of the sector: its cluster, and its value as written
abbrev pub cluster_at : FatWrite → ℕ → ℕ
cluster_at x i = x.s * 256 + i

abbrev pub value_at : FatWrite → ℕ → ℕ
value_at x i = word x.written (i * 2)

abbrev pub changed_at : FatWrite → ℕ → Bool
changed_at x i = not (eqb (word x.shown (i * 2)) (value_at x i))

abbrev pub owner_at : FatWrite → ℕ → Own
owner_at x i = owner_of x.starts x.sizes x.first (cluster_at x i)

-- all entries of file j in this sector are written 0
unfoldable pub zeroed_at : FatWrite → ℕ → ℕ → Bool
zeroed_at x j i = not (in_file x.starts x.sizes j (cluster_at x i)) || eqb (value_at x i) 0

unfoldable pub zeroes_file : FatWrite → ℕ → Bool
zeroes_file x j = all (zeroed_at x j) 256 0

-- a host cluster's entry: 6 where it has no host value
unfoldable pub host_number : ℕ → ℕ
host_number v = pick (host_value v) 0 6

-- 5 for a Reserved or Fixed cluster; 13 where a live file's entry doesn't become 0 with all its entries in this sector; 6
unfoldable pub own_number : FatWrite → ℕ → Own → ℕ
own_number x i Reserved = 5
own_number x i Fixed = 5
own_number x i (Dyn j) =
    pick (is_live x.ids x.pairs j (cluster_at x i)) (pick (eqb (value_at x i) 0 && zeroes_file x j) 0 13) (host_number (value_at x i))
own_number x i Free = host_number (value_at x i)

-- each changed entry tries 4, 5, 13, 6: FAT[0] changed is refused, FAT[1] by its value
unfoldable pub entry_number : FatWrite → ℕ → ℕ
entry_number x i =
    pick (changed_at x i)
    (pick (eqb (cluster_at x i) 0) 4
    (pick (eqb (cluster_at x i) 1) (pick (fat1_passes (value_at x i)) 0 4)
    (own_number x i (owner_at x i))))
    0

-- a changed entry of a host cluster that gets a value and has no pair needs a pair place
unfoldable pub needs_pair : FatWrite → ℕ → Bool
needs_pair x i =
    changed_at x i && host_own x.ids x.pairs (cluster_at x i) (owner_at x i) && not (eqb (value_at x i) 0) && is_nothing (pair_idx x.pairs (cluster_at x i))

abbrev pub refused_at : FatWrite → ℕ → Bool
refused_at x i = not (eqb (entry_number x i) 0)

-- changed entries rise: the first that is refused; then 14 where more pairs are needed than places were free before
unfoldable pub fat_number : FatWrite → ℕ
fat_number x =
    pick (ltb (first (refused_at x) 256 0) 256) (entry_number x (first (refused_at x) 256 0))
    (pick (ltb (free_pairs x.pairs) (count (needs_pair x) 256 0)) 14 0)

-- the file that a changed entry frees: a live file's
unfoldable pub freed_own : FatWrite → ℕ → Own → Option ℕ
freed_own x i Reserved = None
freed_own x i Fixed = None
freed_own x i (Dyn j) = pick (is_live x.ids x.pairs j (cluster_at x i)) (Some j) None
freed_own x i Free = None

unfoldable pub freed_by : FatWrite → ℕ → Option ℕ
freed_by x i = pick (changed_at x i) (freed_own x i (owner_at x i)) None

-- row j is freed by this sector
unfoldable pub frees_row : FatWrite → ℕ → Bool
frees_row x j = picked_by (freed_by x) 256 j

unfoldable pub freed_owner : FatWrite → Own → Bool
freed_owner x Reserved = false
freed_owner x Fixed = false
freed_owner x (Dyn j) = frees_row x j
freed_owner x Free = false

-- then FAT[1] and pairs are set, 0 removes the pair and its staging slot; a file that this sector frees gets no pair
unfoldable pub apply_at : FatWrite → ℕ → W → W
apply_at x i w =
    pick (changed_at x i)
    (pick (eqb (cluster_at x i) 1) (with_fat1 w (value_at x i + 65536))
    (pick (freed_owner x (owner_at x i)) w (set_pair w (cluster_at x i) (value_at x i))))
    w

unfoldable pub fat_state : FatWrite → W → W
fat_state x w = pick (eqb (fat_number x) 0) (fold (apply_at x) 256 0 w) w

-- and files are marked freed
unfoldable pub free_id : FatWrite → ℕ → ℕ → ℕ
free_id x j id = pick (frees_row x j) (set_bit id 13) id

unfoldable pub fat_ids : FatWrite → List ℕ
fat_ids x = pick (eqb (fat_number x) 0) (rows (free_id x) x.ids) x.ids
