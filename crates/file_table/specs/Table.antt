-- The file table by columns, and which tables a start takes (document 01, "The drive").
use Rattle.std.specs.Prelude.{ℕ, ◌+◌, Bool, not, ◌&&◌, ◌||◌, List, map, eqb, ltb, leb, get_or, length}
use Rattle.loops.specs.Loops.{all, some}
use Rattle.vdisk.specs.Drive.{clusters_of, last_cluster}
use Rattle.vdisk.specs.Ids.{unmarked, id_dir_of, same_name}
use Rattle.vdisk.specs.Owner.{rises}
use Rattle.file_table.specs.declared.VF.{VF}
use Rattle.file_table.specs.Files.{id_of, dir_slot_of, start_of, size_of}

-- The columns of the table that the rules read, and the first session cluster.
pub record Table : Type 0 where
  pub ids : List ℕ
  pub slots : List ℕ
  pub starts : List ℕ
  pub sizes : List ℕ
  pub first : ℕ

abbrev pub table_of : List ℕ → List ℕ → List ℕ → List ℕ → ℕ → Table
table_of ids slots starts sizes first = record { ids = ids; slots = slots; starts = starts; sizes = sizes; first = first }

-- the columns of a list of files
abbrev pub columns : List VF → ℕ → Table
columns files first =
    table_of (map id_of files) (map dir_slot_of files) (map start_of files) (map size_of files) first

-- The file table has up to 400 files
abbrev pub max_files : ℕ
max_files = 400

-- each column has as many rows as there are ids
unfoldable pub whole_columns : Table → Bool
whole_columns t =
    eqb (length t.slots) (length t.ids) && eqb (length t.starts) (length t.ids) && eqb (length t.sizes) (length t.ids)

-- it is unmarked
abbrev pub unmarked_at : List ℕ → ℕ → Bool
unmarked_at ids j = unmarked (get_or ids j 0)

unfoldable pub all_unmarked : List ℕ → Bool
all_unmarked ids = all (unmarked_at ids) (length ids) 0

-- cluster c is one of file j's
unfoldable pub in_file : List ℕ → List ℕ → ℕ → ℕ → Bool
in_file starts sizes j c = leb (get_or starts j 0) c && ltb c (get_or starts j 0 + clusters_of (get_or sizes j 0))

-- no start lies in another file's clusters
abbrev pub apart_at : List ℕ → List ℕ → ℕ → ℕ → Bool
apart_at starts sizes i j = eqb i j || not (in_file starts sizes i (get_or starts j 0))

unfoldable pub starts_apart : List ℕ → List ℕ → Bool
starts_apart starts sizes = all (λ i. all (apart_at starts sizes i) (length starts) 0) (length starts) 0

-- n clusters from a start on lie from the first session cluster to 65,001
unfoldable pub clusters_in : ℕ → ℕ → ℕ → Bool
clusters_in first start n = all (λ k. leb first (start + k) && leb (start + k) last_cluster) n 0

-- all clusters lie from the first session cluster to 65,001
abbrev pub file_in : List ℕ → List ℕ → ℕ → ℕ → Bool
file_in starts sizes first j = clusters_in first (get_or starts j 0) (clusters_of (get_or sizes j 0))

unfoldable pub all_in : List ℕ → List ℕ → ℕ → Bool
all_in starts sizes first = all (file_in starts sizes first) (length starts) 0

-- the first session cluster is 7 to 65,002
unfoldable pub first_fits : ℕ → Bool
first_fits first = leb 7 first && leb first 65002

-- starts rise strictly, no start lies in another file's clusters, all clusters lie from the first session cluster (7 to 65,002) to 65,001
unfoldable pub clusters_fit : List ℕ → List ℕ → ℕ → Bool
clusters_fit starts sizes first = rises starts && starts_apart starts sizes && first_fits first && all_in starts sizes first

-- file j shares kind and number with a file before it
unfoldable pub shares_name : List ℕ → ℕ → Bool
shares_name ids j = some (λ i. same_name (get_or ids i 0) (get_or ids j 0)) j 0

-- file j shares shown directory and slot with a file before it
unfoldable pub same_place : List ℕ → List ℕ → ℕ → ℕ → Bool
same_place ids slots i j = eqb (id_dir_of (get_or ids i 0)) (id_dir_of (get_or ids j 0)) && eqb (get_or slots i 0) (get_or slots j 0)

unfoldable pub shares_place : List ℕ → List ℕ → ℕ → Bool
shares_place ids slots j = some (λ i. same_place ids slots i j) j 0

-- no two files share kind and number, or shown directory and slot
unfoldable pub names_apart : List ℕ → Bool
names_apart ids = all (λ j. not (shares_name ids j)) (length ids) 0

unfoldable pub places_apart : List ℕ → List ℕ → Bool
places_apart ids slots = all (λ j. not (shares_place ids slots j)) (length ids) 0

-- a start call takes the table only if it is unmarked, starts rise strictly, no start lies in another file's clusters, all clusters lie
-- from the first session cluster (7 to 65,002) to 65,001, and no two files share kind and number, or shown directory and slot
unfoldable pub accepts : Table → Bool
accepts t =
    whole_columns t
    && leb (length t.ids) max_files
    && all_unmarked t.ids
    && clusters_fit t.starts t.sizes t.first
    && names_apart t.ids
    && places_apart t.ids t.slots
