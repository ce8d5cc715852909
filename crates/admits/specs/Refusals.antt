-- The refusal number of a sector that isn't admitted, place by place (document 01, "Judging a sector" and the two lists of refusals).
use Rattle.std.specs.Prelude.{ℕ, ◌+◌, ◌*◌, not, ◌&&◌, ◌||◌, leb, Option, Some, None}
use Rattle.loops.specs.Loops.{pick, all, first}
use Rattle.vdisk.specs.Drive.{place_of, dir_kind_of}
use Rattle.vdisk.specs.declared.drive.Place.{Place}
use Rattle.vdisk.specs.declared.drive.Place.TheVariants.{Boot, Fat, Root, Data, Outside}
use Rattle.vdisk.specs.declared.owner.Own.{Own}
use Rattle.vdisk.specs.declared.owner.Own.TheVariants.{Reserved, Fixed, Dyn, Free}
use Rattle.vdisk.specs.Owner.{owner_of}
use Rattle.state.specs.declared.w.W.{W}
use Rattle.medium.specs.Medium.{is_medium}
use Rattle.clusters.specs.Clusters.{is_live}
use Rattle.judge.specs.Classify.{SectorWrite}
use Rattle.admits.specs.Bytes.{byte_as_shown, only_bytes, slot_of_byte}
use Rattle.admits.specs.Admits.{is_host, entry_cluster, entry_owner, entry_admits, root_byte, is_place, slot_place, slot_before, needs_block, hint_of, some_free, whole_both, few_files}

-- "changed entries rise; each tries 4, 5, 13, 6; then 14": the number of an entry that isn't admitted
unfoldable pub own_refusal : SectorWrite → W → ℕ → ℕ → Own → ℕ
own_refusal x w s i Reserved = 5
own_refusal x w s i Fixed = 5
own_refusal x w s i (Dyn j) = pick (is_live x.ids w.pair j (entry_cluster s i)) 13 6
own_refusal x w s i Free = 6

unfoldable pub entry_refusal : SectorWrite → W → ℕ → ℕ → ℕ
entry_refusal x w s i = pick (leb (entry_cluster s i) 1) 4 (own_refusal x w s i (entry_owner x w s i))

-- the first of them that isn't; where all are, places are missing
unfoldable pub fat_refusal : SectorWrite → W → ℕ → ℕ
fat_refusal x w s =
    pick (all (entry_admits x w s) 256 0) 14 (entry_refusal x w s (first (λ i. not (entry_admits x w s i)) 256 0))

-- 7 for a root slot 0 to 6, 8 for one not admitted, by the first byte that differs and may not; "then 15"
unfoldable pub root_refusal : SectorWrite → W → ℕ → ℕ
root_refusal x w s =
    pick (only_bytes x (root_byte x w s)) 15
    (pick (leb (s * 16 + slot_of_byte (first (λ n. not (byte_as_shown x n || root_byte x w s n)) 512 0)) 6) 7 8)

-- Staging: "19; the slot, else the first free of 28, else 16; .. 17; the first FAT entry of 0 from the hint if there is no block or it is parked,
-- else 18"; "a held number outside the medium is 17"
unfoldable pub stage_refusal : SectorWrite → W → ℕ → ℕ → ℕ
stage_refusal x w c s =
    pick x.busy 19
    (pick (not (is_place (slot_place w.st c))) 16
    (pick (not (is_medium x.fat x.area)) 17
    (pick (needs_block (slot_before w c) s && not (some_free x.fat (hint_of w))) 18 17)))

-- Other data: "5 or 13"
unfoldable pub data_refusal : Own → ℕ
data_refusal Reserved = 5
data_refusal Fixed = 5
data_refusal (Dyn j) = 13
data_refusal Free = 13

unfoldable pub cluster_refusal : SectorWrite → W → ℕ → ℕ → Option ℕ → ℕ
cluster_refusal x w c s (Some k) = 9
cluster_refusal x w c s None = pick (is_host x w c) (stage_refusal x w c s) (data_refusal (owner_of x.starts x.sizes w.first c))

unfoldable pub place_refusal : SectorWrite → W → Place → ℕ
place_refusal x w Boot = 3
place_refusal x w (Fat s) = fat_refusal x w s
place_refusal x w (Root s) = root_refusal x w s
place_refusal x w (Data c s) = cluster_refusal x w c s (dir_kind_of c)
place_refusal x w Outside = 2

-- "Order: 1, 10, 12, 2"
unfoldable pub refusal : SectorWrite → W → ℕ
refusal x w =
    pick (not (whole_both x)) 1
    (pick (not (few_files x)) 10
    (pick (not w.rw) 12
    (place_refusal x w (place_of x.lba))))
