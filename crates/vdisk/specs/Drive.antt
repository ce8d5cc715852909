-- The drive's layout (document 01, "The drive" and "Corners of vdisk.rs").
use Rattle.std.specs.Prelude.{ℕ, ◌+◌, ◌-◌, ◌/◌, ◌%◌, leb, ltb, eqb, Option, Some, None}
use Rattle.loops.specs.Loops.{pick}
use Rattle.vdisk.specs.declared.drive.Place.{Place}
use Rattle.vdisk.specs.declared.drive.Place.TheVariants.{Boot, Fat, Root, Data, Outside}

-- 4,160,541 sectors in all
abbrev pub total : ℕ
total = 4160541

-- clusters are numbered from 2; 65,001 is the last
abbrev pub last_cluster : ℕ
last_cluster = 65001

-- Sector 0 boot; 1 to 254 and 255 to 508 two copies of the FAT, judged alike; 509 to 540 root; from 541 data, 64 sectors a cluster;
-- 4,160,541 sectors in all.
unfoldable pub place_of : ℕ → Place
place_of lba =
    pick (eqb lba 0) Boot
    (pick (leb lba 254) (Fat (lba - 1))
    (pick (leb lba 508) (Fat (lba - 255))
    (pick (leb lba 540) (Root (lba - 509))
    (pick (ltb lba total) (Data ((lba - 541) / 64 + 2) ((lba - 541) % 64))
    Outside))))

-- `nclus`: clusters of 32,768 bytes, the last one begun counted
unfoldable pub clusters_of : ℕ → ℕ
clusters_of size = (size + 32767) / 32768

-- `dir_kind`: clusters 2 and 3 give 3; 4, 5, 6 give 0 (LOGS), 1 (SCOPE), 2 (SHOTS)
unfoldable pub dir_kind_of : ℕ → Option ℕ
dir_kind_of c =
    pick (eqb c 2) (Some 3)
    (pick (eqb c 3) (Some 3)
    (pick (eqb c 4) (Some 0)
    (pick (eqb c 5) (Some 1)
    (pick (eqb c 6) (Some 2)
    None))))
