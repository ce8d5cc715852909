-- Entry values (the FAT specification's FAT16 entries; document 01, "Corners of vwrite.rs").
use Rattle.std.specs.Prelude.{ℕ, ◌%◌, Bool, ◌&&◌, ◌||◌, leb, eqb}
use Rattle.vdisk.specs.Drive.{last_cluster}

-- FAT[1] changed passes only if its low 14 bits are all ones
unfoldable pub fat1_passes : ℕ → Bool
fat1_passes v = eqb (v % 0x4000) 0x3FFF

-- Host entry values: 0, 2 to 65,001, and 0xFFF8 up pass
unfoldable pub host_value : ℕ → Bool
host_value v = eqb v 0 || (leb 2 v && leb v last_cluster) || leb 0xFFF8 v
