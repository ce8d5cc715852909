-- The fifteen values that document 01 names for `nclus`, FAT[1] and host entries.
use Rattle.std.specs.Prelude.{ℕ, Bool, true, false, List, [], ◌∷◌, ◌≡◌, refl}
use Rattle.vdisk.specs.Drive.{clusters_of}
use Rattle.fat_sectors.specs.Values.{fat1_passes, host_value}

-- `nclus`: 0 gives 0, 1 and 32,768 give 1, 32,769 gives 2, 917,504 gives 28, 917,505 gives 29
abbrev pub clusters : List ℕ
clusters = clusters_of 0 ∷ clusters_of 1 ∷ clusters_of 32768 ∷ clusters_of 32769 ∷ clusters_of 917504 ∷ clusters_of 917505 ∷ []

-- FAT[1]: 0x3FFF yes, 0x7FFE no. Host entry values: 0, 2 to 65,001, and 0xFFF8 up pass; 1, 65,002 and 0xFFF7 don't.
abbrev pub passes : List Bool
passes =
    fat1_passes 0x3FFF ∷ fat1_passes 0x7FFE
    ∷ host_value 0 ∷ host_value 2 ∷ host_value 65001 ∷ host_value 0xFFF8 ∷ host_value 1 ∷ host_value 65002 ∷ host_value 0xFFF7 ∷ []

pub named-values : (clusters ≡ 0 ∷ 1 ∷ 1 ∷ 2 ∷ 28 ∷ 29 ∷ []) × (passes ≡ true ∷ false ∷ true ∷ true ∷ true ∷ true ∷ false ∷ false ∷ false ∷ [])
unfolding clusters_of fat1_passes host_value
named-values = (refl, refl)
