-- Who owns a cluster (document 01, "Corners of vdisk.rs"), over the columns of the table's starts and shown sizes.
use Rattle.std.specs.Prelude.{ℕ, ◌+◌, ◌-◌, Bool, ◌||◌, List, leb, ltb, eqb, length, get_or}
use Rattle.loops.specs.Loops.{pick, all, last}
use Rattle.vdisk.specs.Drive.{clusters_of, last_cluster}
use Rattle.vdisk.specs.declared.owner.Own.{Own}
use Rattle.vdisk.specs.declared.owner.Own.TheVariants.{Reserved, Fixed, Dyn, Free}

-- file j starts at or before c
abbrev pub starts_by : List ℕ → ℕ → ℕ → Bool
starts_by starts c j = leb (get_or starts j 0) c

-- one past the last file whose start is at most c, 0 where there is none
unfoldable pub up_to : List ℕ → ℕ → ℕ
up_to starts c = last (starts_by starts c) (length starts)

-- of the first n files the last, if c lies in its clusters; else Free
unfoldable pub owner_at : ℕ → List ℕ → List ℕ → ℕ → Own
owner_at n starts sizes c =
    pick (eqb n 0) Free
    (pick (ltb c (get_or starts (n - 1) 0 + clusters_of (get_or sizes (n - 1) 0))) (Dyn (n - 1)) Free)

-- `owner`: below 2 or from 65,002 up Reserved; below the first session cluster Fixed; then the last file whose start is at most c, if c
-- lies in its clusters; else Free
unfoldable pub owner_of : List ℕ → List ℕ → ℕ → ℕ → Own
owner_of starts sizes first c =
    pick (ltb c 2 || ltb last_cluster c) Reserved
    (pick (ltb c first) Fixed
    (owner_at (up_to starts c) starts sizes c))

-- starts rise strictly
abbrev pub rises_at : List ℕ → ℕ → Bool
rises_at starts j = ltb (get_or starts j 0) (get_or starts (j + 1) 0)

unfoldable pub rises : List ℕ → Bool
rises starts = all (rises_at starts) (length starts - 1) 0
