-- What every call keeps of the table's marks and of the state: a pair or a staging slot stands on a file's cluster only where the file is
-- marked freed; rows stay, with the bits below their marks.
use Rattle.std.specs.Prelude.{ℕ, ◌%◌, ◌<◌, true, List, ◌≡◌, length, get_or}
use Rattle.vdisk.specs.Ids.{freed}
use Rattle.vdisk.specs.Owner.{owner_of}
use Rattle.vdisk.specs.declared.owner.Own.TheVariants.{Dyn}
use Rattle.file_table.specs.Table.{Table}
use Rattle.state.specs.State.{pair0, no_st}
use Rattle.state.specs.declared.w.W.{W}

-- cluster c is of no file, or of one that is marked freed
abbrev pub FreedAt : Table → List ℕ → ℕ → Type 0
FreedAt t ids c = (j : ℕ) → owner_of t.starts t.sizes t.first c ≡ Dyn j → freed (get_or ids j 0) ≡ true

pub record Kept (t : Table) (ids : List ℕ) (w : W) : Type 0 where
  pub rows : length ids ≡ length t.ids
  pub first : w.first ≡ t.first
  pub names : (j : ℕ) → j < length t.ids → get_or ids j 0 % 4096 ≡ get_or t.ids j 0 % 4096
  pub pairs : (i : ℕ) → FreedAt t ids (get_or w.pair i pair0).c
  pub slots : (i : ℕ) → FreedAt t ids (get_or w.st i no_st).c
