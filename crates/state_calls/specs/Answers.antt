-- The answers of the calls that only read: an enum's, with this paper's number and the values of each case.
use Rattle.std.specs.Prelude.{ℕ, Bool, true, false, List, map, ltb, length, Option, Some, None}
use Rattle.loops.specs.Loops.{pick}
use Rattle.vdisk.specs.Owner.{owner_of}
use Rattle.vdisk.specs.declared.owner.Own.{Own}
use Rattle.file_table.specs.Table.{max_files}
use Rattle.file_table.specs.declared.VF.{VF}
use Rattle.file_table.specs.Files.{start_of, size_of}

-- is there a host's FAT entry of a cluster, and its value, 0 where there is none
pub record PairAnswer : Type 0 where
  pub found : Bool
  pub v : ℕ

unfoldable pub pair_answer : Option ℕ → PairAnswer
pair_answer (Some v) = record { found = true; v = v }
pair_answer None = record { found = false; v = 0 }

-- is a cluster a directory, and of which kind, 0 where it is none
pub record DirAnswer : Type 0 where
  pub found : Bool
  pub kind : ℕ

unfoldable pub dir_answer : Option ℕ → DirAnswer
dir_answer (Some k) = record { found = true; kind = k }
dir_answer None = record { found = false; kind = 0 }

-- the refusal number, the owner's number, and the row, 0 where it is no file's
pub record OwnAnswer : Type 0 where
  pub no : ℕ
  pub owner : ℕ
  pub row : ℕ

-- 0 Reserved, 1 Fixed, 2 a file and its row, 3 Free
unfoldable pub own_answer : Own → OwnAnswer
own_answer Own.Reserved = record { no = 0; owner = 0; row = 0 }
own_answer Own.Fixed = record { no = 0; owner = 1; row = 0 }
own_answer (Own.Dyn j) = record { no = 0; owner = 2; row = j }
own_answer Own.Free = record { no = 0; owner = 3; row = 0 }

abbrev pub refused_owner : OwnAnswer
refused_owner = record { no = 10; owner = 0; row = 0 }

-- 10 more than 400 files
unfoldable pub files_owner : List VF → ℕ → ℕ → OwnAnswer
files_owner files first c = pick (ltb max_files (length files)) refused_owner (own_answer (owner_of (map start_of files) (map size_of files) first c))
