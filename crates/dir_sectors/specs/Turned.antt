-- What the code of a directory sector gathers.
use Rattle.std.specs.Prelude.{ℕ, ◌<◌, ◌≤◌, List, ◌≡◌, eqb, get_or, Result, Ok, Err}
use Rattle.loops.specs.Loops.{pick, some}
use Rattle.loops.specs.Marks.{Marks}
use Rattle.file_table.specs.Table.{max_files}
use Rattle.bits.specs.Bit.{set_bit}
use Rattle.state.specs.declared.w.St.{St}
use Rattle.medium.specs.Reads.{moved_ref}
use Rattle.refusals.specs.Refusals.{number_of}
use Rattle.refusals.specs.declared.Refusal.{Refusal}
use Rattle.dir_sectors.specs.Dir.{DirWrite, turned_by, is_found, dir_number}
use Rattle.dir_sectors.specs.declared.marks.Turns.{Turns}

-- no row is marked before `from`, nor from `end` on
abbrev pub Begins : List ℕ → ℕ → Type 0
Begins rows from = (k : ℕ) → k < from → get_or rows k 0 ≡ 0

abbrev pub Ends : List ℕ → ℕ → Type 0
Ends rows end = (k : ℕ) → end ≤ k → get_or rows k 0 ≡ 0

-- a sector that is taken: whether a slot turns a file, and the rows turned
pub record Turned (x : DirWrite) (t : Turns) : Type 0 where
  pub taken : dir_number x ≡ 0
  pub some-turn : t.any ≡ some (λ i. is_found (turned_by x i)) 16 0
  pub marks : Marks (turned_by x) max_files 16 t.rows
  pub begins : Begins t.rows t.from
  pub ends : Ends t.rows t.end

-- a sector that is refused
pub record Refused (x : DirWrite) (e : Refusal) : Type 0 where
  pub number : number_of e ≡ dir_number x
  pub refused : dir_number x ≡ 9

abbrev pub TurnsOf : DirWrite → Result Turns Refusal → Type 0
TurnsOf x (Ok t) = Turned x t
TurnsOf x (Err e) = Refused x e

-- a row marked 1 becomes turned, and moved where a staged sector names its file
unfoldable pub mark_id : List ℕ → List ℕ → List ℕ → List ℕ → List ℕ → List St → ℕ → ℕ → ℕ
mark_id rows starts sizes fat area st j id =
    pick (eqb (get_or rows j 0) 1) (pick (moved_ref fat area st (get_or starts j 0) (get_or sizes j 0)) (set_bit (set_bit id 12) 15) (set_bit id 12)) id
