-- What the functions of a slot are given, and what they answer and leave.
use Rattle.std.specs.Prelude.{ℕ, Bool, false, List, [], ◌≡◌, get_or}
use Rattle.state.specs.State.{no_st}
use Rattle.state.specs.declared.w.St.{St}
use Rattle.state.specs.declared.w.W.{W}
use Rattle.staging.specs.Staging.{StageWrite, Staged, stage_write}

-- the slot at a place
abbrev pub slot_at : W → ℕ → St
slot_at w i = get_or w.st i no_st

-- a sector for cluster c, of no table: the marks of files are told apart
abbrev pub cluster_write : ℕ → ℕ → List ℕ → List ℕ → List ℕ → StageWrite
cluster_write c s written fat area = stage_write c s written false fat area [] [] []

-- a sector for a slot, whatever its cluster
abbrev pub slot_write : ℕ → List ℕ → List ℕ → List ℕ → StageWrite
slot_write s written fat area = cluster_write 0 s written fat area

-- what is told, whether that opens the session, the state and the data area are those of a sector that is staged
pub record Meets (o : Staged) (told : ℕ) (opens : Bool) (w : W) (area : List ℕ) : Type 0 where
  pub number : told ≡ o.number
  pub changed : opens ≡ o.changed
  pub state : w ≡ o.w
  pub medium : area ≡ o.area
