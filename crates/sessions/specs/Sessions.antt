-- Starts, bus resets, the mode, and what was handed (document 01, "The drive" and "Judging a sector").
use Rattle.std.specs.Prelude.{ℕ, ◌<◌, Bool, true, false, not, ◌&&◌, List, ◌≡◌, leb, ltb, length, get_or, set, Option, Some, None}
use Rattle.loops.specs.Loops.{pick}
use Rattle.bits.specs.Bit.{set_bit}
use Rattle.vdisk.specs.Ids.{handed}
use Rattle.file_table.specs.Table.{Table, max_files, accepts}
use Rattle.state.specs.State.{initial}
use Rattle.state.specs.Setters.{with_rw, with_want_rw}
use Rattle.state.specs.declared.w.W.{W}
use Rattle.release.specs.Release.{Lending, Ended, release_all, fits, turned_down}

-- `set_read_only`: the mode is asked for, and is in force from the next bus reset on
unfoldable pub set_read_only : W → Bool → W
set_read_only w on = with_want_rw w (not on)

-- `read_only`, and its pending form
abbrev pub read_only : W → Bool
read_only w = not w.rw

abbrev pub read_only_pending : W → Bool
read_only_pending w = not w.want_rw

-- vwrite's `on_bus_reset`: the mode that was asked for is in force
unfoldable pub mode_reset : W → W
mode_reset w = with_rw w w.want_rw

-- vdisk's: the session is released first
unfoldable pub bus_reset : Lending → W → Ended
bus_reset x w =
    record { number = 0; ended = 1; had = (release_all x w true).had; w = mode_reset (release_all x w true).w; ids = (release_all x w true).ids }

unfoldable pub bus_reset_call : Lending → W → Ended
bus_reset_call x w = pick (fits x) (bus_reset x w) (turned_down x w 10)

-- what a report leaves
pub record Reported : Type 0 where
  pub number : ℕ
  pub ids : List ℕ

-- report gone of a row: 10 for more than 400 files, 21 for a row that isn't in the table or whose file isn't handed
unfoldable pub report_gone : List ℕ → ℕ → Reported
report_gone ids j =
    pick (leb (length ids) max_files)
    (pick (ltb j (length ids) && handed (get_or ids j 0))
    (record { number = 0; ids = set ids j (set_bit (get_or ids j 0) 14) })
    (record { number = 21; ids = ids }))
    (record { number = 10; ids = ids })

-- the finder answers the row of a handed file, any one; none only where none is
unfoldable pub Finds : List ℕ → Option ℕ → Type 0
Finds ids (Some j) = (j < length ids) × (handed (get_or ids j 0) ≡ true)
Finds ids None = (j : ℕ) → j < length ids → handed (get_or ids j 0) ≡ false

-- a start takes the table only if it is acceptable (10 otherwise, and the old table and state go on), and sets the state anew
pub record Started : Type 0 where
  pub number : ℕ
  pub w : W

unfoldable pub start : Table → W → Started
start t w = pick (accepts t) (record { number = 0; w = initial t.first }) (record { number = 10; w = w })
