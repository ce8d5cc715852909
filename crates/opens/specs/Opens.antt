-- Which taken sectors open the session (document 01, "Judging a sector"): all "unless the sector was accepted unchanged or nothing but dropped
-- dates changed".
use Rattle.std.specs.Prelude.{ℕ, ◌+◌, ◌*◌, Bool, false, not, ◌&&◌, ◌||◌, leb, Option, Some, None}
use Rattle.loops.specs.Loops.{pick}
use Rattle.vdisk.specs.Drive.{place_of, dir_kind_of}
use Rattle.vdisk.specs.declared.drive.Place.{Place}
use Rattle.vdisk.specs.declared.drive.Place.TheVariants.{Boot, Fat, Root, Data, Outside}
use Rattle.state.specs.declared.w.W.{W}
use Rattle.judge.specs.Classify.{SectorWrite}
use Rattle.admits.specs.Bytes.{only_bytes, slot_of_byte, place_in_slot, date_byte}
use Rattle.admits.specs.Admits.{is_host, as_shown, slot_before, as_parked}

-- "accepted unchanged": of a host cluster, in a parked block and equal to what `staged_read` shows; elsewhere equal to the shown one
unfoldable pub unchanged_in : SectorWrite → W → ℕ → ℕ → Option ℕ → Bool
unchanged_in x w c s (Some k) = as_shown x
unchanged_in x w c s None = pick (is_host x w c) (as_parked x (slot_before w c) s) (as_shown x)

unfoldable pub unchanged_at : SectorWrite → W → Place → Bool
unchanged_at x w Boot = as_shown x
unchanged_at x w (Fat s) = as_shown x
unchanged_at x w (Root s) = as_shown x
unchanged_at x w (Data c s) = unchanged_in x w c s (dir_kind_of c)
unchanged_at x w Outside = false

-- "nothing but dropped dates changed": dates of root slots 0 to 6, or of a directory's slots
unfoldable pub dates_in : SectorWrite → Option ℕ → Bool
dates_in x (Some k) = only_bytes x (λ n. date_byte (place_in_slot n))
dates_in x None = false

unfoldable pub dates_at : SectorWrite → Place → Bool
dates_at x Boot = false
dates_at x (Fat s) = false
dates_at x (Root s) = only_bytes x (λ n. leb (s * 16 + slot_of_byte n) 6 && date_byte (place_in_slot n))
dates_at x (Data c s) = dates_in x (dir_kind_of c)
dates_at x Outside = false

unfoldable pub opens_at : SectorWrite → W → Place → Bool
opens_at x w p = not (unchanged_at x w p || dates_at x p)

unfoldable pub opens : SectorWrite → W → Bool
opens x w = opens_at x w (place_of x.lba)
