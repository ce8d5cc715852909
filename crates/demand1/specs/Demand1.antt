-- Demand 1 as a statement over `write`, the definition of a whole call. `Demand1`, at the end, says what is claimed of a sector write x and a
-- state w; `demand1` in Theorem proves it for all of them. What a call may touch is what `write` gives: the number, the state, the table's ids
-- and the data area.
use Rattle.std.specs.Prelude.{ℕ, Bool, true, false, ◌&&◌, ◌||◌, List, ◌≡◌, leb, eqb, set, Option, Some, None}
use Rattle.loops.specs.Loops.{pick}
use Rattle.num.specs.Num.{wrapping_next}
use Rattle.vdisk.specs.Drive.{place_of}
use Rattle.vdisk.specs.declared.drive.Place.{Place}
use Rattle.vdisk.specs.declared.drive.Place.TheVariants.{Boot, Fat, Root, Data, Outside}
use Rattle.state.specs.Setters.{with_err, with_n}
use Rattle.state.specs.Staged.{slot_of, free_slot}
use Rattle.state.specs.declared.w.St.{St}
use Rattle.state.specs.declared.w.Stats.{Stats}
use Rattle.state.specs.declared.w.W.{W}
use Rattle.judge.specs.Classify.{SectorWrite, classify}
use Rattle.write.specs.Write.{Written, write}
use Rattle.admits.specs.Admits.{is_place, new_slot, admits}
use Rattle.admits.specs.Refusals.{refusal}
use Rattle.opens.specs.Opens.{opens}
use Rattle.demand1.specs.Sound.{Sound}
use Rattle.demand1.specs.StageChanges.{staging_state, hint_after}
use Rattle.demand1.specs.Changes.{Taken, Same, AtPlace}

-- the numbers of `write`: 0 where the sector is taken, and its refusals
unfoldable pub is_listed : ℕ → Bool
is_listed n = leb n 10 || (leb 12 n && leb n 19)

-- the cluster of a place in the data, else 0, which is none
unfoldable pub cluster_of : Place → ℕ
cluster_of Boot = 0
cluster_of (Fat s) = 0
cluster_of (Root s) = 0
cluster_of (Data c s) = c
cluster_of Outside = 0

-- the sector of its cluster there
unfoldable pub sector_in : Place → ℕ
sector_in Boot = 0
sector_in (Fat s) = 0
sector_in (Root s) = 0
sector_in (Data c s) = s
sector_in Outside = 0

-- the staging slots with cluster c's claimed: as they were where it has its own, else with the first free one set for it
unfoldable pub claim_at : List St → ℕ → Option ℕ → List St
claim_at ss c (Some i) = set ss i (new_slot c)
claim_at ss c None = ss

unfoldable pub claimed_slots : List St → ℕ → List St
claimed_slots ss c = pick (is_place (slot_of ss c)) ss (claim_at ss c (free_slot ss))

-- "17 and 18 also keep the claimed slot, staging, its time and the moved hint"
unfoldable pub claimed_state : SectorWrite → W → Place → W
claimed_state x w p = staging_state w (claimed_slots w.st (cluster_of p)) (hint_after x w (cluster_of p) (sector_in p))

-- "The Rust has E_IO for 2 and 17, E_BUSY for 19, E_REFUSED for 3 to 9, 12 to 16, 18", which are 0, 2 and 1
unfoldable pub error_for : ℕ → ℕ
error_for n = pick (eqb n 19) 2 (pick (eqb n 2 || eqb n 17) 0 1)

-- "the others set the error and its count, which goes round; all but 19 also the last refused place"
unfoldable pub counts_for : Stats → ℕ → ℕ → Stats
counts_for c lba n =
    record {
      ok = c.ok;
      refused = pick (eqb n 19) c.refused (wrapping_next c.refused);
      busy = pick (eqb n 19) (wrapping_next c.busy) c.busy;
      last_refused = pick (eqb n 19) c.last_refused lba;
      deleted = c.deleted;
      fw_ok = c.fw_ok;
      fw_bad = c.fw_bad;
    }

-- "1, 10 .. change nothing": what number n leaves of w
unfoldable pub left_state : SectorWrite → W → ℕ → W
left_state x w n =
    pick (eqb n 1 || eqb n 10) w
    (with_n (with_err (pick (eqb n 17 || eqb n 18) (claimed_state x w (place_of x.lba)) w) (error_for n)) (counts_for w.n x.lba n))

-- "leaves FAT pairs, root records, file marks, FAT[1] and the boot byte as before; a staging refusal touches only what is listed for it"
pub record Refused (x : SectorWrite) (w : W) (r : Written) : Type 0 where
  pub ids : r.ids ≡ x.ids
  pub area : r.area ≡ x.area
  pub pair : r.w.pair ≡ w.pair
  pub rec : r.w.rec ≡ w.rec
  pub fat1 : r.w.fat1 ≡ w.fat1
  pub boot : r.w.boot ≡ w.boot
  pub state : r.w ≡ left_state x w r.number
  pub put-off : r.number ≡ 19 → r.w.n.last_refused ≡ w.n.last_refused

pub record Demand1 (x : SectorWrite) (w : W) : Type 0 where
  -- "Every 512-byte sector that the rules of document 01 admit is taken", and no other
  pub admitted : eqb (write x w).number 0 ≡ admits x w
  -- "Any other sector, and any call given what it turns down, ends with one listed refusal number": the one for its place and reason
  pub number : (write x w).number ≡ pick (admits x w) 0 (refusal x w)
  pub listed : is_listed (write x w).number ≡ true
  pub refused : ((write x w).number ≡ 0 → ⊥) → Refused x w (write x w)
  -- "and changes what they list for it and nothing more"
  pub taken : (write x w).number ≡ 0 → Taken x w (write x w) (classify x w)
  pub changed : (write x w).number ≡ 0 → AtPlace x w (classify x w) (place_of x.lba)
  pub unchanged : (write x w).number ≡ 0 → opens x w ≡ false → Same x w (classify x w)
  -- what the claims that ask for a sound state need of the next call; every other call keeps it too (`demand1_lists`)
  pub sound : Sound w → Sound (write x w).w
