-- `write` as a whole (document 01, "Judging a sector" and the two lists of refusals).
use Rattle.std.specs.Prelude.{ℕ, max, Bool, not, ◌&&◌, ◌||◌, List, ◌≡◌, leb, eqb, length}
use Rattle.loops.specs.Loops.{pick}
use Rattle.num.specs.Num.{wrapping_next}
use Rattle.file_table.specs.Table.{max_files, table_of, whole_columns}
use Rattle.file_table.specs.Files.{with_ids}
use Rattle.file_table.specs.declared.VF.{VF}
use Rattle.state.specs.Setters.{with_session, with_last, with_err, with_n}
use Rattle.state.specs.declared.w.Stats.{Stats}
use Rattle.state.specs.declared.w.W.{W}
use Rattle.judge.specs.Classify.{SectorWrite, files_write, Outcome, refused, classify}

-- the numbers of taken, refused and put off sectors go round
abbrev pub count_ok : Stats → Stats
count_ok n =
    record { ok = wrapping_next n.ok; refused = n.refused; busy = n.busy; last_refused = n.last_refused; deleted = n.deleted; fw_ok = n.fw_ok; fw_bad = n.fw_bad }

abbrev pub count_refused : Stats → ℕ → Stats
count_refused n lba =
    record { ok = n.ok; refused = wrapping_next n.refused; busy = n.busy; last_refused = lba; deleted = n.deleted; fw_ok = n.fw_ok; fw_bad = n.fw_bad }

abbrev pub count_busy : Stats → Stats
count_busy n =
    record { ok = n.ok; refused = n.refused; busy = wrapping_next n.busy; last_refused = n.last_refused; deleted = n.deleted; fw_ok = n.fw_ok; fw_bad = n.fw_bad }

-- A taken sector sets the last time to the clock, at least 1, adds to the taken count, which goes round, and opens the session unless the
-- sector was accepted unchanged or nothing but dropped dates changed.
unfoldable pub taken_state : W → Bool → W
taken_state w changed = with_n (with_session (with_last w (max w.now_ms 1)) (changed || w.session)) (count_ok w.n)

-- The Rust has E_IO (0) for 2 and 17, E_BUSY (2) for 19, E_REFUSED (1) for 3 to 9, 12 to 16, 18.
unfoldable pub error_of : ℕ → ℕ
error_of n = pick (eqb n 2 || eqb n 17) 0 (pick (eqb n 19) 2 1)

-- the others set the error and its count, which goes round; all but 19 also the last refused place
unfoldable pub refused_state : W → ℕ → ℕ → W
refused_state w lba n = with_n (with_err w (error_of n)) (pick (eqb n 19) (count_busy w.n) (count_refused w.n lba))

unfoldable pub settled_state : ℕ → Outcome → W
settled_state lba o = pick (eqb o.number 0) (taken_state o.w o.changed) (refused_state o.w lba o.number)

-- what a call leaves
pub record Written : Type 0 where
  pub number : ℕ
  pub w : W
  pub ids : List ℕ
  pub area : List ℕ

abbrev pub settled : SectorWrite → Outcome → Written
settled x o = record { number = o.number; w = settled_state x.lba o; ids = o.ids; area = o.area }

-- 1 and 10 change nothing
abbrev pub unjudged : SectorWrite → W → ℕ → Written
unjudged x w n = record { number = n; w = w; ids = x.ids; area = x.area }

-- both sectors have 512 bytes
unfoldable pub whole_sectors : SectorWrite → Bool
whole_sectors x = eqb (length x.shown) 512 && eqb (length x.written) 512

-- up to 400 files, with columns of one length, which those of a lent table are
unfoldable pub table_fits : SectorWrite → W → Bool
table_fits x w = leb (length x.ids) max_files && whole_columns (table_of x.ids x.slots x.starts x.sizes w.first)

-- `write`. Order: 1, 10, 12, 2.
unfoldable pub write : SectorWrite → W → Written
write x w =
    pick (not (whole_sectors x)) (unjudged x w 1)
    (pick (not (table_fits x w)) (unjudged x w 10)
    (pick (not w.rw) (settled x (refused x w 12))
    (settled x (classify x w))))

-- what `write` leaves of a lent table
abbrev pub files_written : ℕ → List ℕ → List ℕ → Bool → List ℕ → List ℕ → List VF → W → Written
files_written lba shown written busy fat area files w = write (files_write lba shown written busy fat area files) w

-- What the call leaves, in its contract and in demand 3's lists alike: the number, the state, the table with its ids, the data area.
abbrev pub WritesBy : ℕ → List ℕ → List ℕ → Bool → List ℕ → List ℕ → W → List VF → ℕ → W → List VF → List ℕ → Type 0
WritesBy lba shown written busy fat area w files r w_left files_left area_left =
    (r ≡ (files_written lba shown written busy fat area files w).number)
    × (w_left ≡ (files_written lba shown written busy fat area files w).w)
    × (files_left ≡ with_ids files (files_written lba shown written busy fat area files w).ids)
    × (area_left ≡ (files_written lba shown written busy fat area files w).area)
