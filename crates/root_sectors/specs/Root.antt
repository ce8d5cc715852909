-- How a written root sector is judged (document 01, "Judging a sector").
use Rattle.std.specs.Prelude.{ℕ, ◌+◌, ◌*◌, Bool, not, ◌&&◌, ◌||◌, List, map, leb, ltb, eqb, take, drop, set, Option, Some, None}
use Rattle.loops.specs.Loops.{pick, some, first, count, fold}
use Rattle.slots.specs.Slots.{start_of, same_slot, dates_only}
use Rattle.file_table.specs.Files.{id_of, start_of as file_start_of, size_of as file_size_of}
use Rattle.file_table.specs.declared.VF.{VF}
use Rattle.records.specs.Records.{rec_idx, free_rec, free_recs}
use Rattle.records.specs.declared.Rec.{Rec}
use Rattle.root_slots.specs.RootSlots.{slot_admitted}
use Rattle.state.specs.Setters.{with_rec}
use Rattle.state.specs.declared.w.Pair.{Pair}
use Rattle.state.specs.declared.w.W.{W}
use Rattle.clusters.specs.Clusters.{host_cluster, is_nothing}

-- A root sector as it is judged: the table's columns and first session cluster, the pairs and records, the sector's number, the sector shown
-- and written.
pub record RootWrite : Type 0 where
  pub ids : List ℕ
  pub starts : List ℕ
  pub sizes : List ℕ
  pub first : ℕ
  pub pairs : List Pair
  pub recs : List Rec
  pub s : ℕ
  pub shown : List ℕ
  pub written : List ℕ

abbrev pub root_write : List ℕ → List ℕ → List ℕ → ℕ → List Pair → List Rec → ℕ → List ℕ → List ℕ → RootWrite
root_write ids starts sizes first pairs recs s shown written =
    record { ids = ids; starts = starts; sizes = sizes; first = first; pairs = pairs; recs = recs; s = s; shown = shown; written = written }

-- the same with a lent table, by the state's pairs and records
abbrev pub root_in : List VF → W → ℕ → List ℕ → List ℕ → RootWrite
root_in files w s shown written = root_write (map id_of files) (map file_start_of files) (map file_size_of files) w.first w.pair w.rec s shown written

-- slot i of the sector: its number in the root
abbrev pub slot_at : RootWrite → ℕ → ℕ
slot_at x i = x.s * 16 + i

-- slot i is written otherwise than shown
abbrev pub changed_slot : List ℕ → List ℕ → ℕ → Bool
changed_slot shown written i = not (same_slot shown written (i * 32))

abbrev pub changed_at : RootWrite → ℕ → Bool
changed_at x i = changed_slot x.shown x.written i

-- slots 0 to 6 are the drive's own
abbrev pub is_own : RootWrite → ℕ → Bool
is_own x i = leb (slot_at x i) 6

-- the start in slot i as written is 0 or a host cluster
unfoldable pub start_fits : RootWrite → ℕ → Bool
start_fits x i =
    eqb (start_of x.written (i * 32)) 0 || host_cluster x.ids x.starts x.sizes x.first x.pairs (start_of x.written (i * 32))

-- slots 0 to 6 may change in dates (7); others follow `rec_ok` (8)
unfoldable pub slot_number : RootWrite → ℕ → ℕ
slot_number x i =
    pick (changed_at x i)
    (pick (is_own x i) (pick (dates_only x.shown x.written (i * 32)) 0 7)
    (pick (slot_admitted x.recs x.written (x.s * 16) (slot_at x i) (start_fits x i)) 0 8))
    0

abbrev pub refused_at : RootWrite → ℕ → Bool
refused_at x i = not (eqb (slot_number x i) 0)

-- a changed host slot is kept in a record; where it has none it needs a place
unfoldable pub kept_at : RootWrite → ℕ → Bool
kept_at x i = changed_at x i && not (is_own x i)

unfoldable pub needs_rec : RootWrite → ℕ → Bool
needs_rec x i = kept_at x i && is_nothing (rec_idx x.recs (slot_at x i))

-- the first slot that is refused; then 15, of 10 places
unfoldable pub root_number : RootWrite → ℕ
root_number x =
    pick (ltb (first (refused_at x) 16 0) 16) (slot_number x (first (refused_at x) 16 0))
    (pick (ltb (free_recs x.recs) (count (needs_rec x) 16 0)) 15 0)

-- the place of root slot n: its record, else the first free place
unfoldable pub place_of : List Rec → Option ℕ → Option ℕ
place_of recs (Some k) = Some k
place_of recs None = free_rec recs

unfoldable pub put_at : W → Rec → Option ℕ → W
put_at w r (Some k) = with_rec w (set w.rec k r)
put_at w r None = w

-- slot i as written is kept there
unfoldable pub keep_slot : ℕ → List ℕ → List ℕ → ℕ → W → W
keep_slot s shown written i w =
    pick (not (same_slot shown written (i * 32)) && not (leb (s * 16 + i) 6))
    (put_at w (record { slot = s * 16 + i; e = take 32 (drop (i * 32) written) }) (place_of w.rec (rec_idx w.rec (s * 16 + i))))
    w

abbrev pub keep_at : RootWrite → ℕ → W → W
keep_at x i w = keep_slot x.s x.shown x.written i w

unfoldable pub root_state : RootWrite → W → W
root_state x w = pick (eqb (root_number x) 0) (fold (keep_at x) 16 0 w) w

-- the session is opened unless nothing but dates, which are dropped, changed
unfoldable pub root_changed : RootWrite → Bool
root_changed x = eqb (root_number x) 0 && some (kept_at x) 16 0
