-- How data written to a host cluster is staged (document 01, "Judging a sector", Staging).
use Rattle.std.specs.Prelude.{ℕ, Bool, true, false, ◌&&◌, ◌||◌, List, [], map, eqb, get_or, set, replicate, Option, Some, None}
use Rattle.loops.specs.Loops.{pick}
use Rattle.loops.specs.Rows.{rows}
use Rattle.num.specs.Num.{wrapping_next}
use Rattle.bits.specs.Bit.{set_bit}
use Rattle.sector.specs.Bytes.{same, zeros}
use Rattle.vdisk.specs.Ids.{turned}
use Rattle.file_table.specs.Files.{id_of, start_of, size_of}
use Rattle.file_table.specs.declared.VF.{VF}
use Rattle.slots.specs.Slots.{refers_to}
use Rattle.state.specs.State.{no_st}
use Rattle.state.specs.Setters.{with_st, with_staging, with_hint, with_stage_t, with_ver}
use Rattle.state.specs.Staged.{slot_of, free_slot}
use Rattle.state.specs.declared.w.St.{St}
use Rattle.state.specs.declared.w.W.{W}
use Rattle.medium.specs.Medium.{is_medium, has_block, next_free}
use Rattle.medium.specs.Reads.{sector_of}
use Rattle.staging.specs.Blocks.{is_parked, held_for, filled_block, area_with, holding_st, written_st}

-- A sector of a host cluster as it is staged: the cluster, the sector of it, what is written, the busy flag, the medium, and the columns of the
-- table that data is looked up in.
pub record StageWrite : Type 0 where
  pub c : ℕ
  pub s : ℕ
  pub written : List ℕ
  pub busy : Bool
  pub fat : List ℕ
  pub area : List ℕ
  pub ids : List ℕ
  pub starts : List ℕ
  pub sizes : List ℕ

abbrev pub stage_write : ℕ → ℕ → List ℕ → Bool → List ℕ → List ℕ → List ℕ → List ℕ → List ℕ → StageWrite
stage_write c s written busy fat area ids starts sizes =
    record { c = c; s = s; written = written; busy = busy; fat = fat; area = area; ids = ids; starts = starts; sizes = sizes }

-- the columns of a lent table
abbrev pub stage_in : ℕ → ℕ → List ℕ → Bool → List ℕ → List ℕ → List VF → StageWrite
stage_in c s written busy fat area files = stage_write c s written busy fat area (map id_of files) (map start_of files) (map size_of files)

-- what the marks of files look at: the columns and the data
abbrev pub table_write : List ℕ → List ℕ → List ℕ → List ℕ → StageWrite
table_write ids starts sizes written = stage_write 0 0 written false [] [] ids starts sizes

-- The refusal number, 0 where it is taken; whether that opens the session; the state, the data area and the ids then.
pub record Staged : Type 0 where
  pub number : ℕ
  pub changed : Bool
  pub w : W
  pub area : List ℕ
  pub ids : List ℕ

-- a refusal leaves the data area and the marks
abbrev pub refused : StageWrite → ℕ → W → Staged
refused x n w = record { number = n; changed = false; w = w; area = x.area; ids = x.ids }

abbrev pub unchanged : StageWrite → W → Staged
unchanged x w = record { number = 0; changed = false; w = w; area = x.area; ids = x.ids }

-- a slot that is claimed for cluster c
abbrev pub slot_for : ℕ → St
slot_for c = record { c = c; sealed = false; ro = 0; map = 0; blk = replicate 8 0 }

-- staging starts with search hint 2 if it was off, and its time is set
unfoldable pub start_staging : W → W
start_staging w = with_stage_t (pick w.staging w (with_hint (with_staging w true) 2)) w.now_ms

-- each sector staged adds one to the version, which goes round
abbrev pub with_slot : W → ℕ → St → W
with_slot w i y = with_ver (with_st w (set w.st i y)) (wrapping_next w.ver)

-- non-zero data marks turned files that it names as moved
unfoldable pub move_id : StageWrite → ℕ → ℕ → ℕ
move_id x j id =
    pick (turned id && refers_to x.written (get_or x.starts j 0) (get_or x.sizes j 0)) (set_bit id 15) id

unfoldable pub moved_ids : StageWrite → List ℕ
moved_ids x = pick (zeros x.written) x.ids (rows (move_id x) x.ids)

-- the sector goes into block b of slot i, which is y
unfoldable pub put_into : StageWrite → W → ℕ → St → ℕ → Staged
put_into x w i y b =
    record {
      number = 0;
      changed = true;
      w = with_slot w i (holding_st y x.s b);
      area = area_with x.area b (filled_block x.area y x.s x.written);
      ids = moved_ids x;
    }

-- a held number outside the medium is 17
unfoldable pub into_block : StageWrite → W → ℕ → St → ℕ → Staged
into_block x w i y b =
    pick (eqb (held_for y x.s) 0 || has_block x.fat x.area (held_for y x.s)) (put_into x w i y b) (refused x 17 w)

-- the first FAT entry of 0 from the hint if there is no block or it is parked, else 18
unfoldable pub with_block : StageWrite → W → ℕ → St → Staged
with_block x w i y =
    pick (eqb (held_for y x.s) 0 || is_parked y x.s)
    (pick (next_free x.fat w.hint).found
    (into_block x (with_hint w (next_free x.fat w.hint).hint) i y (next_free x.fat w.hint).block)
    (refused x 18 (with_hint w (next_free x.fat w.hint).hint)))
    (into_block x w i y (held_for y x.s))

-- an all-zero sector of a block not held sets its bit and takes no block; 17 of no medium
unfoldable pub on_medium : StageWrite → W → ℕ → St → Staged
on_medium x w i y =
    pick (eqb (held_for y x.s) 0 && zeros x.written)
    (record { number = 0; changed = true; w = with_slot w i (written_st y x.s); area = x.area; ids = x.ids })
    (pick (is_medium x.fat x.area) (with_block x w i y) (refused x 17 w))

-- in a parked block a sector equal to what `staged_read` shows is accepted unchanged
unfoldable pub in_slot : StageWrite → W → ℕ → St → Staged
in_slot x w i y =
    pick (is_parked y x.s && same (sector_of x.fat x.area y x.s) x.written) (unchanged x w) (on_medium x (start_staging w) i y)

-- the slot, else the first free of 28, else 16
unfoldable pub claimed : StageWrite → W → Option ℕ → Staged
claimed x w (Some i) = in_slot x (with_st w (set w.st i (slot_for x.c))) i (slot_for x.c)
claimed x w None = refused x 16 w

unfoldable pub in_found : StageWrite → W → Option ℕ → Staged
in_found x w (Some i) = in_slot x w i (get_or w.st i no_st)
in_found x w None = claimed x w (free_slot w.st)

-- 19; the slot
unfoldable pub stage : StageWrite → W → Staged
stage x w = pick x.busy (refused x 19 w) (in_found x w (slot_of w.st x.c))
