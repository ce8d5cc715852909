-- Every call leaves as many ids as it was lent.
use Rattle.std.specs.Prelude.{ℕ, Bool, true, false, not, ◌&&◌, ◌||◌, ◌≡◌, eqb, ltb, leb, get_or, set, Option, Some, None}
use mathlib.Core.List.{List}
use Rattle.std.proofs.Math.Path.{refl}
use Rattle.std.proofs.Common.{◌∙◌, length-set}
use Rattle.std.proofs.Math.ListN.{length}
use Rattle.loops.specs.Choices.{pick-has}
use Rattle.loops.specs.Rows.{rows, rows-length}
use Rattle.bits.specs.Bit.{set_bit}
use Rattle.sector.specs.Bytes.{same, zeros}
use Rattle.vdisk.specs.Drive.{place_of, dir_kind_of}
use Rattle.vdisk.specs.Ids.{handed}
use Rattle.vdisk.specs.declared.drive.Place.{Place}
use Rattle.vdisk.specs.declared.drive.Place.TheVariants.{Boot, Fat, Root, Data, Outside}
use Rattle.file_table.specs.Table.{max_files}
use Rattle.state.specs.State.{no_st}
use Rattle.state.specs.Setters.{with_boot, with_end_at, with_hint, with_st}
use Rattle.state.specs.Staged.{slot_of, free_slot}
use Rattle.state.specs.declared.w.St.{St}
use Rattle.state.specs.declared.w.W.{W}
use Rattle.medium.specs.Medium.{is_medium, has_block, next_free}
use Rattle.medium.specs.Reads.{sector_of}
use Rattle.clusters.specs.Clusters.{host_cluster}
use Rattle.fat_sectors.specs.Fat.{fat_number, free_id, fat_ids}
use Rattle.dir_sectors.specs.Dir.{dir_number, dir_id, dir_ids}
use Rattle.staging.specs.Blocks.{is_parked, held_for, written_st}
use Rattle.staging.specs.Staging.{StageWrite, Staged, refused as unstaged, unchanged, slot_for, start_staging, with_slot, move_id, moved_ids}
use Rattle.staging.specs.Staging.{put_into, into_block, with_block, on_medium, in_slot, claimed, in_found, stage}
use Rattle.judge.specs.Classify.{SectorWrite, Outcome, refused, unless_shown, boot_passes, boot, fat, root, dir, other_data, outcome_of, stage_of, fat_of, dir_of, cluster, at_place, classify}
use Rattle.write.specs.Write.{Written, whole_sectors, table_fits, write, settled, unjudged}
use Rattle.release.specs.Undecided.{is_undecided}
use Rattle.release.specs.Release.{Lending, lending, Ended, release_id, released_ids, held_back, release_all, release, fits, turned_down, release_all_call, release_call}
use Rattle.sessions.specs.Poll.{end_due, nothing, held_end, is_quiet, quietly, ticked, poll, poll_call}
use Rattle.sessions.specs.Sessions.{Reported, bus_reset, bus_reset_call, report_gone}

-- a staged sector
module _ (x : StageWrite) where
  abbrev Rows : Staged → Type 0
  Rows r = length r.ids ≡ length x.ids

  moved-rows : length (moved_ids x) ≡ length x.ids
  unfolding moved_ids
  moved-rows = pick-has (λ (ids : List ℕ). length ids ≡ length x.ids) (zeros x.written) x.ids (rows (move_id x) x.ids) refl (rows-length (move_id x) 0 x.ids)

  into-rows : (w : W) (i : ℕ) (y : St) (b : ℕ) → Rows (into_block x w i y b)
  unfolding into_block put_into
  into-rows w i y b =
      pick-has Rows (eqb (held_for y x.s) 0 || has_block x.fat x.area (held_for y x.s)) (put_into x w i y b) (unstaged x 17 w) moved-rows refl

  block-rows : (w : W) (i : ℕ) (y : St) → Rows (with_block x w i y)
  unfolding with_block
  block-rows w i y =
      let f = next_free x.fat w.hint in
      pick-has Rows (eqb (held_for y x.s) 0 || is_parked y x.s) _ (into_block x w i y (held_for y x.s))
      (pick-has Rows f.found (into_block x (with_hint w f.hint) i y f.block) (unstaged x 18 (with_hint w f.hint)) (into-rows (with_hint w f.hint) i y f.block) refl)
      (into-rows w i y (held_for y x.s))

  medium-rows : (w : W) (i : ℕ) (y : St) → Rows (on_medium x w i y)
  unfolding on_medium
  medium-rows w i y =
      pick-has Rows (eqb (held_for y x.s) 0 && zeros x.written) (record { number = 0; changed = true; w = with_slot w i (written_st y x.s); area = x.area; ids = x.ids }) _
      refl (pick-has Rows (is_medium x.fat x.area) (with_block x w i y) (unstaged x 17 w) (block-rows w i y) refl)

  slot-rows : (w : W) (i : ℕ) (y : St) → Rows (in_slot x w i y)
  unfolding in_slot
  slot-rows w i y =
      pick-has Rows (is_parked y x.s && same (sector_of x.fat x.area y x.s) x.written) (unchanged x w) (on_medium x (start_staging w) i y) refl (medium-rows (start_staging w) i y)

  claimed-rows : (w : W) (f : Option ℕ) → Rows (claimed x w f)
  unfolding claimed
  claimed-rows w (Some i) = slot-rows (with_st w (set w.st i (slot_for x.c))) i (slot_for x.c)
  claimed-rows w None = refl

  found-rows : (w : W) (f : Option ℕ) → Rows (in_found x w f)
  unfolding in_found
  found-rows w (Some i) = slot-rows w i (get_or w.st i no_st)
  found-rows w None = claimed-rows w (free_slot w.st)

  stage-rows : (w : W) → Rows (stage x w)
  unfolding stage
  stage-rows w = pick-has Rows x.busy (unstaged x 19 w) (in_found x w (slot_of w.st x.c)) refl (found-rows w (slot_of w.st x.c))

-- a written one
module _ (x : SectorWrite) (w : W) where
  abbrev Whole : List ℕ → Type 0
  Whole ids = length ids ≡ length x.ids

  abbrev WholeIn : Outcome → Type 0
  WholeIn o = Whole o.ids

  unless-rows : (o : Outcome) → WholeIn o → WholeIn (unless_shown x w o)
  unfolding unless_shown
  unless-rows o h = pick-has WholeIn (same x.shown x.written) (record { number = 0; changed = false; w = w; ids = x.ids; area = x.area }) o refl h

  fat-rows : (s : ℕ) → WholeIn (fat x w s)
  unfolding fat fat_ids
  fat-rows s = let y = fat_of x w s in pick-has Whole (eqb (fat_number y) 0) (rows (free_id y) x.ids) x.ids (rows-length (free_id y) 0 x.ids) refl

  dir-rows : (k s : ℕ) → WholeIn (dir x w k s)
  unfolding dir dir_ids
  dir-rows k s =
      let y = dir_of x k s in
      let f = dir_id y x.fat x.area w.st in
      pick-has Whole (eqb (dir_number y) 0) (rows f x.ids) x.ids (rows-length f 0 x.ids) refl

  boot-rows : WholeIn (boot x w)
  unfolding boot
  boot-rows =
      pick-has WholeIn (boot_passes x.shown x.written) (record { number = 0; changed = true; w = with_boot w (get_or x.written 0x25 0); ids = x.ids; area = x.area }) (refused x w 3) refl refl

  cluster-rows : (c s : ℕ) (d : Option ℕ) → WholeIn (cluster x w c s d)
  unfolding cluster other_data
  cluster-rows c s (Some k) = unless-rows (dir x w k s) (dir-rows k s)
  cluster-rows c s None =
      pick-has WholeIn (host_cluster x.ids x.starts x.sizes w.first w.pair c) (outcome_of (stage (stage_of x c s) w)) (unless_shown x w (other_data x w c))
      (stage-rows (stage_of x c s) w) (unless-rows (other_data x w c) refl)

  place-rows : (p : Place) → WholeIn (at_place x w p)
  unfolding at_place root
  place-rows Boot = unless-rows (boot x w) boot-rows
  place-rows (Fat s) = unless-rows (fat x w s) (fat-rows s)
  place-rows (Root s) = unless-rows (root x w s) refl
  place-rows (Data c s) = cluster-rows c s (dir_kind_of c)
  place-rows Outside = refl

  pub write-rows : length (write x w).ids ≡ length x.ids
  unfolding write classify
  write-rows =
      let P : Written → Type 0 = λ r. Whole r.ids in
      pick-has P (not (whole_sectors x)) (unjudged x w 1) _ refl
      (pick-has P (not (table_fits x w)) (unjudged x w 10) _ refl
      (pick-has P (not w.rw) (settled x (refused x w 12)) (settled x (classify x w)) refl (place-rows (place_of x.lba))))

-- the calls that may end the session
abbrev Ends : Lending → Ended → Type 0
Ends x e = length e.ids ≡ length x.ids

all-rows : (x : Lending) (w : W) (reset : Bool) → Ends x (release_all x w reset)
unfolding release_all released_ids
all-rows x w reset = rows-length (release_id x w.st) 0 x.ids

held-rows : (x : Lending) (w : W) → Ends x (release x w)
unfolding release
held-rows x w = pick-has (Ends x) (is_undecided w) (record { number = 0; ended = 2; had = false; w = held_back w; ids = x.ids }) (release_all x w false) refl (all-rows x w false)

module _ (x : Lending) where
  pub release_all-rows : (w : W) (reset : Bool) → Ends x (release_all_call x w reset)
  unfolding release_all_call
  release_all-rows w reset = pick-has (Ends x) (fits x) (release_all x w reset) (turned_down x w 10) (all-rows x w reset) refl

  pub release-rows : (w : W) → Ends x (release_call x w)
  unfolding release_call
  release-rows w = pick-has (Ends x) (fits x) (release x w) (turned_down x w 10) (held-rows x w) refl

  pub bus_reset-rows : (w : W) → Ends x (bus_reset_call x w)
  unfolding bus_reset_call bus_reset
  bus_reset-rows w = pick-has (Ends x) (fits x) (bus_reset x w) (turned_down x w 10) (all-rows x w true) refl

  end-rows : (w : W) (mounted : Bool) → Ends x (held_end x w mounted)
  unfolding held_end
  end-rows w mounted =
      pick-has (Ends x) (end_due w) _ (nothing x w)
      (pick-has (Ends x) mounted (nothing x (with_end_at w 0)) (release_all x (with_end_at w 0) false) refl (all-rows x (with_end_at w 0) false)) refl

  quiet-rows : (mounted : Bool) (e : Ended) → Ends x e → Ends x (quietly x mounted e)
  unfolding quietly
  quiet-rows mounted e h =
      let y = lending x.fat x.area e.ids x.starts x.sizes in
      pick-has (Ends x) (is_quiet e.w mounted) (release y e.w) e (held-rows y e.w ∙ h) h

  pub poll-rows : (w : W) (clock : ℕ) (mounted : Bool) → Ends x (poll_call x w clock mounted)
  unfolding poll_call poll
  poll-rows w clock mounted =
      pick-has (Ends x) (fits x) (poll x w clock mounted) (turned_down x w 10) (quiet-rows mounted (held_end x (ticked w clock mounted) mounted) (end-rows (ticked w clock mounted) mounted)) refl

-- a report
pub report-rows : (ids : List ℕ) (j : ℕ) → length (report_gone ids j).ids ≡ length ids
unfolding report_gone
report-rows ids j =
    let P : Reported → Type 0 = λ r. length r.ids ≡ length ids in
    let b = set_bit (get_or ids j 0) 14 in
    pick-has P (leb (length ids) max_files) _ (record { number = 10; ids = ids })
    (pick-has P (ltb j (length ids) && handed (get_or ids j 0)) (record { number = 0; ids = set ids j b }) (record { number = 21; ids = ids }) (length-set ids j b) refl) refl
