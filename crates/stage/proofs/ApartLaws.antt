-- What is staged, told apart from the marks of files, which take nothing but whether the sector is staged.
use Rattle.std.specs.Prelude.{ℕ, ◌<◌, Bool, true, ◌&&◌, ◌||◌, List, ◌≡◌, refl, eqb, length, get_or, set, Option, Some, None}
use Rattle.std.proofs.Common.{sym, ap, ◌∙◌}
use Rattle.std.proofs.lemmas.List.{get_or-set_same}
use Rattle.loops.specs.Loops.{pick}
use Rattle.loops.specs.Choices.{either, and-1}
use Rattle.sector.specs.Bytes.{same, zeros}
use Rattle.state.specs.State.{st0, no_st}
use Rattle.state.specs.Setters.{with_st, with_staging, with_hint, with_stage_t}
use Rattle.state.specs.Staged.{free_slot}
use Rattle.state.specs.declared.w.St.{St}
use Rattle.state.specs.declared.w.W.{W}
use Rattle.medium.specs.Medium.{is_medium, has_block, next_free}
use Rattle.medium.specs.Reads.{sector_of}
use Rattle.staging.specs.Blocks.{is_parked, held_for}
use Rattle.staging.specs.Staging.{StageWrite, Staged, slot_for, start_staging, moved_ids}
use Rattle.staging.specs.Staging.{put_into, into_block, with_block, on_medium, in_slot, claimed, in_found}
use Rattle.stage.specs.Meets.{Meets, slot_at, cluster_write, slot_write}

-- starting leaves the slots
starting-st : (w : W) → (start_staging w).st ≡ w.st
unfolding start_staging with_staging with_hint with_stage_t
starting-st w = either w.staging (λ e. rw e refl) (λ e. rw e refl)

pub started-medium : (x : StageWrite) (w v : W) (i : ℕ) → v ≡ start_staging w → on_medium x (start_staging w) i (slot_at w i) ≡ on_medium x v i (slot_at v i)
started-medium x w v i e =
    ap (λ (ss : List St). on_medium x (start_staging w) i (get_or ss i no_st)) (sym (starting-st w))
    ∙ ap (λ (u : W). on_medium x u i (slot_at u i)) (sym e)

module _ (x : StageWrite) where
  -- a sector that is staged marks the files it names
  abbrev pub marked : Staged → Staged
  marked o = record { number = o.number; changed = o.changed; w = o.w; area = o.area; ids = pick o.changed (moved_ids x) x.ids }

  abbrev own : StageWrite
  own = slot_write x.s x.written x.fat x.area

  put-apart : (w : W) (i : ℕ) (y : St) (b : ℕ) → put_into x w i y b ≡ marked (put_into own w i y b)
  unfolding put_into
  put-apart w i y b = refl

  into-apart : (w : W) (i : ℕ) (y : St) (b : ℕ) → into_block x w i y b ≡ marked (into_block own w i y b)
  unfolding into_block
  into-apart w i y b = either (eqb (held_for y x.s) 0 || has_block x.fat x.area (held_for y x.s)) (λ e. rw e (put-apart w i y b)) (λ e. rw e refl)

  block-apart : (w : W) (i : ℕ) (y : St) → with_block x w i y ≡ marked (with_block own w i y)
  unfolding with_block
  block-apart w i y =
      let n = next_free x.fat w.hint in
      either (eqb (held_for y x.s) 0 || is_parked y x.s)
      (λ e. either n.found (λ f. rw (e, f) (into-apart (with_hint w n.hint) i y n.block)) (λ f. rw (e, f) refl))
      (λ e. rw e (into-apart w i y (held_for y x.s)))

  no-marks : zeros x.written ≡ true → moved_ids x ≡ x.ids
  unfolding moved_ids
  no-marks e = rw e

  medium-apart : (w : W) (i : ℕ) (y : St) → on_medium x w i y ≡ marked (on_medium own w i y)
  unfolding on_medium
  medium-apart w i y =
      either (eqb (held_for y x.s) 0 && zeros x.written)
      (λ e. rw (e, no-marks (and-1 (eqb (held_for y x.s) 0) (zeros x.written) e)) refl)
      (λ e. either (is_medium x.fat x.area) (λ m. rw (e, m) (block-apart w i y)) (λ m. rw (e, m) refl))

  slot-apart : (w : W) (i : ℕ) (y : St) → in_slot x w i y ≡ marked (in_slot own w i y)
  unfolding in_slot
  slot-apart w i y =
      either (is_parked y x.s && same (sector_of x.fat x.area y x.s) x.written) (λ e. rw e refl) (λ e. rw e (medium-apart (start_staging w) i y))

  -- the answer of a slot, whatever the cluster and the table
  pub slot-meets : (w : W) (i : ℕ) (y : St) (told : ℕ) (opens : Bool) (v : W) (area : List ℕ)
      → Meets (in_slot own w i y) told opens v area → Meets (in_slot x w i y) told opens v area
  slot-meets w i y told opens v area m = rw (slot-apart w i y) (record { number = m.number; changed = m.changed; state = m.state; medium = m.medium })

-- a slot that is claimed, which was unused
pub claimed-meets : (x : StageWrite) (w : W) (i c : ℕ) (u : St) (told : ℕ) (opens : Bool) (v : W) (area : List ℕ) → i < length w.st → u ≡ st0
    → (let y : St = record { c = c; sealed = u.sealed; ro = u.ro; map = u.map; blk = u.blk } in
    Meets (in_slot x (with_st w (set w.st i y)) i (get_or (set w.st i y) i no_st)) told opens v area)
    → Meets (in_slot x (with_st w (set w.st i (slot_for c))) i (slot_for c)) told opens v area
claimed-meets x w i c u told opens v area l e m = rw (e, get_or-set_same w.st i (slot_for c) no_st l) at m

-- a cluster's sector, whatever the table
module _ (x : StageWrite) where
  abbrev placed : StageWrite
  placed = cluster_write x.c x.s x.written x.fat x.area

  slot-placed : (w : W) (i : ℕ) (y : St) → in_slot x w i y ≡ marked x (in_slot placed w i y)
  slot-placed w i y = slot-apart x w i y ∙ ap (marked x) (sym (slot-apart placed w i y))

  claimed-apart : (w : W) (f : Option ℕ) → claimed x w f ≡ marked x (claimed placed w f)
  unfolding claimed
  claimed-apart w (Some i) = slot-placed (with_st w (set w.st i (slot_for x.c))) i (slot_for x.c)
  claimed-apart w None = refl

  pub found-apart : (w : W) (f : Option ℕ) → in_found x w f ≡ marked x (in_found placed w f)
  unfolding in_found
  found-apart w (Some i) = slot-placed w i (get_or w.st i no_st)
  found-apart w None = claimed-apart w (free_slot w.st)
