-- Staging ends with a listed number, and refused it leaves what is listed for it.
use Rattle.std.specs.Prelude.{ℕ, true, not, ◌&&◌, ◌||◌, List, ◌≡◌, eqb, get_or, set, Option, None}
use Rattle.std.proofs.Math.Bool.{false}
use Rattle.std.proofs.Math.Path.{refl, subst}
use Rattle.std.proofs.Common.{sym}
use Rattle.loops.specs.Choices.{either, pick-has, pick-by, and-no}
use Rattle.loops.specs.Found.{found-by}
use Rattle.sector.specs.Bytes.{same}
use Rattle.state.specs.State.{no_st}
use Rattle.state.specs.Setters.{with_st, with_staging, with_hint, with_stage_t}
use Rattle.state.specs.Staged.{slot_of, free_slot}
use Rattle.state.specs.declared.w.St.{St}
use Rattle.state.specs.declared.w.W.{W}
use Rattle.medium.specs.Medium.{is_medium, has_block, next_free}
use Rattle.medium.specs.Reads.{sector_of}
use Rattle.staging.specs.Blocks.{is_parked, held_for}
use Rattle.staging.specs.Staging.{Staged, refused, slot_for, start_staging, put_into, into_block, with_block, on_medium, in_slot, claimed, in_found, stage}
use Rattle.judge.specs.Classify.{SectorWrite, stage_of, outcome_of}
use Rattle.admits.specs.Admits.{is_place, slot_as, slot_before, takes_none, needs_block, hint_of}
use Rattle.admits.proofs.SearchLaws.{search-hint}
use Rattle.demand1.specs.StageChanges.{staging_state, searches, hint_moved, hint_after}
use Rattle.demand1.specs.Demand1.{is_listed, claim_at, claimed_slots}
use Rattle.demand1.proofs.Fair.{Fair}

pub started : (w : W) (ss : List St) → start_staging (with_st w ss) ≡ staging_state w ss (hint_of w)
unfolding start_staging staging_state with_st with_staging with_hint with_stage_t
started w ss = either w.staging (λ e. rw e) (λ e. rw e)

pub as-was : (w : W) → with_st w w.st ≡ w
unfolding with_st
as-was w = refl

module _ (x : SectorWrite) (w : W) (c s : ℕ) (y : St) (before : slot_before w c ≡ y) where
  -- the hint: as before, or 2, where no search ran; else the search's
  pub hint-none : takes_none x y s ≡ true → hint_after x w c s ≡ hint_of w
  unfolding hint_after searches
  hint-none z = rw (before, z)

  pub hint-off : is_medium x.fat x.area ≡ false → hint_after x w c s ≡ hint_of w
  unfolding hint_after searches
  hint-off m = rw (before, m, and-no (not (takes_none x y s)) false refl)

  pub hint-held : needs_block y s ≡ false → hint_after x w c s ≡ hint_of w
  unfolding hint_after searches
  hint-held q = rw (before, q, and-no (is_medium x.fat x.area) false refl, and-no (not (takes_none x y s)) false refl)

  pub hint-searched : takes_none x y s ≡ false → is_medium x.fat x.area ≡ true → needs_block y s ≡ true
      → hint_after x w c s ≡ (next_free x.fat (hint_of w)).hint
  unfolding hint_after searches hint_moved
  hint-searched z m q = rw (before, z, m, q) (sym (search-hint x.fat (hint_of w)))

module _ (x : SectorWrite) (w : W) (c s : ℕ) where
  abbrev pub claimed_in : W
  claimed_in = staging_state w (claimed_slots w.st c) (hint_after x w c s)

  abbrev FairStage : Staged → Type 0
  FairStage r = Fair x w claimed_in (outcome_of r)

  fair-taken : (r : Staged) → r.number ≡ 0 → FairStage r
  unfolding is_listed
  fair-taken r e = record { listed = rw e; judged = rw e; ids = λ h. absurd (h e); area = λ h. absurd (h e); state = λ h. absurd (h e) }

  module _ (ss : List St) (claims : claimed_slots w.st c ≡ ss) (i : ℕ) (y : St) (before : slot_before w c ≡ y) where
    fair-17 : (hint : ℕ) → hint_after x w c s ≡ hint → FairStage (refused (stage_of x c s) 17 (staging_state w ss hint))
    unfolding is_listed
    fair-17 hint e = record { listed = refl; judged = refl; ids = λ h. refl; area = λ h. refl; state = λ h. rw (claims, e) }

    fair-18 : (hint : ℕ) → hint_after x w c s ≡ hint → FairStage (refused (stage_of x c s) 18 (staging_state w ss hint))
    unfolding is_listed
    fair-18 hint e = record { listed = refl; judged = refl; ids = λ h. refl; area = λ h. refl; state = λ h. rw (claims, e) }

    fair-into : (hint b : ℕ) → hint_after x w c s ≡ hint → FairStage (into_block (stage_of x c s) (staging_state w ss hint) i y b)
    unfolding into_block put_into
    fair-into hint b e =
        pick-has FairStage (eqb (held_for y s) 0 || has_block x.fat x.area (held_for y s)) (put_into (stage_of x c s) (staging_state w ss hint) i y b) _
        (fair-taken (put_into (stage_of x c s) (staging_state w ss hint) i y b) refl) (fair-17 hint e)

    fair-block : takes_none x y s ≡ false → is_medium x.fat x.area ≡ true → FairStage (with_block (stage_of x c s) (staging_state w ss (hint_of w)) i y)
    unfolding with_block staging_state with_hint is_parked
    fair-block z m =
        let n = next_free x.fat (hint_of w) in
        pick-by FairStage (needs_block y s) _ _
        (λ q. let e = hint-searched x w c s y before z m q in
        pick-has FairStage n.found _ _ (fair-into n.hint n.block e) (fair-18 n.hint e))
        (λ q. fair-into (hint_of w) (held_for y s) (hint-held x w c s y before q))

    fair-slot : FairStage (in_slot (stage_of x c s) (with_st w ss) i y)
    unfolding in_slot on_medium
    fair-slot =
        pick-has FairStage (is_parked y s && same (sector_of x.fat x.area y s) x.written) _ _
        (fair-taken _ refl)
        (rw (started w ss)
        (pick-by FairStage (takes_none x y s) _ _ (λ z. fair-taken _ refl)
        (λ z. pick-by FairStage (is_medium x.fat x.area) _ _ (fair-block z) (λ m. fair-17 (hint_of w) (hint-off x w c s y before m)))))

  fair-claimed : slot_of w.st c ≡ None → FairStage (claimed (stage_of x c s) w (free_slot w.st))
  unfolding claimed claimed_slots claim_at is_place is_listed slot_as
  fair-claimed e =
      found-by (free_slot w.st)
      (λ i f. subst (λ (g : Option ℕ). FairStage (claimed (stage_of x c s) w g)) (sym f) (fair-slot (set w.st i (slot_for c)) (rw (e, f)) i (slot_for c) (rw e)))
      (λ f. subst (λ (g : Option ℕ). FairStage (claimed (stage_of x c s) w g)) (sym f) (record { listed = refl; judged = refl; ids = λ h. refl; area = λ h. refl; state = λ h. refl }))

  fair-found : FairStage (in_found (stage_of x c s) w (slot_of w.st c))
  unfolding in_found claimed_slots is_place slot_as
  fair-found =
      found-by (slot_of w.st c)
      (λ i e. subst (λ (g : Option ℕ). FairStage (in_found (stage_of x c s) w g)) (sym e) (rw (as-was w) at (fair-slot w.st (rw e) i (get_or w.st i no_st) (rw e))))
      (λ e. subst (λ (g : Option ℕ). FairStage (in_found (stage_of x c s) w g)) (sym e) (fair-claimed e))

  pub fair-stage : FairStage (stage (stage_of x c s) w)
  unfolding stage is_listed
  fair-stage =
      pick-has FairStage x.busy _ _ (record { listed = refl; judged = refl; ids = λ h. refl; area = λ h. refl; state = λ h. refl }) fair-found
