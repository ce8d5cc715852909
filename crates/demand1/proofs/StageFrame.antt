-- What a staged sector changes.
use Rattle.std.specs.Prelude.{ℕ, ◌<◌, Bool, true, false, not, ◌&&◌, ◌||◌, ◌≡◌, eqb, length, get_or, set, Option, Some, None}
use Rattle.std.proofs.Common.{true≢false, sym, ◌∙◌, arith, length-set, get_or-set_same}
use mathlib.Core.List.{List}
use Rattle.std.proofs.Math.Path.{refl, ap, subst}
use Rattle.std.proofs.Math.Seq.{get_or-set_other}
use Rattle.std.proofs.Math.Pow.{pow_pos}
use borrow.Author.Tests.{eqb-true, eqb-false}
use Rattle.loops.specs.Loops.{pick}
use Rattle.loops.specs.Choices.{pick-by, or-by, or-no, and-0, and-1}
use Rattle.loops.specs.Found.{found-by}
use Rattle.loops.specs.Rows.{rows, rows-same}
use Rattle.num.specs.Num.{wrapping_next}
use Rattle.bits.specs.Bit.{set_bit}
use Rattle.sector.specs.Bytes.{same, zeros}
use Rattle.vdisk.specs.Ids.{turned}
use Rattle.slots.specs.Slots.{refers_to}
use Rattle.state.specs.State.{max_slots, no_st}
use Rattle.state.specs.Setters.{with_st, with_staging, with_hint, with_stage_t, with_ver}
use Rattle.state.specs.Staged.{slot_of, free_slot}
use Rattle.state.specs.PairLaws.{slot_of-lt, free_slot-lt}
use Rattle.state.proofs.LookupLaws.{slot_of-is}
use Rattle.state.specs.declared.w.St.{St}
use Rattle.state.specs.declared.w.W.{W}
use Rattle.medium.specs.Medium.{is_medium, has_block, next_free}
use Rattle.medium.specs.MediumLaws.{InArea, block-in}
use Rattle.medium.specs.Reads.{sector_of}
use Rattle.staging.specs.Blocks.{is_parked, held_for, block_at, filled_block, holding_st, written_st}
use Rattle.staging.specs.BlockLaws.{bit-le}
use Rattle.staging.specs.Staging.{Staged, refused, slot_for, move_id, moved_ids, put_into, into_block, with_block, on_medium, in_slot, claimed, in_found, stage}
use Rattle.judge.specs.Classify.{SectorWrite, stage_of, outcome_of}
use Rattle.admits.specs.Admits.{is_place, slot_place, slot_as, slot_before, as_parked, needs_block, takes_none, hint_of}
use Rattle.admits.proofs.SearchLaws.{search-found, search-block}
use Rattle.demand1.specs.Sound.{Sound}
use Rattle.demand1.specs.StageChanges.{staging_state, block_to, hint_after, StageOnly}
use Rattle.demand1.specs.Changes.{Same}
use Rattle.demand1.proofs.Area.{area-length, area-own, area-other, filled-length, filled-at, free-has}
use Rattle.demand1.proofs.SlotLaws.{written-set, holding-set}
use Rattle.demand1.proofs.Turns.{rows-still}
use Rattle.demand1.proofs.StageFair.{started, as-was, hint-none, hint-held, hint-searched}

-- the place of a cluster's slot is one of the slots'
place-lt : (ss : List St) (c i : ℕ) → slot_place ss c ≡ Some i → i < max_slots
unfolding slot_place is_place
place-lt ss c i =
    found-by (slot_of ss c) (λ k e. rw e (λ (q : Some k ≡ Some i). let n : k ≡ i = cc in rw (← n) (slot_of-lt ss c k e))) (λ e. rw e (free_slot-lt ss i))

-- the slot as a sector finds it is the cluster's own, and has eight block numbers
before-own : (w : W) (c : ℕ) → (slot_before w c).c ≡ c
unfolding slot_as
before-own w c = found-by (slot_of w.st c) (λ i e. rw e (slot_of-is w.st c i e).0) (λ e. rw e)

before-long : (w : W) (c : ℕ) → Sound w → length (slot_before w c).blk ≡ 8
unfolding slot_as
before-long w c h = found-by (slot_of w.st c) (λ i e. rw e (h.blocks i (slot_of-lt w.st c i e))) (λ e. rw e)

module _ (x : SectorWrite) (w : W) (c s : ℕ) where
  abbrev moves_row : ℕ → ℕ → Bool
  moves_row j id = not (zeros x.written) && turned id && refers_to x.written (get_or x.starts j 0) (get_or x.sizes j 0)

  ids-zero : zeros x.written ≡ true → x.ids ≡ rows (λ j id. pick (moves_row j id) (set_bit id 15) id) x.ids
  ids-zero e = rows-still (λ j id. pick (moves_row j id) (set_bit id 15) id) 0 x.ids (λ j id. rw e)

  ids-moved : moved_ids (stage_of x c s) ≡ rows (λ j id. pick (moves_row j id) (set_bit id 15) id) x.ids
  unfolding moved_ids move_id
  ids-moved =
      pick-by (λ (l : List ℕ). l ≡ rows (λ j id. pick (moves_row j id) (set_bit id 15) id) x.ids) (zeros x.written) x.ids
      (rows (move_id (stage_of x c s)) x.ids) ids-zero
      (λ e. rows-same (move_id (stage_of x c s)) (λ j id. pick (moves_row j id) (set_bit id 15) id) x.ids (λ j id h. rw e))

  abbrev Done : Staged → Type 0
  Done r = (r.number ≡ 0 → as_parked x (slot_before w c) s ≡ false → StageOnly x w c s (outcome_of r)) × (r.number ≡ 0 → r.changed ≡ false → Same x w (outcome_of r))

  not-taken : (r : Staged) → (r.number ≡ 0 → ⊥) → Done r
  not-taken r h = (λ e. absurd (h e), λ e. absurd (h e))

  -- slot i, which is y, with the slots ss once it is claimed
  module _ (ss : List St) (i : ℕ) (y : St) (place : slot_place w.st c ≡ Some i) (before : slot_before w c ≡ y)
      (long : length ss ≡ length w.st) (stands : (k : ℕ) → (k ≡ i → ⊥) → get_or ss k no_st ≡ get_or w.st k no_st) (own : is_parked y s ≡ true → ss ≡ w.st)
      (wide : length x.written ≡ 512) where
    others : (z : St) (k : ℕ) → (slot_place w.st c ≡ Some k → ⊥) → get_or (set ss i z) k no_st ≡ get_or w.st k no_st
    others z k n = let h : k ≡ i → ⊥ = λ e. n (rw e place) in get_or-set_other ss i k z no_st h ∙ stands k h

    the-slot : (z : St) → Sound w → (k : ℕ) → slot_place w.st c ≡ Some k → get_or (set ss i z) k no_st ≡ z
    the-slot z h k e =
        let q : Some i ≡ Some k = sym place ∙ e in
        let n : i ≡ k = cc in
        let l : i < length ss = rw (long, h.slots) (place-lt w.st c i place) in
        rw (← n) (get_or-set_same ss i z no_st l)

    done-zero : takes_none x y s ≡ true → (r : Staged) → r.changed ≡ true
        → r.w ≡ with_ver (staging_state w (set ss i (written_st y s)) (hint_of w)) (wrapping_next w.ver) → r.area ≡ x.area → r.ids ≡ x.ids → Done r
    unfolding staging_state with_ver with_hint with_stage_t with_staging with_st
    done-zero z r t e a j = (
      λ n q. record {
        state = rw (hint-none x w c s y before z) (e ∙ rw e);
        slots = λ k h. rw e (others (written_st y s) k h);
        ids = j ∙ ids-zero (and-1 (eqb (held_for y s) 0) (zeros x.written) z);
        slot = λ g k h. rw (e, the-slot (written_st y s) g k h, before) (written-set x c s (block_to x w c s) y (rw before at (before-own w c)) z);
        none = λ t. a;
        filled = λ t. absurd (true≢false (sym (rw before z) ∙ t));
        bytes = λ k h. rw a;
        long = rw a;
      },
      λ n q. absurd (true≢false (sym t ∙ q)),
    )

    done-put : (hint b : ℕ) → hint_after x w c s ≡ hint → takes_none x y s ≡ false → b ≡ block_to x w c s → has_block x.fat x.area b ≡ true
        → ((held_for y s ≡ 0 → ⊥) → InArea x.area (held_for y s)) → Done (put_into (stage_of x c s) (staging_state w ss hint) i y b)
    unfolding put_into staging_state with_ver with_hint with_stage_t with_staging with_st
    done-put hint b t z e m f =
        let l = filled-length x y s wide f in
        let bs = filled_block x.area y s x.written in
        let a = block-in x.fat x.area b m in (
          λ n q. record {
            state = rw t;
            slots = λ k h. others (holding_st y s b) k h;
            ids = ids-moved;
            slot = λ g k h. rw (the-slot (holding_st y s b) g k h, before, ← e)
                (holding-set x c s b y (rw before at (before-own w c)) (rw before at (before-long w c g)) z);
            none = λ t. absurd (true≢false (sym t ∙ rw before z));
            filled = λ t k h. rw (before, ← e) (area-own x.area bs b l a k h ∙ filled-at x y s wide f k h);
            bytes = λ k h. area-other x.area bs b l a k (rw e h);
            long = area-length x.area bs b l a;
          },
          λ n q. absurd (true≢false q),
        )

    -- a block held is one of the medium's where the sector goes into it
    held-in : (eqb (held_for y s) 0 || has_block x.fat x.area (held_for y s)) ≡ true → (held_for y s ≡ 0 → ⊥)
        → has_block x.fat x.area (held_for y s) ≡ true
    held-in q h =
        or-by (eqb (held_for y s) 0) (has_block x.fat x.area (held_for y s)) q (λ z. absurd (h (eqb-true (held_for y s) 0 z))) (λ z. z)

    done-into : (hint b : ℕ) → hint_after x w c s ≡ hint → takes_none x y s ≡ false → b ≡ block_to x w c s
        → ((eqb (held_for y s) 0 || has_block x.fat x.area (held_for y s)) ≡ true → has_block x.fat x.area b ≡ true)
        → Done (into_block (stage_of x c s) (staging_state w ss hint) i y b)
    unfolding into_block
    done-into hint b t z e m =
        pick-by Done (eqb (held_for y s) 0 || has_block x.fat x.area (held_for y s)) (put_into (stage_of x c s) (staging_state w ss hint) i y b)
        (refused (stage_of x c s) 17 (staging_state w ss hint))
        (λ q. done-put hint b t z e (m q) (λ h. block-in x.fat x.area (held_for y s) (held-in q h)))
        (λ q. not-taken (refused (stage_of x c s) 17 (staging_state w ss hint)) (λ r. omega arith))

    to-free : needs_block y s ≡ true → (next_free x.fat (hint_of w)).found ≡ true → (next_free x.fat (hint_of w)).block ≡ block_to x w c s
    unfolding block_to
    to-free q f = rw (before, q) (search-block x.fat (hint_of w) (sym (search-found x.fat (hint_of w)) ∙ f))

    to-held : needs_block y s ≡ false → held_for y s ≡ block_to x w c s
    unfolding block_to
    to-held q = rw (before, q)

    done-block : takes_none x y s ≡ false → is_medium x.fat x.area ≡ true → Done (with_block (stage_of x c s) (staging_state w ss (hint_of w)) i y)
    unfolding with_block staging_state with_hint is_parked
    done-block z m =
        let n = next_free x.fat (hint_of w) in
        pick-by Done (needs_block y s)
        (pick n.found (into_block (stage_of x c s) (staging_state w ss n.hint) i y n.block) (refused (stage_of x c s) 18 (staging_state w ss n.hint)))
        (into_block (stage_of x c s) (staging_state w ss (hint_of w)) i y (held_for y s))
        (λ q. pick-by Done n.found (into_block (stage_of x c s) (staging_state w ss n.hint) i y n.block) (refused (stage_of x c s) 18 (staging_state w ss n.hint))
        (λ f. done-into n.hint n.block (hint-searched x w c s y before z m q) z (to-free q f) (λ r. free-has x.fat x.area (hint_of w) m f))
        (λ f. not-taken (refused (stage_of x c s) 18 (staging_state w ss n.hint)) (λ r. omega arith)))
        (λ q. let h : held_for y s ≡ 0 → ⊥ = eqb-false (held_for y s) 0 (or-no (eqb (held_for y s) 0) (is_parked y s) q).0 in
        done-into (hint_of w) (held_for y s) (hint-held x w c s y before q) z (to-held q) (λ r. held-in r h))

    done-slot : Done (in_slot (stage_of x c s) (with_st w ss) i y)
    unfolding in_slot on_medium with_ver staging_state with_st with_hint with_stage_t with_staging is_parked
    done-slot =
        pick-by Done (is_parked y s && same (sector_of x.fat x.area y s) x.written) _ _
        (λ q. (
          λ n t. absurd (true≢false (sym (rw before q) ∙ t)),
          λ n t. record { state = ap (with_st w) (own (and-0 (is_parked y s) (same (sector_of x.fat x.area y s) x.written) q)); ids = refl; area = refl },
        ))
        (λ q. rw (started w ss)
        (pick-by Done (eqb (held_for y s) 0 && zeros x.written) _ _
        (λ z. done-zero z _ refl refl refl refl)
        (λ z. pick-by Done (is_medium x.fat x.area) _ _ (done-block z) (λ m. not-taken _ (λ r. omega arith)))))

  module _ (wide : length x.written ≡ 512) where
    done-claimed : slot_of w.st c ≡ None → Done (claimed (stage_of x c s) w (free_slot w.st))
    unfolding claimed slot_place is_place slot_as is_parked
    done-claimed e =
        found-by (free_slot w.st)
        (λ i f. subst (λ (g : Option ℕ). Done (claimed (stage_of x c s) w g)) (sym f)
        (done-slot (set w.st i (slot_for c)) i (slot_for c) (rw (e, f)) (rw e) (length-set w.st i (slot_for c)) (λ k h. get_or-set_other w.st i k (slot_for c) no_st h)
        (λ q. let z = bit-le 0 (block_at s) q in let p = pow_pos (block_at s) in absurd (omega arith)) wide))
        (λ f. subst (λ (g : Option ℕ). Done (claimed (stage_of x c s) w g)) (sym f) (not-taken (refused (stage_of x c s) 16 w) (λ r. omega arith)))

    done-found : Done (in_found (stage_of x c s) w (slot_of w.st c))
    unfolding in_found slot_place is_place slot_as
    done-found =
        found-by (slot_of w.st c)
        (λ i e. subst (λ (g : Option ℕ). Done (in_found (stage_of x c s) w g)) (sym e) (rw (as-was w) at (done-slot w.st i (get_or w.st i no_st) (rw e) (rw e) refl (λ k h. refl) (λ q. refl) wide)))
        (λ e. subst (λ (g : Option ℕ). Done (in_found (stage_of x c s) w g)) (sym e) (done-claimed e))

    pub done-stage : Done (stage (stage_of x c s) w)
    unfolding stage
    done-stage =
        pick-by Done x.busy _ _ (λ q. not-taken (refused (stage_of x c s) 19 w) (λ r. omega arith)) (λ q. done-found)
