-- The state first stands sound, and `write` keeps it so.
use Rattle.std.specs.Prelude.{ℕ, ◌+◌, ◌/◌, ◌<◌, not, ◌&&◌, ◌||◌, List, ◌≡◌, eqb, length, get_or, set, replicate, Option, Some, None}
use Rattle.std.proofs.Math.Path.{refl}
use Rattle.std.proofs.Common.{sym, ◌∙◌, ap, get_or-set_same, eqb-true}
use Rattle.std.proofs.Math.ListN.{length-set}
use Rattle.std.proofs.lemmas.List.{length-replicate, get_or-replicate}
use Rattle.std.proofs.lemmas.Bool.{eqb-false}
use Rattle.loops.specs.Choices.{either, pick-has}
use Rattle.loops.specs.Facts.{fold-keeps}
use Rattle.loops.specs.Found.{found-by}
use Rattle.loops.specs.Keyed.{set-has, no_twice-set}
use Rattle.sector.specs.Bytes.{same, zeros}
use Rattle.vdisk.specs.Drive.{place_of, dir_kind_of}
use Rattle.vdisk.specs.declared.drive.Place.{Place}
use Rattle.vdisk.specs.declared.drive.Place.TheVariants.{Boot, Fat, Root, Data, Outside}
use Rattle.records.specs.Records.{max_records, no_rec, rec0, rec_idx}
use Rattle.records.specs.RecordLaws.{NoRecTwice, rec_idx-lt, rec_idx-is, rec_idx-none, no_rec_twice-set}
use Rattle.records.specs.declared.Rec.{Rec}
use Rattle.state.specs.State.{max_pairs, max_slots, pair0, st0, no_st, initial}
use Rattle.state.specs.Setters.{with_boot, with_fat1, with_rec, with_st, with_staging, with_stage_t, with_hint, with_ver, with_last, with_session, with_err, with_n}
use Rattle.state.specs.Staged.{slot_of, free_slot}
use Rattle.state.specs.PairLaws.{slot_of-lt, free_slot-lt}
use Rattle.state.proofs.LookupLaws.{st_key, NoSlotTwice, slot_of-none, no_twice-initial, no_slot_twice-initial}
use Rattle.state.proofs.SetPairLaws.{st-by, pairs-length, slots-length, no_twice-set_pair, no_slot_twice-set_pair, set_pair-only}
use Rattle.state.specs.declared.w.St.{St}
use Rattle.state.specs.declared.w.W.{W}
use Rattle.medium.specs.Medium.{is_medium, has_block, next_free}
use Rattle.medium.specs.Reads.{sector_of}
use Rattle.fat_sectors.specs.Fat.{FatWrite, fat_number, apply_at, fat_state, cluster_at, value_at}
use Rattle.root_sectors.specs.Root.{RootWrite, root_number, keep_at, root_state}
use Rattle.staging.specs.Blocks.{is_parked, held_for, holding_st, written_st}
use Rattle.staging.specs.Staging.{Staged, slot_for, put_into, into_block, with_block, on_medium, in_slot, claimed, in_found, stage}
use Rattle.judge.specs.Classify.{SectorWrite, Outcome, refused, unless_shown, boot_passes, boot, fat_of, fat, root_of, root, dir, other_data, stage_of, outcome_of, cluster, at_place, classify}
use Rattle.write.specs.Write.{Written, taken_state, refused_state, settled_state, settled, unjudged, whole_sectors, table_fits, write}
use Rattle.admits.specs.Admits.{is_host, hint_of}
use Rattle.demand1.specs.Sound.{Sound}
use Rattle.demand1.specs.StageChanges.{staging_state}
use Rattle.demand1.proofs.StageFair.{started, as-was}
use Rattle.demand1.proofs.FatFrame.{apply-cases}
use Rattle.demand1.proofs.RootFrame.{rec_at, keep-cases}
use Rattle.demand1.proofs.RootSets.{put-by}

no_rec_twice-empty : NoRecTwice (replicate max_records rec0)
no_rec_twice-empty i j l m h q = absurd (h (ap (λ (r : Rec). r.slot) (get_or-replicate max_records i rec0 no_rec l)))

pub sound-initial : (first : ℕ) → Sound (initial first)
unfolding initial
sound-initial first =
    record {
      pairs = length-replicate max_pairs pair0;
      recs = length-replicate max_records rec0;
      slots = length-replicate max_slots st0;
      blocks = λ i l. rw (get_or-replicate max_slots i st0 no_st l);
      one-pair = no_twice-initial first;
      one-rec = no_rec_twice-empty;
      one-slot = no_slot_twice-initial first;
    }

-- it goes by the pairs, the records and the staging slots alone
pub sound-as : (v u : W) → v.pair ≡ u.pair → v.rec ≡ u.rec → v.st ≡ u.st → Sound u → Sound v
sound-as v u p r s h =
    record {
      pairs = rw p h.pairs;
      recs = rw r h.recs;
      slots = rw s h.slots;
      blocks = rw s h.blocks;
      one-pair = rw p h.one-pair;
      one-rec = rw r h.one-rec;
      one-slot = rw s h.one-slot;
    }

-- staging slots
abbrev Blocks : List St → Type 0
Blocks ss = (i : ℕ) → i < max_slots → length (get_or ss i no_st).blk ≡ 8

blocks-set : (ss : List St) (i : ℕ) (z : St) → Blocks ss → length z.blk ≡ 8 → Blocks (set ss i z)
blocks-set ss i z h e k l = set-has (λ (y : St). length y.blk ≡ 8) no_st ss i k z (λ q. e) (h k l)

abbrev Slots : List St → Type 0
Slots ss = (length ss ≡ max_slots) × (NoSlotTwice ss × Blocks ss)

sound-slots : (v u : W) → v.pair ≡ u.pair → v.rec ≡ u.rec → Slots v.st → Sound u → Sound v
sound-slots v u p r s h =
    record {
      pairs = rw p h.pairs;
      recs = rw r h.recs;
      slots = s.0;
      blocks = s.1.1;
      one-pair = rw p h.one-pair;
      one-rec = rw r h.one-rec;
      one-slot = s.1.0;
    }

-- one set for the cluster that it was for
slots-over : (ss : List St) (i : ℕ) (z : St) → Slots ss → i < max_slots → z.c ≡ (get_or ss i no_st).c → length z.blk ≡ 8 → Slots (set ss i z)
slots-over ss i z h l e b = (
  length-set ss i z ∙ h.0,
  (
    no_twice-set st_key no_st max_slots ss i z h.1.0
        (λ j m n q. either (eqb z.c 0) (eqb-true z.c 0)
        (λ t. let o = eqb-false z.c 0 t in absurd (n (h.1.0 j i m l (λ y. o (sym q ∙ y)) (q ∙ e))))),
    blocks-set ss i z h.1.1 b,
  ),
)

-- one claimed for a cluster that has none
slots-claim : (ss : List St) (i c : ℕ) → Slots ss → slot_of ss c ≡ None → Slots (set ss i (slot_for c))
slots-claim ss i c h e = (
  length-set ss i (slot_for c) ∙ h.0,
  (
    no_twice-set st_key no_st max_slots ss i (slot_for c) h.1.0
        (λ j m n q. either (eqb c 0) (eqb-true c 0) (λ t. absurd (slot_of-none ss c j e (eqb-false c 0 t) m q))),
    blocks-set ss i (slot_for c) h.1.1 refl,
  ),
)

module _ (x : SectorWrite) (w : W) (h : Sound w) where
  module _ (c s : ℕ) where
    abbrev SoundStage : Staged → Type 0
    SoundStage r = Sound r.w

    module _ (ss : List St) (i : ℕ) (y : St) (g : Slots ss) (l : i < max_slots) (own : y.c ≡ (get_or ss i no_st).c) (long : length y.blk ≡ 8) where
      at-slots : (hint : ℕ) → Sound (staging_state w ss hint)
      unfolding staging_state with_hint with_stage_t with_staging with_st
      at-slots hint = sound-slots (staging_state w ss hint) w refl refl g h

      sound-into : (hint b : ℕ) → SoundStage (into_block (stage_of x c s) (staging_state w ss hint) i y b)
      unfolding into_block put_into staging_state with_hint with_stage_t with_staging with_st with_ver holding_st
      sound-into hint b =
          pick-has SoundStage (eqb (held_for y s) 0 || has_block x.fat x.area (held_for y s)) (put_into (stage_of x c s) (staging_state w ss hint) i y b) _
          (sound-slots _ w refl refl (slots-over ss i (holding_st y s b) g l own (length-set y.blk (s / 8) b ∙ long)) h) (at-slots hint)

      sound-block : (hint : ℕ) → SoundStage (with_block (stage_of x c s) (staging_state w ss hint) i y)
      unfolding with_block staging_state with_hint
      sound-block hint =
          let n = next_free x.fat hint in
          pick-has SoundStage (eqb (held_for y s) 0 || is_parked y s) _ _
          (pick-has SoundStage n.found _ _ (sound-into n.hint n.block) (at-slots n.hint))
          (sound-into hint (held_for y s))

      sound-slot : SoundStage (in_slot (stage_of x c s) (with_st w ss) i y)
      unfolding in_slot on_medium staging_state with_hint with_stage_t with_staging with_st with_ver written_st
      sound-slot =
          pick-has SoundStage (is_parked y s && same (sector_of x.fat x.area y s) x.written) _ _
          (sound-slots (with_st w ss) w refl refl g h)
          (rw (started w ss)
          (pick-has SoundStage (eqb (held_for y s) 0 && zeros x.written) _ _
          (sound-slots _ w refl refl (slots-over ss i (written_st y s) g l own long) h)
          (pick-has SoundStage (is_medium x.fat x.area) _ _ (sound-block (hint_of w)) (at-slots (hint_of w)))))

    sound-claimed : slot_of w.st c ≡ None → SoundStage (claimed (stage_of x c s) w (free_slot w.st))
    unfolding claimed
    sound-claimed e =
        found-by (free_slot w.st)
        (λ i f. let l = free_slot-lt w.st i f in
        rw f (sound-slot (set w.st i (slot_for c)) i (slot_for c) (slots-claim w.st i c (h.slots, (h.one-slot, h.blocks)) e) l
        (sym (ap st_key (get_or-set_same w.st i (slot_for c) no_st (rw h.slots l)))) refl))
        (λ f. rw f h)

    sound-stage : SoundStage (stage (stage_of x c s) w)
    unfolding stage in_found
    sound-stage =
        pick-has SoundStage x.busy _ _ h
        (found-by (slot_of w.st c)
        (λ i e. rw e (rw (as-was w) at (sound-slot w.st i (get_or w.st i no_st) (h.slots, (h.one-slot, h.blocks)) (slot_of-lt w.st c i e) refl (h.blocks i (slot_of-lt w.st c i e)))))
        (λ e. rw e (sound-claimed e)))

  sound-fat : (f : FatWrite) → Sound (fat_state f w)
  unfolding fat_state with_fat1
  sound-fat f =
      pick-has Sound (eqb (fat_number f) 0) _ w
      (fold-keeps Sound (apply_at f)
      (λ i v g. let c = cluster_at f i in
      let a = value_at f i in
      apply-cases f Sound i v (λ q. g) (λ q z. sound-as (with_fat1 v (a + 65536)) v refl refl refl g) (λ q z y. g)
      (λ q z y. record {
        pairs = pairs-length v c a ∙ g.pairs;
        recs = rw (set_pair-only v c a).rec g.recs;
        slots = slots-length v c a ∙ g.slots;
        blocks = st-by v c a Blocks g.blocks (λ j k e o t. blocks-set v.st k st0 g.blocks refl);
        one-pair = no_twice-set_pair v c a g.one-pair;
        one-rec = rw (set_pair-only v c a).rec g.one-rec;
        one-slot = no_slot_twice-set_pair v c a g.one-slot;
      }))
      256 0 w h) h

  sound-put : (v : W) (k : ℕ) (r : Rec) → Sound v → NoRecTwice (set v.rec k r) → Sound (with_rec v (set v.rec k r))
  unfolding with_rec
  sound-put v k r g t =
      record { pairs = g.pairs; recs = length-set v.rec k r ∙ g.recs; slots = g.slots; blocks = g.blocks; one-pair = g.one-pair; one-rec = t; one-slot = g.one-slot }

  -- a record goes over its root slot's own, or to a free place where it has none
  put-over : (v : W) (k : ℕ) (r : Rec) → Sound v → rec_idx v.rec r.slot ≡ Some k → NoRecTwice (set v.rec k r)
  put-over v k r g e =
      let u = rec_idx-is v.rec r.slot k e in
      no_rec_twice-set v.rec k r g.one-rec
      (λ j l n q. absurd (n (g.one-rec j k l (rec_idx-lt v.rec r.slot k e) (λ y. u.1 (sym q ∙ y)) (q ∙ sym u.0))))

  put-new : (v : W) (k : ℕ) (r : Rec) → Sound v → rec_idx v.rec r.slot ≡ None → NoRecTwice (set v.rec k r)
  put-new v k r g e =
      no_rec_twice-set v.rec k r g.one-rec
      (λ j l n q. either (eqb r.slot 0) (eqb-true r.slot 0) (λ y. absurd (rec_idx-none v.rec r.slot j e (eqb-false r.slot 0 y) l q)))

  sound-root : (f : RootWrite) → Sound (root_state f w)
  unfolding root_state
  sound-root f =
      pick-has Sound (eqb (root_number f) 0) _ w
      (fold-keeps Sound (keep_at f)
      (λ i v g. keep-cases f Sound i v (λ q. g)
      (λ q. put-by Sound v (rec_at f i) (λ k e. sound-put v k (rec_at f i) g (put-over v k (rec_at f i) g e))
      (λ k e o. sound-put v k (rec_at f i) g (put-new v k (rec_at f i) g e)) (λ e o. g)))
      16 0 w h) h

  unless-sound : (o : Outcome) → Sound o.w → Sound (unless_shown x w o).w
  unfolding unless_shown
  unless-sound o g = pick-has (λ (r : Outcome). Sound r.w) (same x.shown x.written) _ o h g

  sound-boot : Sound (boot x w).w
  unfolding boot with_boot
  sound-boot = pick-has (λ (r : Outcome). Sound r.w) (boot_passes x.shown x.written) _ (refused x w 3) (sound-as _ w refl refl refl h) h

  sound-cluster : (c s : ℕ) (d : Option ℕ) → Sound (cluster x w c s d).w
  unfolding cluster dir other_data
  sound-cluster c s (Some k) = unless-sound (dir x w k s) h
  sound-cluster c s None =
      pick-has (λ (r : Outcome). Sound r.w) (is_host x w c) (outcome_of (stage (stage_of x c s) w)) (unless_shown x w (other_data x w c)) (sound-stage c s)
      (unless-sound (other_data x w c) h)

  sound-place : (p : Place) → Sound (at_place x w p).w
  unfolding at_place fat root
  sound-place Boot = unless-sound (boot x w) sound-boot
  sound-place (Fat s) = unless-sound (fat x w s) (sound-fat (fat_of x w s))
  sound-place (Root s) = unless-sound (root x w s) (sound-root (root_of x w s))
  sound-place (Data c s) = sound-cluster c s (dir_kind_of c)
  sound-place Outside = h

  sound-settled : (o : Outcome) → Sound o.w → Sound (settled_state x.lba o)
  unfolding settled_state taken_state refused_state with_n with_err with_session with_last
  sound-settled o g =
      pick-has Sound (eqb o.number 0) (taken_state o.w o.changed) (refused_state o.w x.lba o.number)
      (sound-as _ o.w refl refl refl g) (sound-as _ o.w refl refl refl g)

  pub sound-write : Sound (write x w).w
  unfolding write classify
  sound-write =
      let P : Written → Type 0 = λ r. Sound r.w in
      pick-has P (not (whole_sectors x)) (unjudged x w 1) _ h
      (pick-has P (not (table_fits x w)) (unjudged x w 10) _ h
      (pick-has P (not w.rw) (settled x (refused x w 12)) (settled x (classify x w)) (sound-settled (refused x w 12) h)
      (sound-settled (classify x w) (sound-place (place_of x.lba)))))
