-- The version number is another after a taken write exactly where the sector was staged.
use Rattle.std.specs.Prelude.{ℕ, ◌+◌, ◌*◌, ◌/◌, Bool, ◌&&◌, ◌||◌, ◌≡◌, leb, eqb, get_or, set, Option, Some, None}
use Rattle.std.proofs.Math.Bool.{true, false, not}
use Rattle.std.proofs.lemmas.Bool.{false≢true}
use Rattle.std.proofs.Math.Path.{refl, ap}
use Rattle.std.proofs.Common.{sym, ◌∙◌, arith, pow_pos, eq-eqb, ne_eqb}
use Rattle.std.proofs.Math.Nat.{div-eq_of_lt}
use Rattle.loops.specs.Loops.{pick, fold}
use Rattle.loops.specs.Choices.{pick-by, pick-has}
use Rattle.loops.specs.Facts.{fold-keeps}
use Rattle.num.specs.Num.{wrapping_next}
use Rattle.bits.specs.Bit.{bit}
use Rattle.sector.specs.Bytes.{same, zeros}
use Rattle.vdisk.specs.Drive.{place_of, dir_kind_of}
use Rattle.vdisk.specs.declared.drive.Place.{Place}
use Rattle.vdisk.specs.declared.drive.Place.TheVariants.{Boot, Fat, Root, Data, Outside}
use Rattle.slots.specs.Slots.{same_slot}
use Rattle.records.specs.declared.Rec.{Rec}
use Rattle.state.specs.State.{no_st}
use Rattle.state.specs.Setters.{with_boot, with_fat1, with_rec, with_st, with_session, with_last, with_staging, with_hint, with_stage_t, with_ver, with_err, with_n}
use Rattle.state.specs.Staged.{slot_of, free_slot}
use Rattle.state.specs.Pairs.{set_pair}
use Rattle.state.proofs.SetPairLaws.{set_pair-only}
use Rattle.state.specs.declared.w.St.{St}
use Rattle.state.specs.declared.w.W.{W}
use Rattle.medium.specs.Medium.{is_medium, has_block, next_free}
use Rattle.medium.specs.Reads.{sector_of}
use Rattle.clusters.specs.Clusters.{host_cluster}
use Rattle.fat_sectors.specs.Fat.{FatWrite, cluster_at, value_at, changed_at, owner_at, freed_owner, fat_number, apply_at, fat_state}
use Rattle.root_sectors.specs.Root.{RootWrite, root_number, put_at, keep_slot, keep_at, root_state}
use Rattle.staging.specs.Blocks.{is_parked, held_for, written_st}
use Rattle.staging.specs.Staging.{StageWrite, Staged, refused as stage_refused, unchanged, slot_for, start_staging, with_slot, put_into, into_block, with_block, on_medium, in_slot, claimed, in_found, stage}
use Rattle.judge.specs.Classify.{SectorWrite, Outcome, refused, unless_shown, boot_passes, boot, fat_of, fat, root_of, root, dir, other_data, stage_of, outcome_of, cluster, at_place, classify}
use Rattle.write.specs.Write.{taken_state, refused_state, settled_state, Written, settled, unjudged, whole_sectors, table_fits, write}
use Rattle.marks.specs.Seen.{parked_same, stages_in, stages_at}

-- one more is another number, also past the end
next-differs : (n : ℕ) → n ≡ wrapping_next n → ⊥
next-differs n e = omega arith

-- taken, it leaves the version number, or the next one where b says so
abbrev Steps : W → Bool → ℕ → W → Type 0
Steps w b n v = eqb n 0 ≡ true → v.ver ≡ pick b (wrapping_next w.ver) w.ver

differs : (b : Bool) (n m : ℕ) → m ≡ pick b (wrapping_next n) n → not (eqb n m) ≡ b
differs true n m e = rw (ne_eqb n m (λ q. next-differs n (q ∙ e)))
differs false n m e = rw (eq-eqb n m (sym e))

-- a refused sector says nothing of it
no-step : (w v : W) (b : Bool) (n : ℕ) → eqb n 0 ≡ false → Steps w b n v
no-step w v b n e q = absurd (false≢true (sym e ∙ q))

-- a slot just claimed has no parked block
zero-bit : (n : ℕ) → bit 0 n ≡ false
unfolding bit
zero-bit n = rw (div-eq_of_lt (pow_pos n))

fresh-slot : (c s : ℕ) → is_parked (slot_for c) s ≡ false
unfolding is_parked
fresh-slot c s = zero-bit (s / 8)

-- a staged sector, met in state w; w' differs from it, but not in the version number
module _ (x : StageWrite) (w : W) where
  abbrev Staging : Bool → Staged → Type 0
  Staging b o = Steps w b o.number o.w

  module _ (i : ℕ) (y : St) where
    into-steps : (w' : W) (b : ℕ) → w'.ver ≡ w.ver → Staging true (into_block x w' i y b)
    unfolding into_block put_into with_st with_ver
    into-steps w' b e =
        pick-has (Staging true) (eqb (held_for y x.s) 0 || has_block x.fat x.area (held_for y x.s)) (put_into x w' i y b) (stage_refused x 17 w')
        (λ q. ap wrapping_next e) (no-step w w' true 17 refl)

    block-steps : (w' : W) → w'.ver ≡ w.ver → Staging true (with_block x w' i y)
    unfolding with_block with_hint
    block-steps w' e =
        let f = next_free x.fat w'.hint in
        let o = with_hint w' f.hint in
        pick-has (Staging true) (eqb (held_for y x.s) 0 || is_parked y x.s) _ (into_block x w' i y (held_for y x.s))
        (pick-has (Staging true) f.found (into_block x o i y f.block) (stage_refused x 18 o) (into-steps o f.block e) (no-step w o true 18 refl))
        (into-steps w' (held_for y x.s) e)

    medium-steps : (w' : W) → w'.ver ≡ w.ver → Staging true (on_medium x w' i y)
    unfolding on_medium with_st with_ver
    medium-steps w' e =
        pick-has (Staging true) (eqb (held_for y x.s) 0 && zeros x.written)
        (record { number = 0; changed = true; w = with_slot w' i (written_st y x.s); area = x.area; ids = x.ids }) _ (λ q. ap wrapping_next e)
        (pick-has (Staging true) (is_medium x.fat x.area) (with_block x w' i y) (stage_refused x 17 w') (block-steps w' e) (no-step w w' true 17 refl))

    start-ver : (w' : W) → (start_staging w').ver ≡ w'.ver
    unfolding start_staging with_stage_t with_staging with_hint
    start-ver w' = pick-has (λ (v : W). v.ver ≡ w'.ver) w'.staging w' (with_hint (with_staging w' true) 2) refl refl

    slot-steps : (w' : W) (b : Bool) → w'.ver ≡ w.ver → (is_parked y x.s && same (sector_of x.fat x.area y x.s) x.written) ≡ b
        → Staging (not b) (in_slot x w' i y)
    unfolding in_slot
    slot-steps w' b e q =
        rw q (pick-by (Staging (not b)) b (unchanged x w') (on_medium x (start_staging w') i y)
        (λ z. rw z (λ p. e)) (λ z. rw z (medium-steps (start_staging w') (start-ver w' ∙ e))))

  claimed-steps : (f : Option ℕ) → Staging true (claimed x w f)
  unfolding claimed with_st
  claimed-steps (Some i) = slot-steps i (slot_for x.c) (with_st w (set w.st i (slot_for x.c))) false refl (rw (fresh-slot x.c x.s))
  claimed-steps None = no-step w w true 16 refl

  found-steps : (f : Option ℕ) → Staging (not (parked_same x.fat x.area w.st x.s x.written f)) (in_found x w f)
  unfolding in_found parked_same
  found-steps (Some i) = slot-steps i (get_or w.st i no_st) w (parked_same x.fat x.area w.st x.s x.written (Some i)) refl refl
  found-steps None = claimed-steps (free_slot w.st)

  stage-steps : Staging (not (parked_same x.fat x.area w.st x.s x.written (slot_of w.st x.c))) (stage x w)
  unfolding stage
  stage-steps =
      let b = not (parked_same x.fat x.area w.st x.s x.written (slot_of w.st x.c)) in
      pick-has (Staging b) x.busy (stage_refused x 19 w) (in_found x w (slot_of w.st x.c)) (no-step w w b 19 refl) (found-steps (slot_of w.st x.c))

-- the other handlers leave the number
module _ (w : W) where
  abbrev Left : W → Type 0
  Left v = v.ver ≡ w.ver

  fat-left : (x : FatWrite) → Left (fat_state x w)
  unfolding fat_state apply_at with_fat1
  fat-left x =
      pick-has Left (eqb (fat_number x) 0) (fold (apply_at x) 256 0 w) w
      (fold-keeps Left (apply_at x)
      (λ i v h. pick-has Left (changed_at x i) _ v
      (pick-has Left (eqb (cluster_at x i) 1) (with_fat1 v (value_at x i + 65536)) _ h
      (pick-has Left (freed_owner x (owner_at x i)) v (set_pair v (cluster_at x i) (value_at x i)) h ((set_pair-only v (cluster_at x i) (value_at x i)).ver ∙ h)))
      h) 256 0 w refl)
      refl

  put-left : (v : W) (r : Rec) (f : Option ℕ) → Left v → Left (put_at v r f)
  unfolding put_at with_rec
  put-left v r (Some n) h = h
  put-left v r None h = h

  root-left : (x : RootWrite) → Left (root_state x w)
  unfolding root_state keep_slot
  root-left x =
      pick-has Left (eqb (root_number x) 0) (fold (keep_at x) 16 0 w) w
      (fold-keeps Left (keep_at x)
      (λ i v h. pick-has Left (not (same_slot x.shown x.written (i * 32)) && not (leb (x.s * 16 + i) 6)) _ v (put-left v _ _ h) h) 16 0 w refl)
      refl

module _ (x : SectorWrite) (w : W) where
  abbrev Judged : Bool → Outcome → Type 0
  Judged b o = Steps w b o.number o.w

  unless-steps : (o : Outcome) → Judged false o → Judged false (unless_shown x w o)
  unfolding unless_shown
  unless-steps o h = pick-has (Judged false) (same x.shown x.written) (record { number = 0; changed = false; w = w; ids = x.ids; area = x.area }) o (λ q. refl) h

  cluster-steps : (c s : ℕ) (d : Option ℕ) → Judged (stages_in x w c s d) (cluster x w c s d)
  unfolding cluster stages_in dir other_data
  cluster-steps c s (Some k) = unless-steps (dir x w k s) (λ q. refl)
  cluster-steps c s None =
      let h = host_cluster x.ids x.starts x.sizes w.first w.pair c in
      let p = not (parked_same x.fat x.area w.st s x.written (slot_of w.st c)) in
      pick-by (Judged (h && p)) h (outcome_of (stage (stage_of x c s) w)) (unless_shown x w (other_data x w c))
      (λ e. rw e (stage-steps (stage_of x c s) w))
      (λ e. rw e (unless-steps (other_data x w c) (λ q. refl)))

  place-steps : (p : Place) → Judged (stages_at x w p) (at_place x w p)
  unfolding at_place stages_at boot fat root with_boot
  place-steps Boot =
      unless-steps (boot x w)
      (pick-has (Judged false) (boot_passes x.shown x.written) (record { number = 0; changed = true; w = with_boot w (get_or x.written 0x25 0); ids = x.ids; area = x.area })
      (refused x w 3) (λ q. refl) (λ q. refl))
  place-steps (Fat s) = unless-steps (fat x w s) (λ q. fat-left w (fat_of x w s))
  place-steps (Root s) = unless-steps (root x w s) (λ q. root-left w (root_of x w s))
  place-steps (Data c s) = cluster-steps c s (dir_kind_of c)
  place-steps Outside = λ q. refl

  -- times, counts and the error leave it too
  settled-ver : (o : Outcome) → (settled_state x.lba o).ver ≡ o.w.ver
  unfolding settled_state taken_state refused_state with_n with_session with_last with_err
  settled-ver o =
      pick-has (λ (v : W). v.ver ≡ o.w.ver) (eqb o.number 0) (taken_state o.w o.changed) (refused_state o.w x.lba o.number) refl refl

  write-steps : Steps w (stages_at x w (place_of x.lba)) (write x w).number (write x w).w
  unfolding write classify
  write-steps =
      let b = stages_at x w (place_of x.lba) in
      let P : Written → Type 0 = λ r. Steps w b r.number r.w in
      pick-has P (not (whole_sectors x)) (unjudged x w 1) _ (no-step w w b 1 refl)
      (pick-has P (not (table_fits x w)) (unjudged x w 10) _ (no-step w w b 10 refl)
      (pick-has P (not w.rw) (settled x (refused x w 12)) (settled x (classify x w)) (no-step w (settled_state x.lba (refused x w 12)) b 12 refl)
      (λ q. settled-ver (classify x w) ∙ place-steps (place_of x.lba) q)))

  pub version-stages : eqb (write x w).number 0 ≡ true → not (eqb w.ver (write x w).w.ver) ≡ stages_at x w (place_of x.lba)
  version-stages q = differs (stages_at x w (place_of x.lba)) w.ver (write x w).w.ver (write-steps q)
