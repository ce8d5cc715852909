-- A taken sector opens the session exactly where the rules say so.
use Prim.Native.Nat.{ℕ, zero, suc, ◌+◌, ◌*◌, ◌<◌, ◌≤◌}
use Rattle.std.proofs.Math.Bool.{Bool, false, not}
use Rattle.std.specs.Prelude.{true, ◌&&◌, ◌||◌, ◌≡◌, eqb, get_or, set, Option, Some, None}
use Rattle.std.proofs.Common.{true≢false, sym, ◌∙◌, arith}
use Rattle.std.proofs.Math.Path.{refl, ap}
use Rattle.std.proofs.Math.Dec.{leb}
use borrow.Author.Tests.{eq-eqb}
use Rattle.loops.specs.Loops.{pick, all, some}
use Rattle.loops.specs.Choices.{either, pick-by, and-no}
use Rattle.loops.specs.Found.{found-by}
use Rattle.vdisk.specs.Drive.{place_of, dir_kind_of}
use Rattle.vdisk.specs.declared.drive.Place.{Place}
use Rattle.vdisk.specs.declared.drive.Place.TheVariants.{Boot, Fat, Root, Data, Outside}
use Rattle.root_slots.specs.OrLaws.{or-none}
use Rattle.state.specs.State.{no_st}
use Rattle.state.specs.Setters.{with_st}
use Rattle.state.specs.Staged.{slot_of, free_slot}
use Rattle.state.specs.declared.w.St.{St}
use Rattle.state.specs.declared.w.W.{W}
use Rattle.medium.specs.Medium.{is_medium, has_block, next_free}
use Rattle.fat_sectors.specs.Fat.{fat_number}
use Rattle.root_sectors.specs.Root.{root_number, kept_at, root_changed}
use Rattle.dir_sectors.specs.Dir.{turned_by, is_found, dir_number, dir_changed}
use Rattle.staging.specs.Blocks.{is_parked, held_for}
use Rattle.staging.specs.Staging.{Staged, slot_for, start_staging, put_into, into_block, with_block, on_medium, in_slot, claimed, in_found, stage}
use Rattle.judge.specs.Classify.{SectorWrite, Outcome, refused, unless_shown, boot_passes, boot, fat_of, fat, root_of, root, dir_of, dir}
use Rattle.judge.specs.Classify.{data_number, other_data, owner_in, stage_of, cluster, at_place, classify}
use Rattle.write.specs.Write.{Written, settled, unjudged, whole_sectors, table_fits, write}
use Rattle.admits.specs.Bytes.{byte_as_shown, only_bytes, slot_of_byte, place_in_slot, slot_as_shown, date_byte}
use Rattle.admits.specs.Admits.{is_host, as_shown, slot_as, slot_before, as_parked, needs_block, takes_none}
use Rattle.admits.proofs.ByteLaws.{all-same, slot-is, byte-is, by-slots, slot_dates, kept-slot}
use Rattle.admits.proofs.RootLaws.{own-dates}
use Rattle.admits.proofs.DirLaws.{turn-dates, taken-dates}
use Rattle.admits.proofs.AdmitLaws.{data-pass}
use Rattle.opens.specs.Opens.{unchanged_in, unchanged_at, dates_in, dates_at, opens_at, opens}

-- one of them is so exactly where not all are otherwise
some-not : (p q : ℕ → Bool) (n i : ℕ) → ((k : ℕ) → i ≤ k → k < i + n → p k ≡ not (q k)) → some p n i ≡ not (all q n i)
unfolding some all
some-not p q zero i f = refl
some-not p q (suc n) i f =
    rw (f i (omega arith) (omega arith), some-not p q n (i + 1) (λ k l h. f k (omega arith) (omega arith)))
    (either (q i) (λ e. rw e) (λ e. rw e))

-- a number that is 0 and isn't
never : {R : Type 0} (n : ℕ) → eqb n 0 ≡ false → n ≡ 0 → R
never n e q = absurd (true≢false (sym (eq-eqb n 0 q) ∙ e))

module _ (x : SectorWrite) where
  -- dates alone, slot by slot
  dates-slots : only_bytes x (λ n. date_byte (place_in_slot n)) ≡ all (slot_dates x) 16 0
  unfolding only_bytes slot_dates
  dates-slots =
      by-slots (λ n. byte_as_shown x n || date_byte (place_in_slot n))
      ∙ all-same (λ i. all (λ b. byte_as_shown x (i * 32 + b) || date_byte (place_in_slot (i * 32 + b))) 32 0) (slot_dates x) 16 0
      (λ i l h. all-same (λ b. byte_as_shown x (i * 32 + b) || date_byte (place_in_slot (i * 32 + b))) (λ b. byte_as_shown x (i * 32 + b) || date_byte b) 32 0
      (λ b m k. rw (byte-is i b (omega arith))))

  -- of the drive's own slots
  abbrev own_dates : ℕ → ℕ → Bool
  own_dates s i = pick (leb (s * 16 + i) 6) (slot_dates x i) (slot_as_shown x i)

  own-slots : (s : ℕ) → only_bytes x (λ n. leb (s * 16 + slot_of_byte n) 6 && date_byte (place_in_slot n)) ≡ all (own_dates s) 16 0
  unfolding only_bytes slot_dates slot_as_shown
  own-slots s =
      by-slots byte
      ∙ all-same (λ i. all (λ b. byte (i * 32 + b)) 32 0) (own_dates s) 16 0
      (λ i l h. all-same (λ b. byte (i * 32 + b)) (λ b. byte_as_shown x (i * 32 + b) || (leb (s * 16 + i) 6 && date_byte b)) 32 0
      (λ b m k. rw (slot-is i b (omega arith), byte-is i b (omega arith)))
      ∙ either (leb (s * 16 + i) 6) (λ e. rw e)
      (λ e. rw e (all-same (λ b. byte_as_shown x (i * 32 + b) || false) (λ b. byte_as_shown x (i * 32 + b)) 32 0 (λ b m k. or-none (byte_as_shown x (i * 32 + b)) false refl))))
    where
      byte : ℕ → Bool
      byte n = byte_as_shown x n || (leb (s * 16 + slot_of_byte n) 6 && date_byte (place_in_slot n))

module _ (x : SectorWrite) (w : W) where
  -- one as shown doesn't; another does, but for dates
  unless-opens : (o : Outcome) (dates : Bool) → (o.number ≡ 0 → o.changed ≡ not dates)
      → (unless_shown x w o).number ≡ 0 → (unless_shown x w o).changed ≡ not (as_shown x || dates)
  unfolding unless_shown
  unless-opens o dates f = either (as_shown x) (λ e. rw e (λ n. refl)) (λ e. rw e f)

  boot-opens : (boot x w).number ≡ 0 → (boot x w).changed ≡ true
  unfolding boot
  boot-opens =
      pick-by (λ (o : Outcome). o.number ≡ 0 → o.changed ≡ true) (boot_passes x.shown x.written) _ (refused x w 3) (λ e n. refl) (λ e n. never 3 refl n)

  fat-opens : (s : ℕ) → (fat x w s).number ≡ 0 → (fat x w s).changed ≡ true
  unfolding fat
  fat-opens s n = eq-eqb (fat_number (fat_of x w s)) 0 n

  root-opens : (s : ℕ) → (root x w s).number ≡ 0 → (root x w s).changed ≡ not (only_bytes x (λ n. leb (s * 16 + slot_of_byte n) 6 && date_byte (place_in_slot n)))
  unfolding root root_changed kept_at
  root-opens s n =
      rw (eq-eqb (root_number (root_of x w s)) 0 n, own-slots x s)
      (some-not (kept_at (root_of x w s)) (own_dates x s) 16 0
      (λ i l h. rw (← kept-slot x i)
      (either (leb (s * 16 + i) 6)
      (λ e. rw (e, own-dates x w s n i (omega arith) e) (and-no (not (slot_as_shown x i)) false refl))
      (λ e. rw e (either (slot_as_shown x i) (λ k. rw k) (λ k. rw k))))))

  dir-opens : (k s : ℕ) → (dir x w k s).number ≡ 0 → (dir x w k s).changed ≡ not (only_bytes x (λ n. date_byte (place_in_slot n)))
  unfolding dir dir_changed
  dir-opens k s n =
      rw (eq-eqb (dir_number (dir_of x k s)) 0 n, dates-slots x)
      (some-not (λ i. is_found (turned_by (dir_of x k s) i)) (slot_dates x) 16 0
      (λ i l h. either (is_found (turned_by (dir_of x k s) i))
      (λ e. rw (e, turn-dates x k s i e)) (λ e. rw (e, taken-dates x k s n i (omega arith) e))))

  -- staging
  module _ (c s : ℕ) where
    abbrev Opened : Staged → Type 0
    Opened r = r.number ≡ 0 → r.changed ≡ true

    into-opens : (u : W) (i : ℕ) (y : St) (b : ℕ) → Opened (into_block (stage_of x c s) u i y b)
    unfolding into_block put_into
    into-opens u i y b = pick-by Opened (eqb (held_for y s) 0 || has_block x.fat x.area (held_for y s)) _ _ (λ e n. refl) (λ e n. never 17 refl n)

    medium-opens : (u : W) (i : ℕ) (y : St) → Opened (on_medium (stage_of x c s) u i y)
    unfolding on_medium with_block is_parked
    medium-opens u i y =
        pick-by Opened (takes_none x y s) _ _ (λ e n. refl)
        (λ e. pick-by Opened (is_medium x.fat x.area) _ _
        (λ m. pick-by Opened (needs_block y s) _ _
        (λ b. pick-by Opened (next_free x.fat u.hint).found _ _ (λ f. into-opens _ i y _) (λ f n. never 18 refl n))
        (λ b. into-opens u i y (held_for y s)))
        (λ m n. never 17 refl n))

    slot-opens : (u : W) (i : ℕ) (y : St) → (in_slot (stage_of x c s) u i y).number ≡ 0 → (in_slot (stage_of x c s) u i y).changed ≡ not (as_parked x y s)
    unfolding in_slot is_parked
    slot-opens u i y = either (as_parked x y s) (λ e. rw e (λ n. refl)) (λ e. rw e (medium-opens (start_staging u) i y))

    claim-opens : (claimed (stage_of x c s) w (free_slot w.st)).number ≡ 0
        → (claimed (stage_of x c s) w (free_slot w.st)).changed ≡ not (as_parked x (slot_for c) s)
    unfolding claimed
    claim-opens =
        found-by (free_slot w.st)
        (λ i f. rw f (slot-opens (with_st w (set w.st i (slot_for c))) i (slot_for c))) (λ f. rw f (λ n. never 16 refl n))

    found-opens : (in_found (stage_of x c s) w (slot_of w.st c)).number ≡ 0
        → (in_found (stage_of x c s) w (slot_of w.st c)).changed ≡ not (as_parked x (slot_before w c) s)
    unfolding in_found slot_as
    found-opens = found-by (slot_of w.st c) (λ i e. rw e (slot-opens w i (get_or w.st i no_st))) (λ e. rw e claim-opens)

    stage-opens : (stage (stage_of x c s) w).number ≡ 0 → (stage (stage_of x c s) w).changed ≡ not (as_parked x (slot_before w c) s)
    unfolding stage
    stage-opens =
        pick-by (λ (r : Staged). r.number ≡ 0 → r.changed ≡ not (as_parked x (slot_before w c) s)) x.busy _ _ (λ e n. never 19 refl n) (λ e. found-opens)

  -- places
  other-opens : (c : ℕ) → (unless_shown x w (other_data x w c)).number ≡ 0 → (unless_shown x w (other_data x w c)).changed ≡ not (as_shown x || false)
  unfolding other_data
  other-opens c = unless-opens (other_data x w c) false (λ n. never (data_number (owner_in x w c)) (data-pass (owner_in x w c)) n)

  cluster-opens : (c s : ℕ) (d : Option ℕ) → (cluster x w c s d).number ≡ 0 → (cluster x w c s d).changed ≡ not (unchanged_in x w c s d || dates_in x d)
  unfolding cluster unchanged_in dates_in
  cluster-opens c s (Some k) = unless-opens (dir x w k s) (only_bytes x (λ n. date_byte (place_in_slot n))) (dir-opens k s)
  cluster-opens c s None =
      either (is_host x w c)
      (λ e. rw e (λ n. stage-opens c s n ∙ ap not (sym (or-none (as_parked x (slot_before w c) s) false refl))))
      (λ e. rw e (other-opens c))

  place-opens : (p : Place) → (at_place x w p).number ≡ 0 → (at_place x w p).changed ≡ opens_at x w p
  unfolding at_place opens_at unchanged_at dates_at
  place-opens Boot = unless-opens (boot x w) false boot-opens
  place-opens (Fat s) = unless-opens (fat x w s) false (fat-opens s)
  place-opens (Root s) = unless-opens (root x w s) (only_bytes x (λ n. leb (s * 16 + slot_of_byte n) 6 && date_byte (place_in_slot n))) (root-opens s)
  place-opens (Data c s) = cluster-opens c s (dir_kind_of c)
  place-opens Outside = λ n. never 2 refl n

  abbrev Said : Written → Type 0
  Said r = r.number ≡ 0 → (classify x w).changed ≡ opens x w

  pub write-opens : (write x w).number ≡ 0 → (classify x w).changed ≡ opens x w
  unfolding write classify opens
  write-opens =
      pick-by Said (not (whole_sectors x)) (unjudged x w 1) _ (λ e n. never 1 refl n)
      (λ e. pick-by Said (not (table_fits x w)) (unjudged x w 10) _ (λ t n. never 10 refl n)
      (λ t. pick-by Said (not w.rw) (settled x (refused x w 12)) (settled x (classify x w)) (λ r n. never 12 refl n)
      (λ r. place-opens (place_of x.lba))))
