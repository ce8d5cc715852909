-- A sector that isn't admitted is refused with the number that the rules give.
use Prim.Native.Nat.{ℕ, ◌+◌, ◌*◌}
use Rattle.std.specs.Prelude.{not, ◌&&◌, ◌||◌, List, ◌≡◌, leb, eqb, get_or, set, Option, Some, None}
use Rattle.std.proofs.Math.Path.{refl}
use Rattle.std.proofs.Common.{◌∙◌, arith}
use borrow.Author.Tests.{eqb-true, eqb-false, le-leb, lt-leb}
use Rattle.loops.specs.Loops.{pick, all, count}
use Rattle.loops.specs.Choices.{either, pick-has}
use Rattle.loops.specs.Found.{found-by}
use Rattle.vdisk.specs.Drive.{place_of, dir_kind_of}
use Rattle.vdisk.specs.declared.drive.Place.{Place}
use Rattle.vdisk.specs.declared.drive.Place.TheVariants.{Boot, Fat, Root, Data, Outside}
use Rattle.vdisk.specs.declared.owner.Own.{Own}
use Rattle.vdisk.specs.declared.owner.Own.TheVariants.{Reserved, Fixed, Dyn, Free}
use Rattle.records.specs.Records.{free_recs}
use Rattle.slots.specs.Slots.{dates_only}
use Rattle.root_slots.specs.RootSlots.{slot_admitted}
use Rattle.state.specs.State.{no_st}
use Rattle.state.specs.Setters.{with_st, with_hint}
use Rattle.state.specs.Pairs.{free_pairs}
use Rattle.state.specs.Staged.{slot_of, free_slot}
use Rattle.state.specs.declared.w.St.{St}
use Rattle.state.specs.declared.w.W.{W}
use Rattle.medium.specs.Medium.{is_medium, has_block, next_free}
use Rattle.clusters.specs.Clusters.{is_live}
use Rattle.fat_sectors.specs.Fat.{value_at, changed_at, zeroes_file, host_number, own_number, entry_number, needs_pair, fat_number}
use Rattle.fat_sectors.specs.Values.{fat1_passes, host_value}
use Rattle.root_sectors.specs.Root.{changed_at as changed_slot_at, start_fits, slot_number, needs_rec, root_number}
use Rattle.dir_sectors.specs.Dir.{slot_passes, dir_number}
use Rattle.staging.specs.Blocks.{is_parked, held_for}
use Rattle.staging.specs.Staging.{Staged, slot_for, start_staging, put_into, into_block, with_block, on_medium, in_slot, claimed, in_found, stage}
use Rattle.judge.specs.Classify.{SectorWrite, Outcome, unless_shown, boot_passes, boot, fat_of, fat, root_of, root, dir_of, dir, data_number, other_data, owner_in, stage_of, cluster, at_place, classify}
use Rattle.write.specs.Write.{Written, write}
use Rattle.admits.specs.Bytes.{byte_as_shown, only_bytes}
use Rattle.admits.specs.Admits.{is_host, as_shown, entry_cluster, entry_owner, entry_admits, root_byte}
use Rattle.admits.specs.Admits.{is_place, slot_place, slot_as, slot_before, as_parked, needs_block, takes_none, hint_of, some_free, whole_both, few_files, admits}
use Rattle.admits.specs.Refusals.{own_refusal, entry_refusal, fat_refusal, root_refusal, stage_refusal, data_refusal, cluster_refusal, place_refusal, refusal}
use Rattle.admits.proofs.ByteLaws.{by-slots, first-slot}
use Rattle.admits.proofs.ZeroLaws.{RefusedBy, never-refused, pick-refused, go-refused, first-refused}
use Rattle.admits.proofs.SearchLaws.{search-found}
use Rattle.admits.proofs.RootLaws.{slot_bytes, slot-pass}
use Rattle.admits.proofs.AdmitLaws.{entry-pass, as-was, start-hint, whole-same, fits-same, write-pass}

-- FAT
module _ (x : SectorWrite) (w : W) (s : ℕ) where
  host-number : (v : ℕ) → RefusedBy 6 (host_number v)
  unfolding host_number
  host-number v = pick-refused (host_value v) 6

  own-number : (i : ℕ) (o : Own) → RefusedBy (own_refusal x w s i o) (own_number (fat_of x w s) i o)
  unfolding own_number own_refusal
  own-number i Reserved = λ e. refl
  own-number i Fixed = λ e. refl
  own-number i (Dyn j) =
      either (is_live x.ids w.pair j (entry_cluster s i))
      (λ e. rw e (pick-refused (eqb (value_at (fat_of x w s) i) 0 && zeroes_file (fat_of x w s) j) 13))
      (λ e. rw e (host-number (value_at (fat_of x w s) i)))
  own-number i Free = host-number (value_at (fat_of x w s) i)

  -- FAT[0] and FAT[1] are 4
  entry-number : (i : ℕ) → RefusedBy (entry_refusal x w s i) (entry_number (fat_of x w s) i)
  unfolding entry_number entry_refusal
  entry-number i =
      pick-has (RefusedBy (entry_refusal x w s i)) (changed_at (fat_of x w s) i) _ 0
      (either (eqb (entry_cluster s i) 0)
      (λ e. let q = eqb-true (entry_cluster s i) 0 e in rw (e, le-leb (entry_cluster s i) 1 (omega arith)) (λ n. refl))
      (λ e. rw e
      (either (eqb (entry_cluster s i) 1)
      (λ f. let q = eqb-true (entry_cluster s i) 1 f in rw (f, le-leb (entry_cluster s i) 1 (omega arith)) (pick-refused (fat1_passes (value_at (fat_of x w s) i)) 4))
      (λ f. let p = eqb-false (entry_cluster s i) 0 e in
      let q = eqb-false (entry_cluster s i) 1 f in
      rw (f, lt-leb (entry_cluster s i) 1 (omega arith)) (own-number i (entry_owner x w s i))))))
      (never-refused (entry_refusal x w s i))

  fat-number : RefusedBy (fat_refusal x w s) (fat_number (fat_of x w s))
  unfolding fat_number fat_refusal
  fat-number =
      first-refused (entry_number (fat_of x w s)) (entry_admits x w s) 256 (free_pairs w.pair) (count (needs_pair (fat_of x w s)) 256 0) 14 (entry-pass x w s) refl
      (entry_refusal x w s) entry-number

  -- root: 7 for the drive's own slots, 8 for others
  abbrev slot_refusal : ℕ → ℕ
  slot_refusal i = pick (leb (s * 16 + i) 6) 7 8

  slot-number : (i : ℕ) → RefusedBy (slot_refusal i) (slot_number (root_of x w s) i)
  unfolding slot_number
  slot-number i =
      pick-has (RefusedBy (slot_refusal i)) (changed_slot_at (root_of x w s) i) _ 0
      (either (leb (s * 16 + i) 6)
      (λ e. rw e (pick-refused (dates_only x.shown x.written (i * 32)) 7))
      (λ e. rw e (pick-refused (slot_admitted w.rec x.written (s * 16) (s * 16 + i) (start_fits (root_of x w s) i)) 8)))
      (never-refused (slot_refusal i))

  root-number : RefusedBy (root_refusal x w s) (root_number (root_of x w s))
  unfolding root_number root_refusal only_bytes slot_bytes
  root-number =
      rw (by-slots (λ n. byte_as_shown x n || root_byte x w s n), ← first-slot (λ n. byte_as_shown x n || root_byte x w s n))
      (first-refused (slot_number (root_of x w s)) (slot_bytes x w s) 16 (free_recs w.rec) (count (needs_rec (root_of x w s)) 16 0) 15 (slot-pass x w s) refl
      slot_refusal slot-number)

-- staging
module _ (x : SectorWrite) (w : W) (c s : ℕ) where
  abbrev block_refusal : St → ℕ → ℕ
  block_refusal y hint = pick (needs_block y s && not (some_free x.fat hint)) 18 17

  abbrev medium_refusal : St → ℕ
  medium_refusal y = pick (not (is_medium x.fat x.area)) 17 (block_refusal y (hint_of w))

  module _ (i : ℕ) (y : St) where
    into-number : (u : W) (b : ℕ) → RefusedBy 17 (into_block (stage_of x c s) u i y b).number
    unfolding into_block put_into
    into-number u b =
        either (eqb (held_for y s) 0 || has_block x.fat x.area (held_for y s)) (λ e. rw e (never-refused 17)) (λ e. rw e (λ n. refl))

    block-number : (u : W) → RefusedBy (block_refusal y u.hint) (with_block (stage_of x c s) u i y).number
    unfolding with_block is_parked
    block-number u =
        let n = next_free x.fat u.hint in
        either (needs_block y s)
        (λ e. rw (e, ← search-found x.fat u.hint) (either n.found (λ f. rw f (into-number (with_hint u n.hint) n.block)) (λ f. rw f (λ q. refl))))
        (λ e. rw e (into-number u (held_for y s)))

    medium-number : (ss : List St) → RefusedBy (medium_refusal y) (in_slot (stage_of x c s) (with_st w ss) i y).number
    unfolding in_slot on_medium is_parked
    medium-number ss =
        either (as_parked x y s)
        (λ p. rw p (never-refused (medium_refusal y)))
        (λ p. rw p
        (either (takes_none x y s) (λ t. rw t (never-refused (medium_refusal y)))
        (λ t. rw t
        (either (is_medium x.fat x.area)
        (λ m. rw (m, ← start-hint x w c s ss) (block-number (start_staging (with_st w ss)))) (λ m. rw m (λ n. refl))))))

  found-number : RefusedBy (pick (not (is_place (slot_place w.st c))) 16 (medium_refusal (slot_before w c))) (in_found (stage_of x c s) w (slot_of w.st c)).number
  unfolding in_found claimed slot_place is_place slot_as
  found-number =
      found-by (slot_of w.st c)
      (λ i e. rw e (rw (as-was w) at (medium-number i (get_or w.st i no_st) w.st)))
      (λ e. rw e (found-by (free_slot w.st) (λ i f. rw f (medium-number i (slot_for c) (set w.st i (slot_for c)))) (λ f. rw f (λ n. refl))))

  stage-number : RefusedBy (stage_refusal x w c s) (stage (stage_of x c s) w).number
  unfolding stage stage_refusal
  stage-number = go-refused (λ (r : Staged). r.number) x.busy 19 _ _ _ refl found-number

-- places
module _ (x : SectorWrite) (w : W) where
  unless-number : (r : ℕ) (o : Outcome) → RefusedBy r o.number → RefusedBy r (unless_shown x w o).number
  unfolding unless_shown
  unless-number r o f = either (as_shown x) (λ e. rw e (never-refused r)) (λ e. rw e f)

  boot-number : RefusedBy 3 (boot x w).number
  unfolding boot
  boot-number = either (boot_passes x.shown x.written) (λ e. rw e (never-refused 3)) (λ e. rw e (λ n. refl))

  dir-number : (k s : ℕ) → RefusedBy 9 (dir x w k s).number
  unfolding dir dir_number
  dir-number k s = pick-refused (all (slot_passes (dir_of x k s)) 16 0) 9

  data-number : (o : Own) → RefusedBy (data_refusal o) (data_number o)
  unfolding data_number data_refusal
  data-number Reserved = λ e. refl
  data-number Fixed = λ e. refl
  data-number (Dyn j) = λ e. refl
  data-number Free = λ e. refl

  cluster-number : (c s : ℕ) (d : Option ℕ) → RefusedBy (cluster_refusal x w c s d) (cluster x w c s d).number
  unfolding cluster cluster_refusal other_data
  cluster-number c s (Some k) = unless-number 9 (dir x w k s) (dir-number k s)
  cluster-number c s None =
      either (is_host x w c) (λ e. rw e (stage-number x w c s))
      (λ e. rw e (unless-number (data_refusal (owner_in x w c)) (other_data x w c) (data-number (owner_in x w c))))

  place-number : (p : Place) → RefusedBy (place_refusal x w p) (at_place x w p).number
  unfolding at_place place_refusal fat root
  place-number Boot = unless-number 3 (boot x w) boot-number
  place-number (Fat s) = unless-number (fat_refusal x w s) (fat x w s) (fat-number x w s)
  place-number (Root s) = unless-number (root_refusal x w s) (root x w s) (root-number x w s)
  place-number (Data c s) = cluster-number c s (dir_kind_of c)
  place-number Outside = λ e. refl

  write-refused : RefusedBy (refusal x w) (write x w).number
  unfolding write refusal classify
  write-refused =
      rw (whole-same x w, fits-same x w)
      (go-refused number (not (whole_both x)) 1 _ _ _ refl
      (go-refused number (not (few_files x)) 10 _ _ _ refl
      (go-refused number (not w.rw) 12 _ _ _ refl (place-number (place_of x.lba)))))
    where
      number : Written → ℕ
      number r = r.number

  pub write-number : (write x w).number ≡ pick (admits x w) 0 (refusal x w)
  write-number =
      either (admits x w)
      (λ a. rw a (eqb-true (write x w).number 0 (write-pass x w ∙ a)))
      (λ a. rw a (write-refused (write-pass x w ∙ a)))
