-- A sector is taken exactly where the rules admit it.
use Prim.Native.Nat.{ℕ, ◌+◌, ◌*◌, ◌<◌, ◌≤◌}
use Rattle.std.proofs.Math.Bool.{Bool, true, false, not}
use Rattle.std.specs.Prelude.{◌&&◌, ◌||◌, List, ◌≡◌, leb, ltb, length, get_or, set, Option, Some, None}
use Rattle.std.proofs.Common.{true≢false, sym, ◌∙◌, arith}
use Rattle.std.proofs.Math.Path.{refl, ap}
use Rattle.std.proofs.Math.Dec.{eqb}
use borrow.Author.Tests.{ltb-false, le-leb, eqb-true, eq-eqb}
use Rattle.loops.specs.Loops.{pick, some, count}
use Rattle.loops.specs.Choices.{either, and-0, and-no}
use Rattle.loops.specs.Facts.{all-of, some-in, some-at, count-same, count-none}
use Rattle.loops.specs.Found.{found-by}
use Rattle.sector.specs.Bytes.{word}
use Rattle.vdisk.specs.Drive.{place_of, dir_kind_of}
use Rattle.vdisk.specs.Owner.{owner_of}
use Rattle.vdisk.specs.declared.drive.Place.{Place}
use Rattle.vdisk.specs.declared.drive.Place.TheVariants.{Boot, Fat, Root, Data, Outside}
use Rattle.vdisk.specs.declared.owner.Own.{Own}
use Rattle.vdisk.specs.declared.owner.Own.TheVariants.{Reserved, Fixed, Dyn, Free}
use Rattle.file_table.specs.Table.{whole_columns}
use Rattle.records.specs.Records.{max_records, no_rec}
use Rattle.root_slots.specs.OrLaws.{or-none}
use Rattle.state.specs.State.{max_pairs, pair0, no_st}
use Rattle.state.specs.Setters.{with_st, with_staging, with_hint, with_stage_t}
use Rattle.state.specs.Pairs.{pair_idx, free_pairs}
use Rattle.state.specs.PairLaws.{pair_idx-lt}
use Rattle.state.proofs.LookupLaws.{pair_idx-is, pair_idx-none}
use Rattle.state.specs.Staged.{slot_of, free_slot}
use Rattle.state.specs.declared.w.St.{St}
use Rattle.state.specs.declared.w.W.{W}
use Rattle.medium.specs.Medium.{is_medium, has_block, next_free}
use Rattle.clusters.specs.Clusters.{is_nothing, is_live, host_own, host_cluster}
use Rattle.fat_sectors.specs.Fat.{zeroed_at, zeroes_file, host_number, own_number, entry_number, needs_pair, fat_number}
use Rattle.fat_sectors.specs.Values.{fat1_passes, host_value}
use Rattle.staging.specs.Blocks.{is_parked, held_for}
use Rattle.staging.specs.Staging.{Staged, slot_for, start_staging, put_into, into_block, with_block, on_medium, in_slot, claimed, in_found, stage}
use Rattle.judge.specs.Classify.{SectorWrite, Outcome, refused, unless_shown, boot_passes, boot, fat_of, fat, root, dir, data_number, other_data, owner_in, stage_of, cluster, at_place, classify}
use Rattle.write.specs.Write.{Written, settled, unjudged, whole_sectors, table_fits, write}
use Rattle.admits.specs.Bytes.{byte_as_shown, only_bytes}
use Rattle.admits.specs.Admits.{is_host, as_shown, boot_admits, root_byte, needs_place, root_admits, dir_admits, whole_both, few_files, admits}
use Rattle.admits.specs.Admits.{entry_cluster, entry_value, entry_differs, fat1_admits, value_admits, file_zeroed, own_admits, entry_owner, entry_admits, has_pair, new_pair, fat_admits}
use Rattle.admits.specs.Admits.{is_place, slot_place, slot_as, slot_before, as_parked, needs_block, takes_none, hint_of, some_free, slot_admits, stage_admits, cluster_admits, place_admits}
use Rattle.admits.proofs.ByteLaws.{all-same, or-comm, kept-is, shown-byte, shown-only, shown-slot}
use Rattle.admits.proofs.ZeroLaws.{zero-pick, pass-pick, go-on, first-zero}
use Rattle.admits.proofs.SearchLaws.{search-found}
use Rattle.admits.proofs.RootLaws.{root-pass}
use Rattle.admits.proofs.DirLaws.{dir-pass}

-- FAT
module _ (x : SectorWrite) (w : W) (s : ℕ) where
  host-pass : (v : ℕ) → eqb (host_number v) 0 ≡ value_admits v
  unfolding host_number host_value value_admits
  host-pass v = pass-pick (value_admits v) 6 refl

  own-pass : (i : ℕ) (o : Own) → eqb (own_number (fat_of x w s) i o) 0 ≡ own_admits x w s i o
  unfolding own_number own_admits entry_value word zeroes_file zeroed_at file_zeroed
  own-pass i Reserved = refl
  own-pass i Fixed = refl
  own-pass i (Dyn j) =
      zero-pick (is_live x.ids w.pair j (entry_cluster s i)) _ _ _ _
      (pass-pick (eqb (entry_value x.written i) 0 && file_zeroed x s j) 13 refl) (host-pass (entry_value x.written i))
  own-pass i Free = host-pass (entry_value x.written i)

  pub entry-pass : (i : ℕ) → eqb (entry_number (fat_of x w s) i) 0 ≡ entry_admits x w s i
  unfolding entry_number entry_admits entry_differs entry_value word fat1_passes fat1_admits
  entry-pass i =
      zero-pick (entry_differs x i) _ true _ 0
      (zero-pick (eqb (entry_cluster s i) 0) false _ 4 _ refl
      (zero-pick (eqb (entry_cluster s i) 1) _ _ _ _ (pass-pick (fat1_admits (entry_value x.written i)) 4 refl) (own-pass i (entry_owner x w s i))))
      refl

  -- pairs
  no-pair : (c : ℕ) → 2 ≤ c → is_nothing (pair_idx w.pair c) ≡ not (has_pair w.pair c)
  unfolding is_nothing has_pair
  no-pair c l =
      found-by (pair_idx w.pair c)
      (λ n e. rw (e, some-at here max_pairs 0 n (omega arith) (omega (arith, pair_idx-lt w.pair c n e)) (eq-eqb (get_or w.pair n pair0).c c (pair_idx-is w.pair c n e).0)))
      (λ e. rw (e, none e))
    where
      here : ℕ → Bool
      here n = eqb (get_or w.pair n pair0).c c

      none : pair_idx w.pair c ≡ None → some here max_pairs 0 ≡ false
      none e =
          either (some here max_pairs 0)
          (λ t. some-in here max_pairs 0 t (λ n a b q. absurd (pair_idx-none w.pair c n e (λ z. omega arith) (omega arith) (eqb-true (get_or w.pair n pair0).c c q))))
          (λ t. t)

  -- a cluster below 2 is Reserved
  host-from-2 : (c : ℕ) → is_host x w c ≡ true → 2 ≤ c
  unfolding host_cluster host_own owner_of
  host-from-2 c e =
      either (ltb c 2)
      (λ q. absurd (true≢false (sym e ∙ rw q)))
      (λ q. ltb-false c 2 q)

  pair-same : (i : ℕ) → needs_pair (fat_of x w s) i ≡ new_pair x w s i
  unfolding needs_pair new_pair entry_differs entry_value word host_cluster
  pair-same i =
      either (is_host x w (entry_cluster s i))
      (λ e. ap (λ (b : Bool). entry_differs x i && is_host x w (entry_cluster s i) && not (eqb (entry_value x.written i) 0) && b)
      (no-pair (entry_cluster s i) (host-from-2 (entry_cluster s i) e)))
      (λ e. rw e (rw (and-no (entry_differs x i) false refl)))

  pub fat-pass : eqb (fat_number (fat_of x w s)) 0 ≡ fat_admits x w s
  unfolding fat_number fat_admits free_pairs
  fat-pass =
      first-zero (entry_number (fat_of x w s)) (entry_admits x w s) 256 (free_pairs w.pair) (count (needs_pair (fat_of x w s)) 256 0) 14 entry-pass refl
      ∙ rw (count-same (needs_pair (fat_of x w s)) (new_pair x w s) 256 0 (λ i l h. pair-same i))

-- staging
pub as-was : (w : W) → with_st w w.st ≡ w
unfolding with_st
as-was w = refl

module _ (x : SectorWrite) (w : W) (c s : ℕ) where
  abbrev is_taken : Staged → Bool
  is_taken r = eqb r.number 0

  pub start-hint : (ss : List St) → (start_staging (with_st w ss)).hint ≡ hint_of w
  unfolding start_staging with_st with_staging with_hint with_stage_t
  start-hint ss = either w.staging (λ e. rw e) (λ e. rw e)

  module _ (i : ℕ) (y : St) where
    into-pass : (u : W) (b : ℕ) → is_taken (into_block (stage_of x c s) u i y b) ≡ (eqb (held_for y s) 0 || has_block x.fat x.area (held_for y s))
    unfolding into_block put_into
    into-pass u b = either (eqb (held_for y s) 0 || has_block x.fat x.area (held_for y s)) (λ e. rw e) (λ e. rw e)

    abbrev block_admits : ℕ → Bool
    block_admits hint =
        (not (needs_block y s) || some_free x.fat hint) && (eqb (held_for y s) 0 || has_block x.fat x.area (held_for y s))

    block-pass : (u : W) → is_taken (with_block (stage_of x c s) u i y) ≡ block_admits u.hint
    unfolding with_block is_parked
    block-pass u =
        let n = next_free x.fat u.hint in
        either (needs_block y s)
        (λ e. rw (e, ← search-found x.fat u.hint) (either n.found (λ f. rw f (into-pass (with_hint u n.hint) n.block)) (λ f. rw f)))
        (λ e. rw e (into-pass u (held_for y s)))

    slot-admits : (ss : List St) → is_taken (in_slot (stage_of x c s) (with_st w ss) i y) ≡ slot_admits x w s y
    unfolding in_slot on_medium slot_admits is_parked
    slot-admits ss =
        either (as_parked x y s)
        (λ p. rw p)
        (λ p. rw p
        (either (takes_none x y s) (λ t. rw t)
        (λ t. rw t (either (is_medium x.fat x.area) (λ m. rw m (block-pass (start_staging (with_st w ss)) ∙ ap block_admits (start-hint ss))) (λ m. rw m)))))

  claim-pass : slot_of w.st c ≡ None → is_taken (claimed (stage_of x c s) w (free_slot w.st)) ≡ (is_place (free_slot w.st) && slot_admits x w s (slot_for c))
  unfolding claimed is_place
  claim-pass e =
      found-by (free_slot w.st) (λ i f. rw f (slot-admits i (slot_for c) (set w.st i (slot_for c)))) (λ f. rw f)

  found-pass : is_taken (in_found (stage_of x c s) w (slot_of w.st c)) ≡ (is_place (slot_place w.st c) && slot_admits x w s (slot_before w c))
  unfolding in_found slot_place is_place slot_as
  found-pass =
      found-by (slot_of w.st c)
      (λ i e. rw e (rw (as-was w) at (slot-admits i (get_or w.st i no_st) w.st)))
      (λ e. rw e (claim-pass e))

  stage-pass : is_taken (stage (stage_of x c s) w) ≡ stage_admits x w c s
  unfolding stage stage_admits
  stage-pass = go-on (λ (r : Staged). r.number) x.busy _ _ _ refl found-pass

-- other data is never taken
pub data-pass : (o : Own) → eqb (data_number o) 0 ≡ false
unfolding data_number
data-pass Reserved = refl
data-pass Fixed = refl
data-pass (Dyn j) = refl
data-pass Free = refl

shown-long : (x : SectorWrite) → whole_both x ≡ true → length x.shown ≡ 512
unfolding whole_both
shown-long x e = eqb-true (length x.shown) 512 (and-0 (eqb (length x.shown) 512) (eqb (length x.written) 512) e)

-- places
module _ (x : SectorWrite) (w : W) where
  unless-pass : (o : Outcome) (b : Bool) → eqb o.number 0 ≡ b → eqb (unless_shown x w o).number 0 ≡ (as_shown x || b)
  unfolding unless_shown
  unless-pass o b e = either (as_shown x) (λ q. rw q) (λ q. rw q e)

  -- where a sector as shown is admitted anyway
  covered-pass : (o : Outcome) (b : Bool) → eqb o.number 0 ≡ b → (as_shown x ≡ true → b ≡ true) → eqb (unless_shown x w o).number 0 ≡ b
  covered-pass o b e f = unless-pass o b e ∙ either (as_shown x) (λ q. rw (q, f q)) (λ q. rw q)

  other-pass : (c : ℕ) → eqb (unless_shown x w (other_data x w c)).number 0 ≡ as_shown x
  unfolding other_data
  other-pass c = unless-pass (other_data x w c) false (data-pass (owner_in x w c)) ∙ or-none (as_shown x) false refl

  pub boot-same : boot_admits x ≡ boot_passes x.shown x.written
  unfolding boot_admits only_bytes boot_passes
  boot-same =
      all-same _ _ 512 0
      (λ n l h. or-comm (byte_as_shown x n) (eqb n 0x25) ∙ ap (λ (b : Bool). eqb n 0x25 || b) (kept-is x n))

  pub boot-pass : eqb (boot x w).number 0 ≡ boot_admits x
  unfolding boot
  boot-pass = rw boot-same (either (boot_passes x.shown x.written) (λ q. rw q) (λ q. rw q))

  module _ (long : length x.shown ≡ 512) where
    boot-covers : as_shown x ≡ true → boot_admits x ≡ true
    unfolding boot_admits
    boot-covers e = shown-only x long _ e

    -- no entry differs
    entry-shown : (i : ℕ) → i < 256 → as_shown x ≡ true → entry_differs x i ≡ false
    unfolding entry_differs entry_value byte_as_shown
    entry-shown i h e =
        let a = eqb-true (get_or x.written (i * 2) 0) (get_or x.shown (i * 2) 0) (shown-byte x long (i * 2) (omega arith) e) in
        let b = eqb-true (get_or x.written (i * 2 + 1) 0) (get_or x.shown (i * 2 + 1) 0) (shown-byte x long (i * 2 + 1) (omega arith) e) in
        rw (a, b, eq-eqb (entry_value x.shown i) (entry_value x.shown i) refl)

    fat-covers : (s : ℕ) → as_shown x ≡ true → fat_admits x w s ≡ true
    unfolding fat_admits entry_admits new_pair
    fat-covers s e =
        rw (
          all-of (entry_admits x w s) 256 0 (λ i l h. rw (entry-shown i h e)),
          count-none (new_pair x w s) 256 0 (λ i l h. rw (entry-shown i h e)),
        )
        (le-leb 0 (count (λ n. eqb (get_or w.pair n pair0).c 0) max_pairs 0) (omega arith))

    root-covers : (s : ℕ) → as_shown x ≡ true → root_admits x w s ≡ true
    unfolding root_admits needs_place
    root-covers s e =
        rw (
          shown-only x long (root_byte x w s) e,
          count-none (needs_place x w s) 16 0
              (λ i l h. rw (shown-slot x long i h e, and-no (leb 7 (s * 16 + i)) false refl)),
        )
        (le-leb 0 (count (λ r. eqb (get_or w.rec r no_rec).slot 0) max_records 0) (omega arith))

    dir-covers : (k s : ℕ) → as_shown x ≡ true → dir_admits x k s ≡ true
    unfolding dir_admits
    dir-covers k s e = shown-only x long _ e

    cluster-pass : (c s : ℕ) (d : Option ℕ) → eqb (cluster x w c s d).number 0 ≡ cluster_admits x w c s d
    unfolding cluster cluster_admits dir
    cluster-pass c s (Some k) = covered-pass (dir x w k s) (dir_admits x k s) (dir-pass x k s) (dir-covers k s)
    cluster-pass c s None = either (is_host x w c) (λ e. rw e (stage-pass x w c s)) (λ e. rw e (other-pass c))

    place-pass : (p : Place) → eqb (at_place x w p).number 0 ≡ place_admits x w p
    unfolding at_place place_admits fat root
    place-pass Boot = covered-pass (boot x w) (boot_admits x) boot-pass boot-covers
    place-pass (Fat s) = covered-pass (fat x w s) (fat_admits x w s) (fat-pass x w s) (fat-covers s)
    place-pass (Root s) = covered-pass (root x w s) (root_admits x w s) (root-pass x w s) (root-covers s)
    place-pass (Data c s) = cluster-pass c s (dir_kind_of c)
    place-pass Outside = refl

  pub whole-same : whole_sectors x ≡ whole_both x
  unfolding whole_sectors whole_both
  whole-same = refl

  pub fits-same : table_fits x w ≡ few_files x
  unfolding table_fits whole_columns few_files
  fits-same = refl

  pub write-pass : eqb (write x w).number 0 ≡ admits x w
  unfolding write admits classify
  write-pass =
      rw (whole-same, fits-same)
      (either (whole_both x)
      (λ e. rw e
      (unless-not (few_files x) _ (unjudged x w 10) _ refl
      (unless-not w.rw _ (settled x (refused x w 12)) _ refl (place-pass (shown-long x e) (place_of x.lba)))))
      (λ e. rw e))
    where
      unless-not : (b t : Bool) (r q : Written) → eqb r.number 0 ≡ false → eqb q.number 0 ≡ t → eqb (pick (not b) r q).number 0 ≡ (b && t)
      unless-not true t r q e f = f
      unless-not false t r q e f = e
