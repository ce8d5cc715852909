-- Every classified sector has a listed number, and a refused one leaves what is listed for it.
use Rattle.std.specs.Prelude.{ℕ, ◌*◌, true, false, ◌&&◌, ◌||◌, ◌≡◌, ltb, eqb, get_or}
use Rattle.std.proofs.Math.Path.{refl}
use Rattle.std.proofs.Common.{ne_eqb}
use Rattle.loops.specs.Loops.{pick, all, first, count}
use Rattle.loops.specs.Choices.{pick-has}
use Rattle.vdisk.specs.declared.owner.Own.{Own}
use Rattle.vdisk.specs.declared.owner.Own.TheVariants.{Reserved, Fixed, Dyn, Free}
use Rattle.state.specs.declared.w.W.{W}
use Rattle.state.specs.Setters.{with_boot}
use Rattle.slots.specs.Slots.{dates_only}
use Rattle.clusters.specs.Clusters.{is_live}
use Rattle.root_slots.specs.RootSlots.{slot_admitted}
use Rattle.fat_sectors.specs.Fat.{FatWrite, cluster_at, changed_at, value_at, owner_at, zeroes_file, host_number, own_number, entry_number, refused_at, needs_pair, fat_number, fat_state, fat_ids}
use Rattle.fat_sectors.specs.Values.{fat1_passes, host_value}
use Rattle.state.specs.Pairs.{free_pairs}
use Rattle.records.specs.Records.{free_recs}
use Rattle.root_sectors.specs.Root as R
use Rattle.dir_sectors.specs.Dir.{DirWrite, slot_passes, dir_number, dir_ids}
use Rattle.judge.specs.Classify.{SectorWrite, Outcome, refused, unless_shown, boot_passes, boot, fat_of, fat, root_of, root, dir_of, dir, data_number, other_data, owner_in}
use Rattle.sector.specs.Bytes.{same}
use Rattle.demand1.specs.Demand1.{is_listed}

-- a listed number, and neither 1 nor 10, which `write` tries, nor 17 or 18, which staging does
abbrev pub Plain : ℕ → Type 0
Plain n = (is_listed n ≡ true) × ((eqb n 1 || eqb n 10) ≡ false) × ((eqb n 17 || eqb n 18) ≡ false)

module _ (x : FatWrite) (i : ℕ) where
  plain-host : (v : ℕ) → Plain (host_number v)
  unfolding host_number is_listed
  plain-host v = pick-has Plain (host_value v) 0 6 (refl, refl, refl) (refl, refl, refl)

  plain-own : (o : Own) → Plain (own_number x i o)
  unfolding own_number is_listed
  plain-own Reserved = (refl, refl, refl)
  plain-own Fixed = (refl, refl, refl)
  plain-own (Dyn j) =
      pick-has Plain (is_live x.ids x.pairs j (cluster_at x i)) _ _
      (pick-has Plain (eqb (value_at x i) 0 && zeroes_file x j) 0 13 (refl, refl, refl) (refl, refl, refl))
      (plain-host (value_at x i))
  plain-own Free = plain-host (value_at x i)

  plain-entry : Plain (entry_number x i)
  unfolding entry_number is_listed
  plain-entry =
      pick-has Plain (changed_at x i) _ 0
      (pick-has Plain (eqb (cluster_at x i) 0) 4 _ (refl, refl, refl)
      (pick-has Plain (eqb (cluster_at x i) 1) _ _
      (pick-has Plain (fat1_passes (value_at x i)) 0 4 (refl, refl, refl) (refl, refl, refl))
      (plain-own (owner_at x i))))
      (refl, refl, refl)

pub plain-fat : (x : FatWrite) → Plain (fat_number x)
unfolding fat_number is_listed
plain-fat x =
    pick-has Plain (ltb (first (refused_at x) 256 0) 256) _ _ (plain-entry x (first (refused_at x) 256 0))
    (pick-has Plain (ltb (free_pairs x.pairs) (count (needs_pair x) 256 0)) 14 0 (refl, refl, refl) (refl, refl, refl))

plain-slot : (x : R.RootWrite) (i : ℕ) → Plain (R.slot_number x i)
unfolding R.slot_number is_listed
plain-slot x i =
    pick-has Plain (R.changed_at x i) _ 0
    (pick-has Plain (R.is_own x i) _ _
    (pick-has Plain (dates_only x.shown x.written (i * 32)) 0 7 (refl, refl, refl) (refl, refl, refl))
    (pick-has Plain (slot_admitted x.recs x.written (x.s * 16) (R.slot_at x i) (R.start_fits x i)) 0 8 (refl, refl, refl) (refl, refl, refl)))
    (refl, refl, refl)

plain-root : (x : R.RootWrite) → Plain (R.root_number x)
unfolding R.root_number is_listed
plain-root x =
    pick-has Plain (ltb (first (R.refused_at x) 16 0) 16) _ _ (plain-slot x (first (R.refused_at x) 16 0))
    (pick-has Plain (ltb (free_recs x.recs) (count (R.needs_rec x) 16 0)) 15 0 (refl, refl, refl) (refl, refl, refl))

plain-dir : (x : DirWrite) → Plain (dir_number x)
unfolding dir_number is_listed
plain-dir x = pick-has Plain (all (slot_passes x) 16 0) 0 9 (refl, refl, refl) (refl, refl, refl)

plain-data : (o : Own) → Plain (data_number o)
unfolding data_number is_listed
plain-data Reserved = (refl, refl, refl)
plain-data Fixed = (refl, refl, refl)
plain-data (Dyn j) = (refl, refl, refl)
plain-data Free = (refl, refl, refl)

-- what is claimed of a classified sector; v is what 17 and 18 leave of the state
pub record Fair (x : SectorWrite) (w v : W) (o : Outcome) : Type 0 where
  pub listed : is_listed o.number ≡ true
  pub judged : (eqb o.number 1 || eqb o.number 10) ≡ false
  pub ids : (o.number ≡ 0 → ⊥) → o.ids ≡ x.ids
  pub area : (o.number ≡ 0 → ⊥) → o.area ≡ x.area
  pub state : (o.number ≡ 0 → ⊥)
      → o.w ≡ pick (eqb o.number 17 || eqb o.number 18) v w

-- one that leaves the state where it is refused
fair-by : (x : SectorWrite) (w v : W) (o : Outcome) → Plain o.number → o.area ≡ x.area
    → ((o.number ≡ 0 → ⊥) → o.ids ≡ x.ids) → ((o.number ≡ 0 → ⊥) → o.w ≡ w) → Fair x w v o
fair-by x w v o p a i f = record { listed = p.0; judged = p.1; ids = i; area = λ h. a; state = λ h. rw p.2 (f h) }

module _ (x : SectorWrite) (w v : W) where
  pub fair-refused : (n : ℕ) → Plain n → Fair x w v (refused x w n)
  fair-refused n p = fair-by x w v (refused x w n) p refl (λ h. refl) (λ h. refl)

  fair-shown : (o : Outcome) → Fair x w v o → Fair x w v (unless_shown x w o)
  unfolding unless_shown is_listed
  fair-shown o f =
      pick-has (Fair x w v) (same x.shown x.written) _ o
      (fair-by x w v (record { number = 0; changed = false; w = w; ids = x.ids; area = x.area }) (refl, refl, refl) refl (λ h. refl) (λ h. refl)) f

  pub fair-boot : Fair x w v (unless_shown x w (boot x w))
  unfolding boot is_listed
  fair-boot =
      fair-shown (boot x w)
      (pick-has (Fair x w v) (boot_passes x.shown x.written) _ (refused x w 3)
      (fair-by x w v (record { number = 0; changed = true; w = with_boot w (get_or x.written 0x25 0); ids = x.ids; area = x.area })
      (refl, refl, refl) refl (λ h. refl) (λ h. absurd (h refl)))
      (fair-refused 3 (refl, refl, refl)))

  pub fair-fat : (s : ℕ) → Fair x w v (unless_shown x w (fat x w s))
  unfolding fat fat_state fat_ids
  fair-fat s =
      fair-shown (fat x w s)
      (fair-by x w v (fat x w s) (plain-fat (fat_of x w s)) refl
      (λ h. rw (ne_eqb (fat_number (fat_of x w s)) 0 h)) (λ h. rw (ne_eqb (fat_number (fat_of x w s)) 0 h)))

  pub fair-root : (s : ℕ) → Fair x w v (unless_shown x w (root x w s))
  unfolding root R.root_state
  fair-root s =
      fair-shown (root x w s)
      (fair-by x w v (root x w s) (plain-root (root_of x w s)) refl (λ h. refl) (λ h. rw (ne_eqb (R.root_number (root_of x w s)) 0 h)))

  pub fair-dir : (k s : ℕ) → Fair x w v (unless_shown x w (dir x w k s))
  unfolding dir dir_ids
  fair-dir k s =
      fair-shown (dir x w k s)
      (fair-by x w v (dir x w k s) (plain-dir (dir_of x k s)) refl (λ h. rw (ne_eqb (dir_number (dir_of x k s)) 0 h)) (λ h. refl))

  pub fair-data : (c : ℕ) → Fair x w v (unless_shown x w (other_data x w c))
  unfolding other_data
  fair-data c = fair-shown (other_data x w c) (fair-refused (data_number (owner_in x w c)) (plain-data (owner_in x w c)))
