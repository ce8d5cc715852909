-- Every classified sector, by its place: fair where it is refused, and changing what is listed where it is taken.
use Rattle.std.specs.Prelude.{ℕ, true, length, get_or, Option, Some, None}
use Rattle.std.proofs.Math.Bool.{false}
use Rattle.std.proofs.Common.{true≢false, sym, ◌∙◌}
use Rattle.std.proofs.Math.Path.{◌≡◌, refl}
use native.Mathlib.Omega.{arith}
use Rattle.loops.specs.Choices.{pick-by}
use Rattle.sector.specs.Bytes.{same}
use Rattle.vdisk.specs.Drive.{dir_kind_of}
use Rattle.vdisk.specs.declared.drive.Place.{Place}
use Rattle.vdisk.specs.declared.drive.Place.TheVariants.{Boot, Fat, Root, Data, Outside}
use Rattle.vdisk.specs.declared.owner.Own.{Own}
use Rattle.vdisk.specs.declared.owner.Own.TheVariants.{Reserved, Fixed, Dyn, Free}
use Rattle.state.specs.Setters.{with_boot}
use Rattle.state.specs.declared.w.W.{W}
use Rattle.staging.specs.Staging.{stage}
use Rattle.judge.specs.Classify.{SectorWrite, Outcome, refused, unless_shown, boot_passes, boot, fat, root, dir, data_number, other_data, owner_in, stage_of, outcome_of, cluster, at_place}
use Rattle.admits.specs.Admits.{is_host}
use Rattle.demand1.specs.Changes.{Same, BootOnly, FatOnly, RootOnly, DirOnly, differs, InCluster, AtPlace}
use Rattle.demand1.specs.Demand1.{is_listed, cluster_of, sector_in, claimed_state}
use Rattle.demand1.proofs.Fair.{Fair, fair-refused, fair-boot, fair-fat, fair-root, fair-dir, fair-data}
use Rattle.demand1.proofs.StageFair.{claimed_in, fair-stage}
use Rattle.demand1.proofs.StageFrame.{done-stage}
use Rattle.demand1.proofs.FatFrame.{fat-opens}
use Rattle.demand1.proofs.RootFrame.{root-only, root-same}
use Rattle.demand1.proofs.FatSets.{fat-only}
use Rattle.demand1.proofs.RootSets.{root-keeps}
use Rattle.demand1.proofs.DirFrame.{dir-only, dir-same}

-- v is what 17 and 18 leave of the state
pub record Judged (x : SectorWrite) (w v : W) (Changes : Outcome → Type 0) (o : Outcome) : Type 0 where
  pub fair : Fair x w v o
  pub unchanged : o.number ≡ 0 → o.changed ≡ false → Same x w o
  pub changes : o.number ≡ 0 → Changes o

module _ (x : SectorWrite) (w : W) where
  -- a handler that is asked unless the sector is as shown
  unless-by : (v : W) (Only : Outcome → Type 0) (o : Outcome) → Fair x w v (unless_shown x w o)
      → (o.number ≡ 0 → o.changed ≡ false → Same x w o) → (o.number ≡ 0 → Only o)
      → Judged x w v (λ r. differs x → Only r) (unless_shown x w o)
  unfolding unless_shown
  unless-by v Only o f g h =
      let t = same x.shown x.written in
      let u : Outcome = record { number = 0; changed = false; w = w; ids = x.ids; area = x.area } in
      record {
        fair = f;
        unchanged = pick-by (λ r. r.number ≡ 0 → r.changed ≡ false → Same x w r) t u o (λ e n q. record { state = refl; ids = refl; area = refl }) (λ e. g);
        changes = pick-by (λ r. r.number ≡ 0 → differs x → Only r) t u o (λ e n d. absurd (true≢false (sym e ∙ d))) (λ e n d. h n);
      }

  boot-only : (boot x w).number ≡ 0 → BootOnly x w (boot x w)
  unfolding boot
  boot-only =
      pick-by (λ r. r.number ≡ 0 → BootOnly x w r) (boot_passes x.shown x.written)
      (record { number = 0; changed = true; w = with_boot w (get_or x.written 0x25 0); ids = x.ids; area = x.area }) (refused x w 3)
      (λ q n. record { state = refl; ids = refl; area = refl }) (λ q n. absurd (omega arith))

  boot-opens : (boot x w).number ≡ 0 → (boot x w).changed ≡ false → Same x w (boot x w)
  unfolding boot
  boot-opens =
      pick-by (λ r. r.number ≡ 0 → r.changed ≡ false → Same x w r) (boot_passes x.shown x.written)
      (record { number = 0; changed = true; w = with_boot w (get_or x.written 0x25 0); ids = x.ids; area = x.area }) (refused x w 3)
      (λ q n t. absurd (true≢false t)) (λ q n. absurd (omega arith))

  data-refused : (o : Own) → data_number o ≡ 0 → ⊥
  unfolding data_number
  data-refused Reserved = λ (e : ◌≡◌ {A = ℕ} 5 0). omega arith
  data-refused Fixed = λ (e : ◌≡◌ {A = ℕ} 5 0). omega arith
  data-refused (Dyn j) = λ (e : ◌≡◌ {A = ℕ} 13 0). omega arith
  data-refused Free = λ (e : ◌≡◌ {A = ℕ} 13 0). omega arith

  module _ (wide : length x.written ≡ 512) (c s : ℕ) where
    abbrev JudgedIn : Option ℕ → Outcome → Type 0
    JudgedIn d o = Judged x w (claimed_in x w c s) (λ r. InCluster x w c s r d) o

    judged-data : is_host x w c ≡ false → JudgedIn None (unless_shown x w (other_data x w c))
    unfolding other_data InCluster
    judged-data e =
        let j = unless-by (claimed_in x w c s) (λ o. ⊥) (other_data x w c) (fair-data x w (claimed_in x w c s) c)
        (λ n. absurd (data-refused (owner_in x w c) n)) (λ n. data-refused (owner_in x w c) n) in
        record { fair = j.fair; unchanged = j.unchanged; changes = λ n. (λ h. absurd (true≢false (sym h ∙ e)), λ h d. j.changes n d) }

    judged-stage : is_host x w c ≡ true → JudgedIn None (outcome_of (stage (stage_of x c s) w))
    unfolding InCluster
    judged-stage e =
        record {
          fair = fair-stage x w c s;
          unchanged = (done-stage x w c s wide).1;
          changes = λ n. (λ h t. (done-stage x w c s wide).0 n t, λ h. absurd (true≢false (sym e ∙ h)));
        }

    judged-cluster : (d : Option ℕ) → JudgedIn d (cluster x w c s d)
    unfolding cluster InCluster
    judged-cluster (Some k) = unless-by (claimed_in x w c s) (DirOnly x w k s) (dir x w k s) (fair-dir x w (claimed_in x w c s) k s) (dir-same x w k s) (dir-only x w k s)
    judged-cluster None =
        pick-by (JudgedIn None) (is_host x w c) (outcome_of (stage (stage_of x c s) w)) (unless_shown x w (other_data x w c)) judged-stage judged-data

  pub judged : length x.written ≡ 512 → (p : Place) → Judged x w (claimed_state x w p) (λ o. AtPlace x w o p) (at_place x w p)
  unfolding at_place claimed_state cluster_of sector_in AtPlace is_listed
  judged wide Boot = unless-by (claimed_state x w Boot) (BootOnly x w) (boot x w) (fair-boot x w (claimed_state x w Boot)) boot-opens boot-only
  judged wide (Fat s) =
      unless-by (claimed_state x w (Fat s)) (FatOnly x w s) (fat x w s) (fair-fat x w (claimed_state x w (Fat s)) s) (λ n q. absurd (true≢false (sym (fat-opens x w s n) ∙ q))) (fat-only x w s)
  judged wide (Root s) =
      unless-by (claimed_state x w (Root s)) (RootOnly x w s) (root x w s) (fair-root x w (claimed_state x w (Root s)) s) (root-same x w s) (λ n. root-only x w s n (root-keeps x w s n))
  judged wide (Data c s) = judged-cluster wide c s (dir_kind_of c)
  judged wide Outside = record { fair = fair-refused x w (claimed_state x w Outside) 2 (refl, refl, refl); unchanged = λ n. absurd (omega arith); changes = λ n. omega arith }
