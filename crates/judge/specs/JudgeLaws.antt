-- Laws of places, and of what was found to fit.
use Rattle.std.specs.Prelude.{ℕ, ◌+◌, ◌-◌, ◌/◌, ◌%◌, ◌<◌, Bool, false, ◌&&◌, List, ◌≡◌, leb, eqb, get_or, Option, Some, None}
use Rattle.std.proofs.Math.Bool.{true}
use Rattle.std.proofs.Math.Path.{refl}
use Rattle.std.proofs.Common.{arith}
use Rattle.std.proofs.Math.Dec.{ltb}
use borrow.Author.Tests.{leb-true, leb-false, ltb-true, lt-ltb}
use Rattle.loops.specs.Loops.{pick}
use Rattle.loops.specs.Choices.{either, pick-by, and-0, and-1, and-of}
use Rattle.vdisk.specs.Drive.{total, place_of}
use Rattle.vdisk.specs.declared.drive.Place.{Place}
use Rattle.vdisk.specs.declared.drive.Place.TheVariants.{Boot, Fat, Root, Data, Outside}
use Rattle.sector.specs.Bytes.{same}
use Rattle.state.specs.Setters.{with_boot}
use Rattle.state.specs.declared.w.W.{W}
use Rattle.judge.specs.Classify.{SectorWrite, sector_write, Outcome, unless_shown, boot_passes, boot, dir, other_data, cluster}

-- the numbers of a place are those of its part of the drive
unfoldable place_fits : Place → Bool
place_fits Boot = true
place_fits (Fat s) = ltb s 254
place_fits (Root s) = ltb s 32
place_fits (Data c s) = ltb c 65536 && ltb s 64
place_fits Outside = true

place-fits : (lba : ℕ) → place_fits (place_of lba) ≡ true
unfolding place_of place_fits
place-fits lba =
    pick-by P (eqb lba 0) Boot
    (pick (leb lba 254) (Fat (lba - 1))
    (pick (leb lba 508) (Fat (lba - 255))
    (pick (leb lba 540) (Root (lba - 509))
    (pick (ltb lba total) (Data ((lba - 541) / 64 + 2) ((lba - 541) % 64))
    Outside))))
    (λ e. refl)
    (λ e. pick-by P (leb lba 254) (Fat (lba - 1))
    (pick (leb lba 508) (Fat (lba - 255))
    (pick (leb lba 540) (Root (lba - 509))
    (pick (ltb lba total) (Data ((lba - 541) / 64 + 2) ((lba - 541) % 64))
    Outside)))
    (λ a. let h = leb-true lba 254 a in lt-ltb (lba - 1) 254 (omega arith))
    (λ a. pick-by P (leb lba 508) (Fat (lba - 255))
    (pick (leb lba 540) (Root (lba - 509))
    (pick (ltb lba total) (Data ((lba - 541) / 64 + 2) ((lba - 541) % 64))
    Outside))
    (λ b. let h = leb-true lba 508 b in lt-ltb (lba - 255) 254 (omega arith))
    (λ b. pick-by P (leb lba 540) (Root (lba - 509))
    (pick (ltb lba total) (Data ((lba - 541) / 64 + 2) ((lba - 541) % 64))
    Outside)
    (λ d. let h = leb-true lba 540 d in let k = leb-false lba 508 b in lt-ltb (lba - 509) 32 (omega arith))
    (λ d. pick-by P (ltb lba total) (Data ((lba - 541) / 64 + 2) ((lba - 541) % 64)) Outside
    (λ f. let h = ltb-true lba total f in
    and-of (ltb ((lba - 541) / 64 + 2) 65536) (ltb ((lba - 541) % 64) 64) (lt-ltb ((lba - 541) / 64 + 2) 65536 (omega arith)) (lt-ltb ((lba - 541) % 64) 64 (omega arith)))
    (λ f. refl)))))
  where
    P : Place → Type 0
    P p = place_fits p ≡ true

module _ (lba : ℕ) where
  pub fat-lt : (s : ℕ) → place_of lba ≡ Fat s → s < 254
  unfolding place_fits
  fat-lt s e = ltb-true s 254 (rw e at (place-fits lba))

  pub root-lt : (s : ℕ) → place_of lba ≡ Root s → s < 32
  unfolding place_fits
  root-lt s e = ltb-true s 32 (rw e at (place-fits lba))

  pub data-lt : (c s : ℕ) → place_of lba ≡ Data c s → (c < 65536) × (s < 64)
  unfolding place_fits
  data-lt c s e =
      let q : (ltb c 65536 && ltb s 64) ≡ true = rw e at (place-fits lba) in
      (ltb-true c 65536 (and-0 (ltb c 65536) (ltb s 64) q), ltb-true s 64 (and-1 (ltb c 65536) (ltb s 64) q))

-- a cluster's sector is told by cluster and sector alone
module _ (a b : ℕ) (shown written : List ℕ) (busy : Bool) (fat area ids slots starts sizes : List ℕ) (w : W) (c s : ℕ) where
  pub cluster-place : (k : Option ℕ)
      → cluster (sector_write a shown written busy fat area ids slots starts sizes) w c s k ≡ cluster (sector_write b shown written busy fat area ids slots starts sizes) w c s k
  unfolding cluster unless_shown dir other_data
  cluster-place (Some k) = refl
  cluster-place None = refl
