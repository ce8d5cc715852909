-- Laws of the drive's layout.
use Rattle.std.specs.Prelude.{ℕ, ◌+◌, ◌-◌, ◌*◌, ◌/◌, ◌%◌, ◌^◌, ◌<◌, ◌≤◌, ◌≡◌, refl, leb}
use Rattle.std.proofs.Common.{ap, arith, leb-true, leb-false, le-leb, lt-ltb, le-ltb, ne_eqb}
use Rattle.std.proofs.lemmas.Bool.{lt-leb}
use Rattle.loops.specs.Choices.{either}
use Rattle.vdisk.specs.Drive.{total, last_cluster, place_of, clusters_of}
use Rattle.vdisk.specs.declared.drive.Place.TheVariants.{Fat, Root, Data, Outside}

-- The figures fit together: two copies of the FAT with 256 entries a sector hold the entries of 65,000 clusters and two more; the root
-- has 512 slots, 16 a sector; then come the clusters.
pub figures : (1 + 254 ≡ 255) × (255 + 254 ≡ 509) × ((65000 + 2 + 255) / 256 ≡ 254) × (509 + 512 / 16 ≡ 541) × (541 + 65000 * 64 ≡ total)
    × (65000 + 1 ≡ last_cluster) × (64 * 512 ≡ 32768)
figures = (refl, refl, refl, refl, refl, refl, refl)

pub clusters_of-le : (n : ℕ) → n < 2 ^ 32 → clusters_of n ≤ 131072
unfolding clusters_of
clusters_of-le n h = omega arith

-- both copies of the FAT are told apart from the rest, and alike
pub place-fat : (lba : ℕ) → 1 ≤ lba → lba < 509 → place_of lba ≡ Fat ((lba - 1) % 254)
unfolding place_of
place-fat lba l h =
    either (leb lba 254)
    (λ e. let q = leb-true lba 254 e in
    let m : lba - 1 ≡ (lba - 1) % 254 = omega arith in
    rw (ne_eqb lba 0 (λ z. omega arith), e) (ap Fat m))
    (λ e. let q = leb-false lba 254 e in
    let m : lba - 255 ≡ (lba - 1) % 254 = omega arith in
    rw (ne_eqb lba 0 (λ z. omega arith), e, le-leb lba 508 (omega arith)) (ap Fat m))

pub place-root : (lba : ℕ) → 509 ≤ lba → lba < 541 → place_of lba ≡ Root (lba - 509)
unfolding place_of
place-root lba l h =
    rw (ne_eqb lba 0 (λ z. omega arith), lt-leb lba 254 (omega arith), lt-leb lba 508 (omega arith), le-leb lba 540 (omega arith))

pub place-data : (lba : ℕ) → 541 ≤ lba → lba < total → place_of lba ≡ Data ((lba - 541) / 64 + 2) ((lba - 541) % 64)
unfolding place_of
place-data lba l h =
    rw (ne_eqb lba 0 (λ z. omega arith), lt-leb lba 254 (omega arith), lt-leb lba 508 (omega arith), lt-leb lba 540 (omega arith), lt-ltb lba total h)

pub place-outside : (lba : ℕ) → total ≤ lba → place_of lba ≡ Outside
unfolding place_of
place-outside lba l =
    rw (ne_eqb lba 0 (λ z. omega arith), lt-leb lba 254 (omega arith), lt-leb lba 508 (omega arith), lt-leb lba 540 (omega arith), le-ltb lba total l)
