-- Laws of one changed entry, by the owner of its cluster.
use Rattle.std.specs.Prelude.{ℕ, ◌+◌, ◌-◌, ◌*◌, ◌<◌, ◌≤◌, min, max, List, get_or, true, false, not, ◌&&◌, ◌≡◌, refl, eqb, length, Option, Some, None}
use Rattle.std.proofs.Common.{sym, ◌∙◌, arith, lt-ltb, eq-eqb, ne_eqb}
use Rattle.std.proofs.lemmas.Bool.{false≢true, eqb-false}
use Rattle.loops.specs.Loops.{pick, all, some}
use Rattle.loops.specs.Facts.{some-in, some-at}
use Rattle.loops.specs.Choices.{either, picked, and-1}
use Rattle.vdisk.specs.Owner.{owner_of}
use Rattle.vdisk.specs.OwnerLaws.{owner-is}
use Rattle.vdisk.specs.declared.owner.Own.{Own}
use Rattle.vdisk.specs.declared.owner.Own.TheVariants.{Reserved, Fixed, Dyn, Free}
use Rattle.vdisk.specs.Drive.{clusters_of}
use Rattle.loops.specs.Marks.{is_at, picked_by, Marks, marked}
use Rattle.file_table.specs.Files.{start_of, size_of}
use Rattle.file_table.specs.Table.{max_files}
use Rattle.file_table.specs.declared.VF.{VF}
use Rattle.file_table.proofs.FileRows.{column-at}
use Rattle.state.specs.Pairs.{pair_idx}
use Rattle.clusters.specs.Clusters.{is_nothing, is_live, host_own}
use Rattle.fat_sectors.specs.Values.{fat1_passes}
use Rattle.fat_sectors.specs.Fat.{FatWrite, cluster_at, value_at, changed_at, owner_at, zeroes_file, host_number, own_number, entry_number, needs_pair}
use Rattle.fat_sectors.specs.Fat.{freed_own, freed_by, frees_row, freed_owner}
use Rattle.fat_sectors.specs.FatLaws.{same-frees, freed_own-is, zero_of, zeroes-range}
use Rattle.fat_sectors.specs.Gathered.{judged_as, frees_at, marked_owner}
use Rattle.fat_sectors.specs.declared.fat_sector.FatSector.{FatSector}

module _ (x : FatWrite) (i : ℕ) (other : changed_at x i ≡ true) where
  module _ (o : Own) (e : owner_at x i ≡ o) where
    pub number-by : 2 ≤ cluster_at x i → entry_number x i ≡ own_number x i o
    unfolding entry_number
    number-by h = rw (other, ne_eqb (cluster_at x i) 0 (λ z. omega (arith, z)), ne_eqb (cluster_at x i) 1 (λ z. omega (arith, z)), e)

    pub needs-by : needs_pair x i ≡ (host_own x.ids x.pairs (cluster_at x i) o && not (eqb (value_at x i) 0) && is_nothing (pair_idx x.pairs (cluster_at x i)))
    unfolding needs_pair
    needs-by = rw (other, e)

    pub frees-by : freed_by x i ≡ freed_own x i o
    unfolding freed_by
    frees-by = rw (other, e)

  -- FAT[0] and FAT[1]
  module _ (low : cluster_at x i < 2) where
    owner-low : owner_at x i ≡ Reserved
    unfolding owner_of
    owner-low = rw (lt-ltb (cluster_at x i) 2 low)

    pub number-low : (v : ℕ) → v ≡ value_at x i → pick (eqb (cluster_at x i) 0) 4 (pick (fat1_passes v) 0 4) ≡ entry_number x i
    unfolding entry_number
    number-low v q =
        either (eqb (cluster_at x i) 0) (λ e. rw (other, e))
        (λ e. let z = eqb-false (cluster_at x i) 0 e in let o : cluster_at x i ≡ 1 = omega arith in rw (other, e, q, eq-eqb (cluster_at x i) 1 o))

    pub needs-low : false ≡ needs_pair x i
    unfolding host_own
    needs-low = sym (needs-by Reserved owner-low)

    pub frees-low : None ≡ freed_by x i
    unfolding freed_own
    frees-low = sym (frees-by Reserved owner-low)

  -- a file's
  module _ (j : ℕ) (e : owner_at x i ≡ Dyn j) where
    module _ (live : is_live x.ids x.pairs j (cluster_at x i) ≡ true) where
      pub number-live : pick (eqb (value_at x i) 0 && zeroes_file x j) 0 13 ≡ entry_number x i
      unfolding own_number
      number-live = sym (number-by (Dyn j) e (owner-is x.starts x.sizes x.first (cluster_at x i) j e).past ∙ rw live)

      pub needs-live : false ≡ needs_pair x i
      unfolding host_own
      needs-live = sym (needs-by (Dyn j) e ∙ rw live)

      pub frees-live : Some j ≡ freed_by x i
      unfolding freed_own
      frees-live = sym (frees-by (Dyn j) e ∙ rw live)

    module _ (gone : is_live x.ids x.pairs j (cluster_at x i) ≡ false) where
      pub number-gone : host_number (value_at x i) ≡ entry_number x i
      unfolding own_number
      number-gone = sym (number-by (Dyn j) e (owner-is x.starts x.sizes x.first (cluster_at x i) j e).past ∙ rw gone)

      pub needs-gone : (not (eqb (value_at x i) 0) && is_nothing (pair_idx x.pairs (cluster_at x i))) ≡ needs_pair x i
      unfolding host_own
      needs-gone = sym (needs-by (Dyn j) e ∙ rw gone)

      pub frees-gone : None ≡ freed_by x i
      unfolding freed_own
      frees-gone = sym (frees-by (Dyn j) e ∙ rw gone)

  -- a free one
  module _ (e : owner_at x i ≡ Free) where
    pub number-free : 2 ≤ cluster_at x i → host_number (value_at x i) ≡ entry_number x i
    unfolding own_number
    number-free h = sym (number-by Free e h)

    pub needs-free : (not (eqb (value_at x i) 0) && is_nothing (pair_idx x.pairs (cluster_at x i))) ≡ needs_pair x i
    unfolding host_own
    needs-free = sym (needs-by Free e)

    pub frees-free : None ≡ freed_by x i
    unfolding freed_own
    frees-free = sym (frees-by Free e)

-- an entry that isn't refused frees a file whose entries in the sector are all written 0
pub freed-zeroed : (x : FatWrite) (i j : ℕ) → entry_number x i ≡ 0 → freed_by x i ≡ Some j → zeroes_file x j ≡ true
freed-zeroed x i j n f =
    either (changed_at x i)
    (λ c. let o = freed_own-is x i j (owner_at x i) (sym (frees-by x i c (owner_at x i) refl) ∙ f) in
    either (is_live x.ids x.pairs j (cluster_at x i))
    (λ l. picked (eqb (value_at x i) 0 && zeroes_file x j) 0 13 0 (number-live x i c j o l ∙ n) (λ p q. and-1 (eqb (value_at x i) 0) (zeroes_file x j) p) (λ p (q : 13 ≡ 0). absurd (omega (arith, q))))
    (λ l. absurd (nothing (frees-gone x i c j o l ∙ f))))
    (λ c. absurd (nothing (sym (same-frees x i c) ∙ f)))
  where
    nothing : None ≡ Some j → ⊥
    nothing e = let z : ◌≡◌ {A = ℕ} 0 1 = cc in omega arith

-- a file's entries in the sector, by its row
module _ (x : FatSector) (j : ℕ) (d : VF) (h : j < length x.files.rows.now) where
  pub zeroes-row : (n a b : ℕ) → n ≡ clusters_of (get_or x.files.rows.now j d).vsize → a ≡ max (get_or x.files.rows.now j d).vstart (x.s * 256)
      → b ≡ min ((get_or x.files.rows.now j d).vstart + n) (x.s * 256 + 256) → all (zero_of (judged_as x)) (b - a) a ≡ zeroes_file (judged_as x) j
  zeroes-row n a b p q r = sym (rw (column-at start_of x.files.rows.now j d h, column-at size_of x.files.rows.now j d h, ← p, ← q, ← r) at (zeroes-range (judged_as x) j))

-- the files whose rows are marked 1 are those that the sector frees
marked-by : (x : FatWrite) (rows : List ℕ) → Marks (freed_by x) max_files 256 rows → (o : Own) → ((j : ℕ) → o ≡ Dyn j → j < max_files)
    → marked_owner rows o ≡ freed_owner x o
unfolding marked_owner freed_owner frees_row
marked-by x rows m Reserved h = refl
marked-by x rows m Fixed h = refl
marked-by x rows m (Dyn j) h = marked (freed_by x) max_files 256 rows m j (h j refl)
marked-by x rows m Free h = refl

pub marked-owner : (x : FatWrite) (rows : List ℕ) → Marks (freed_by x) max_files 256 rows → length x.starts ≤ max_files → (c : ℕ)
    → marked_owner rows (owner_of x.starts x.sizes x.first c) ≡ freed_owner x (owner_of x.starts x.sizes x.first c)
marked-owner x rows m l c =
    marked-by x rows m (owner_of x.starts x.sizes x.first c)
    (λ j e. let k = (owner-is x.starts x.sizes x.first c j e).row in omega arith)

-- where no entry frees a row, no owner's is freed
module _ (x : FatWrite) (none : some (frees_at x) 256 0 ≡ false) where
  is-some : (j : ℕ) (f : Option ℕ) → is_at j f ≡ true → not (is_nothing f) ≡ true
  unfolding is_at is_nothing
  is-some j (Some k) e = refl
  is-some j None e = e

  no-row : (j : ℕ) → frees_row x j ≡ false
  unfolding frees_row picked_by frees_at
  no-row j =
      either (some (λ i. is_at j (freed_by x i)) 256 0)
      (λ e. some-in (λ i. is_at j (freed_by x i)) 256 0 e
      (λ k l h q. let y = some-at (frees_at x) 256 0 k l h (is-some j (freed_by x k) q) in absurd (false≢true (sym none ∙ y))))
      (λ e. e)

  pub none-freed : (o : Own) → freed_owner x o ≡ false
  unfolding freed_owner
  none-freed Reserved = refl
  none-freed Fixed = refl
  none-freed (Dyn j) = no-row j
  none-freed Free = refl
