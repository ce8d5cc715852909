-- What Changes says of a FAT sector's entries is what the handler reads of them.
use Rattle.std.specs.Prelude.{ℕ, ◌&&◌, ◌≡◌}
use Rattle.std.proofs.Math.Path.{refl, sym}
use Rattle.std.proofs.Common.{◌∙◌}
use Rattle.std.proofs.Math.Dec.{eqb}
use borrow.Author.Tests.{eqb-true, eq-eqb}
use Rattle.loops.specs.Choices.{either}
use Rattle.loops.specs.Marks.{is_at, picked_by}
use Rattle.sector.specs.Bytes.{word}
use Rattle.vdisk.specs.declared.owner.Own.{Own}
use Rattle.vdisk.specs.declared.owner.Own.TheVariants.{Reserved, Fixed, Dyn, Free}
use Rattle.state.specs.declared.w.W.{W}
use Rattle.clusters.specs.Clusters.{is_live}
use Rattle.fat_sectors.specs.Fat.{FatWrite, cluster_at, value_at, changed_at, owner_at, freed_own, freed_by, frees_row, freed_owner}
use Rattle.judge.specs.Classify.{SectorWrite, fat_of}
use Rattle.admits.specs.Admits.{entry_cluster, entry_value, entry_differs, entry_owner}
use Rattle.demand1.specs.Changes.{entry_changed, is_of, frees_file, frees_owner, sets_pair, pair_set, pair_removed}
use Rattle.demand1.proofs.Turns.{some-same}
use Rattle.demand1.proofs.FatFrame.{changed_in, sets_in, set_in, removed_in}

module _ (x : SectorWrite) (w : W) (s : ℕ) where
  abbrev f : FatWrite
  f = fat_of x w s

  pub value-same : (i : ℕ) → value_at f i ≡ entry_value x.written i
  unfolding word entry_value
  value-same i = refl

  pub differs-same : (i : ℕ) → entry_differs x i ≡ changed_at f i
  unfolding word entry_value entry_differs
  differs-same i = refl

  pub changed-same : (k : ℕ) → entry_changed x s k ≡ changed_in f k
  unfolding entry_changed changed_in
  changed-same k =
      some-same (λ i. entry_differs x i && eqb (entry_cluster s i) k) (λ i. changed_at f i && eqb (cluster_at f i) k) 256 0 (λ i. rw (differs-same i))

  -- the file that a changed entry frees
  own-frees : (j i : ℕ) (o : Own) → is_at j (freed_own f i o) ≡ (is_of j o && is_live x.ids w.pair j (entry_cluster s i))
  unfolding freed_own is_at is_of
  own-frees j i Reserved = refl
  own-frees j i Fixed = refl
  own-frees j i (Dyn k) =
      either (eqb k j)
      (λ e. let z = eqb-true k j e in
      rw (z, eq-eqb j j refl) (either (is_live x.ids w.pair j (entry_cluster s i)) (λ q. rw q (eq-eqb j j refl)) (λ q. rw q)))
      (λ e. rw e (either (is_live x.ids w.pair k (entry_cluster s i)) (λ q. rw q e) (λ q. rw q)))
  own-frees j i Free = refl

  by-frees : (j i : ℕ) → is_at j (freed_by f i) ≡ (entry_differs x i && (is_of j (entry_owner x w s i) && is_live x.ids w.pair j (entry_cluster s i)))
  unfolding freed_by is_at
  by-frees j i =
      either (changed_at f i)
      (λ e. rw (e, differs-same i ∙ e) (own-frees j i (owner_at f i)))
      (λ e. rw (e, differs-same i ∙ e))

  pub frees-same : (j : ℕ) → frees_row f j ≡ frees_file x w s j
  unfolding frees_row picked_by frees_file
  frees-same j =
      some-same (λ i. is_at j (freed_by f i)) (λ i. entry_differs x i && (is_of j (entry_owner x w s i) && is_live x.ids w.pair j (entry_cluster s i))) 256 0 (by-frees j)

  owner-same : (o : Own) → frees_owner x w s o ≡ freed_owner f o
  unfolding frees_owner freed_owner
  owner-same Reserved = refl
  owner-same Fixed = refl
  owner-same (Dyn j) = sym (frees-same j)
  owner-same Free = refl

  pub sets-same : (i : ℕ) → sets_pair x w s i ≡ sets_in f i
  unfolding sets_pair sets_in
  sets-same i = rw (differs-same i, owner-same (entry_owner x w s i))

  pub set-same : (k : ℕ) → pair_set x w s k ≡ set_in f k
  unfolding pair_set set_in
  set-same k = some-same (λ i. sets_pair x w s i && eqb (entry_cluster s i) k) (λ i. sets_in f i && eqb (cluster_at f i) k) 256 0 (λ i. rw (sets-same i))

  pub removed-same : (k : ℕ) → pair_removed x w s k ≡ removed_in f k
  unfolding pair_removed removed_in
  removed-same k =
      rw (some-same (λ i. sets_pair x w s i && eqb (entry_cluster s i) k && eqb (entry_value x.written i) 0) (λ i. sets_in f i && eqb (cluster_at f i) k && eqb (value_at f i) 0) 256 0
      (λ i. rw (sets-same i, value-same i)))
