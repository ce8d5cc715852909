-- Laws of a written FAT sector.
use Rattle.std.specs.Prelude.{ℕ, ◌+◌, ◌-◌, ◌*◌, ◌<◌, ◌≤◌, min, max, Bool, false, ◌&&◌, ◌||◌, List, leb, length, Option, Some, None}
use Rattle.std.proofs.Math.Bool.{true, not}
use Rattle.std.proofs.Math.Path.{◌≡◌, refl}
use Rattle.std.proofs.Common.{ap}
use Rattle.std.proofs.lemmas.Bool.{false≢true}
use native.Mathlib.Omega.{arith}
use Rattle.std.proofs.Math.Dec.{ltb, eqb}
use Rattle.std.proofs.Math.ListN.{get_or}
use borrow.Author.Tests.{eq-eqb, ne_eqb, le-leb, lt-ltb, leb-true, ltb-true}
use Rattle.loops.specs.Loops.{pick, all}
use Rattle.loops.specs.Choices.{either, picked, same-if, and-0, and-1, or-by, or-l, or-r}
use Rattle.loops.specs.Facts.{all-at, all-of}
use Rattle.loops.specs.Rows.{rows as rows_of, rows-same}
use Rattle.loops.specs.Marks.{Marks, marked}
use Rattle.bits.specs.Bit.{set_bit}
use Rattle.sector.specs.Bytes.{word}
use Rattle.vdisk.specs.Drive.{clusters_of}
use Rattle.vdisk.specs.OwnerLaws.{owner-is}
use Rattle.vdisk.specs.declared.owner.Own.{Own}
use Rattle.vdisk.specs.declared.owner.Own.TheVariants.{Reserved, Fixed, Dyn, Free}
use Rattle.file_table.specs.Table.{in_file, max_files}
use Rattle.state.specs.Pairs.{pair_idx, set_at, set_pair}
use Rattle.state.specs.Setters.{with_fat1}
use Rattle.state.specs.declared.w.W.{W}
use Rattle.clusters.specs.Clusters.{is_nothing, is_live}
use Rattle.fat_sectors.specs.Fat.{FatWrite, cluster_at, value_at, changed_at, zeroed_at, zeroes_file, owner_at, needs_pair}
use Rattle.fat_sectors.specs.Fat.{freed_own, freed_by, frees_row, freed_owner, free_id, apply_at}

-- the entry of cluster c is written 0
abbrev pub zero_of : FatWrite → ℕ → Bool
zero_of x c = eqb (word x.written ((c - x.s * 256) * 2)) 0

-- the file's entries in this sector are those from lo to below hi
module _ (x : FatWrite) (j : ℕ) where
  whole-range : zeroes_file x j ≡ true → (c : ℕ) → max (get_or x.starts j 0) (x.s * 256) ≤ c
      → c < min (get_or x.starts j 0 + clusters_of (get_or x.sizes j 0)) (x.s * 256 + 256) → zero_of x c ≡ true
  unfolding zeroes_file zeroed_at in_file
  whole-range e c l h =
      let st = get_or x.starts j 0 in
      let en = get_or x.starts j 0 + clusters_of (get_or x.sizes j 0) in
      let i = c - x.s * 256 in
      let z : x.s * 256 + (c - x.s * 256) ≡ c = omega arith in
      let q : (not (leb st (x.s * 256 + i) && ltb (x.s * 256 + i) en) || eqb (word x.written (i * 2)) 0) ≡ true =
      all-at (zeroed_at x j) 256 0 i e (omega arith) (omega arith) in
      or-by (not (leb st (x.s * 256 + i) && ltb (x.s * 256 + i) en)) (eqb (word x.written (i * 2)) 0) q
      (λ n. absurd (not-in st en (x.s * 256 + i) n (omega arith) (omega arith)))
      (λ y. y)
    where
      not-in : (a b k : ℕ) → not (leb a k && ltb k b) ≡ true → a ≤ k → k < b → ⊥
      not-in a b k n p q = let w : not (true && true) ≡ true = rw (le-leb a k p, lt-ltb k b q) at n in let z : ◌≡◌ {A = ℕ} 0 1 = cc in omega arith

  range-whole : ((c : ℕ) → max (get_or x.starts j 0) (x.s * 256) ≤ c
      → c < min (get_or x.starts j 0 + clusters_of (get_or x.sizes j 0)) (x.s * 256 + 256) → zero_of x c ≡ true) → zeroes_file x j ≡ true
  unfolding zeroes_file zeroed_at in_file
  range-whole f =
      all-of (zeroed_at x j) 256 0
      (λ i a b.
      let st = get_or x.starts j 0 in
      let en = get_or x.starts j 0 + clusters_of (get_or x.sizes j 0) in
      let k = x.s * 256 + i in
      either (leb st k && ltb k en)
      (λ e. let p = leb-true st k (and-0 (leb st k) (ltb k en) e) in
      let q = ltb-true k en (and-1 (leb st k) (ltb k en) e) in
      let z : x.s * 256 + i - x.s * 256 ≡ i = omega arith in
      or-r (not (leb st k && ltb k en)) (eqb (word x.written (i * 2)) 0)
      (rw z at (f k (omega arith) (omega arith))))
      (λ e. or-l (not (leb st k && ltb k en)) (eqb (word x.written (i * 2)) 0) (ap not e)))

  pub zeroes-range : zeroes_file x j
      ≡ all (zero_of x) (min (get_or x.starts j 0 + clusters_of (get_or x.sizes j 0)) (x.s * 256 + 256) - max (get_or x.starts j 0) (x.s * 256))
      (max (get_or x.starts j 0) (x.s * 256))
  zeroes-range =
      let a = max (get_or x.starts j 0) (x.s * 256) in
      let b = min (get_or x.starts j 0 + clusters_of (get_or x.sizes j 0)) (x.s * 256 + 256) in
      same-if (zeroes_file x j) (all (zero_of x) (b - a) a)
      (λ e. all-of (zero_of x) (b - a) a (λ c l h. whole-range e c l (omega arith)))
      (λ e. range-whole (λ c l h. all-at (zero_of x) (b - a) a c e l (omega arith)))

-- an entry as it was shown is not refused, and needs and frees nothing
module _ (x : FatWrite) (i : ℕ) (same : changed_at x i ≡ false) where
  pub same-needs : needs_pair x i ≡ false
  unfolding needs_pair
  same-needs = rw same

  pub same-frees : freed_by x i ≡ None
  unfolding freed_by
  same-frees = rw same

pub freed_own-is : (x : FatWrite) (i j : ℕ) (o : Own) → freed_own x i o ≡ Some j → o ≡ Dyn j
unfolding freed_own
freed_own-is x i j Reserved = λ (e : None ≡ Some j). let z : ◌≡◌ {A = ℕ} 0 1 = cc in absurd (omega arith)
freed_own-is x i j Fixed = λ (e : None ≡ Some j). let z : ◌≡◌ {A = ℕ} 0 1 = cc in absurd (omega arith)
freed_own-is x i j (Dyn k) =
    λ e. picked (is_live x.ids x.pairs k (cluster_at x i)) (Some k) None (Some j) e
    (λ p (q : Some k ≡ Some j). let w : k ≡ j = cc in ap Dyn w)
    (λ p (q : None ≡ Some j). let z : ◌≡◌ {A = ℕ} 0 1 = cc in absurd (omega arith))
freed_own-is x i j Free = λ (e : None ≡ Some j). let z : ◌≡◌ {A = ℕ} 0 1 = cc in absurd (omega arith)

pub freed_by-lt : (x : FatWrite) (i j : ℕ) → freed_by x i ≡ Some j → j < length x.starts
unfolding freed_by
freed_by-lt x i j e =
    picked (changed_at x i) (freed_own x i (owner_at x i)) None (Some j) e
    (λ p q. (owner-is x.starts x.sizes x.first (cluster_at x i) j (freed_own-is x i j (owner_at x i) q)).row)
    (λ p (q : None ≡ Some j). let z : ◌≡◌ {A = ℕ} 0 1 = cc in absurd (omega arith))

-- marking the rows that are marked 1 marks those that the sector frees
pub freed-ids : (x : FatWrite) (rows : List ℕ) → Marks (freed_by x) max_files 256 rows → length x.ids ≤ max_files
    → rows_of (λ j id. pick (eqb (get_or rows j 0) 1) (set_bit id 13) id) x.ids ≡ rows_of (free_id x) x.ids
unfolding free_id frees_row
freed-ids x rows m l =
    rows-same (λ j id. pick (eqb (get_or rows j 0) 1) (set_bit id 13) id) (free_id x) x.ids
    (λ j id h. ap (λ (b : Bool). pick b (set_bit id 13) id) (marked (freed_by x) max_files 256 rows m j (omega arith)))

set-none : (w : W) (c : ℕ) (f : Option ℕ) → is_nothing f ≡ true → set_at w c 0 f ≡ w
unfolding set_at is_nothing
set-none w c (Some k) e = absurd (false≢true e)
set-none w c None e = refl

pick-same : (b : Bool) (w : W) → pick b w w ≡ w
pick-same true w = refl
pick-same false w = refl

-- an entry as shown changes nothing
module _ (x : FatWrite) (i : ℕ) (w : W) where
  pub unchanged-entry : changed_at x i ≡ false → apply_at x i w ≡ w
  unfolding apply_at
  unchanged-entry e = rw e

  -- a changed one sets FAT[1], nothing for a file that is freed, or the cluster's pair
  module _ (changed : changed_at x i ≡ true) where
    pub fat1-entry : cluster_at x i ≡ 1 → apply_at x i w ≡ with_fat1 w (value_at x i + 65536)
    unfolding apply_at
    fat1-entry e = rw (changed, eq-eqb (cluster_at x i) 1 e)

    -- 0 for a cluster that has no pair sets nothing, whoever owns it
    pub nothing-entry : (cluster_at x i ≡ 1 → ⊥) → value_at x i ≡ 0 → is_nothing (pair_idx w.pair (cluster_at x i)) ≡ true → apply_at x i w ≡ w
    unfolding apply_at set_pair
    nothing-entry h v p = rw (changed, ne_eqb (cluster_at x i) 1 h, v, set-none w (cluster_at x i) (pair_idx w.pair (cluster_at x i)) p) (pick-same (freed_owner x (owner_at x i)) w)

    pub freed-entry : (cluster_at x i ≡ 1 → ⊥) → freed_owner x (owner_at x i) ≡ true → apply_at x i w ≡ w
    unfolding apply_at
    freed-entry h f = rw (changed, ne_eqb (cluster_at x i) 1 h, f)

    pub pair-entry : (cluster_at x i ≡ 1 → ⊥) → freed_owner x (owner_at x i) ≡ false → apply_at x i w ≡ set_pair w (cluster_at x i) (value_at x i)
    unfolding apply_at
    pair-entry h f = rw (changed, ne_eqb (cluster_at x i) 1 h, f)
