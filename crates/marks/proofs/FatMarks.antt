-- What a FAT sector does to a row's marks, and that what every call keeps is kept.
use Rattle.std.specs.Prelude.{ℕ, ◌+◌, ◌*◌, ◌%◌, ◌<◌, ◌&&◌, ◌||◌, ltb, length, Some, None}
use Rattle.std.proofs.Math.Bool.{true, false, not}
use Rattle.std.proofs.Common.{true≢false, ◌∙◌, arith}
use Rattle.std.proofs.lemmas.Bool.{false≢true}
use mathlib.Core.List.{List}
use Rattle.std.proofs.Math.Path.{◌≡◌, refl, sym, ap}
use Rattle.std.proofs.Math.Dec.{eqb}
use Rattle.std.proofs.Math.ListN.{get_or}
use borrow.Author.Tests.{ltb-true, ltb-false, eqb-true, eqb-false, ne_eqb, not-true, not-false}
use Rattle.loops.specs.Loops.{pick, all, first, count, fold}
use Rattle.loops.specs.Choices.{either, pick-by, pick-has, picked, and-of, and-0, and-1, or-by, or-l, or-r, or-no, same-if}
use Rattle.loops.specs.Facts.{all-at, all-not, some-in, some-at, first-at, first-below}
use Rattle.loops.specs.Marks.{is_at, picked_by}
use Rattle.loops.specs.Rows.{rows as rows_of, rows-at}
use Rattle.bits.specs.Bit.{set_bit}
use Rattle.sector.specs.Bytes.{word}
use Rattle.vdisk.specs.Ids.{turned, freed, gone, moved}
use Rattle.vdisk.specs.IdLaws.{set-low}
use Rattle.vdisk.specs.OwnerLaws.{owner-is}
use Rattle.vdisk.specs.declared.owner.Own.{Own}
use Rattle.vdisk.specs.declared.owner.Own.TheVariants.{Reserved, Fixed, Dyn, Free}
use Rattle.file_table.specs.Table.{Table, in_file}
use Rattle.file_table.specs.Accepted.{Accepted, owner-has, owner-only}
use Rattle.state.specs.Setters.{with_fat1}
use Rattle.state.specs.Pairs.{free_pairs, set_pair}
use Rattle.state.specs.declared.w.W.{W}
use Rattle.clusters.specs.Clusters.{is_live}
use Rattle.fat_sectors.specs.Fat.{FatWrite, fat_write, cluster_at, value_at, changed_at, owner_at, zeroed_at, zeroes_file, own_number, entry_number, needs_pair, refused_at, fat_number, freed_own, freed_by, frees_row, freed_owner, apply_at, fat_state, free_id, fat_ids}
use Rattle.marks.specs.Seen.{zero_in, all_zero, zeroes_in}
use Rattle.marks.specs.Kept.{FreedAt, Kept}
use Rattle.marks.proofs.KeptLaws.{kept-as, kept-rows, dead-freed, set_pair-kept, fold-in}
use Rattle.marks.specs.Does.{Does}
use Rattle.marks.proofs.DoesLaws.{does-refused, is_at-is, is_at-of, same-bit, lower-bit, upper-bit}

-- "all entries of the file are written 0" is the handler's test
pub all_zero-is : (x : FatWrite) (j : ℕ) → all_zero x.starts x.sizes j x.s x.written ≡ zeroes_file x j
unfolding all_zero zero_in zeroes_file zeroed_at
all_zero-is x j = refl

-- no entry of a taken sector was refused
module _ (x : FatWrite) where
  pub none-refused : eqb (fat_number x) 0 ≡ true → (i : ℕ) → i < 256 → entry_number x i ≡ 0
  unfolding fat_number
  none-refused e i l =
      let n = first (refused_at x) 256 0 in
      picked (ltb n 256) (entry_number x n) (pick (ltb (free_pairs x.pairs) (count (needs_pair x) 256 0)) 14 0) 0 (eqb-true _ _ e)
      (λ p q. let h = ltb-true n 256 p in
      let r = first-at (refused_at x) 256 0 (omega arith) in
      absurd (true≢false (sym r ∙ ap (λ (m : ℕ). not (eqb m 0)) q)))
      (λ p q. let h = ltb-false n 256 p in
      eqb-true (entry_number x i) 0 (not-false (eqb (entry_number x i) 0) (first-below (refused_at x) 256 0 i (omega arith) (omega arith))))

  -- an entry that frees a file: changed, the file's, and live
  pub record Frees (i j : ℕ) : Type 0 where
    pub changed : changed_at x i ≡ true
    pub owner : owner_at x i ≡ Dyn j
    pub live : is_live x.ids x.pairs j (cluster_at x i) ≡ true

  freed_own-is : {R : Type 0} (i j : ℕ) (o : Own) → freed_own x i o ≡ Some j → (o ≡ Dyn j → is_live x.ids x.pairs j (cluster_at x i) ≡ true → R) → R
  unfolding freed_own
  freed_own-is i j Reserved = λ (e : None ≡ Some j) f. let z : ◌≡◌ {A = ℕ} 0 1 = cc in absurd (omega arith)
  freed_own-is i j Fixed = λ (e : None ≡ Some j) f. let z : ◌≡◌ {A = ℕ} 0 1 = cc in absurd (omega arith)
  freed_own-is i j (Dyn k) =
      λ e f. picked (is_live x.ids x.pairs k (cluster_at x i)) (Some k) None (Some j) e
      (λ p (q : Some k ≡ Some j). let z : k ≡ j = cc in f (ap Dyn z) (rw z at p))
      (λ p (q : None ≡ Some j). let z : ◌≡◌ {A = ℕ} 0 1 = cc in absurd (omega arith))
  freed_own-is i j Free = λ (e : None ≡ Some j) f. let z : ◌≡◌ {A = ℕ} 0 1 = cc in absurd (omega arith)

  freed_by-is : (i j : ℕ) → freed_by x i ≡ Some j → Frees i j
  unfolding freed_by
  freed_by-is i j e =
      picked (changed_at x i) (freed_own x i (owner_at x i)) None (Some j) e
      (λ p q. freed_own-is i j (owner_at x i) q (λ o v. record { changed = p; owner = o; live = v }))
      (λ p (q : None ≡ Some j). let z : ◌≡◌ {A = ℕ} 0 1 = cc in absurd (omega arith))

  freed_by-of : (i j : ℕ) → Frees i j → freed_by x i ≡ Some j
  unfolding freed_by freed_own
  freed_by-of i j f = rw (f.changed, f.owner, f.live)

  -- a row is freed where an entry frees it
  pub frees-by : {R : Type 0} (j : ℕ) → frees_row x j ≡ true → ((i : ℕ) → i < 256 → Frees i j → R) → R
  unfolding frees_row picked_by
  frees-by j e f = some-in (λ i. is_at j (freed_by x i)) 256 0 e (λ i l h q. f i (omega arith) (freed_by-is i j (is_at-is j (freed_by x i) q)))

  pub frees-of : (i j : ℕ) → i < 256 → Frees i j → frees_row x j ≡ true
  unfolding frees_row picked_by
  frees-of i j l f = some-at (λ i'. is_at j (freed_by x i')) 256 0 i (omega arith) (omega arith) (is_at-of j (freed_by x i) (freed_by-of i j f))

module _ (t : Table) (a : Accepted t) (ids : List ℕ) (w : W) (k : Kept t ids w) (s : ℕ) (shown written : List ℕ) where
  abbrev x : FatWrite
  x = fat_write ids t.starts t.sizes t.first w.pair s shown written

  -- a file zeroed here is freed by this sector, or was freed before
  zeroes-frees : (j : ℕ) → j < length t.ids → zeroes_in t j s shown written ≡ true → (frees_row x j || freed (get_or ids j 0)) ≡ true
  unfolding zeroes_in all_zero zero_in
  zeroes-frees j l e =
      let zw = all (zero_in t.starts t.sizes j s written) 256 0 in
      let zs = all (zero_in t.starts t.sizes j s shown) 256 0 in
      all-not (zero_in t.starts t.sizes j s shown) 256 0 (not-true zs (and-1 zw (not zs) e))
      (λ i lo hi q.
      let c = s * 256 + i in
      let m = in_file t.starts t.sizes j c in
      let o = or-no (not m) (eqb (word shown (i * 2)) 0) q in
      let v = not-false m o.0 in
      or-by (not m) (eqb (word written (i * 2)) 0) (all-at (zero_in t.starts t.sizes j s written) 256 0 i (and-0 zw (not zs) e) lo hi)
      (λ n. absurd (false≢true (sym (ap not v) ∙ n)))
      (λ z.
      let changed : not (eqb (word shown (i * 2)) (word written (i * 2))) ≡ true =
      ap not (ne_eqb (word shown (i * 2)) (word written (i * 2)) (λ r. eqb-false (word shown (i * 2)) 0 o.1 (r ∙ eqb-true (word written (i * 2)) 0 z))) in
      let owner = owner-has t a j c l v in
      either (is_live ids w.pair j c)
      (λ r. or-l (frees_row x j) (freed (get_or ids j 0)) (frees-of x i j (omega arith) (record { changed = changed; owner = owner; live = r })))
      (λ r. or-r (frees_row x j) (freed (get_or ids j 0)) (dead-freed t ids w k j c owner r))))

  -- a live file's changed entry became 0 with all its entries in this sector
  freed-zero : (i j : ℕ) → Frees x i j → entry_number x i ≡ 0 → (eqb (value_at x i) 0 ≡ true) × (zeroes_file x j ≡ true)
  unfolding entry_number own_number
  freed-zero i j f e =
      let past = (owner-is t.starts t.sizes t.first (s * 256 + i) j f.owner).past in
      let z = eqb (word written (i * 2)) 0 in
      let n : ◌≡◌ {A = ℕ} (pick (z && zeroes_file x j) 0 13) 0 =
      rw (f.changed, ne_eqb (s * 256 + i) 0 (λ q. omega arith), ne_eqb (s * 256 + i) 1 (λ q. omega arith), f.owner, f.live) at e in
      picked (z && zeroes_file x j) 0 13 0 n (λ p q. (and-0 z (zeroes_file x j) p, and-1 z (zeroes_file x j) p)) (λ p q. absurd (omega arith))

  -- and one of them was shown otherwise
  shown-other : (i j : ℕ) → i < 256 → Frees x i j → word written (i * 2) ≡ 0 → all_zero t.starts t.sizes j s shown ≡ false
  unfolding all_zero zero_in
  shown-other i j l f z =
      let v = (owner-only t a j (s * 256 + i) f.owner).1 in
      let c = eqb-false (word shown (i * 2)) (word written (i * 2)) (not-true (eqb (word shown (i * 2)) (word written (i * 2))) f.changed) in
      either (all (zero_in t.starts t.sizes j s shown) 256 0)
      (λ e. or-by (not (in_file t.starts t.sizes j (s * 256 + i))) (eqb (word shown (i * 2)) 0)
      (all-at (zero_in t.starts t.sizes j s shown) 256 0 i e (omega arith) (omega arith))
      (λ q. absurd (false≢true (sym (ap not v) ∙ q)))
      (λ q. absurd (c (eqb-true (word shown (i * 2)) 0 q ∙ sym z))))
      (λ e. e)

  frees-zeroes : (j : ℕ) → eqb (fat_number x) 0 ≡ true → frees_row x j ≡ true → zeroes_in t j s shown written ≡ true
  unfolding zeroes_in
  frees-zeroes j n e =
      frees-by x j e
      (λ i l f. let b = freed-zero i j f (none-refused x n i l) in
      and-of (all_zero t.starts t.sizes j s written) (not (all_zero t.starts t.sizes j s shown)) (all_zero-is x j ∙ b.1)
      (ap not (shown-other i j l f (eqb-true (word written (i * 2)) 0 b.0))))

  zeroes-as : (j : ℕ) → j < length t.ids → eqb (fat_number x) 0 ≡ true → (frees_row x j || freed (get_or ids j 0)) ≡ (zeroes_in t j s shown written || freed (get_or ids j 0))
  zeroes-as j l n =
      let b = frees_row x j in
      let z = zeroes_in t j s shown written in
      let f = freed (get_or ids j 0) in
      same-if (b || f) (z || f) (λ e. or-by b f e (λ q. or-l z f (frees-zeroes j n q)) (λ q. or-r z f q))
      (λ e. or-by z f e (zeroes-frees j l) (λ q. or-r b f q))

  -- the marks of row j
  pub fat-does : (j : ℕ) → j < length t.ids → Does j (fat_number x) ids (fat_ids x) false (zeroes_in t j s shown written) false
  unfolding fat_ids free_id
  fat-does j l =
      let r = k.rows in
      let b = frees_row x j in
      let id = get_or ids j 0 in
      let at = rows-at (free_id x) ids j (omega arith) in
      pick-by (λ (after : List ℕ). Does j (fat_number x) ids after false (zeroes_in t j s shown written) false) (eqb (fat_number x) 0) (rows_of (free_id x) ids) ids
      (λ e. record {
        turn = ap turned at ∙ lower-bit b id 13 12 (omega arith) ∙ rw e;
        free = ap freed at ∙ same-bit b id 13 ∙ zeroes-as j l e ∙ rw e;
        left = ap gone at ∙ upper-bit b id 13 14 (omega arith);
        move = ap moved at ∙ upper-bit b id 13 15 (omega arith) ∙ rw e;
      })
      (λ e. does-refused j (fat_number x) ids false (zeroes_in t j s shown written) false e)

  -- a changed entry of a file that this sector doesn't free: the file is marked freed
  entry-freed : (i : ℕ) → i < 256 → changed_at x i ≡ true → freed_owner x (owner_at x i) ≡ false → FreedAt t ids (s * 256 + i)
  unfolding freed_owner
  entry-freed i l p q j o =
      let r : frees_row x j ≡ false = rw o at q in
      dead-freed t ids w k j (s * 256 + i) o
      (either (is_live ids w.pair j (s * 256 + i))
      (λ v. absurd (true≢false (sym (frees-of x i j l (record { changed = p; owner = o; live = v })) ∙ r))) (λ v. v))

  apply-kept : (i : ℕ) (w' : W) → i < 256 → Kept t ids w' → Kept t ids (apply_at x i w')
  unfolding apply_at with_fat1
  apply-kept i w' l h =
      let c = s * 256 + i in
      let v = word written (i * 2) in
      pick-by (Kept t ids) (changed_at x i) (pick (eqb c 1) (with_fat1 w' (v + 65536)) (pick (freed_owner x (owner_at x i)) w' (set_pair w' c v))) w'
      (λ p. pick-has (Kept t ids) (eqb c 1) (with_fat1 w' (v + 65536)) (pick (freed_owner x (owner_at x i)) w' (set_pair w' c v))
      (kept-as t ids w' (with_fat1 w' (v + 65536)) h refl refl refl)
      (pick-by (Kept t ids) (freed_owner x (owner_at x i)) w' (set_pair w' c v) (λ q. h) (λ q. set_pair-kept t ids w' h c v (entry-freed i l p q))))
      (λ p. h)

  pub fat-kept : Kept t (fat_ids x) (fat_state x w)
  unfolding fat_ids fat_state free_id
  fat-kept =
      either (eqb (fat_number x) 0)
      (λ e. rw e
      (kept-rows t a ids (fold (apply_at x) 256 0 w) (fold-in (Kept t ids) (apply_at x) 256 0 w (λ i w' lo hi h. apply-kept i w' (omega arith) h) k) (free_id x)
      (λ j id. pick-has (λ (n : ℕ). n % 4096 ≡ id % 4096) (frees_row x j) (set_bit id 13) id (set-low id 13 (omega arith)) refl)
      (λ j id f. same-bit (frees_row x j) id 13 ∙ or-r (frees_row x j) (freed id) f)))
      (λ e. rw e k)
