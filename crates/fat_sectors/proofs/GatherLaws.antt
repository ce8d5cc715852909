-- Laws of what is gathered of a sector's entries.
use Rattle.std.specs.Prelude.{ℕ, zero, suc, ◌+◌, ◌<◌, ◌≤◌, Bool, true, false, not, ◌||◌, ◌≡◌, refl, eqb, ltb, length, get_or, set, replicate, Some, None}
use Rattle.std.proofs.Common.{sym, ◌∙◌, ap, add-one, arith, lt-ltb, eq-eqb, ne_eqb, eqb-true, get_or-set_other}
use Rattle.std.proofs.lemmas.Bool.{eqb-false}
use Rattle.std.proofs.lemmas.List.{get_or-replicate, get_or_past, length-replicate}
use borrow.Author.Tests.{ltb-true, ltb-false}
use Rattle.loops.specs.Loops.{pick, some, count}
use Rattle.loops.specs.Choices.{either, or-r}
use Rattle.loops.specs.Facts.{first-is, first-none, count-last, count-le}
use Rattle.loops.specs.Marks.{some-more, marks-none, marks-keep, marks-put}
use Rattle.file_table.specs.Table.{max_files}
use Rattle.clusters.specs.Clusters.{is_nothing}
use Rattle.state.specs.Pairs.{free_pairs}
use Rattle.fat_sectors.specs.Fat.{FatWrite, changed_at, refused_at, entry_number, needs_pair, freed_by, fat_number}
use Rattle.fat_sectors.specs.FatLaws.{same-needs, same-frees}
use Rattle.fat_sectors.specs.Gathered.{frees_at, GatheredTo}
use Rattle.fat_sectors.specs.declared.gathered.Gathered.{Gathered}
use Rattle.fat_sectors.proofs.EntryLaws.{freed-zeroed}

-- before the first entry
pub gathered-start : (x : FatWrite) → GatheredTo x 0 (record { need = 0; any = false; rows = replicate max_files 0 })
unfolding some count
gathered-start x = record {
  taken = λ i h. absurd (omega arith);
  need = refl;
  marks = marks-none (freed_by x) max_files;
  zeroed = λ j e. absurd (none j e);
  any = refl;
}
  where
    read : (j : ℕ) → get_or (replicate {A = ℕ} max_files 0) j 0 ≡ 0
    read j =
        either (ltb j max_files) (λ e. get_or-replicate max_files j 0 0 (ltb-true j max_files e))
        (λ e. get_or_past (replicate {A = ℕ} max_files 0) j 0 (omega (arith, ltb-false j max_files e, length-replicate {A = ℕ} max_files 0)))

    none : (j : ℕ) → get_or (replicate {A = ℕ} max_files 0) j 0 ≡ 1 → ⊥
    none j e = omega (arith, e, read j)

or-false : (b : Bool) → (b || false) ≡ b
or-false true = refl
or-false false = refl

-- one entry more: it isn't refused
module _ (x : FatWrite) (n : ℕ) (g : Gathered) (inv : GatheredTo x n g) (taken : entry_number x n ≡ 0) where
  more-taken : (i : ℕ) → i < n + 1 → entry_number x i ≡ 0
  more-taken i h = either (eqb i n) (λ e. rw (eqb-true i n e) taken) (λ e. let z = eqb-false i n e in inv.taken i (omega arith))

  more-need : (b : Bool) → needs_pair x n ≡ b → g.need + pick b 1 0 ≡ count (needs_pair x) (n + 1) 0
  more-need b e = let z : 0 + n ≡ n = omega arith in sym (count-last (needs_pair x) n 0 ∙ rw (z, e, inv.need))

  more-any : some (frees_at x) (n + 1) 0 ≡ (g.any || frees_at x n)
  more-any = let z : 0 + n ≡ n = omega arith in rw (add-one n, inv.any) (rw z at (some-more (frees_at x) n 0))

  same-any : freed_by x n ≡ None → g.any ≡ some (frees_at x) (n + 1) 0
  unfolding frees_at is_nothing
  same-any f = sym (more-any ∙ rw f (or-false g.any))

  -- it does nothing
  pub gathered-passes : needs_pair x n ≡ false → freed_by x n ≡ None → GatheredTo x (n + 1) g
  gathered-passes e f = record {
    taken = more-taken;
    need = let z : g.need + 0 ≡ g.need = omega arith in sym z ∙ more-need false e;
    marks = marks-keep (freed_by x) max_files n g.rows inv.marks f;
    zeroed = inv.zeroed;
    any = same-any f;
  }

  -- it needs a place
  pub gathered-needs : needs_pair x n ≡ true → freed_by x n ≡ None → GatheredTo x (n + 1) (record { need = g.need + 1; any = g.any; rows = g.rows })
  gathered-needs e f = record {
    taken = more-taken;
    need = more-need true e;
    marks = marks-keep (freed_by x) max_files n g.rows inv.marks f;
    zeroed = inv.zeroed;
    any = same-any f;
  }

  -- it frees row j
  pub gathered-frees : (j : ℕ) → j < length g.rows → needs_pair x n ≡ false → freed_by x n ≡ Some j
      → GatheredTo x (n + 1) (record { need = g.need; any = true; rows = set g.rows j 1 })
  unfolding frees_at is_nothing
  gathered-frees j l e f = record {
    taken = more-taken;
    need = let z : g.need + 0 ≡ g.need = omega arith in sym z ∙ more-need false e;
    marks = marks-put (freed_by x) max_files n g.rows inv.marks j l f;
    zeroed = λ k q. either (eqb k j) (λ p. rw (eqb-true k j p) (freed-zeroed x n j taken f))
        (λ p. inv.zeroed k (sym (get_or-set_other g.rows j k 1 0 (eqb-false k j p)) ∙ q));
    any = sym (more-any ∙ rw f (or-r g.any true refl));
  }

-- an entry as shown does nothing
pub gathered-same : (x : FatWrite) (n : ℕ) (g : Gathered) → GatheredTo x n g → changed_at x n ≡ false → GatheredTo x (n + 1) g
unfolding entry_number
gathered-same x n g inv e = gathered-passes x n g inv (rw e) (same-needs x n e) (same-frees x n e)

-- nor do k of them
pub gathered-past : (x : FatWrite) (k n : ℕ) (g : Gathered) → GatheredTo x n g → ((i : ℕ) → n ≤ i → i < n + k → changed_at x i ≡ false) → GatheredTo x (n + k) g
gathered-past x zero n g inv f = let e : n + 0 ≡ n = omega arith in rw e inv
gathered-past x (suc k) n g inv f =
    let e : n + suc k ≡ n + 1 + k = omega arith in
    rw e (gathered-past x k (n + 1) g (gathered-same x n g inv (f n (omega arith) (omega arith))) (λ i l h. f i (omega arith) (omega arith)))

-- so many need a place at most
pub need-le : (x : FatWrite) (n : ℕ) (g : Gathered) → GatheredTo x n g → g.need ≤ n
need-le x n g inv = rw inv.need (count-le (needs_pair x) n 0)

-- the first that is refused
pub gathered-refused : (x : FatWrite) (n r : ℕ) (g : Gathered) → GatheredTo x n g → n < 256 → r ≡ entry_number x n → (r ≡ 0 → ⊥) → r ≡ fat_number x
unfolding fat_number
gathered-refused x n r g inv h e nz =
    let f = first-is (refused_at x) 256 n h (ap not (ne_eqb (entry_number x n) 0 (λ z. nz (e ∙ z)))) (λ k l. ap not (eq-eqb (entry_number x k) 0 (inv.taken k l))) in
    rw (f, lt-ltb n 256 h) e

-- where none is
pub gathered-all : (x : FatWrite) (g : Gathered) → GatheredTo x 256 g → fat_number x ≡ pick (ltb (free_pairs x.pairs) g.need) 14 0
unfolding fat_number
gathered-all x g inv =
    let f = first-none (refused_at x) 256 (λ k l. ap not (eq-eqb (entry_number x k) 0 (inv.taken k l))) in
    rw (f, inv.need)
