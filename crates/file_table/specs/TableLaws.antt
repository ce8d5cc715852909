-- Laws of the parts of a table that a start takes.
use Rattle.std.specs.Prelude.{ℕ, ◌+◌, ◌-◌, ◌*◌, ◌<◌, ◌≤◌, Bool, true, false, ◌&&◌, List, ◌≡◌, eqb, get_or, length}
use Rattle.std.proofs.Math.Bool.{not}
use Rattle.std.proofs.Common.{ap, arith}
use Rattle.std.proofs.Math.Dec.{ltb, leb}
use borrow.Author.Tests.{eq-eqb, ltb-true, ltb-false, leb-true, le-leb, lt-leb, le-ltb, eqb-true, eqb-false}
use Rattle.loops.specs.Loops.{all, some}
use Rattle.loops.specs.Choices.{either, same-if, and-0, and-1, and-of, and-no, or-by, or-l, or-r, not-both}
use Rattle.loops.specs.Facts.{all-at, all-of}
use Rattle.vdisk.specs.Drive.{clusters_of, last_cluster}
use Rattle.vdisk.specs.Ids.{id_dir_of}
use Rattle.vdisk.specs.Owner.{rises}
use Rattle.vdisk.specs.OwnerLaws.{rises-lt, rises-le}
use Rattle.file_table.specs.Table.{same_place, in_file, apart_at, starts_apart, clusters_in}

-- file j ends at or before the next one's start
abbrev pub ends_by : List ℕ → List ℕ → ℕ → Bool
ends_by starts sizes j = leb (get_or starts j 0 + clusters_of (get_or sizes j 0)) (get_or starts (j + 1) 0)

-- where the starts rise, that each file ends by the next one's start is that no start lies in another file's clusters
module _ (starts sizes : List ℕ) (r : rises starts ≡ true) where
  near-apart : all (ends_by starts sizes) (length starts - 1) 0 ≡ true → (i j : ℕ) → i < length starts → j < length starts → apart_at starts sizes i j ≡ true
  unfolding in_file
  near-apart e i j h k =
      either (eqb i j) (λ q. or-l (eqb i j) _ q)
      (λ q. let z = eqb-false i j q in
      or-r (eqb i j) _ (ap not
      (either (ltb i j)
      (λ l. let a = ltb-true i j l in
      let b = leb-true (get_or starts i 0 + clusters_of (get_or sizes i 0)) (get_or starts (i + 1) 0) (all-at (ends_by starts sizes) (length starts - 1) 0 i e (omega arith) (omega arith)) in
      and-no (leb (get_or starts i 0) (get_or starts j 0)) (ltb (get_or starts j 0) (get_or starts i 0 + clusters_of (get_or sizes i 0)))
      (le-ltb (get_or starts j 0) (get_or starts i 0 + clusters_of (get_or sizes i 0)) (omega (arith, rises-le starts r (i + 1) j (omega arith) k))))
      (λ l. let a = ltb-false i j l in
      rw (lt-leb (get_or starts i 0) (get_or starts j 0) (rises-lt starts r j i (omega arith) h))))))

  apart-near : ((i j : ℕ) → i < length starts → j < length starts → apart_at starts sizes i j ≡ true) → (j : ℕ) → j + 1 < length starts → ends_by starts sizes j ≡ true
  unfolding in_file
  apart-near f j h =
      or-by (eqb j (j + 1)) (not (leb (get_or starts j 0) (get_or starts (j + 1) 0) && ltb (get_or starts (j + 1) 0) (get_or starts j 0 + clusters_of (get_or sizes j 0))))
      (f j (j + 1) (omega arith) h)
      (λ q. let z = eqb-true j (j + 1) q in absurd (omega arith))
      (λ q. either (ltb (get_or starts (j + 1) 0) (get_or starts j 0 + clusters_of (get_or sizes j 0)))
      (λ w. absurd (not-both _ _ q (le-leb _ _ (rises-le starts r j (j + 1) (omega arith) h)) w))
      (λ w. le-leb (get_or starts j 0 + clusters_of (get_or sizes j 0)) (get_or starts (j + 1) 0) (ltb-false (get_or starts (j + 1) 0) (get_or starts j 0 + clusters_of (get_or sizes j 0)) w)))

  pub starts_apart-near : all (ends_by starts sizes) (length starts - 1) 0 ≡ starts_apart starts sizes
  unfolding starts_apart
  starts_apart-near =
      same-if (all (ends_by starts sizes) (length starts - 1) 0) (all (λ i. all (apart_at starts sizes i) (length starts) 0) (length starts) 0)
      (λ e. all-of (λ i. all (apart_at starts sizes i) (length starts) 0) (length starts) 0
      (λ i a h. all-of (apart_at starts sizes i) (length starts) 0 (λ j b k. near-apart e i j (omega arith) (omega arith))))
      (λ e. all-of (ends_by starts sizes) (length starts - 1) 0
      (λ j a h. apart-near
      (λ i k p q. all-at (apart_at starts sizes i) (length starts) 0 k
      (all-at (λ i'. all (apart_at starts sizes i') (length starts) 0) (length starts) 0 i e (omega arith) (omega arith)) (omega arith) (omega arith))
      j (omega arith)))

-- clusters that follow each other lie in the session's where the first and the last do
module _ (first start n : ℕ) where
  pub clusters_in-none : n ≡ 0 → clusters_in first start n ≡ true
  unfolding clusters_in all
  clusters_in-none e = rw e

  pub clusters_in-low : 0 < n → start < first → clusters_in first start n ≡ false
  unfolding clusters_in
  clusters_in-low h l =
      either (all (λ k. leb first (start + k) && leb (start + k) last_cluster) n 0)
      (λ e. let q = and-0 (leb first (start + 0)) (leb (start + 0) last_cluster)
      (all-at (λ k. leb first (start + k) && leb (start + k) last_cluster) n 0 0 e (omega arith) (omega arith)) in
      let z = leb-true first (start + 0) q in absurd (omega arith))
      (λ e. e)

  pub clusters_in-ends : 0 < n → first ≤ start → leb (start + n) 65002 ≡ clusters_in first start n
  unfolding clusters_in
  clusters_in-ends h l =
      same-if (leb (start + n) 65002) (all (λ k. leb first (start + k) && leb (start + k) last_cluster) n 0)
      (λ e. let q = leb-true (start + n) 65002 e in
      all-of (λ k. leb first (start + k) && leb (start + k) last_cluster) n 0
      (λ k a b. and-of (leb first (start + k)) (leb (start + k) last_cluster) (le-leb first (start + k) (omega arith)) (le-leb (start + k) last_cluster (omega arith))))
      (λ e. let q = and-1 (leb first (start + (n - 1))) (leb (start + (n - 1)) last_cluster)
      (all-at (λ k. leb first (start + k) && leb (start + k) last_cluster) n 0 (n - 1) e (omega arith) (omega arith)) in
      let z = leb-true (start + (n - 1)) last_cluster q in
      le-leb (start + n) 65002 (omega arith))

-- key j is that of an earlier file too
unfoldable pub repeated : List ℕ → ℕ → Bool
repeated keys j = some (λ i. eqb (get_or keys i 0) (get_or keys j 0)) j 0

-- shown directory and slot as one number, which tells places of 16 bits apart
unfoldable pub place_key : ℕ → ℕ → ℕ
place_key id slot = id_dir_of id * 65536 + slot

pub place-key : (ids slots : List ℕ) (i j : ℕ) → get_or slots i 0 < 65536 → get_or slots j 0 < 65536
    → eqb (place_key (get_or ids i 0) (get_or slots i 0)) (place_key (get_or ids j 0) (get_or slots j 0)) ≡ same_place ids slots i j
unfolding place_key same_place
place-key ids slots i j h k =
    let a = id_dir_of (get_or ids i 0) in
    let b = id_dir_of (get_or ids j 0) in
    let x = get_or slots i 0 in
    let y = get_or slots j 0 in
    same-if (eqb (a * 65536 + x) (b * 65536 + y)) (eqb a b && eqb x y)
    (λ e. let q = eqb-true (a * 65536 + x) (b * 65536 + y) e in and-of (eqb a b) (eqb x y) (eq-eqb a b (omega arith)) (eq-eqb x y (omega arith)))
    (λ e. let q = eqb-true a b (and-0 (eqb a b) (eqb x y) e) in
    let r = eqb-true x y (and-1 (eqb a b) (eqb x y) e) in
    eq-eqb (a * 65536 + x) (b * 65536 + y) (omega arith))
