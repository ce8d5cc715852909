-- What a row of a lent table says of its columns.
use Rattle.std.specs.Prelude.{ℕ, zero, suc, ◌+◌, ◌-◌, ◌<◌, ◌≤◌, Bool, true, false, not, List, map, ◌≡◌, refl, eqb, leb, length, get_or}
use Rattle.std.proofs.Common.{arith, lt-ltb, le-ltb, le-leb, eqb-true}
use Rattle.std.proofs.lemmas.Bool.{lt-leb, eqb-false}
use Rattle.std.proofs.lemmas.List.{length-map}
use Rattle.loops.specs.Loops.{all, some, last}
use Rattle.loops.specs.Choices.{either}
use Rattle.loops.specs.Facts.{last-above, last-below}
use Rattle.vdisk.specs.Drive.{clusters_of}
use Rattle.vdisk.specs.Owner.{starts_by, up_to, rises_at, rises}
use Rattle.vdisk.specs.OwnerLaws.{rises-le}
use Rattle.std.specs.List.Sorted.{IsNonDecreasingBy, IsPartitionPoint}
use Rattle.std.proofs.lemmas.List.Sorted.{IsNonDecreasingBy-from_default}
use Rattle.file_table.specs.Files.{start_of, size_of}
use Rattle.file_table.specs.Table.{file_in, clusters_in}
use Rattle.file_table.specs.TableLaws.{ends_by}
use Rattle.file_table.specs.declared.VF.{VF}
use Rattle.file_table.proofs.FileRows.{column-at}

-- what stands for a row past the last
abbrev pub any_file : VF
any_file = record { id = 0; slot = 0; vstart = 0; src = 0; ssize = 0; vsize = 0 }

module _ (fs : List VF) (j : ℕ) (d : VF) (h : j < length fs) where
  pub starts-early : (c : ℕ) → (get_or fs j d).vstart ≤ c → starts_by (map start_of fs) c j ≡ true
  starts-early c l = rw (column-at start_of fs j d h) (le-leb _ _ l)

  pub starts-late : (c : ℕ) → c < (get_or fs j d).vstart → starts_by (map start_of fs) c j ≡ false
  starts-late c l = rw (column-at start_of fs j d h) (lt-leb _ _ l)

  pub file-in : (first n : ℕ) (b : Bool) → n ≡ clusters_of (get_or fs j d).vsize → clusters_in first (get_or fs j d).vstart n ≡ b
      → file_in (map start_of fs) (map size_of fs) first j ≡ b
  file-in first n b e q = rw (column-at start_of fs j d h, column-at size_of fs j d h, ← e) q

-- start j isn't below the next
abbrev pub falls_at : List ℕ → ℕ → Bool
falls_at starts j = not (rises_at starts j)

-- row j and the one before it
module _ (fs : List VF) (j : ℕ) (d : VF) (p : 0 < j) (h : j < length fs) where
  before : j - 1 + 1 ≡ j
  before = omega arith

  pub falls-here : (get_or fs j d).vstart ≤ (get_or fs (j - 1) d).vstart → falls_at (map start_of fs) (j - 1) ≡ true
  falls-here l = rw (before, column-at start_of fs j d h, column-at start_of fs (j - 1) d (omega arith), le-ltb _ _ l)

  pub rises-here : (get_or fs (j - 1) d).vstart < (get_or fs j d).vstart → falls_at (map start_of fs) (j - 1) ≡ false
  rises-here l = rw (before, column-at start_of fs j d h, column-at start_of fs (j - 1) d (omega arith), lt-ltb _ _ l)

  pub ends-late : (n : ℕ) → n ≡ clusters_of (get_or fs (j - 1) d).vsize → (get_or fs j d).vstart < (get_or fs (j - 1) d).vstart + n
      → ends_by (map start_of fs) (map size_of fs) (j - 1) ≡ false
  ends-late n e l = rw (before, column-at start_of fs j d h, column-at start_of fs (j - 1) d (omega arith), column-at size_of fs (j - 1) d (omega arith), ← e) (lt-leb _ _ l)

  pub ends-early : (n : ℕ) → n ≡ clusters_of (get_or fs (j - 1) d).vsize → (get_or fs (j - 1) d).vstart + n ≤ (get_or fs j d).vstart
      → ends_by (map start_of fs) (map size_of fs) (j - 1) ≡ true
  ends-early n e l = rw (before, column-at start_of fs j d h, column-at start_of fs (j - 1) d (omega arith), column-at size_of fs (j - 1) d (omega arith), ← e) (le-leb _ _ l)

-- none falls where all rise
none : (p : ℕ → Bool) (n i : ℕ) → not (some (λ k. not (p k)) n i) ≡ all p n i
unfolding all some
none p zero i = refl
none p (suc n) i = either (p i) (λ e. rw e (none p n (i + 1))) (λ e. rw e)

pub all-none : (fs : List VF) → not (some (falls_at (map start_of fs)) (length (map start_of fs) - 1) 0) ≡ rises (map start_of fs)
unfolding rises
all-none fs = none (rises_at (map start_of fs)) (length (map start_of fs) - 1) 0

-- rising starts as the library's search by halves asks for them, and the place that it finds
pub starts-rise : (fs : List VF) → rises (map start_of fs) ≡ true → IsNonDecreasingBy start_of fs
starts-rise fs r =
    IsNonDecreasingBy-from_default start_of fs any_file
    (λ i j l h. rw (column-at start_of fs i any_file (omega arith), column-at start_of fs j any_file h) at (rises-le (map start_of fs) r i j l (omega (arith, length-map fs start_of))))

pub up_to-point : (fs : List VF) (c n : ℕ) → n ≤ length fs → IsPartitionPoint (λ f. leb (start_of f) c ≡ true) (λ f. leb (start_of f) c ≡ false) fs n
    → n ≡ up_to (map start_of fs) c
unfolding up_to
up_to-point fs c n l p =
    let q = starts_by (map start_of fs) c in
    let m = length-map fs start_of in
    let down : last q (length (map start_of fs)) ≤ n =
    last-below q (length (map start_of fs)) n
    (λ k a b. rw (column-at start_of fs k any_file (omega (arith, b, m))) (p.1 k any_file a (omega (arith, b, m)))) in
    either (eqb n 0)
    (λ e. let z = eqb-true n 0 e in omega arith)
    (λ e. let z = eqb-false n 0 e in
    let h : n - 1 < length fs = omega arith in
    omega (arith, last-above q (length (map start_of fs)) (n - 1) (omega (arith, m)) (rw (column-at start_of fs (n - 1) any_file h) (p.0 (n - 1) any_file (omega arith) (omega arith)))))
