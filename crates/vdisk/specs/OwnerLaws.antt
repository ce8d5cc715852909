-- Laws of who owns a cluster.
use Rattle.std.specs.Prelude.{ℕ, zero, suc, ◌+◌, ◌-◌, ◌<◌, ◌≤◌, List, true, ◌||◌, eqb, length, get_or}
use Rattle.std.proofs.Math.Path.{◌≡◌}
use native.Mathlib.Omega.{arith}
use Rattle.std.proofs.Math.Dec.{ltb}
use borrow.Author.Tests.{le-leb, lt-leb, le-ltb, lt-ltb, ne_eqb, ltb-true, ltb-false, eqb-false, leb-true}
use Rattle.loops.specs.Choices.{either, picked, or-no}
use Rattle.loops.specs.Facts.{all-at, last-le, last-is, last-above, last-below}
use Rattle.vdisk.specs.Drive.{clusters_of, last_cluster}
use Rattle.vdisk.specs.Owner.{starts_by, up_to, owner_at, owner_of, rises_at, rises}
use Rattle.vdisk.specs.declared.owner.Own.TheVariants.{Reserved, Fixed, Dyn, Free}

pub up_to-le : (starts : List ℕ) (c : ℕ) → up_to starts c ≤ length starts
unfolding up_to
up_to-le starts c = last-le (starts_by starts c) (length starts)

-- where the starts rise
module _ (starts : List ℕ) (r : rises starts ≡ true) where
  step : (j : ℕ) → j + 1 < length starts → get_or starts j 0 < get_or starts (j + 1) 0
  unfolding rises
  step j h = ltb-true _ _ (all-at (rises_at starts) (length starts - 1) 0 j r (omega arith) (omega arith))

  up : (i k : ℕ) → i + k < length starts → get_or starts i 0 + k ≤ get_or starts (i + k) 0
  up i zero h = let e : i + 0 ≡ i = omega arith in rw e (omega arith)
  up i (suc k) h = let e : i + suc k ≡ i + k + 1 = omega arith in rw e (omega (arith, up i k (omega arith), step (i + k) (omega arith)))

  pub rises-lt : (i j : ℕ) → i < j → j < length starts → get_or starts i 0 < get_or starts j 0
  rises-lt i j l h = let e : i + (j - i) ≡ j = omega arith in omega (arith, rw e at (up i (j - i) (omega arith)))

  pub rises-le : (i j : ℕ) → i ≤ j → j < length starts → get_or starts i 0 ≤ get_or starts j 0
  rises-le i j l h = let e : i + (j - i) ≡ j = omega arith in omega (arith, rw e at (up i (j - i) (omega arith)))

  -- a search by halves keeps one past the last file between its ends
  pub up_to-past : (c m : ℕ) → m < length starts → get_or starts m 0 ≤ c → m < up_to starts c
  unfolding up_to
  up_to-past c m h l = last-above (starts_by starts c) (length starts) m h (le-leb _ _ l)

  pub up_to-below : (c m : ℕ) → m < length starts → c < get_or starts m 0 → up_to starts c ≤ m
  unfolding up_to
  up_to-below c m h l = last-below (starts_by starts c) (length starts) m (λ k q s. lt-leb (get_or starts k 0) c (omega (arith, rises-le m k q s)))

module _ (starts sizes : List ℕ) (first c j : ℕ) where
  owner_at-is : (n : ℕ) → owner_at n starts sizes c ≡ Dyn j → (n ≡ suc j) × (c < get_or starts j 0 + clusters_of (get_or sizes j 0))
  unfolding owner_at
  owner_at-is n e =
      picked (eqb n 0) _ _ _ e (λ p (q : Free ≡ Dyn j). let z : ◌≡◌ {A = ℕ} 0 1 = cc in absurd (omega arith))
      (λ p q. picked (ltb c (get_or starts (n - 1) 0 + clusters_of (get_or sizes (n - 1) 0))) (Dyn (n - 1)) Free (Dyn j) q
      (λ p' (q' : Dyn (n - 1) ≡ Dyn j).
      let w : n - 1 ≡ j = cc in
      let z = eqb-false n 0 p in
      (omega arith, rw w at (ltb-true c (get_or starts (n - 1) 0 + clusters_of (get_or sizes (n - 1) 0)) p')))
      (λ p' (q' : Free ≡ Dyn j). let z : ◌≡◌ {A = ℕ} 0 1 = cc in absurd (omega arith)))

  -- the parts of "the file of row j owns c"
  pub record OwnedBy : Type 0 where
    pub past : 2 ≤ c
    pub last : c ≤ last_cluster
    pub session : first ≤ c
    pub row : j < length starts
    pub low : get_or starts j 0 ≤ c
    pub high : c < get_or starts j 0 + clusters_of (get_or sizes j 0)

  -- what it says that row j owns c, in any table
  pub owner-is : owner_of starts sizes first c ≡ Dyn j → OwnedBy
  unfolding owner_of up_to
  owner-is e =
      picked (ltb c 2 || ltb last_cluster c) _ _ _ e (λ p (q : Reserved ≡ Dyn j). let z : ◌≡◌ {A = ℕ} 0 1 = cc in absurd (omega arith))
      (λ p q. picked (ltb c first) _ _ _ q (λ p' (q' : Fixed ≡ Dyn j). let z : ◌≡◌ {A = ℕ} 0 1 = cc in absurd (omega arith))
      (λ p' q'.
      let r = owner_at-is (up_to starts c) q' in
      let l = last-le (starts_by starts c) (length starts) in
      record {
        past = ltb-false c 2 (or-no (ltb c 2) (ltb last_cluster c) p).0;
        last = ltb-false last_cluster c (or-no (ltb c 2) (ltb last_cluster c) p).1;
        session = ltb-false c first p';
        row = omega (arith, r.0);
        low = leb-true (get_or starts j 0) c (last-is (starts_by starts c) (length starts) j r.0);
        high = r.1;
      }))

-- in a table whose starts rise, file j's cluster before the next file's start is j's
pub owner-of : (starts sizes : List ℕ) → rises starts ≡ true → (first c j : ℕ) → OwnedBy starts sizes first c j
    → (j + 1 < length starts → c < get_or starts (j + 1) 0) → owner_of starts sizes first c ≡ Dyn j
unfolding owner_of owner_at
owner-of starts sizes r first c j o next =
    let up : j < up_to starts c = up_to-past starts r c j o.row o.low in
    let down : up_to starts c ≤ suc j =
    either (ltb (j + 1) (length starts))
    (λ e. let q = ltb-true (j + 1) (length starts) e in omega (arith, up_to-below starts r c (j + 1) q (next q)))
    (λ e. omega (arith, ltb-false (j + 1) (length starts) e, up_to-le starts c)) in
    let n : up_to starts c ≡ suc j = omega arith in
    let m : suc j - 1 ≡ j = omega arith in
    rw (le-ltb c 2 o.past, le-ltb last_cluster c o.last, le-ltb c first o.session, n, ne_eqb (suc j) 0 (λ z. omega arith), m, lt-ltb _ _ o.high)
