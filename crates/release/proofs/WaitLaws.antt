-- Laws of the list of the rows that wait: noting those is noting all.
use Rattle.std.specs.Prelude.{ℕ, zero, suc, ◌+◌, ◌<◌, Bool, true, false, ◌&&◌, List, [], ◌∷◌, ◌++◌, ◌≡◌, refl, eqb, length, get_or, set, take, drop}
use Rattle.std.proofs.Common.{append-nil, sym, ◌∙◌, ap, subst, arith, drop-cons, ext_get_or, eq-eqb}
use Rattle.std.proofs.Math.Numerals.{add-one}
use Rattle.std.proofs.Math.Seq.{take-suc-set, append_snoc, drop-length}
use Rattle.loops.specs.Loops.{pick, some}
use Rattle.loops.specs.Choices.{either, pick-by}
use Rattle.loops.specs.Facts.{some-at}
use Rattle.loops.specs.Rows.{rows-at}
use Rattle.release.specs.Notes.{waits, note_id, noted, waiters_from, waiters, has_row, InTable, listed}
use Rattle.release.proofs.NoteLaws.{note-idle, noted-none, noted-length}

-- the list of the rows that wait: its rows are of the table, and it has all that wait
cons-lt : (i m : ℕ) (rs : List ℕ) → ((n : ℕ) → n < length rs → get_or rs n 0 < i + 1 + m) → (k : ℕ) → k < length (i ∷ rs) → get_or (i ∷ rs) k 0 < i + suc m
cons-lt i m rs f zero l = omega arith
cons-lt i m rs f (suc k) l = let q = f k (omega arith) in omega (arith, q)

waiter-lt : (i : ℕ) (ids : List ℕ) (k : ℕ) → k < length (waiters_from i ids) → get_or (waiters_from i ids) k 0 < i + length ids
unfolding waiters_from
waiter-lt i [] k h = absurd (omega arith)
waiter-lt i (id ∷ ids) k h =
    pick-by (λ (rs : List ℕ). k < length rs → get_or rs k 0 < i + suc (length ids)) (waits id) (i ∷ waiters_from (i + 1) ids) (waiters_from (i + 1) ids)
    (λ _. cons-lt i (length ids) (waiters_from (i + 1) ids) (λ n l. waiter-lt (i + 1) ids n l) k)
    (λ _ l. let m = waiter-lt (i + 1) ids k l in omega (arith, m)) h

pub waiters-in : (ids : List ℕ) → InTable (length ids) (waiters ids)
waiters-in ids k h = let m = waiter-lt 0 ids k h in omega (arith, m)

waiter-at : {R : Type 0} (i : ℕ) (ids : List ℕ) (j : ℕ) → j < length ids → waits (get_or ids j 0) ≡ true
    → ((k : ℕ) → k < length (waiters_from i ids) → get_or (waiters_from i ids) k 0 ≡ i + j → R) → R
unfolding waiters_from
waiter-at i [] j l e f = absurd (omega arith)
waiter-at i (id ∷ ids) zero l e f =
    let q : pick (waits id) (i ∷ waiters_from (i + 1) ids) (waiters_from (i + 1) ids) ≡ i ∷ waiters_from (i + 1) ids = rw e in
    f 0 (subst (λ (rs : List ℕ). 0 < length rs) (sym q) (omega arith)) (ap (λ (rs : List ℕ). get_or rs 0 0) q ∙ none i)
  where
    none : (m : ℕ) → m ≡ m + 0
    none m = omega arith
waiter-at i (id ∷ ids) (suc j) l e f =
    waiter-at (i + 1) ids j (omega arith) e (λ k m q. either (waits id)
    (λ t. let z : pick (waits id) (i ∷ waiters_from (i + 1) ids) (waiters_from (i + 1) ids) ≡ i ∷ waiters_from (i + 1) ids = rw t in
    f (suc k) (subst (λ (rs : List ℕ). suc k < length rs) (sym z) (omega (arith, m))) (ap (λ (rs : List ℕ). get_or rs (suc k) 0) z ∙ q ∙ past i j))
    (λ t. let z : pick (waits id) (i ∷ waiters_from (i + 1) ids) (waiters_from (i + 1) ids) ≡ waiters_from (i + 1) ids = rw t in
    f k (subst (λ (rs : List ℕ). k < length rs) (sym z) m) (ap (λ (rs : List ℕ). get_or rs k 0) z ∙ q ∙ past i j)))
  where
    past : (m n : ℕ) → m + 1 + n ≡ m + suc n
    past m n = omega arith

waiters-has : (ids : List ℕ) (j : ℕ) → j < length ids → waits (get_or ids j 0) ≡ true → has_row (waiters ids) j ≡ true
waiters-has ids j l e = waiter-at 0 ids j l e (λ k m q. some-at (λ n. eqb (get_or (waiters ids) n 0) j) (length (waiters ids)) 0 k (omega arith) (omega (arith, m)) (eq-eqb (get_or (waiters ids) k 0) j (q ∙ left j)))
  where
    left : (m : ℕ) → 0 + m ≡ m
    left m = omega arith

-- so it is enough to note those
pub waiters-noted : (f : ℕ → Bool) (ids : List ℕ) → noted (listed (waiters ids) f) ids ≡ noted f ids
waiters-noted f ids =
    ext_get_or 0 (noted (listed (waiters ids) f) ids) (noted f ids) (noted-length (listed (waiters ids) f) ids ∙ sym (noted-length f ids))
    (λ j m. let l : j < length ids = subst (λ (n : ℕ). j < n) (noted-length (listed (waiters ids) f) ids) m in
    rows-at (λ k id. note_id (listed (waiters ids) f k) id) ids j l ∙ same j l ∙ sym (rows-at (λ k id. note_id (f k) id) ids j l))
  where
    same : (j : ℕ) → j < length ids → note_id (listed (waiters ids) f j) (get_or ids j 0) ≡ note_id (f j) (get_or ids j 0)
    same j l = either (waits (get_or ids j 0))
        (λ e. ap (λ (b : Bool). note_id (b && f j) (get_or ids j 0)) (waiters-has ids j l e))
        (λ e. note-idle (listed (waiters ids) f j) (get_or ids j 0) e ∙ sym (note-idle (f j) (get_or ids j 0) e))

-- where none is listed
pub none-waits : (f : ℕ → Bool) (ids : List ℕ) → [] ≡ waiters ids → ids ≡ noted f ids
unfolding some
none-waits f ids e = noted-none (listed [] f) ids (λ j. refl) ∙ ap (λ (rs : List ℕ). noted (listed rs f) ids) e ∙ waiters-noted f ids

-- the loop that lists them: n are listed of the first j rows
module _ (ids rs : List ℕ) (n j : ℕ) (inv : waiters ids ≡ take n rs ++ waiters_from j (drop j ids)) (l : j < length ids) where
  pub list-more : n < length rs → waits (get_or ids j 0) ≡ true → waiters ids ≡ take (n + 1) (set rs n j) ++ waiters_from (j + 1) (drop (j + 1) ids)
  unfolding waiters_from
  list-more m e = inv ∙ rw (drop-cons ids j 0 l, e, add-one n, add-one j, take-suc-set rs n j m) (sym (append_snoc (take n rs) j (waiters_from (suc j) (drop (suc j) ids))))

  pub list-past : waits (get_or ids j 0) ≡ false → waiters ids ≡ take n rs ++ waiters_from (j + 1) (drop (j + 1) ids)
  unfolding waiters_from
  list-past e = inv ∙ rw (drop-cons ids j 0 l, e, add-one j)

pub list-end : (ids rs : List ℕ) (n j : ℕ) → waiters ids ≡ take n rs ++ waiters_from j (drop j ids) → length ids ≡ j → take n rs ≡ waiters ids
unfolding waiters_from
list-end ids rs n j inv e = sym (inv ∙ ap (λ (k : ℕ). take n rs ++ waiters_from j (drop k ids)) (sym e) ∙ ap (λ (xs : List ℕ). take n rs ++ waiters_from j xs) (drop-length ids) ∙ append-nil (take n rs))
