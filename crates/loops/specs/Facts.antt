-- What the loops say of the numbers that they go through.
use Prim.Native.Nat.{ℕ, zero, suc, ◌+◌, ◌<◌, ◌≤◌}
use Rattle.std.specs.Prelude.{Bool, ◌≡◌, eqb, ltb, length, get_or}
use Rattle.std.proofs.Math.Bool.{true, false}
use Rattle.std.proofs.Common.{true≢false, sym, ◌∙◌, ap, arith}
use Rattle.std.proofs.lemmas.Bool.{false≢true}
use Rattle.std.proofs.Math.Path.{refl}
use borrow.Author.Tests.{eqb-true, eqb-false, ltb-true, ltb-false}
use Rattle.loops.specs.Loops.{pick, all, some, listed, first, last, count, scan, fold, Turn, stop, go, next}
use Rattle.loops.specs.Choices.{either, pick-by, picked, or-by, or-l, or-r}

pub all-at : (p : ℕ → Bool) (n i k : ℕ) → all p n i ≡ true → i ≤ k → k < i + n → p k ≡ true
unfolding all
all-at p zero i k e l h = absurd (omega arith)
all-at p (suc n) i k e l h =
    picked (p i) (all p n (i + 1)) false true e
    (λ q r. either (eqb i k) (λ z. rw (← eqb-true i k z) q) (λ z. let w = eqb-false i k z in all-at p n (i + 1) k r (omega arith) (omega arith)))
    (λ q r. absurd (false≢true r))

pub all-of : (p : ℕ → Bool) (n i : ℕ) → ((k : ℕ) → i ≤ k → k < i + n → p k ≡ true) → all p n i ≡ true
unfolding all
all-of p zero i f = refl
all-of p (suc n) i f = rw (f i (omega arith) (omega arith)) (all-of p n (i + 1) (λ k l h. f k (omega arith) (omega arith)))

pub all-not : {R : Type 0} (p : ℕ → Bool) (n i : ℕ) → all p n i ≡ false → ((k : ℕ) → i ≤ k → k < i + n → p k ≡ false → R) → R
unfolding all
all-not p zero i e f = absurd (true≢false e)
all-not p (suc n) i e f =
    picked (p i) (all p n (i + 1)) false false e
    (λ q r. all-not p n (i + 1) r (λ k l h z. f k (omega arith) (omega arith) z))
    (λ q r. f i (omega arith) (omega arith) q)

pub some-in : {R : Type 0} (p : ℕ → Bool) (n i : ℕ) → some p n i ≡ true → ((k : ℕ) → i ≤ k → k < i + n → p k ≡ true → R) → R
unfolding some
some-in p zero i e f = absurd (false≢true e)
some-in p (suc n) i e f =
    or-by (p i) (some p n (i + 1)) e (λ q. f i (omega arith) (omega arith) q)
    (λ r. some-in p n (i + 1) r (λ k l h z. f k (omega arith) (omega arith) z))

pub some-at : (p : ℕ → Bool) (n i k : ℕ) → i ≤ k → k < i + n → p k ≡ true → some p n i ≡ true
unfolding some
some-at p zero i k l h e = absurd (omega arith)
some-at p (suc n) i k l h e =
    either (eqb i k) (λ z. or-l (p i) _ (rw (eqb-true i k z) e))
    (λ z. let w = eqb-false i k z in or-r (p i) _ (some-at p n (i + 1) k (omega arith) (omega arith) e))

pub first-at : (p : ℕ → Bool) (n i : ℕ) → first p n i < i + n → p (first p n i) ≡ true
unfolding first
first-at p zero i = λ h. absurd (omega arith)
first-at p (suc n) i =
    pick-by (λ (k : ℕ). k < i + suc n → p k ≡ true) (p i) i (first p n (i + 1)) (λ q h. q) (λ q h. first-at p n (i + 1) (omega arith))

pub first-le : (p : ℕ → Bool) (n i : ℕ) → first p n i ≤ i + n
unfolding first
first-le p zero i = omega arith
first-le p (suc n) i = pick-by (λ (k : ℕ). k ≤ i + suc n) (p i) i (first p n (i + 1)) (λ q. omega arith) (λ q. omega (arith, first-le p n (i + 1)))

-- none before the first is so
pub first-below : (p : ℕ → Bool) (n i k : ℕ) → i ≤ k → k < first p n i → p k ≡ false
unfolding first
first-below p zero i k l = λ h. absurd (omega arith)
first-below p (suc n) i k l =
    pick-by (λ (m : ℕ). k < m → p k ≡ false) (p i) i (first p n (i + 1)) (λ q h. absurd (omega arith))
    (λ q h. either (eqb i k) (λ z. rw (eqb-true i k z) at q) (λ z. let w = eqb-false i k z in first-below p n (i + 1) k (omega arith) h))

-- the first that is so, by those before it; and where none is so
module _ (p : ℕ → Bool) (n : ℕ) where
  pub first-is : (m : ℕ) → m < n → p m ≡ true → ((k : ℕ) → k < m → p k ≡ false) → first p n 0 ≡ m
  first-is m h e f =
      either (ltb (first p n 0) m)
      (λ q. absurd (true≢false (sym (first-at p n 0 (omega (arith, ltb-true (first p n 0) m q))) ∙ f (first p n 0) (ltb-true (first p n 0) m q))))
      (λ q. either (ltb m (first p n 0))
      (λ r. absurd (true≢false (sym e ∙ first-below p n 0 m (omega arith) (ltb-true m (first p n 0) r))))
      (λ r. omega (arith, ltb-false (first p n 0) m q, ltb-false m (first p n 0) r)))

  pub first-none : ((k : ℕ) → k < n → p k ≡ false) → first p n 0 ≡ n
  first-none f =
      either (ltb (first p n 0) n)
      (λ q. absurd (true≢false (sym (first-at p n 0 (omega (arith, ltb-true (first p n 0) n q))) ∙ f (first p n 0) (ltb-true (first p n 0) n q))))
      (λ q. omega (arith, ltb-false (first p n 0) n q, first-le p n 0))

pub listed-length : {A : Type 0} (f : ℕ → A) (n i : ℕ) → length (listed f n i) ≡ n
unfolding listed
listed-length f zero i = refl
listed-length f (suc n) i = ap suc (listed-length f n (i + 1))

pub listed-at : {A : Type 0} (f : ℕ → A) (d : A) (n i k : ℕ) → k < n → get_or (listed f n i) k d ≡ f (i + k)
unfolding listed
listed-at f d zero i k h = absurd (omega arith)
listed-at f d (suc n) i zero h = let e : i + 0 ≡ i = omega arith in rw e
listed-at f d (suc n) i (suc k) h = let e : i + suc k ≡ i + 1 + k = omega arith in rw e (listed-at f d n (i + 1) k (omega arith))

-- the last: it is so, nothing after it is, and it is no earlier than any that is
pub last-le : (p : ℕ → Bool) (n : ℕ) → last p n ≤ n
unfolding last
last-le p zero = omega arith
last-le p (suc n) = pick-by (λ (k : ℕ). k ≤ suc n) (p n) (suc n) (last p n) (λ e. omega arith) (λ e. omega (arith, last-le p n))

pub last-is : (p : ℕ → Bool) (n j : ℕ) → last p n ≡ suc j → p j ≡ true
unfolding last
last-is p zero j = λ (e : 0 ≡ suc j). absurd (omega arith)
last-is p (suc n) j =
    pick-by (λ (k : ℕ). k ≡ suc j → p j ≡ true) (p n) (suc n) (last p n)
    (λ e q. let z : n ≡ j = omega arith in rw z at e) (λ e. last-is p n j)

pub last-above : (p : ℕ → Bool) (n k : ℕ) → k < n → p k ≡ true → k < last p n
unfolding last
last-above p zero k h e = absurd (omega arith)
last-above p (suc n) k h e =
    pick-by (λ (m : ℕ). k < m) (p n) (suc n) (last p n) (λ q. omega arith)
    (λ q. either (eqb k n) (λ z. absurd (false≢true (sym q ∙ (rw (eqb-true k n z) at e)))) (λ z. let w = eqb-false k n z in last-above p n k (omega arith) e))

pub last-below : (p : ℕ → Bool) (n m : ℕ) → ((k : ℕ) → m ≤ k → k < n → p k ≡ false) → last p n ≤ m
unfolding last
last-below p zero m f = omega arith
last-below p (suc n) m f =
    pick-by (λ (k : ℕ). k ≤ m) (p n) (suc n) (last p n)
    (λ e. below (λ l. true≢false (sym e ∙ f n l (omega arith))))
    (λ e. last-below p n m (λ k l h. f k l (omega arith)))
  where
    below : (m ≤ n → ⊥) → suc n ≤ m
    below g = omega arith

-- a scan that isn't stopped takes each turn
pub scan-through : {S R Q : Type 0} (turn : ℕ → S → Turn S R) (done : S → R) (n i : ℕ) (s : S) (r : R) → scan turn done n i s ≡ r
    → ((k : ℕ) (s' : S) → turn k s' ≡ stop r → Q) → (k : ℕ) → i ≤ k → k < i + n → ((s' s'' : S) → turn k s' ≡ go s'' → Q) → Q
unfolding scan
scan-through turn done zero i s r e bad k l h good = absurd (omega arith)
scan-through {S} {R} {Q} turn done (suc n) i s r e bad k l h good =
    by-turn (turn i s) refl e (λ y z w. scan-through turn done n (i + 1) y r z bad k (let v = eqb-false i k w in omega arith) (omega arith) good)
  where
    by-turn : (x : Turn S R) → turn i s ≡ x → next x (scan turn done n (i + 1)) ≡ r → ((y : S) → scan turn done n (i + 1) y ≡ r → eqb i k ≡ false → Q) → Q
    by-turn (stop y) q z ih = bad i s (q ∙ ap stop z)
    by-turn (go y) q z ih = either (eqb i k) (λ w. good s y (rw (eqb-true i k w) at q)) (ih y z)

-- what every turn keeps, a fold keeps
pub fold-keeps : {S : Type 0} (P : S → Type 0) (turn : ℕ → S → S) → ((i : ℕ) (s : S) → P s → P (turn i s)) → (n i : ℕ) (s : S) → P s → P (fold turn n i s)
unfolding fold
fold-keeps P turn k zero i s h = h
fold-keeps P turn k (suc n) i s h = fold-keeps P turn k n (i + 1) (turn i s) (k i s h)

-- the loop over a test that says the same of each of them is the same
module _ (p q : ℕ → Bool) where
  pub first-same : (n i : ℕ) → ((k : ℕ) → i ≤ k → k < i + n → p k ≡ q k) → first p n i ≡ first q n i
  unfolding first
  first-same zero i f = refl
  first-same (suc n) i f = rw (f i (omega arith) (omega arith), first-same n (i + 1) (λ k l h. f k (omega arith) (omega arith)))

  pub count-same : (n i : ℕ) → ((k : ℕ) → i ≤ k → k < i + n → p k ≡ q k) → count p n i ≡ count q n i
  unfolding count
  count-same zero i f = refl
  count-same (suc n) i f = rw (f i (omega arith) (omega arith), count-same n (i + 1) (λ k l h. f k (omega arith) (omega arith)))

  -- one that is so by the second test only counts one more
  pub count-more : (n i k : ℕ) → i ≤ k → k < i + n → p k ≡ false → q k ≡ true
      → ((j : ℕ) → i ≤ j → j < i + n → (j ≡ k → ⊥) → p j ≡ q j) → count q n i ≡ count p n i + 1
  unfolding count
  count-more zero i k l h a b f = absurd (omega arith)
  count-more (suc n) i k l h a b f =
      either (eqb i k)
      (λ e. let z = eqb-true i k e in
      let s = count-same n (i + 1) (λ j m o. f j (omega arith) (omega arith) (λ w. omega arith)) in
      let c : p i ≡ false = rw z a in
      let d : q i ≡ true = rw z b in
      rw (c, d, s) (omega arith))
      (λ e. let z = eqb-false i k e in
      let r = count-more n (i + 1) k (omega arith) (omega arith) a b (λ j m o w. f j (omega arith) (omega arith) w) in
      rw (f i (omega arith) (omega arith) z, r) (omega arith))

-- where none is so, the count is 0, and the other way round
pub count-none : (p : ℕ → Bool) (n i : ℕ) → ((k : ℕ) → i ≤ k → k < i + n → p k ≡ false) → count p n i ≡ 0
unfolding count
count-none p zero i f = refl
count-none p (suc n) i f = rw (f i (omega arith) (omega arith), count-none p n (i + 1) (λ k l h. f k (omega arith) (omega arith)))

pub count-zero : (p : ℕ → Bool) (n i k : ℕ) → count p n i ≡ 0 → i ≤ k → k < i + n → p k ≡ false
unfolding count
count-zero p zero i k e l h = absurd (omega arith)
count-zero p (suc n) i k e l h =
    either (p i) (λ q. let z : 1 + count p n (i + 1) ≡ 0 = rw q at e in absurd (omega arith))
    (λ q. let z : 0 + count p n (i + 1) ≡ 0 = rw q at e in
    either (eqb i k) (λ w. rw (eqb-true i k w) at q)
    (λ w. let v = eqb-false i k w in count-zero p n (i + 1) k (omega arith) (omega arith) (omega arith)))

-- one more number at the end
pub count-last : (p : ℕ → Bool) (n i : ℕ) → count p (n + 1) i ≡ count p n i + pick (p (i + n)) 1 0
unfolding count
count-last p zero i = let e : i + 0 ≡ i = omega arith in rw e (omega arith)
count-last p (suc n) i =
    let e : i + suc n ≡ i + 1 + n = omega arith in
    let q : suc n + 1 ≡ suc (n + 1) = omega arith in
    let r = count-last p n (i + 1) in
    rw (e, q) (omega (arith, r))

pub count-le : (p : ℕ → Bool) (n i : ℕ) → count p n i ≤ n
unfolding count
count-le p zero i = omega arith
count-le p (suc n) i = either (p i) (λ e. rw e (omega (arith, count-le p n (i + 1)))) (λ e. rw e (omega (arith, count-le p n (i + 1))))

-- a fold in two parts, and one whose turns change nothing
module _ {S : Type 0} (turn : ℕ → S → S) where
  pub fold-split : (n k i : ℕ) (s : S) → fold turn (n + k) i s ≡ fold turn k (i + n) (fold turn n i s)
  unfolding fold
  fold-split zero k i s = let e : i + 0 ≡ i = omega arith in let q : 0 + k ≡ k = omega arith in rw (e, q)
  fold-split (suc n) k i s =
      let e : i + suc n ≡ i + 1 + n = omega arith in
      let q : suc n + k ≡ suc (n + k) = omega arith in
      rw (e, q) (fold-split n k (i + 1) (turn i s))

  pub fold-still : (n i : ℕ) (s : S) → ((k : ℕ) → i ≤ k → k < i + n → turn k s ≡ s) → fold turn n i s ≡ s
  unfolding fold
  fold-still zero i s f = refl
  fold-still (suc n) i s f = rw (f i (omega arith) (omega arith)) (fold-still n (i + 1) s (λ k l h. f k (omega arith) (omega arith)))
