-- What a search among n places answers.
use Rattle.std.specs.Prelude.{ℕ, ◌+◌, ◌-◌, ◌<◌, ◌≤◌, Bool, true, false, ◌≡◌, ltb, Option, Some, None}
use Rattle.std.proofs.Common.{true≢false, ◌∙◌, arith, ltb-true, ltb-false, lt-ltb, le-ltb}
use Rattle.std.proofs.Math.Path.{refl, sym, ap}
use Rattle.loops.specs.Loops.{pick, first, count, first-start, first-go, first-stop, first-end}
use Rattle.loops.specs.Choices.{either, picked}
use Rattle.loops.specs.Facts.{first-at, first-below, first-same, count-none, count-zero}

-- the place i, if it is one of the n
unfoldable pub found_below : ℕ → ℕ → Option ℕ
found_below n i = pick (ltb i n) (Some i) None

-- the first of the n places that is so
unfoldable pub find : (ℕ → Bool) → ℕ → Option ℕ
find p n = found_below n (first p n 0)

pub found-at : (n i : ℕ) → i < n → found_below n i ≡ Some i
unfolding found_below
found-at n i h = rw (lt-ltb i n h)

pub found-none : (n i : ℕ) → n ≤ i → found_below n i ≡ None
unfolding found_below
found-none n i h = rw (le-ltb i n h)

-- a place was found or nothing was
pub found-by : {R : Type 0} (f : Option ℕ) → ((i : ℕ) → f ≡ Some i → R) → (f ≡ None → R) → R
found-by (Some i) g h = g i refl
found-by None g h = h refl

-- a place that was found is one of the n, and is so
pub find-lt : (p : ℕ → Bool) (n i : ℕ) → find p n ≡ Some i → i < n
unfolding find found_below
find-lt p n i e =
    picked (ltb (first p n 0) n) (Some (first p n 0)) None (Some i) e
    (λ h (q : Some (first p n 0) ≡ Some i). let w : first p n 0 ≡ i = cc in rw w at (ltb-true (first p n 0) n h))
    (λ h (q : None ≡ Some i). let z : ◌≡◌ {A = ℕ} 0 1 = cc in absurd (omega arith))

pub find-is : (p : ℕ → Bool) (n i : ℕ) → find p n ≡ Some i → p i ≡ true
unfolding find found_below
find-is p n i e =
    picked (ltb (first p n 0) n) (Some (first p n 0)) None (Some i) e
    (λ h (q : Some (first p n 0) ≡ Some i).
    let w : first p n 0 ≡ i = cc in
    let l : first p n 0 < 0 + n = omega (arith, ltb-true (first p n 0) n h) in
    rw w at (first-at p n 0 l))
    (λ h (q : None ≡ Some i). let z : ◌≡◌ {A = ℕ} 0 1 = cc in absurd (omega arith))

-- where nothing was found, none is so
pub find-none : (p : ℕ → Bool) (n k : ℕ) → find p n ≡ None → k < n → p k ≡ false
unfolding find found_below
find-none p n k e l =
    picked (ltb (first p n 0) n) (Some (first p n 0)) None None e
    (λ h (q : Some (first p n 0) ≡ None). let z : ◌≡◌ {A = ℕ} 0 1 = cc in absurd (omega arith))
    (λ h q. first-below p n 0 k (omega arith) (omega (arith, ltb-false (first p n 0) n h)))

-- nor is any before the place that was found
pub find-below : (p : ℕ → Bool) (n i k : ℕ) → find p n ≡ Some i → k < i → p k ≡ false
unfolding find found_below
find-below p n i k e l =
    picked (ltb (first p n 0) n) (Some (first p n 0)) None (Some i) e
    (λ h (q : Some (first p n 0) ≡ Some i). let w : first p n 0 ≡ i = cc in first-below p n 0 k (omega arith) (rw w l))
    (λ h (q : None ≡ Some i). let z : ◌≡◌ {A = ℕ} 0 1 = cc in absurd (omega arith))

-- the first that is so is found, and where none is, nothing is
pub find-first : (p : ℕ → Bool) (n i : ℕ) → i < n → p i ≡ true → ((k : ℕ) → k < i → p k ≡ false) → find p n ≡ Some i
find-first p n i h e f =
    found-by (find p n)
    (λ k q. either (ltb k i) (λ w. absurd (true≢false (sym (find-is p n k q) ∙ f k (ltb-true k i w))))
    (λ w. either (ltb i k) (λ v. absurd (true≢false (sym e ∙ find-below p n k i q (ltb-true i k v))))
    (λ v. let z : k ≡ i = omega (arith, ltb-false k i w, ltb-false i k v) in q ∙ ap Some z)))
    (λ q. absurd (true≢false (sym e ∙ find-none p n i q h)))

pub find-nothing : (p : ℕ → Bool) (n : ℕ) → ((k : ℕ) → k < n → p k ≡ false) → find p n ≡ None
find-nothing p n f = found-by (find p n) (λ k q. absurd (true≢false (sym (find-is p n k q) ∙ f k (find-lt p n k q)))) (λ q. q)

-- a test that says the same of each of them finds the same
pub find-same : (p q : ℕ → Bool) (n : ℕ) → ((k : ℕ) → k < n → p k ≡ q k) → find p n ≡ find q n
unfolding find
find-same p q n f = ap (found_below n) (first-same p q n 0 (λ k l h. f k (omega arith)))

-- nothing is found exactly where none counts
pub find-count : (p : ℕ → Bool) (n : ℕ) → find p n ≡ None → count p n 0 ≡ 0
find-count p n e = count-none p n 0 (λ k l h. find-none p n k e (omega arith))

pub count-find : (p : ℕ → Bool) (n : ℕ) → count p n 0 ≡ 0 → find p n ≡ None
count-find p n e = find-nothing p n (λ k h. count-zero p n 0 k e (omega arith) (omega arith))

-- a search that has come to i
unfoldable pub find_from : (ℕ → Bool) → ℕ → ℕ → Option ℕ
find_from p n i = found_below n (first p (n - i) i)

pub find-start : (p : ℕ → Bool) (n : ℕ) → find p n ≡ find_from p n 0
unfolding find find_from
find-start p n = ap (found_below n) (first-start p n)

module _ (p : ℕ → Bool) (n i : ℕ) (w : Option ℕ) (inv : w ≡ find_from p n i) where
  pub find-go : i < n → p i ≡ false → w ≡ find_from p n (i + 1)
  unfolding find_from
  find-go h e = inv ∙ ap (found_below n) (first-go p n i (first p (n - i) i) refl h e)

  pub find-stop : i < n → p i ≡ true → Some i ≡ w
  unfolding find_from
  find-stop h e = sym (inv ∙ ap (found_below n) (sym (first-stop p n i (first p (n - i) i) refl h e)) ∙ found-at n i h)

  pub find-end : n ≤ i → None ≡ w
  unfolding find_from
  find-end h = sym (inv ∙ ap (found_below n) (sym (first-end p n i (first p (n - i) i) refl h)) ∙ found-none n i h)
