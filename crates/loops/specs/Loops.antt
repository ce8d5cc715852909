-- Loops over the n numbers from i on. A law says what a loop up to m is at i, where i is below m (it takes a turn), and at m.
use Rattle.std.specs.Prelude.{ℕ, zero, suc, ◌+◌, ◌-◌, ◌<◌, ◌≤◌, Bool, true, false, ◌||◌, List, [], ◌∷◌, ◌≡◌}
use Rattle.std.proofs.Common.{sym, ◌∙◌, arith}

-- the first where a test holds, else the second
abbrev pub pick : {A : Type 0} → Bool → A → A → A
pick true a b = a
pick false a b = b

-- are all of them so
unfoldable pub all : (ℕ → Bool) → ℕ → ℕ → Bool
all p zero i = true
all p (suc n) i = pick (p i) (all p n (i + 1)) false

-- is one of them so
unfoldable pub some : (ℕ → Bool) → ℕ → ℕ → Bool
some p zero i = false
some p (suc n) i = p i || some p n (i + 1)

-- the first of them that is so, or the end
unfoldable pub first : (ℕ → Bool) → ℕ → ℕ → ℕ
first p zero i = i
first p (suc n) i = pick (p i) i (first p n (i + 1))

-- one past the last number below n that is so, 0 where none is
unfoldable pub last : (ℕ → Bool) → ℕ → ℕ
last p zero = 0
last p (suc n) = pick (p n) (suc n) (last p n)

-- what a function gives at each of them
unfoldable pub listed : {A : Type 0} → (ℕ → A) → ℕ → ℕ → List A
listed f zero i = []
listed f (suc n) i = f i ∷ listed f n (i + 1)

-- how many of them are so
unfoldable pub count : (ℕ → Bool) → ℕ → ℕ → ℕ
count p zero i = 0
count p (suc n) i = pick (p i) 1 0 + count p n (i + 1)

-- a turn ends the loop with an answer, or goes on with a new state
pub data Turn (S R : Type 0) : Type 0 where
  stop : R → Turn S R
  go : S → Turn S R

abbrev pub next : {S R : Type 0} → Turn S R → (S → R) → R
next (stop r) k = r
next (go s) k = k s

-- a turn at each of them, until one ends the loop; else what is made of the last state
unfoldable pub scan : {S R : Type 0} → (ℕ → S → Turn S R) → (S → R) → ℕ → ℕ → S → R
scan turn done zero i s = done s
scan turn done (suc n) i s = next (turn i s) (scan turn done n (i + 1))

-- a state from turn to turn
unfoldable pub fold : {S : Type 0} → (ℕ → S → S) → ℕ → ℕ → S → S
fold turn zero i s = s
fold turn (suc n) i s = fold turn n (i + 1) (turn i s)

left-suc : (m i : ℕ) → i < m → m - i ≡ suc (m - (i + 1))
left-suc m i h = omega arith

left-zero : (m i : ℕ) → m ≤ i → m - i ≡ 0
left-zero m i h = omega arith

less-zero : (m : ℕ) → m ≡ m - 0
less-zero m = omega arith

-- The laws are said of a whole w, of which an invariant says that it is the loop from i on.
module _ (p : ℕ → Bool) (m : ℕ) where
  pub all-start : all p m 0 ≡ all p (m - 0) 0
  all-start = rw (← less-zero m)

  pub some-start : some p m 0 ≡ some p (m - 0) 0
  some-start = rw (← less-zero m)

  pub first-start : first p m 0 ≡ first p (m - 0) 0
  first-start = rw (← less-zero m)

  pub count-start : count p m 0 ≡ 0 + count p (m - 0) 0
  count-start = rw (← less-zero m) (omega arith)

module _ (p : ℕ → Bool) (m i : ℕ) (w : Bool) (inv : w ≡ all p (m - i) i) where
  pub all-go : i < m → p i ≡ true → w ≡ all p (m - (i + 1)) (i + 1)
  unfolding all
  all-go h e = rw (inv, left-suc m i h, e)

  pub all-stop : i < m → p i ≡ false → false ≡ w
  unfolding all
  all-stop h e = rw (inv, left-suc m i h, e)

  pub all-end : m ≤ i → true ≡ w
  unfolding all
  all-end h = rw (inv, left-zero m i h)

module _ (p : ℕ → Bool) (m i : ℕ) (w : Bool) (inv : w ≡ some p (m - i) i) where
  pub some-go : i < m → p i ≡ false → w ≡ some p (m - (i + 1)) (i + 1)
  unfolding some
  some-go h e = rw (inv, left-suc m i h, e)

  pub some-stop : i < m → p i ≡ true → true ≡ w
  unfolding some
  some-stop h e = rw (inv, left-suc m i h, e)

  pub some-end : m ≤ i → false ≡ w
  unfolding some
  some-end h = rw (inv, left-zero m i h)

module _ (p : ℕ → Bool) (m i w : ℕ) (inv : w ≡ first p (m - i) i) where
  pub first-go : i < m → p i ≡ false → w ≡ first p (m - (i + 1)) (i + 1)
  unfolding first
  first-go h e = rw (inv, left-suc m i h, e)

  pub first-stop : i < m → p i ≡ true → i ≡ w
  unfolding first
  first-stop h e = rw (inv, left-suc m i h, e)

  pub first-end : m ≤ i → i ≡ w
  unfolding first
  first-end h = rw (inv, left-zero m i h)

-- a search for the last goes down from n
module _ (p : ℕ → Bool) (n w : ℕ) (inv : w ≡ last p n) where
  last-at : (k : ℕ) → n ≡ suc k → w ≡ pick (p k) (suc k) (last p k)
  unfolding last
  last-at k q = rw (inv, q)

  pub last-go : 0 < n → p (n - 1) ≡ false → w ≡ last p (n - 1)
  last-go h e = last-at (n - 1) (omega arith) ∙ rw e

  pub last-stop : 0 < n → p (n - 1) ≡ true → n ≡ w
  last-stop h e = let q : n ≡ suc (n - 1) = omega arith in q ∙ sym (last-at (n - 1) q ∙ rw e)

  pub last-end : n ≡ 0 → 0 ≡ w
  unfolding last
  last-end h = rw (inv, h)

module _ (p : ℕ → Bool) (m i w n : ℕ) (inv : w ≡ n + count p (m - i) i) where
  pub count-yes : i < m → p i ≡ true → w ≡ (n + 1) + count p (m - (i + 1)) (i + 1)
  unfolding count
  count-yes h e = rw (inv, left-suc m i h, e) (omega arith)

  pub count-no : i < m → p i ≡ false → w ≡ n + count p (m - (i + 1)) (i + 1)
  unfolding count
  count-no h e = rw (inv, left-suc m i h, e) (omega arith)

  pub count-end : m ≤ i → n ≡ w
  unfolding count
  count-end h = rw (inv, left-zero m i h) (omega arith)

module _ {S R : Type 0} (turn : ℕ → S → Turn S R) (done : S → R) (m i : ℕ) (s : S) (w : R) (inv : w ≡ scan turn done (m - i) i s) where
  pub scan-go : (s' : S) → i < m → turn i s ≡ go s' → w ≡ scan turn done (m - (i + 1)) (i + 1) s'
  unfolding scan
  scan-go s' h e = rw (inv, left-suc m i h, e)

  pub scan-stop : (r : R) → i < m → turn i s ≡ stop r → r ≡ w
  unfolding scan
  scan-stop r h e = rw (inv, left-suc m i h, e)

  pub scan-end : m ≤ i → done s ≡ w
  unfolding scan
  scan-end h = rw (inv, left-zero m i h)

pub scan-start : {S R : Type 0} (turn : ℕ → S → Turn S R) (done : S → R) (m : ℕ) (s : S) → scan turn done m 0 s ≡ scan turn done (m - 0) 0 s
scan-start turn done m s = rw (← less-zero m)

module _ {S : Type 0} (turn : ℕ → S → S) (m i : ℕ) (s w : S) (inv : w ≡ fold turn (m - i) i s) where
  pub fold-go : i < m → w ≡ fold turn (m - (i + 1)) (i + 1) (turn i s)
  unfolding fold
  fold-go h = rw (inv, left-suc m i h)

  pub fold-end : m ≤ i → s ≡ w
  unfolding fold
  fold-end h = rw (inv, left-zero m i h)

pub fold-start : {S : Type 0} (turn : ℕ → S → S) (m : ℕ) (s : S) → fold turn m 0 s ≡ fold turn (m - 0) 0 s
fold-start turn m s = rw (← less-zero m)
