-- Lists of n places, each in use for a number, and free where the number is 0: what a search finds, and what setting one place does to it.
use Rattle.std.specs.Prelude.{ℕ, zero, suc, ◌+◌, ◌<◌, Bool, true, false, not, ◌&&◌, List, [], ◌∷◌, ◌≡◌, refl, eqb, ltb, length, get_or, set, Some, None}
use Rattle.std.proofs.Common.{true≢false, sym, ◌∙◌, ap, arith, get_or-set_same, get_or-set_other, eqb-true, eq-eqb, ne_eqb, ltb-true, ltb-false}
use Rattle.std.proofs.Math.ListN.{get_or-eq_default}
use Rattle.std.proofs.lemmas.Bool.{eqb-false, not-true}
use Rattle.loops.specs.Loops.{count}
use Rattle.loops.specs.Choices.{either, and-0, and-1, and-of, and-no}
use Rattle.loops.specs.Facts.{count-same, count-more}
use Rattle.loops.specs.Found.{find, find-lt, find-is, find-none, find-below, find-first, find-nothing, find-same}

-- in use for c, with the number x
abbrev pub used_for : ℕ → ℕ → Bool
used_for x c = not (eqb x 0) && eqb x c

pub used-is : (x c : ℕ) → used_for x c ≡ true → (x ≡ c) × (c ≡ 0 → ⊥)
used-is x c e =
    let q = eqb-true x c (and-1 (not (eqb x 0)) (eqb x c) e) in
    (q, λ z. eqb-false x 0 (not-true (eqb x 0) (and-0 (not (eqb x 0)) (eqb x c) e)) (q ∙ z))

pub used-of : (x c : ℕ) → x ≡ c → (c ≡ 0 → ⊥) → used_for x c ≡ true
used-of x c q h = and-of (not (eqb x 0)) (eqb x c) (ap not (ne_eqb x 0 (λ z. h (sym q ∙ z)))) (eq-eqb x c q)

pub used-no : (x c : ℕ) → (x ≡ c → ⊥) → used_for x c ≡ false
used-no x c h = and-no (not (eqb x 0)) (eqb x c) (ne_eqb x c h)

-- a place after a set: the value set, at the place, or what stood there
pub set-has : {A : Type 0} (P : A → Type 0) (d : A) (xs : List A) (i k : ℕ) (x : A) → (k ≡ i → P x) → P (get_or xs k d) → P (get_or (set xs i x) k d)
set-has P d [] i k x f h = h
set-has P d (y ∷ ys) zero zero x f h = f refl
set-has P d (y ∷ ys) zero (suc k) x f h = h
set-has P d (y ∷ ys) (suc i) zero x f h = h
set-has P d (y ∷ ys) (suc i) (suc k) x f h = set-has P d ys i k x (λ e. f (ap suc e)) h

module _ {A : Type 0} (key : A → ℕ) (d : A) where
  abbrev pub used_place : List A → ℕ → ℕ → Bool
  used_place xs c i = used_for (key (get_or xs i d)) c

  abbrev pub free_place : List A → ℕ → Bool
  free_place xs i = eqb (key (get_or xs i d)) 0

  -- no number other than 0 stands at two of the n places
  abbrev pub NoTwiceOf : ℕ → List A → Type 0
  NoTwiceOf n xs = (i j : ℕ) → i < n → j < n → (key (get_or xs i d) ≡ 0 → ⊥) → key (get_or xs i d) ≡ key (get_or xs j d) → i ≡ j

module _ {A : Type 0} (key : A → ℕ) (d : A) (n : ℕ) (xs : List A) where
  pub used-found : (c i : ℕ) → find (used_place key d xs c) n ≡ Some i → (key (get_or xs i d) ≡ c) × (c ≡ 0 → ⊥)
  used-found c i e = used-is (key (get_or xs i d)) c (find-is (used_place key d xs c) n i e)

  pub used-none : (c i : ℕ) → find (used_place key d xs c) n ≡ None → (c ≡ 0 → ⊥) → i < n → key (get_or xs i d) ≡ c → ⊥
  used-none c i e h l q = true≢false (sym (used-of (key (get_or xs i d)) c q h) ∙ find-none (used_place key d xs c) n i e l)

  -- where no number stands twice, its place is the one found
  pub used-only : NoTwiceOf key d n xs → (c i : ℕ) → i < n → key (get_or xs i d) ≡ c → (c ≡ 0 → ⊥) → find (used_place key d xs c) n ≡ Some i
  used-only t c i l q h =
      find-first (used_place key d xs c) n i l (used-of (key (get_or xs i d)) c q h)
      (λ k m. used-no (key (get_or xs k d)) c (λ r. let z = t k i (omega arith) l (λ w. h (sym r ∙ w)) (r ∙ sym q) in omega arith))

  -- a place in use is one of the list's
  pub used-in : key d ≡ 0 → (i : ℕ) → (key (get_or xs i d) ≡ 0 → ⊥) → i < length xs
  used-in z i h =
      either (ltb i (length xs)) (ltb-true i (length xs))
      (λ e. absurd (h (ap key (get_or-eq_default xs d (ltb-false i (length xs) e)) ∙ z)))

  pub found-in : key d ≡ 0 → (c i : ℕ) → find (used_place key d xs c) n ≡ Some i → i < length xs
  found-in z c i e = let u = used-found c i e in used-in z i (λ w. u.1 (sym u.0 ∙ w))

  module _ (i : ℕ) (x : A) where
    -- a number that neither stood there nor is set there is found as before, with what stands there
    pub other-found : (c : ℕ) → (key (get_or xs i d) ≡ c → ⊥) → (key x ≡ c → ⊥) → find (used_place key d (set xs i x) c) n ≡ find (used_place key d xs c) n
    other-found c h g =
        find-same (used_place key d (set xs i x) c) (used_place key d xs c) n
        (λ k l. either (eqb k i)
        (λ e. let q = eqb-true k i e in
        let o : key (get_or xs k d) ≡ c → ⊥ = rw q h in
        used-no (key (get_or (set xs i x) k d)) c (set-has (λ y. key y ≡ c → ⊥) d xs i k x (λ w. g) o)
        ∙ sym (used-no (key (get_or xs k d)) c o))
        (λ e. ap (λ y. used_for (key y) c) (get_or-set_other xs i k x d (eqb-false k i e))))

    pub other-stands : (j : ℕ) → (key (get_or xs i d) ≡ key (get_or xs j d) → ⊥) → get_or (set xs i x) j d ≡ get_or xs j d
    other-stands j h = get_or-set_other xs i j x d (λ q. h (ap (λ k. key (get_or xs k d)) (sym q)))

    set-found : (c : ℕ) → i < n → i < length xs → key x ≡ c → (c ≡ 0 → ⊥)
        → ((k : ℕ) → k < i → used_place key d xs c k ≡ false) → find (used_place key d (set xs i x) c) n ≡ Some i
    set-found c l m q h f =
        find-first (used_place key d (set xs i x) c) n i l (used-of (key (get_or (set xs i x) i d)) c (ap key (get_or-set_same xs i x d m) ∙ q) h)
        (λ k o. ap (λ y. used_for (key y) c) (get_or-set_other xs i k x d (λ w. omega arith)) ∙ f k o)

    -- the number set is found there, over its first place, and in any where it had none
    pub over-found : key d ≡ 0 → find (used_place key d xs (key x)) n ≡ Some i → find (used_place key d (set xs i x) (key x)) n ≡ Some i
    over-found z e =
        set-found (key x) (find-lt (used_place key d xs (key x)) n i e) (found-in z (key x) i e) refl (used-found (key x) i e).1
        (λ k o. find-below (used_place key d xs (key x)) n i k e o)

    pub new-found : find (used_place key d xs (key x)) n ≡ None → i < n → i < length xs → (key x ≡ 0 → ⊥)
        → find (used_place key d (set xs i x) (key x)) n ≡ Some i
    new-found e l m h = set-found (key x) l m refl h (λ k o. find-none (used_place key d xs (key x)) n k e (omega arith))

    -- a number that stood there alone is found no more
    pub gone-found : NoTwiceOf key d n xs → key d ≡ 0 → (c : ℕ) → find (used_place key d xs c) n ≡ Some i → (key x ≡ c → ⊥)
        → find (used_place key d (set xs i x) c) n ≡ None
    gone-found t z c e g =
        let u = used-found c i e in
        let m = found-in z c i e in
        find-nothing (used_place key d (set xs i x) c) n
        (λ k l. used-no (key (get_or (set xs i x) k d)) c
        (λ q. either (eqb k i)
        (λ w. let v = eqb-true k i w in
        g (sym (ap key (get_or-set_same xs i x d m)) ∙ (rw v at q)))
        (λ w. let v = eqb-false k i w in
        let o : key (get_or xs k d) ≡ c = sym (ap key (get_or-set_other xs i k x d v)) ∙ q in
        v (t k i l (find-lt (used_place key d xs c) n i e) (λ y. u.1 (sym o ∙ y)) (o ∙ sym u.0)))))

    -- a number that stands nowhere else may be set
    pub no_twice-set : NoTwiceOf key d n xs → ((j : ℕ) → j < n → (j ≡ i → ⊥) → key (get_or xs j d) ≡ key x → key x ≡ 0) → NoTwiceOf key d n (set xs i x)
    no_twice-set t f a b l m h q =
        either (eqb a i)
        (λ v. let va = eqb-true a i v in
        either (eqb b i) (λ w. va ∙ sym (eqb-true b i w))
        (λ w. let vb = eqb-false b i w in
        set-has (λ y. (key y ≡ 0 → ⊥) → key y ≡ key (get_or xs b d) → a ≡ b) d xs i a x
        (λ y h' q'. absurd (h' (f b m vb (sym q')))) (t a b l m) h (q ∙ ap key (get_or-set_other xs i b x d vb))))
        (λ v. let va = eqb-false a i v in
        let o = ap key (get_or-set_other xs i a x d va) in
        let h'' : key (get_or xs a d) ≡ 0 → ⊥ = λ z. h (o ∙ z) in
        either (eqb b i)
        (λ w. let vb = eqb-true b i w in
        set-has (λ y. key (get_or xs a d) ≡ key y → a ≡ b) d xs i b x
        (λ y q'. absurd (h'' (q' ∙ f a l va q'))) (t a b l m h'') (sym o ∙ q))
        (λ w. let vb = eqb-false b i w in
        t a b l m h'' (sym o ∙ q ∙ ap key (get_or-set_other xs i b x d vb))))

    -- how many places are free
    pub free-more : key d ≡ 0 → i < n → (key (get_or xs i d) ≡ 0 → ⊥) → key x ≡ 0
        → count (free_place key d (set xs i x)) n 0 ≡ count (free_place key d xs) n 0 + 1
    free-more z l h q =
        count-more (free_place key d xs) (free_place key d (set xs i x)) n 0 i (omega arith) (omega arith)
        (ne_eqb (key (get_or xs i d)) 0 h)
        (eq-eqb (key (get_or (set xs i x) i d)) 0 (ap key (get_or-set_same xs i x d (used-in z i h)) ∙ q))
        (λ j a b w. sym (ap (λ y. eqb (key y) 0) (get_or-set_other xs i j x d w)))

    pub free-less : i < n → i < length xs → key (get_or xs i d) ≡ 0 → (key x ≡ 0 → ⊥)
        → count (free_place key d (set xs i x)) n 0 + 1 ≡ count (free_place key d xs) n 0
    free-less l m q h =
        sym (count-more (free_place key d (set xs i x)) (free_place key d xs) n 0 i (omega arith) (omega arith)
        (ne_eqb (key (get_or (set xs i x) i d)) 0 (λ w. h (sym (ap key (get_or-set_same xs i x d m)) ∙ w)))
        (eq-eqb (key (get_or xs i d)) 0 q)
        (λ j a b w. ap (λ y. eqb (key y) 0) (get_or-set_other xs i j x d w)))

    pub free-same : eqb (key x) 0 ≡ eqb (key (get_or xs i d)) 0 → count (free_place key d (set xs i x)) n 0 ≡ count (free_place key d xs) n 0
    free-same q =
        count-same (free_place key d (set xs i x)) (free_place key d xs) n 0
        (λ k a b. set-has (λ y. eqb (key y) 0 ≡ eqb (key (get_or xs k d)) 0) d xs i k x (λ w. rw w q) refl)
