-- Refusal numbers are 0 exactly where the tests pass, and else the number of the test that fails.
use Rattle.std.specs.Prelude.{ℕ, Bool, true, false, not, ◌&&◌, ◌≡◌, refl, leb, ltb, eqb}
use Rattle.std.proofs.Common.{true≢false, sym, ◌∙◌, ap, arith, ltb-true, ltb-false, le-leb}
use Rattle.std.proofs.lemmas.Bool.{lt-leb, not-true, not-false}
use Rattle.loops.specs.Loops.{pick, all, first}
use Rattle.loops.specs.Choices.{either, pick-has}
use Rattle.loops.specs.Facts.{all-at, all-of, first-at, first-below, first-same}

-- a number chosen by a test is 0 where the one chosen is
pub zero-pick : (b p q : Bool) (m n : ℕ) → eqb m 0 ≡ p → eqb n 0 ≡ q → eqb (pick b m n) 0 ≡ pick b p q
zero-pick true p q m n e f = e
zero-pick false p q m n e f = f

pub pass-pick : (b : Bool) (n : ℕ) → eqb n 0 ≡ false → eqb (pick b 0 n) 0 ≡ b
pass-pick true n e = refl
pass-pick false n e = e

pub go-on : {A : Type 0} (num : A → ℕ) (b t : Bool) (x y : A) → eqb (num x) 0 ≡ false → eqb (num y) 0 ≡ t → eqb (num (pick b x y)) 0 ≡ (not b && t)
go-on num true t x y e f = e
go-on num false t x y e f = f

-- a number that is r where it isn't 0
abbrev pub RefusedBy : ℕ → ℕ → Type 0
RefusedBy r n = eqb n 0 ≡ false → n ≡ r

pub never-refused : (r : ℕ) → RefusedBy r 0
never-refused r e = absurd (true≢false e)

pub pick-refused : (b : Bool) (r : ℕ) → RefusedBy r (pick b 0 r)
pick-refused true r = never-refused r
pick-refused false r = λ e. refl

pub go-refused : {A : Type 0} (num : A → ℕ) (b : Bool) (r q : ℕ) (x y : A) → num x ≡ r → RefusedBy q (num y) → RefusedBy (pick b r q) (num (pick b x y))
go-refused num true r q x y e f = λ n. e
go-refused num false r q x y e f = f

-- the first refused of m numbers, else k where places are missing: 0 exactly where all pass and the places are there
module _ (num : ℕ → ℕ) (pass : ℕ → Bool) (m free need k : ℕ) (each : (i : ℕ) → eqb (num i) 0 ≡ pass i) (z : eqb k 0 ≡ false) where
  abbrev bad : ℕ → Bool
  bad i = not (eqb (num i) 0)

  abbrev numbered : ℕ
  numbered = pick (ltb (first bad m 0) m) (num (first bad m 0)) (pick (ltb free need) k 0)

  passes-all : ltb (first bad m 0) m ≡ false → all pass m 0 ≡ true
  passes-all q =
      all-of pass m 0
      (λ i l h. sym (each i) ∙ not-false (eqb (num i) 0) (first-below bad m 0 i l (omega (arith, ltb-false (first bad m 0) m q))))

  fails-one : ltb (first bad m 0) m ≡ true → (eqb (num (first bad m 0)) 0 ≡ false) × (all pass m 0 ≡ false)
  fails-one q =
      let i = first bad m 0 in
      let l = ltb-true i m q in
      let b : eqb (num i) 0 ≡ false = not-true (eqb (num i) 0) (first-at bad m 0 (omega arith)) in (
        b,
        either (all pass m 0) (λ t. absurd (true≢false (sym (all-at pass m 0 i t (omega arith) (omega arith)) ∙ sym (each i) ∙ b))) (λ t. t),
      )

  pub first-zero : eqb numbered 0 ≡ (all pass m 0 && leb need free)
  first-zero =
      either (ltb (first bad m 0) m)
      (λ q. rw (q, (fails-one q).1) (fails-one q).0)
      (λ q. rw (q, passes-all q)
      (either (ltb free need)
      (λ t. let n = ltb-true free need t in rw (t, lt-leb need free n) z)
      (λ t. rw (t, le-leb need free (ltb-false free need t)))))

  -- and where it isn't 0, it is the number of the first that doesn't pass, else k
  pub first-refused : (r : ℕ → ℕ) → ((i : ℕ) → RefusedBy (r i) (num i)) → RefusedBy (pick (all pass m 0) k (r (first (λ i. not (pass i)) m 0))) numbered
  first-refused r f =
      either (ltb (first bad m 0) m)
      (λ q. rw (q, (fails-one q).1, ← first-same bad (λ i. not (pass i)) m 0 (λ i l h. ap not (each i))) (f (first bad m 0)))
      (λ q. rw (q, passes-all q) (pick-has (RefusedBy k) (ltb free need) k 0 (λ e. refl) (never-refused k)))
