-- Rows that the places of a sector pick, marked by 1 in a list: each place picks a row or none.
use Rattle.std.specs.Prelude.{ℕ, zero, suc, ◌+◌, ◌<◌, Bool, true, false, ◌||◌, List, ◌≡◌, refl, eqb, length, get_or, set, replicate, Option, Some, None}
use Rattle.std.proofs.Common.{sym, ◌∙◌, add-one, get_or-set_other}
use Rattle.std.proofs.Math.Path.{ap}
use native.Mathlib.Omega.{arith}
use Rattle.std.proofs.lemmas.List.{get_or-replicate}
use Rattle.std.proofs.Math.Seq.{get_or-set_same}
use borrow.Author.Tests.{eqb-true, eqb-false, eq-eqb}
use Rattle.loops.specs.Loops.{pick, some}
use Rattle.loops.specs.Choices.{either}

-- row j was picked
unfoldable pub is_at : ℕ → Option ℕ → Bool
is_at j (Some k) = eqb k j
is_at j None = false

-- one of the first n places picks row j
unfoldable pub picked_by : (ℕ → Option ℕ) → ℕ → ℕ → Bool
picked_by by n j = some (λ i. is_at j (by i)) n 0

or-false : (b : Bool) → (b || false) ≡ b
or-false true = refl
or-false false = refl

or-true : (b : Bool) → (b || true) ≡ true
or-true true = refl
or-true false = refl

or-assoc : (a b c : Bool) → (a || (b || c)) ≡ ((a || b) || c)
or-assoc true b c = refl
or-assoc false b c = refl

-- one more number at the end
pub some-more : (p : ℕ → Bool) (n i : ℕ) → some p (suc n) i ≡ (some p n i || p (i + n))
unfolding some
some-more p zero i = let e : i + 0 ≡ i = omega arith in rw e (or-false (p i))
some-more p (suc n) i =
    let e : i + suc n ≡ i + 1 + n = omega arith in
    rw (some-more p n (i + 1), e) (or-assoc (p i) (some p n (i + 1)) (p (i + 1 + n)))

-- of m rows, 1 marks those that the first n places pick
unfoldable pub Marks : (ℕ → Option ℕ) → ℕ → ℕ → List ℕ → Type 0
Marks by m n rows = (k : ℕ) → k < m → get_or rows k 0 ≡ pick (picked_by by n k) 1 0

pub marks-none : (by : ℕ → Option ℕ) (m : ℕ) → Marks by m 0 (replicate m 0)
unfolding Marks picked_by some
marks-none by m k h = get_or-replicate m k 0 0 h

-- one place more: it picks row j, or none
module _ (by : ℕ → Option ℕ) (m n : ℕ) (rows : List ℕ) (inv : Marks by m n rows) where
  more : (k : ℕ) → picked_by by (n + 1) k ≡ (picked_by by n k || is_at k (by n))
  unfolding picked_by
  more k = let e : 0 + n ≡ n = omega arith in rw (add-one n) (rw e at (some-more (λ i. is_at k (by i)) n 0))

  pub marks-keep : by n ≡ None → Marks by m (n + 1) rows
  unfolding Marks is_at
  marks-keep e k h = inv k h ∙ rw (more k, e) (ap (λ (b : Bool). pick b 1 0) (sym (or-false (picked_by by n k))))

  pub marks-put : (j : ℕ) → j < length rows → by n ≡ Some j → Marks by m (n + 1) (set rows j 1)
  unfolding Marks is_at
  marks-put j l e k h =
      either (eqb j k)
      (λ q. rw (← eqb-true j k q, get_or-set_same rows j 1 0 l, more j, e, eq-eqb j j refl) (ap (λ (b : Bool). pick b 1 0) (sym (or-true (picked_by by n j)))))
      (λ q. rw (get_or-set_other rows j k 1 0 (λ z. eqb-false j k q (sym z)), more k, e, q)
      (inv k h ∙ ap (λ (b : Bool). pick b 1 0) (sym (or-false (picked_by by n k)))))

-- a mark of 1 says so
pub mark-is : (b : Bool) (n : ℕ) → n ≡ pick b 1 0 → eqb n 1 ≡ b
mark-is true n e = rw e
mark-is false n e = rw e

pub marked : (by : ℕ → Option ℕ) (m n : ℕ) (rows : List ℕ) → Marks by m n rows → (k : ℕ) → k < m → eqb (get_or rows k 0) 1 ≡ picked_by by n k
unfolding Marks
marked by m n rows inv k h = mark-is (picked_by by n k) (get_or rows k 0) (inv k h)
