-- Laws of folds over numbers below m, of tests of them, and of rows that stay.
use Rattle.std.specs.Prelude.{ℕ, zero, suc, ◌+◌, ◌≤◌, ◌<◌, Bool, false, List, [], ◌∷◌, ◌≡◌, refl, eqb}
use Rattle.std.proofs.Common.{true≢false, sym, ◌∙◌, ap, arith, eqb-true}
use Rattle.std.proofs.lemmas.Bool.{eqb-false}
use Rattle.loops.specs.Loops.{some, fold}
use Rattle.loops.specs.Choices.{either}
use Rattle.loops.specs.Facts.{some-at}
use Rattle.loops.specs.Rows.{rows_from}

-- what is so before turn i and carried on by it, is so after the last
pub fold-on : {S : Type 0} (P : ℕ → S → Type 0) (turn : ℕ → S → S) (m : ℕ) → ((i : ℕ) (s : S) → i < m → P i s → P (i + 1) (turn i s))
    → (n i : ℕ) (s : S) → i + n ≡ m → P i s → P m (fold turn n i s)
unfolding fold
fold-on P turn m k zero i s e h = let z : i ≡ m = omega arith in rw (← z) h
fold-on P turn m k (suc n) i s e h = fold-on P turn m k n (i + 1) (turn i s) (omega arith) (k i s (omega arith) h)

-- what every turn below m keeps, a fold over numbers below m keeps
pub fold-in : {S : Type 0} (P : S → Type 0) (turn : ℕ → S → S) (m : ℕ) → ((i : ℕ) (s : S) → i < m → P s → P (turn i s)) → (s : S) → P s → P (fold turn m 0 s)
fold-in P turn m k s h = fold-on (λ i. P) turn m k m 0 s (omega arith) h

-- what one turn brings about where the turns before it keep P, and those after it keep
module _ {S : Type 0} (turn : ℕ → S → S) (m at : ℕ) (P Q : S → Type 0) where
  abbrev Reached : ℕ → S → Type 0
  Reached i s = (i ≤ at → P s) × (at < i → Q s)

  pub fold-at : ((i : ℕ) (s : S) → i < m → (i ≡ at → ⊥) → P s → P (turn i s)) → ((s : S) → P s → Q (turn at s))
      → ((i : ℕ) (s : S) → i < m → (i ≡ at → ⊥) → Q s → Q (turn i s)) → at < m → (s : S) → P s → Q (fold turn m 0 s)
  fold-at before does after l s h =
      (fold-on Reached turn m
      (λ i v k r. (
        λ q. before i v k (λ z. omega arith) (r.0 (omega arith)),
        λ q. either (eqb i at) (λ e. let z = eqb-true i at e in rw z (does v (r.0 (omega arith))))
            (λ e. let z = eqb-false i at e in after i v k z (r.1 (omega arith))),
      ))
      m 0 s (omega arith) (λ q. h, λ q. absurd (omega arith))).1 l

-- where none is so, each is not
pub none-at : (p : ℕ → Bool) (m i : ℕ) → some p m 0 ≡ false → i < m → p i ≡ false
none-at p m i e l = either (p i) (λ q. absurd (true≢false (sym (some-at p m 0 i (omega arith) (omega arith) q) ∙ e))) (λ q. q)

-- tests that say the same of each find the same
pub some-same : (p q : ℕ → Bool) (n i : ℕ) → ((k : ℕ) → p k ≡ q k) → some p n i ≡ some q n i
unfolding some
some-same p q zero i f = refl
some-same p q (suc n) i f = rw (f i, some-same p q n (i + 1) f)

-- rows that stay are the list
pub rows-still : (f : ℕ → ℕ → ℕ) (i : ℕ) (xs : List ℕ) → ((j id : ℕ) → f j id ≡ id) → xs ≡ rows_from f i xs
unfolding rows_from
rows-still f i [] e = refl
rows-still f i (x ∷ xs) e = rw (e i x) (ap (λ (t : List ℕ). x ∷ t) (rows-still f (i + 1) xs e))
