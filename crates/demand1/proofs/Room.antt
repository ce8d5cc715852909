-- A fold whose turns each need a place or none, with as many places free as are needed: every turn does what it is for, and later ones leave it.
use Prim.Native.Nat.{ℕ, zero, suc, ◌+◌, ◌≤◌, ◌<◌}
use Rattle.std.specs.Prelude.{Bool, ◌≡◌, eqb}
use Rattle.std.proofs.Math.Bool.{true}
use Rattle.std.proofs.Common.{arith}
use borrow.Author.Tests.{eqb-true, eqb-false}
use Rattle.loops.specs.Loops.{pick, count, fold}
use Rattle.loops.specs.Choices.{either}
use Rattle.loops.specs.Facts.{count-same}

module _ {S : Type 0} (turn : ℕ → S → S) (need : S → ℕ → Bool) (free : S → ℕ) (Good : ℕ → S → Type 0) (Done : ℕ → S → Type 0) (m : ℕ)
    (good : (i : ℕ) (s : S) → i < m → Good i s → Good (i + 1) (turn i s))
    (does : (i : ℕ) (s : S) → i < m → Good i s → (need s i ≡ true → free s ≡ 0 → ⊥) → Done i (turn i s))
    (stays : (i j : ℕ) (s : S) → (i ≡ j → ⊥) → Done j s → Done j (turn i s))
    (needs : (i j : ℕ) (s : S) → (i ≡ j → ⊥) → need (turn i s) j ≡ need s j)
    (room : (i : ℕ) (s : S) → i < m → Good i s → (need s i ≡ true → free s ≡ 0 → ⊥) → free s ≤ free (turn i s) + pick (need s i) 1 0) where
  later : (n i j : ℕ) (s : S) → j < i → Done j s → Done j (fold turn n i s)
  unfolding fold
  later zero i j s l d = d
  later (suc n) i j s l d = later n (i + 1) j (turn i s) (omega arith) (stays i j s (λ e. omega arith) d)

  pub fold-does : (n i : ℕ) (s : S) → i + n ≡ m → Good i s → count (need s) n i ≤ free s → (j : ℕ) → i ≤ j → j < m → Done j (fold turn n i s)
  unfolding fold count
  fold-does zero i s e g c j l h = absurd (omega arith)
  fold-does (suc n) i s e g c j l h =
      let some : need s i ≡ true → free s ≡ 0 → ⊥ = λ q z. (let k : 1 + count (need s) n (i + 1) ≤ free s = rw q at c in omega arith) in
      either (eqb i j)
      (λ q. let w = eqb-true i j q in rw (← w) (later n (i + 1) i (turn i s) (omega arith) (does i s (omega arith) g some)))
      (λ q. let w = eqb-false i j q in
      let same = count-same (need (turn i s)) (need s) n (i + 1) (λ k a b. needs i k s (λ z. omega arith)) in
      let r = room i s (omega arith) g some in
      fold-does n (i + 1) (turn i s) (omega arith) (good i s (omega arith) g) (omega arith) j (omega arith) h)
