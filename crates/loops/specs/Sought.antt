-- A search that goes on after a find: what was found so far, or what is still to come.
use Prim.Native.Nat.{ℕ, suc, ◌+◌, ◌-◌, ◌<◌, ◌≤◌}
use Rattle.std.specs.Prelude.{Bool, true, false, ◌||◌, ◌≡◌, refl}
use Rattle.std.proofs.Math.Path.{sym}
use Rattle.std.proofs.Common.{◌∙◌}
use native.Mathlib.Omega.{arith}
use Rattle.loops.specs.Loops.{some, some-start}

unfoldable pub sought : (ℕ → Bool) → ℕ → ℕ → Bool → Bool
sought p m i found = found || some p (m - i) i

or-true : (a b : Bool) → (a || (true || b)) ≡ true
or-true true b = refl
or-true false b = refl

or-false : (a : Bool) → (a || false) ≡ a
or-false true = refl
or-false false = refl

pub sought-start : (p : ℕ → Bool) (m : ℕ) → some p m 0 ≡ sought p m 0 false
unfolding sought
sought-start p m = some-start p m

module _ (p : ℕ → Bool) (m i : ℕ) (found w : Bool) (inv : w ≡ sought p m i found) where
  pub sought-here : i < m → p i ≡ true → w ≡ sought p m (i + 1) true
  unfolding some sought
  sought-here h e =
      let l : m - i ≡ suc (m - (i + 1)) = omega arith in
      inv ∙ rw (l, e) (or-true found (some p (m - (i + 1)) (i + 1)))

  pub sought-on : i < m → p i ≡ false → w ≡ sought p m (i + 1) found
  unfolding some sought
  sought-on h e =
      let l : m - i ≡ suc (m - (i + 1)) = omega arith in
      inv ∙ rw (l, e)

  pub sought-end : m ≤ i → found ≡ w
  unfolding some sought
  sought-end h =
      let l : m - i ≡ 0 = omega arith in
      sym (inv ∙ rw l (or-false found))
