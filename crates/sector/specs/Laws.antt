-- Laws of what is read of a sector's bytes, and of loops that gather bits instead of leaving early.
use Prim.Native.Nat.{ℕ, suc, ◌+◌, ◌-◌, ◌^◌, ◌<◌, ◌≤◌}
use Rattle.std.specs.Prelude.{Bool, ◌&&◌, List, ◌≡◌, eqb, length, get_or}
use Rattle.std.proofs.Math.Bool.{true, false}
use Rattle.std.proofs.Math.Path.{refl, sym}
use Rattle.std.proofs.Common.{◌∙◌, ext_get_or, eq-eqb, eqb-true}
use native.Mathlib.Omega.{arith}
use Rattle.std.specs.Int.Bits.{bit_or, bit_xor, or_zero_l, xor_self}
use Rattle.loops.specs.Loops.{pick, all, all-start}
use Rattle.loops.specs.Choices.{and-0, and-1, same-if, and-of}
use Rattle.loops.specs.Facts.{all-at, all-of}
use Rattle.bits.specs.Laws.{or-zero, xor-zero}
use Rattle.sector.specs.Bytes.{word, word32, same, same_at}

-- a loop that gathers the bits of what is asked of each number: those so far are all 0, and the rest is as asked
unfoldable pub gathered : (ℕ → Bool) → ℕ → ℕ → ℕ → Bool
gathered p m i seen = eqb seen 0 && all p (m - i) i

or-eqb : (a b : ℕ) → eqb (bit_or a b) 0 ≡ (eqb a 0 && eqb b 0)
or-eqb a b =
    same-if (eqb (bit_or a b) 0) (eqb a 0 && eqb b 0)
    (λ e. let z = or-zero a b (eqb-true _ _ e) in and-of (eqb a 0) (eqb b 0) (eq-eqb a 0 z.0) (eq-eqb b 0 z.1))
    (λ e. let p = eqb-true a 0 (and-0 (eqb a 0) (eqb b 0) e) in
    let q = eqb-true b 0 (and-1 (eqb a 0) (eqb b 0) e) in
    eq-eqb (bit_or a b) 0 (rw (p, q) (or_zero_l 0)))

pub xor-eqb : (a b : ℕ) → eqb (bit_xor a b) 0 ≡ eqb a b
xor-eqb a b =
    same-if (eqb (bit_xor a b) 0) (eqb a b) (λ e. eq-eqb a b (xor-zero a b (eqb-true _ _ e)))
    (λ e. eq-eqb (bit_xor a b) 0 (rw (eqb-true a b e) (xor_self b)))

and-pick : (a b c : Bool) → (a && pick b c false) ≡ ((a && b) && c)
and-pick true true c = refl
and-pick true false c = refl
and-pick false b c = refl

pub gather-start : (p : ℕ → Bool) (m : ℕ) → all p m 0 ≡ gathered p m 0 0
unfolding gathered
gather-start p m = all-start p m

module _ (p : ℕ → Bool) (m i seen : ℕ) (w : Bool) (inv : w ≡ gathered p m i seen) where
  pub gather-go : (x : ℕ) → i < m → eqb x 0 ≡ p i → w ≡ gathered p m (i + 1) (bit_or seen x)
  unfolding all gathered
  gather-go x h e =
      let l : m - i ≡ suc (m - (i + 1)) = omega arith in
      inv ∙ rw l (and-pick (eqb seen 0) (p i) (all p (m - (i + 1)) (i + 1)) ∙ rw (or-eqb seen x, e))

  pub gather-end : m ≤ i → eqb seen 0 ≡ w
  unfolding all gathered
  gather-end h =
      let l : m - i ≡ 0 = omega arith in
      sym (inv ∙ rw l (and-true (eqb seen 0)))
    where
      and-true : (a : Bool) → (a && true) ≡ a
      and-true true = refl
      and-true false = refl

-- equal in all bytes, and of one length: the same list
pub same-is : (a b : List ℕ) → length a ≡ length b → same a b ≡ true → a ≡ b
unfolding same
same-is a b l e = ext_get_or 0 a b l (λ i h. eqb-true _ _ (all-at (same_at a b) (length a) 0 i e (omega arith) (omega arith)))

pub same-refl : (a : List ℕ) → same a a ≡ true
unfolding same
same-refl a = all-of (same_at a a) (length a) 0 (λ k l h. eq-eqb (get_or a k 0) (get_or a k 0) refl)

-- what is read of bytes fits
module _ (b : List ℕ) (at : ℕ) (f : (i : ℕ) → get_or b i 0 < 256) where
  pub word-lt : word b at < 2 ^ 16
  unfolding word
  word-lt = omega (arith, f at, f (at + 1))

  pub word32-lt : word32 b at < 2 ^ 32
  unfolding word32 word
  word32-lt = omega (arith, f at, f (at + 1), f (at + 2), f (at + 2 + 1))
