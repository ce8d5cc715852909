-- Laws of bits.
use Rattle.std.specs.Prelude.{ℕ, zero, suc, ◌+◌, ◌-◌, ◌*◌, ◌/◌, ◌%◌, ◌^◌, ◌<◌, ◌≤◌, true, ◌≡◌, refl}
use Rattle.std.proofs.Common.{sym, ◌∙◌, ap, arith, one-mul, lit<, pow-add, shl_exact}
use Rattle.std.proofs.Math.Nat.{div-eq_of_lt, mul-mod_left}
use Rattle.std.proofs.Math.Pow.{pow-lt}
use Rattle.std.proofs.lemmas.Nat.{shl-shr, or_shr, or_mod, or_lt, and_le_l, and_le_r}
use Rattle.std.specs.Int.Bits.{bit_or, bit_and, or_zero_r, shifted_even, or_add_and, xor_add_and, bit_xor}
use Rattle.std.proofs.lemmas.Nat.Bits.{and_high}
use Rattle.bits.specs.Bit.{bit, set_bit}

-- what a shift of 1 gives
pub one-shl : (w s : ℕ) → s < w → 1 < 2 ^ w → (1 * 2 ^ s) % 2 ^ w ≡ 2 ^ s
one-shl w s h l = shl_exact {a = 1} 1 s w (lit< tt) (omega arith) ∙ one-mul (2 ^ s)

or-bit : (a b k : ℕ) → bit_or a b / 2 ^ k % 2 ≡ bit_or (a / 2 ^ k % 2) (b / 2 ^ k % 2)
or-bit a b k = rw (or_shr a b k) (or_mod (a / 2 ^ k) (b / 2 ^ k) 1)

or-one : (x : ℕ) → x < 2 → bit_or x 1 ≡ 1
or-one zero h = refl
or-one (suc zero) h = refl
or-one (suc (suc x)) h = absurd (omega arith)

pow-same : (s : ℕ) → 2 ^ s / 2 ^ s % 2 ≡ 1
pow-same s =
    let q : 2 ^ s / 2 ^ s ≡ 1 = ap (λ (n : ℕ). n / 2 ^ s) (sym (one-mul (2 ^ s))) ∙ shl-shr 1 s in
    rw q

even-pow : (t k : ℕ) → 2 ^ (suc t + k) / 2 ^ k % 2 ≡ 0
even-pow t k =
    let q : 2 ^ suc t % 2 ≡ 0 = ap (λ (n : ℕ). n % 2) (sym (one-mul (2 ^ suc t))) ∙ shifted_even 1 t in
    rw (pow-add 2 (suc t) k, shl-shr (2 ^ suc t) k) q

pow-below : (s k : ℕ) → k < s → 2 ^ s / 2 ^ k % 2 ≡ 0
pow-below s k h =
    let e : suc (s - suc k) + k ≡ s = omega arith in
    rw e at (even-pow (s - suc k) k)

pow-above : (s k : ℕ) → s < k → 2 ^ s / 2 ^ k % 2 ≡ 0
pow-above s k h = rw (div-eq_of_lt (pow-lt h))

mod-two : (n : ℕ) → n % 2 < 2
mod-two n = omega arith

-- a bit that is set is 1, and the others stay
pub bit-set-same : (m s : ℕ) → bit (set_bit m s) s ≡ true
unfolding bit set_bit
bit-set-same m s = rw (or-bit m (2 ^ s) s, pow-same s, or-one (m / 2 ^ s % 2) (mod-two (m / 2 ^ s)))

pub bit-set-below : (m s k : ℕ) → k < s → bit (set_bit m s) k ≡ bit m k
unfolding bit set_bit
bit-set-below m s k h = rw (or-bit m (2 ^ s) k, pow-below s k h, or_zero_r (m / 2 ^ k % 2))

pub bit-set-above : (m s k : ℕ) → s < k → bit (set_bit m s) k ≡ bit m k
unfolding bit set_bit
bit-set-above m s k h = rw (or-bit m (2 ^ s) k, pow-above s k h, or_zero_r (m / 2 ^ k % 2))

-- the number keeps its width, and the part below the bit
pub set_bit-lt : (w m s : ℕ) → m < 2 ^ w → s < w → set_bit m s < 2 ^ w
unfolding set_bit
set_bit-lt w m s h l = or_lt w m (2 ^ s) h (pow-lt l)

pow-mod : (k s : ℕ) → k ≤ s → 2 ^ s % 2 ^ k ≡ 0
pow-mod k s h =
    let e : (s - k) + k ≡ s = omega arith in
    rw e at (rw (← pow-add 2 (s - k) k) at (mul-mod_left (2 ^ (s - k)) (2 ^ k)))

pub set_bit-mod : (m s k : ℕ) → k ≤ s → set_bit m s % 2 ^ k ≡ m % 2 ^ k
unfolding set_bit
set_bit-mod m s k h = or_mod m (2 ^ s) k ∙ rw (pow-mod k s h) (or_zero_r (m % 2 ^ k))

-- what a mask of one bit gives
pub and-pow : (n k : ℕ) → bit_and n (2 ^ k) ≡ (n / 2 ^ k % 2) * 2 ^ k
and-pow n k =
    let e : 2 ^ (1 + k) - 2 ^ k ≡ 2 ^ k = rw (pow-add 2 1 k) (omega arith) in
    rw e at (and_high n 1 k)

-- two numbers joined by "or" are 0 where both are; joined by "exclusive or", where they are equal
pub or-zero : (a b : ℕ) → bit_or a b ≡ 0 → (a ≡ 0) × (b ≡ 0)
or-zero a b e = omega (arith, or_add_and a b, and_le_l a b, and_le_r a b)

pub xor-zero : (a b : ℕ) → bit_xor a b ≡ 0 → a ≡ b
xor-zero a b e = omega (arith, xor_add_and a b, and_le_l a b, and_le_r a b)
