-- Laws of exclusive or.
use Rattle.std.specs.Prelude.{ℕ, zero, suc, ◌/◌, ◌%◌, ◌^◌, ◌<◌, ◌≡◌, refl}
use Rattle.std.proofs.Common.{sym, ◌∙◌, arith}
use Rattle.std.specs.Int.Bits.{bit_xor, differ, xor_step}

bits-assoc : (x y z : ℕ) → x < 2 → y < 2 → z < 2 → differ (differ x y) z ≡ differ x (differ y z)
bits-assoc zero zero zero p q r = refl
bits-assoc zero zero (suc zero) p q r = refl
bits-assoc zero (suc zero) zero p q r = refl
bits-assoc zero (suc zero) (suc zero) p q r = refl
bits-assoc (suc zero) zero zero p q r = refl
bits-assoc (suc zero) zero (suc zero) p q r = refl
bits-assoc (suc zero) (suc zero) zero p q r = refl
bits-assoc (suc zero) (suc zero) (suc zero) p q r = refl
bits-assoc (suc (suc x)) y z p q r = absurd (omega arith)
bits-assoc zero (suc (suc y)) z p q r = absurd (omega arith)
bits-assoc (suc zero) (suc (suc y)) z p q r = absurd (omega arith)
bits-assoc zero zero (suc (suc z)) p q r = absurd (omega arith)
bits-assoc zero (suc zero) (suc (suc z)) p q r = absurd (omega arith)
bits-assoc (suc zero) zero (suc (suc z)) p q r = absurd (omega arith)
bits-assoc (suc zero) (suc zero) (suc (suc z)) p q r = absurd (omega arith)

bits-lt : (x y : ℕ) → x < 2 → y < 2 → differ x y < 2
bits-lt zero y p q = q
bits-lt (suc zero) zero p q = omega arith
bits-lt (suc zero) (suc zero) p q = omega arith
bits-lt (suc zero) (suc (suc y)) p q = absurd (omega arith)
bits-lt (suc (suc x)) y p q = absurd (omega arith)

low : (a b : ℕ) → bit_xor a b % 2 ≡ differ (a % 2) (b % 2)
low a b = let s = xor_step a b in let h = bits-lt (a % 2) (b % 2) (omega arith) (omega arith) in omega arith

half : (a b : ℕ) → bit_xor a b / 2 ≡ bit_xor (a / 2) (b / 2)
half a b = let s = xor_step a b in let h = bits-lt (a % 2) (b % 2) (omega arith) (omega arith) in omega arith

pub xor-assoc : (k a b c : ℕ) → a < 2 ^ k → b < 2 ^ k → c < 2 ^ k → bit_xor (bit_xor a b) c ≡ bit_xor a (bit_xor b c)
xor-assoc zero a b c p q r =
    let x : a ≡ 0 = omega arith in
    let y : b ≡ 0 = omega arith in
    let z : c ≡ 0 = omega arith in rw (x, y, z)
xor-assoc (suc k) a b c p q r =
    let h = xor-assoc k (a / 2) (b / 2) (c / 2) (omega arith) (omega arith) (omega arith) in
    let d = bits-assoc (a % 2) (b % 2) (c % 2) (omega arith) (omega arith) (omega arith) in
    xor_step (bit_xor a b) c ∙ rw (half a b, low a b, h, d) (sym (xor_step a (bit_xor b c) ∙ rw (half b c, low b c)))
