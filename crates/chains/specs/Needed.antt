-- The sectors of a cluster that a file reaches into, and the mask that has a bit for each.
use Rattle.std.specs.Prelude.{ℕ, zero, suc, ◌+◌, ◌-◌, ◌*◌, ◌/◌, ◌%◌, ◌^◌, ◌<◌, ◌≤◌, min, Bool, true, false, not, ◌&&◌, ◌||◌, ◌≡◌, refl, eqb}
use Rattle.std.proofs.Common.{sym, ◌∙◌, ap, arith, mod-lt, pow_pos, eqb-true, eq-eqb, ne_eqb, lt-ltb, ltb-true}
use Rattle.std.proofs.lemmas.Nat.{mod-pow-add, and_mask}
use Rattle.std.specs.Int.Bits.{bit_and}
use Rattle.loops.specs.Loops.{pick, all}
use Rattle.loops.specs.Choices.{either, and-of, and-0, and-no, same-if, or-r, or-l}
use Rattle.loops.specs.Facts.{all-at, all-of}
use Rattle.bits.specs.Bit.{bit}
use Rattle.state.specs.declared.w.St.{St}
use Rattle.chains.specs.Chains.{is_needed, staged_at}

-- how many of the k-th cluster
unfoldable pub needed_at : ℕ → ℕ → ℕ
needed_at size k = (min (size - k * 32768) 32768 + 511) / 512

needed-le : (size k : ℕ) → needed_at size k ≤ 64
unfolding needed_at
needed-le size k = omega arith

-- they are the first of its 64
needed-below : (size k s : ℕ) → s < 64 → is_needed size k s ≡ true → s < needed_at size k
unfolding needed_at
needed-below size k s h e = omega (arith, ltb-true (k * 32768 + s * 512) size e)

below-needed : (size k s : ℕ) → s < needed_at size k → is_needed size k s ≡ true
unfolding needed_at
below-needed size k s h = lt-ltb (k * 32768 + s * 512) size (omega arith)

pick-is : (b : Bool) → pick b true false ≡ b
pick-is true = refl
pick-is false = refl

pick-and : (a b c : Bool) → pick a (b && c) false ≡ (pick a b false && c)
pick-and true b c = refl
pick-and false b c = refl

-- one more number at the end
all-more : (p : ℕ → Bool) (n i : ℕ) → all p (suc n) i ≡ (all p n i && p (i + n))
unfolding all
all-more p zero i = let e : i + 0 ≡ i = omega arith in rw e (pick-is (p i))
all-more p (suc n) i =
    let e : i + suc n ≡ i + 1 + n = omega arith in
    rw (all-more p n (i + 1), e) (pick-and (p i) (all p n (i + 1)) (p (i + 1 + n)))

-- a number of one bit more is all ones where the bit is 1 and the rest is
ones : (b r p : ℕ) → b < 2 → r < p → (eqb r (p - 1) && eqb b 1) ≡ eqb (b * p + r) (2 * p - 1)
ones zero r p h l = and-no (eqb r (p - 1)) false refl ∙ sym (ne_eqb (0 * p + r) (2 * p - 1) (λ e. omega arith))
ones (suc zero) r p h l =
    same-if (eqb r (p - 1) && true) (eqb (1 * p + r) (2 * p - 1))
    (λ e. eq-eqb (1 * p + r) (2 * p - 1) (omega (arith, eqb-true r (p - 1) (and-0 (eqb r (p - 1)) true e))))
    (λ e. and-of (eqb r (p - 1)) true (eq-eqb r (p - 1) (omega (arith, eqb-true (1 * p + r) (2 * p - 1) e))) refl)
ones (suc (suc b)) r p h l = absurd (omega arith)

-- the lowest n bits are all set
all-bits : (m n : ℕ) → all (bit m) n 0 ≡ eqb (m % 2 ^ n) (2 ^ n - 1)
unfolding all bit
all-bits m zero = sym (eq-eqb (m % 2 ^ 0) (2 ^ 0 - 1) (omega arith))
all-bits m (suc n) =
    let q : 2 ^ suc n ≡ 2 * 2 ^ n = omega arith in
    let z : 0 + n ≡ n = omega arith in
    let s : 1 + n ≡ suc n = omega arith in
    let w : m % 2 ^ suc n ≡ (m / 2 ^ n % 2) * 2 ^ n + m % 2 ^ n = rw s at (mod-pow-add m 1 n) in
    all-more (bit m) n 0
    ∙ rw (all-bits m n, z, w, q) (ones (m / 2 ^ n % 2) (m % 2 ^ n) (2 ^ n) (omega arith) (mod-lt m (pow_pos n)))

-- every needed sector is staged where the mask's bits are all set
pub staged-mask : (x : St) (size k : ℕ) → eqb (bit_and x.map (2 ^ needed_at size k - 1)) (2 ^ needed_at size k - 1) ≡ staged_at x size k
unfolding staged_at
staged-mask x size k =
    let n = needed_at size k in
    let m = x.map in
    let l = needed-le size k in
    rw (and_mask m n)
    (sym (all-bits m n)
    ∙ same-if (all (bit m) n 0) (all (λ s. not (is_needed size k s) || bit m s) 64 0)
    (λ e. all-of (λ s. not (is_needed size k s) || bit m s) 64 0
    (λ s a b. either (is_needed size k s)
    (λ q. or-r (not (is_needed size k s)) (bit m s) (all-at (bit m) n 0 s e a (omega (arith, needed-below size k s (omega arith) q))))
    (λ q. or-l (not (is_needed size k s)) (bit m s) (ap not q))))
    (λ e. all-of (bit m) n 0
    (λ s a b. let q = all-at (λ i. not (is_needed size k i) || bit m i) 64 0 s e a (omega arith) in
    let w = below-needed size k s (omega arith) in
    rw w at q)))
