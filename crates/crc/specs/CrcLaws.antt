-- The CRC of a byte is linear, so that a table of 256 gives it in one step.
use Rattle.std.specs.Prelude.{ℕ, zero, suc, ◌+◌, ◌-◌, ◌*◌, ◌/◌, ◌%◌, ◌^◌, ◌<◌, ◌≤◌, true, ◌≡◌, refl, List, [], ◌∷◌, eqb, length, get_or, drop}
use Rattle.std.proofs.Math.Path.{sym}
use Rattle.std.proofs.Common.{◌∙◌, ap, arith, add-one, drop_of_length-le, drop-cons, eqb-true}
use Rattle.std.specs.Int.Bits.{bit_xor, xor_self, xor_zero_l, xor_zero_r, xor_shifted}
use Rattle.std.proofs.lemmas.Nat.{xor_shr, xor_mod, xor_lt, xor_comm, xor_block}
use Rattle.loops.specs.Loops.{pick, all, fold}
use Rattle.loops.specs.Choices.{either, pick-has}
use Rattle.loops.specs.Facts.{all-at, fold-keeps}
use Rattle.crc.specs.Crc.{polynomial, crc_bit, bit_at, crc_byte, crc_of}
use Rattle.bits.specs.Xor.{xor-assoc}

-- what is taken away where the highest bit is n
abbrev taken_away : ℕ → ℕ
taken_away n = pick (eqb n 1) polynomial 0

two-bits : (m n : ℕ) → m < 2 → n < 2 → bit_xor m n ≡ (m + n) % 2
two-bits zero zero p q = refl
two-bits zero (suc zero) p q = refl
two-bits (suc zero) zero p q = refl
two-bits (suc zero) (suc zero) p q = refl
two-bits zero (suc (suc n)) p q = absurd (omega arith)
two-bits (suc zero) (suc (suc n)) p q = absurd (omega arith)
two-bits (suc (suc m)) n p q = absurd (omega arith)

taken-both : (m n : ℕ) → m < 2 → n < 2 → taken_away ((m + n) % 2) ≡ bit_xor (taken_away m) (taken_away n)
taken-both zero zero p q = refl
taken-both zero (suc zero) p q = refl
taken-both (suc zero) zero p q = refl
taken-both (suc zero) (suc zero) p q = refl
taken-both zero (suc (suc n)) p q = absurd (omega arith)
taken-both (suc zero) (suc (suc n)) p q = absurd (omega arith)
taken-both (suc (suc m)) n p q = absurd (omega arith)

taken-lt : (n : ℕ) → taken_away n < 2 ^ 16
taken-lt n = pick-has (λ m. m < 2 ^ 16) (eqb n 1) polynomial 0 (omega arith) (omega arith)

-- one step as a shift and what is taken away
bit-as : (c b : ℕ) → crc_bit c b ≡ bit_xor (c * 2 % 2 ^ 16) (taken_away ((c / 32768 + b) % 2))
unfolding crc_bit
bit-as c b =
    either (eqb ((c / 32768 + b) % 2) 1)
    (λ e. rw e) (λ e. rw e (sym (xor_zero_r (c * 2 % 65536))))

bit-lt : (c b : ℕ) → crc_bit c b < 2 ^ 16
bit-lt c b = rw (bit-as c b) (xor_lt 16 (c * 2 % 2 ^ 16) (taken_away ((c / 32768 + b) % 2)) (omega arith) (taken-lt ((c / 32768 + b) % 2)))

shift-both : (a c : ℕ) → bit_xor a c * 2 % 2 ^ 16 ≡ bit_xor (a * 2 % 2 ^ 16) (c * 2 % 2 ^ 16)
shift-both a c =
    let x : a * 2 ^ 1 + 0 ≡ a * 2 = omega arith in
    let y : c * 2 ^ 1 + 0 ≡ c * 2 = omega arith in
    let z : bit_xor a c * 2 ^ 1 + bit_xor 0 0 ≡ bit_xor a c * 2 = omega arith in
    let q : bit_xor (a * 2) (c * 2) ≡ bit_xor a c * 2 = rw (x, y) at (xor_block 1 a c 0 0 (omega arith) (omega arith)) ∙ z in
    rw (sym q) (xor_mod (a * 2) (c * 2) 16)

high-both : (a c : ℕ) → a < 2 ^ 16 → c < 2 ^ 16 → bit_xor a c / 32768 ≡ (a / 32768 + c / 32768) % 2
high-both a c p q = xor_shr a c 15 ∙ two-bits (a / 32768) (c / 32768) (omega arith) (omega arith)

-- four numbers joined in another order
module _ (s t u v : ℕ) (ls : s < 2 ^ 16) (lt : t < 2 ^ 16) (lu : u < 2 ^ 16) (lv : v < 2 ^ 16) where
  cross : bit_xor (bit_xor s t) (bit_xor u v) ≡ bit_xor (bit_xor s u) (bit_xor t v)
  cross =
      xor-assoc 16 s t (bit_xor u v) ls lt (xor_lt 16 u v lu lv)
      ∙ ap (bit_xor s) (sym (xor-assoc 16 t u v lt lu lv) ∙ ap (λ (n : ℕ). bit_xor n v) (xor_comm t u) ∙ xor-assoc 16 u t v lu lt lv)
      ∙ sym (xor-assoc 16 s u (bit_xor t v) ls lu (xor_lt 16 t v lt lv))

parity : (p q b d : ℕ) → ((p + q) % 2 + (b + d) % 2) % 2 ≡ ((p + b) % 2 + (q + d) % 2) % 2
parity p q b d =
    let e : p + q + (b + d) ≡ p + b + (q + d) = omega arith in
    sums (p + q) (b + d) ∙ ap (λ (n : ℕ). n % 2) e ∙ sym (sums (p + b) (q + d))
  where
    sums : (x y : ℕ) → (x % 2 + y % 2) % 2 ≡ (x + y) % 2
    sums x y = omega arith

bit-both : (a c b d : ℕ) → a < 2 ^ 16 → c < 2 ^ 16 → crc_bit (bit_xor a c) ((b + d) % 2) ≡ bit_xor (crc_bit a b) (crc_bit c d)
bit-both a c b d p q =
    let m = (a / 32768 + b) % 2 in
    let n = (c / 32768 + d) % 2 in
    let e = parity (a / 32768) (c / 32768) b d in
    rw (bit-as (bit_xor a c) ((b + d) % 2), bit-as a b, bit-as c d, shift-both a c, high-both a c p q, e, taken-both ((a / 32768 + b) % 2) ((c / 32768 + d) % 2) (omega arith) (omega arith))
    (cross (a * 2 % 2 ^ 16) (c * 2 % 2 ^ 16) (taken_away m) (taken_away n) (omega arith) (omega arith) (taken-lt m) (taken-lt n))

-- the same of a byte
at-both : (b d i : ℕ) → bit_at (bit_xor b d) i ≡ (bit_at b i + bit_at d i) % 2
at-both b d i = rw (xor_shr b d (7 - i)) (xor_mod (b / 2 ^ (7 - i)) (d / 2 ^ (7 - i)) 1 ∙ two-bits (bit_at b i) (bit_at d i) (omega arith) (omega arith))

bits-both : (n i a c b d : ℕ) → a < 2 ^ 16 → c < 2 ^ 16
    → fold (λ k r. crc_bit r (bit_at (bit_xor b d) k)) n i (bit_xor a c)
    ≡ bit_xor (fold (λ k r. crc_bit r (bit_at b k)) n i a) (fold (λ k r. crc_bit r (bit_at d k)) n i c)
unfolding fold
bits-both zero i a c b d p q = refl
bits-both (suc n) i a c b d p q =
    rw (at-both b d i, bit-both a c (bit_at b i) (bit_at d i) p q)
    (bits-both n (i + 1) (crc_bit a (bit_at b i)) (crc_bit c (bit_at d i)) b d (bit-lt a (bit_at b i)) (bit-lt c (bit_at d i)))

byte-both : (a c b d : ℕ) → a < 2 ^ 16 → c < 2 ^ 16 → crc_byte (bit_xor a c) (bit_xor b d) ≡ bit_xor (crc_byte a b) (crc_byte c d)
unfolding crc_byte
byte-both a c b d p q = bits-both 8 0 a c b d p q

pub byte-lt : (c b : ℕ) → c < 2 ^ 16 → crc_byte c b < 2 ^ 16
unfolding crc_byte
byte-lt c b h = fold-keeps (λ (r : ℕ). r < 2 ^ 16) (λ i r. crc_bit r (bit_at b i)) (λ i r p. bit-lt r (bit_at b i)) 8 0 c h

-- a low byte is shifted up, and a byte that stands in the high half goes out with the same byte of data
lows : all (λ l. eqb (crc_byte l 0) (l * 256)) 256 0 ≡ true
unfolding all crc_byte crc_bit fold
lows = refl

outs : all (λ b. eqb (crc_byte (b * 256) b) 0) 256 0 ≡ true
unfolding all crc_byte crc_bit fold
outs = refl

-- one step of eight bits
pub byte-step : (c b : ℕ) → c < 2 ^ 16 → b < 2 ^ 8 → crc_byte c b ≡ bit_xor (c % 256 * 256) (crc_byte (bit_xor (c / 256) b * 256) 0)
byte-step c b h g =
    let x = c / 256 in
    let l = c % 256 in
    let e : c ≡ bit_xor (c / 256 * 2 ^ 8) (c % 256) = (let s : c ≡ c / 256 * 256 + c % 256 = omega arith in s ∙ sym (xor_shifted (c / 256) 8 (c % 256) (omega arith))) in
    let low : crc_byte (c % 256) 0 ≡ c % 256 * 256 =
    eqb-true (crc_byte (c % 256) 0) (c % 256 * 256) (all-at (λ n. eqb (crc_byte n 0) (n * 256)) 256 0 (c % 256) lows (omega arith) (omega arith)) in
    let out : crc_byte (b * 256) b ≡ 0 =
    eqb-true (crc_byte (b * 256) b) 0 (all-at (λ n. eqb (crc_byte (n * 256) n) 0) 256 0 b outs (omega arith) (omega arith)) in
    let y : bit_xor x b < 2 ^ 8 = xor_lt 8 x b (omega arith) g in
    let back : bit_xor (bit_xor x b) b ≡ x = xor-assoc 8 x b b (omega arith) g g ∙ rw (xor_self b) (xor_zero_r x) in
    let z1 : bit_xor x b * 2 ^ 8 + 0 ≡ bit_xor x b * 256 = omega arith in
    let z2 : b * 2 ^ 8 + 0 ≡ b * 256 = omega arith in
    let z3 : bit_xor (bit_xor x b) b * 2 ^ 8 + bit_xor 0 0 ≡ x * 256 = (rw back (omega arith)) in
    let split : bit_xor (bit_xor x b * 256) (b * 256) ≡ x * 256 = rw (z1, z2) at (xor_block 8 (bit_xor x b) b 0 0 (omega arith) (omega arith)) ∙ z3 in
    let high : crc_byte (x * 256) b ≡ crc_byte (bit_xor x b * 256) 0 =
    ap (λ (n : ℕ). crc_byte n b) (sym split) ∙ ap (λ (n : ℕ). crc_byte (bit_xor (bit_xor x b * 256) (b * 256)) n) (sym (xor_zero_l b))
    ∙ byte-both (bit_xor x b * 256) (b * 256) 0 b (omega arith) (omega arith) ∙ rw out (xor_zero_r (crc_byte (bit_xor x b * 256) 0)) in
    ap (λ (n : ℕ). crc_byte n b) e ∙ ap (λ (n : ℕ). crc_byte (bit_xor (x * 2 ^ 8) l) n) (sym (xor_zero_r b))
    ∙ byte-both (x * 2 ^ 8) l b 0 (omega arith) (omega arith)
    ∙ rw (low, high) (xor_comm (crc_byte (bit_xor x b * 256) 0) (l * 256))

-- the CRC of each byte after 0, as the code holds it
unfoldable pub table : List ℕ
table =
    0 ∷ 32773 ∷ 32783 ∷ 10 ∷ 32795 ∷ 30 ∷ 20 ∷ 32785 ∷ 32819 ∷ 54 ∷ 60 ∷ 32825 ∷ 40 ∷ 32813 ∷ 32807 ∷ 34
    ∷ 32867 ∷ 102 ∷ 108 ∷ 32873 ∷ 120 ∷ 32893 ∷ 32887 ∷ 114 ∷ 80 ∷ 32853 ∷ 32863 ∷ 90 ∷ 32843 ∷ 78 ∷ 68 ∷ 32833
    ∷ 32963 ∷ 198 ∷ 204 ∷ 32969 ∷ 216 ∷ 32989 ∷ 32983 ∷ 210 ∷ 240 ∷ 33013 ∷ 33023 ∷ 250 ∷ 33003 ∷ 238 ∷ 228 ∷ 32993
    ∷ 160 ∷ 32933 ∷ 32943 ∷ 170 ∷ 32955 ∷ 190 ∷ 180 ∷ 32945 ∷ 32915 ∷ 150 ∷ 156 ∷ 32921 ∷ 136 ∷ 32909 ∷ 32903 ∷ 130
    ∷ 33155 ∷ 390 ∷ 396 ∷ 33161 ∷ 408 ∷ 33181 ∷ 33175 ∷ 402 ∷ 432 ∷ 33205 ∷ 33215 ∷ 442 ∷ 33195 ∷ 430 ∷ 420 ∷ 33185
    ∷ 480 ∷ 33253 ∷ 33263 ∷ 490 ∷ 33275 ∷ 510 ∷ 500 ∷ 33265 ∷ 33235 ∷ 470 ∷ 476 ∷ 33241 ∷ 456 ∷ 33229 ∷ 33223 ∷ 450
    ∷ 320 ∷ 33093 ∷ 33103 ∷ 330 ∷ 33115 ∷ 350 ∷ 340 ∷ 33105 ∷ 33139 ∷ 374 ∷ 380 ∷ 33145 ∷ 360 ∷ 33133 ∷ 33127 ∷ 354
    ∷ 33059 ∷ 294 ∷ 300 ∷ 33065 ∷ 312 ∷ 33085 ∷ 33079 ∷ 306 ∷ 272 ∷ 33045 ∷ 33055 ∷ 282 ∷ 33035 ∷ 270 ∷ 260 ∷ 33025
    ∷ 33539 ∷ 774 ∷ 780 ∷ 33545 ∷ 792 ∷ 33565 ∷ 33559 ∷ 786 ∷ 816 ∷ 33589 ∷ 33599 ∷ 826 ∷ 33579 ∷ 814 ∷ 804 ∷ 33569
    ∷ 864 ∷ 33637 ∷ 33647 ∷ 874 ∷ 33659 ∷ 894 ∷ 884 ∷ 33649 ∷ 33619 ∷ 854 ∷ 860 ∷ 33625 ∷ 840 ∷ 33613 ∷ 33607 ∷ 834
    ∷ 960 ∷ 33733 ∷ 33743 ∷ 970 ∷ 33755 ∷ 990 ∷ 980 ∷ 33745 ∷ 33779 ∷ 1014 ∷ 1020 ∷ 33785 ∷ 1000 ∷ 33773 ∷ 33767 ∷ 994
    ∷ 33699 ∷ 934 ∷ 940 ∷ 33705 ∷ 952 ∷ 33725 ∷ 33719 ∷ 946 ∷ 912 ∷ 33685 ∷ 33695 ∷ 922 ∷ 33675 ∷ 910 ∷ 900 ∷ 33665
    ∷ 640 ∷ 33413 ∷ 33423 ∷ 650 ∷ 33435 ∷ 670 ∷ 660 ∷ 33425 ∷ 33459 ∷ 694 ∷ 700 ∷ 33465 ∷ 680 ∷ 33453 ∷ 33447 ∷ 674
    ∷ 33507 ∷ 742 ∷ 748 ∷ 33513 ∷ 760 ∷ 33533 ∷ 33527 ∷ 754 ∷ 720 ∷ 33493 ∷ 33503 ∷ 730 ∷ 33483 ∷ 718 ∷ 708 ∷ 33473
    ∷ 33347 ∷ 582 ∷ 588 ∷ 33353 ∷ 600 ∷ 33373 ∷ 33367 ∷ 594 ∷ 624 ∷ 33397 ∷ 33407 ∷ 634 ∷ 33387 ∷ 622 ∷ 612 ∷ 33377
    ∷ 544 ∷ 33317 ∷ 33327 ∷ 554 ∷ 33339 ∷ 574 ∷ 564 ∷ 33329 ∷ 33299 ∷ 534 ∷ 540 ∷ 33305 ∷ 520 ∷ 33293 ∷ 33287 ∷ 514 ∷ []

table-all : all (λ h. eqb (get_or table h 0) (crc_byte (h * 256) 0)) 256 0 ≡ true
unfolding all table crc_byte crc_bit fold
table-all = refl

pub index-lt : (c b : ℕ) → c < 2 ^ 16 → b < 2 ^ 8 → bit_xor (c / 256) b < 256
index-lt c b h g = xor_lt 8 (c / 256) b (omega arith) g

pub table-step : (c b : ℕ) → c < 2 ^ 16 → b < 2 ^ 8 → bit_xor (c % 256 * 256) (get_or table (bit_xor (c / 256) b) 0) ≡ crc_byte c b
table-step c b h g =
    let y = index-lt c b h g in
    let e = eqb-true (get_or table (bit_xor (c / 256) b) 0) (crc_byte (bit_xor (c / 256) b * 256) 0)
    (all-at (λ n. eqb (get_or table n 0) (crc_byte (n * 256) 0)) 256 0 (bit_xor (c / 256) b) table-all (omega arith) (omega arith)) in
    rw e (sym (byte-step c b h g))

-- the loop: the bytes from i on are left
module _ (c out i : ℕ) (bytes : List ℕ) (inv : crc_of c bytes ≡ crc_of out (drop i bytes)) where
  pub crc-more : i < length bytes → crc_of c bytes ≡ crc_of (crc_byte out (get_or bytes i 0)) (drop (i + 1) bytes)
  unfolding crc_of
  crc-more h = rw (add-one i) (rw (drop-cons bytes i 0 h) at inv)

  pub crc-end : length bytes ≤ i → out ≡ crc_of c bytes
  unfolding crc_of
  crc-end h = sym (rw (drop_of_length-le bytes {i = i} h) at inv)
