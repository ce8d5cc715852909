-- Laws of decoding.
use Rattle.std.specs.Prelude.{◌≡◌, ℕ, ◌+◌, ◌-◌, ◌%◌, ◌^◌, ◌<◌, Bool, true, false, ◌||◌, List, length, ◌==◌, bit_xor, slice_index, slice_index_or, refl}
use Rattle.std.proofs.Math.Path.{sym, ap}
use Rattle.std.proofs.Common.{◌∙◌, arith, ext_get_or}
use Rattle.std.proofs.lemmas.Nat.{xor_lt}
use Rattle.std.specs.Int.Bits.{xor_self, xor_zero_r}
use borrow.Author.Tests.{leb-false, eq-eqb, ltb-true}
use Rattle.loops.specs.Loops.{pick}
use Rattle.loops.specs.Choices.{either, or-r}
use Rattle.loops.specs.Rows.{rows-at, rows-length}
use Rattle.bits.specs.Xor.{xor-assoc}
use Rattle.decode.specs.Decode.{added_at, added, key_at, key_of, is_short, decodes, decoded_with, decoded}

-- a block keeps its length
pub decoded-length : (p : List ℕ) → length (decoded p) ≡ length p
unfolding decoded
decoded-length p =
    either (is_short p) (λ e. rw e)
    (λ e. either (decodes p) (λ d. rw (e, d) (rows-length (decoded_with (key_at (added p)) (key_of p) (added p)) 0 p)) (λ d. rw (e, d)))

-- what each byte becomes
byte-at : (p : List ℕ) (i : ℕ) → i < length p
    → slice_index (decoded p) i ≡ pick (is_short p) (slice_index p i) (pick (decodes p) (decoded_with (key_at (added p)) (key_of p) (added p) i (slice_index p i)) (slice_index p i))
unfolding decoded
byte-at p i h =
    either (is_short p) (λ e. rw e)
    (λ e. either (decodes p) (λ d. rw (e, d) (rows-at (decoded_with (key_at (added p)) (key_of p) (added p)) p i h)) (λ d. rw (e, d)))

-- byte 31 and the key stay
stays-at : (p : List ℕ) (i : ℕ) → i < length p → (i == added_at || i == key_at (added p)) ≡ true → slice_index (decoded p) i ≡ slice_index p i
unfolding decoded_with
stays-at p i h t = byte-at p i h ∙ both (is_short p) (decodes p)
  where
    both : (a b : Bool)
        → pick a (slice_index p i)
        (pick b (pick (i == added_at || i == key_at (added p)) (slice_index p i) ((bit_xor (slice_index p i) (key_of p) + 256 - added p) % 256)) (slice_index p i))
        ≡ slice_index p i
    both true b = refl
    both false true = rw t
    both false false = refl

pub added-stays : (p : List ℕ) → added_at < length p → added (decoded p) ≡ added p
added-stays p h = stays-at p added_at h (rw (eq-eqb added_at added_at refl))

pub key-stays : (p : List ℕ) → key_at (added p) < length p → slice_index (decoded p) (key_at (added p)) ≡ key_of p
key-stays p h = stays-at p (key_at (added p)) h (or-r (key_at (added p) == added_at) (key_at (added p) == key_at (added p)) (eq-eqb (key_at (added p)) (key_at (added p)) refl))

-- whether a block is short and whether it decodes go by its length and byte 31, which stay
short-same : (p q : List ℕ) → length p ≡ length q → is_short p ≡ is_short q
short-same p q l = rw l

decodes-same : (p q : List ℕ) → length p ≡ length q → added p ≡ added q → decodes p ≡ decodes q
unfolding decodes
decodes-same p q l a = rw (l, a)

-- the key's bits turned twice
turned-back : (x k : ℕ) → x < 2 ^ 8 → k < 2 ^ 8 → bit_xor (bit_xor x k) k ≡ x
turned-back x k h g = xor-assoc 8 x k k h g g ∙ rw (xor_self k) (xor_zero_r x)

byte-differs : (x y k a : ℕ) → x < 2 ^ 8 → y < 2 ^ 8 → k < 2 ^ 8 → a < 2 ^ 8 → (bit_xor x k + 256 - a) % 256 ≡ (bit_xor y k + 256 - a) % 256 → x ≡ y
byte-differs x y k a hx hy hk ha e =
    let p = xor_lt 8 x k hx hk in
    let q = xor_lt 8 y k hy hk in
    let s : bit_xor x k ≡ bit_xor y k = omega arith in
    sym (turned-back x k hx hk) ∙ ap (λ (n : ℕ). bit_xor n k) s ∙ turned-back y k hy hk

-- two blocks of bytes that decode to the same are the same
module _ (p q : List ℕ) (bp : (i : ℕ) → slice_index p i < 2 ^ 8) (bq : (i : ℕ) → slice_index q i < 2 ^ 8) (e : decoded p ≡ decoded q) where
  long : length p ≡ length q
  long = sym (decoded-length p) ∙ ap length e ∙ decoded-length q

  same-added : is_short p ≡ false → added p ≡ added q
  same-added s =
      let h = leb-false (length p) added_at s in
      let l = long in
      sym (added-stays p (omega arith)) ∙ ap added e ∙ added-stays q (omega arith)

  same-key : is_short p ≡ false → decodes p ≡ true → key_of p ≡ key_of q
  unfolding decodes
  same-key s d =
      let a = same-added s in
      let l = long in
      let h : key_at (added p) < length p = ltb-true (key_at (added p)) (length p) (rw s at d) in
      let g : key_at (added q) < length q = rw (a, l) at h in
      sym (key-stays p h) ∙ ap (λ (x : List ℕ). slice_index x (key_at (added p))) e ∙ ap (λ (n : ℕ). slice_index (decoded q) (key_at n)) a ∙ key-stays q g

  byte-same : (i : ℕ) → i < length p → slice_index p i ≡ slice_index q i
  unfolding decoded_with
  byte-same i h =
      let l = long in
      let b : slice_index_or (decoded p) i 0 ≡ slice_index_or (decoded q) i 0 = ap (λ (x : List ℕ). slice_index x i) e in
      let u = sym (byte-at p i h) ∙ b ∙ byte-at q i (omega arith) in
      either (is_short p)
      (λ s. rw (s, sym (short-same p q l) ∙ s) at u)
      (λ s. let a = same-added s in
      either (decodes p)
      (λ d. let k : slice_index_or q (key_at (added p)) 0 ≡ key_of p = ap (λ (n : ℕ). slice_index q (key_at n)) a ∙ sym (same-key s d) in
      let v = rw (s, sym (short-same p q l) ∙ s, d, sym (decodes-same p q l a) ∙ d, ← a, k) at u in
      either (i == added_at || i == key_at (added p))
      (λ t. rw t at v)
      (λ t. byte-differs (slice_index p i) (slice_index q i) (key_of p) (added p) (bp i) (bq i) (bp (key_at (added p))) (bp added_at) (rw t at v)))
      (λ d. rw (s, sym (short-same p q l) ∙ s, d, sym (decodes-same p q l a) ∙ d) at u))

  pub decoded-apart : p ≡ q
  decoded-apart = ext_get_or 0 p q long byte-same
