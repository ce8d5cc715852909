-- Bytes of a written sector go slot by slot, and are those that the slots' tests compare.
use Rattle.std.specs.Prelude.{ℕ, zero, suc, ◌+◌, ◌*◌, ◌/◌, ◌%◌, ◌<◌, ◌≤◌, Bool, true, false, not, ◌&&◌, ◌||◌, ◌≡◌, refl, ltb, eqb, length, get_or, drop}
use Rattle.std.proofs.Common.{true≢false, ◌∙◌, arith, get_or-take, get_or-drop, ltb-true, ltb-false, eqb-true, eq-eqb}
use Rattle.std.proofs.Math.Path.{sym}
use Rattle.std.proofs.lemmas.Bool.{not-true, not-false}
use Rattle.loops.specs.Loops.{all, first}
use Rattle.loops.specs.Choices.{either, same-if, or-l, or-r}
use Rattle.loops.specs.Facts.{all-at, all-of, first-at, first-le, first-below}
use Rattle.sector.specs.Bytes.{same, same_at}
use Rattle.slots.specs.Slots.{is_date, same_slot, date_at, dates_only}
use Rattle.root_slots.specs.OrLaws.{or-none}
use Rattle.judge.specs.Classify.{SectorWrite}
use Rattle.admits.specs.Bytes.{byte_as_shown, only_bytes, slot_of_byte, place_in_slot, written_slot, slot_as_shown, in_field, date_byte}

-- a test that says the same of each of them
pub all-same : (p q : ℕ → Bool) (n i : ℕ) → ((k : ℕ) → i ≤ k → k < i + n → p k ≡ q k) → all p n i ≡ all q n i
unfolding all
all-same p q zero i f = refl
all-same p q (suc n) i f = rw (f i (omega arith) (omega arith), all-same p q n (i + 1) (λ k l h. f k (omega arith) (omega arith)))

-- a test besides that is no matter of the number
pub all-or : (p : ℕ → Bool) (h : Bool) (n i : ℕ) → all (λ k. p k || h) n i ≡ (all p n i || h)
all-or p true n i = all-of (λ k. p k || true) n i (λ k l m. or-r (p k) true refl) ∙ sym (or-r (all p n i) true refl)
all-or p false n i = all-same (λ k. p k || false) p n i (λ k l m. or-none (p k) false refl) ∙ sym (or-none (all p n i) false refl)

-- the first of them and the others
pub all-first : (p : ℕ → Bool) (n i : ℕ) → all p (suc n) i ≡ (p i && all p n (i + 1))
unfolding all
all-first p n i = either (p i) (λ e. rw e) (λ e. rw e)

-- slot i and byte b of it
pub slot-is : (i b : ℕ) → b < 32 → slot_of_byte (i * 32 + b) ≡ i
slot-is i b h = omega arith

pub byte-is : (i b : ℕ) → b < 32 → place_in_slot (i * 32 + b) ≡ b
byte-is i b h = omega arith

-- the sector's bytes are its slots' bytes
pub by-slots : (p : ℕ → Bool) → all p 512 0 ≡ all (λ i. all (λ b. p (i * 32 + b)) 32 0) 16 0
by-slots p =
    same-if (all p 512 0) (all slots 16 0)
    (λ e. all-of slots 16 0 (λ i l h. all-of (λ b. p (i * 32 + b)) 32 0 (λ b m k. all-at p 512 0 (i * 32 + b) e (omega arith) (omega arith))))
    (λ e. all-of p 512 0
    (λ n l h. let q : n / 32 * 32 + n % 32 ≡ n = omega arith in
    rw q at (all-at (λ b. p (n / 32 * 32 + b)) 32 0 (n % 32) (all-at slots 16 0 (n / 32) e (omega arith) (omega arith)) (omega arith) (omega arith))))
  where
    slots : ℕ → Bool
    slots i = all (λ b. p (i * 32 + b)) 32 0

-- the first that is so
pub first-is : (p : ℕ → Bool) (m k : ℕ) → k ≤ m → ((j : ℕ) → j < k → p j ≡ false) → (k < m → p k ≡ true) → first p m 0 ≡ k
first-is p m k l f g =
    either (ltb (first p m 0) k)
    (λ q. let h = ltb-true (first p m 0) k q in
    absurd (true≢false (sym (first-at p m 0 (omega arith)) ∙ f (first p m 0) h)))
    (λ q. either (ltb k (first p m 0))
    (λ r. let h = ltb-true k (first p m 0) r in
    absurd (true≢false (sym (g (omega (arith, first-le p m 0))) ∙ first-below p m 0 k (omega arith) h)))
    (λ r. omega (arith, ltb-false (first p m 0) k q, ltb-false k (first p m 0) r)))

-- the first byte that isn't so lies in the first slot that has one
pub first-slot : (p : ℕ → Bool) → first (λ i. not (all (λ b. p (i * 32 + b)) 32 0)) 16 0 ≡ slot_of_byte (first (λ n. not (p n)) 512 0)
first-slot p =
    first-is (λ i. not (slots i)) 16 (at / 32) (omega (arith, first-le bad 512 0))
    (λ i h. rw (all-of (λ b. p (i * 32 + b)) 32 0 (λ b l m. not-false (p (i * 32 + b)) (first-below bad 512 0 (i * 32 + b) (omega arith) (omega arith)))))
    (λ h. rw (fails (omega arith)))
  where
    bad : ℕ → Bool
    bad n = not (p n)

    at : ℕ
    at = first bad 512 0

    slots : ℕ → Bool
    slots i = all (λ b. p (i * 32 + b)) 32 0

    fails : at < 512 → slots (at / 32) ≡ false
    fails h =
        let q : at / 32 * 32 + at % 32 ≡ at = omega arith in
        let b : p (at / 32 * 32 + at % 32) ≡ false = rw q (not-true (p at) (first-at bad 512 0 (omega arith))) in
        either (slots (at / 32))
        (λ t. absurd (true≢false (sym (all-at (λ b. p (at / 32 * 32 + b)) 32 0 (at % 32) t (omega arith) (omega arith)) ∙ b))) (λ t. t)

-- the dates: byte by byte of a slot, computed
abbrev same-bool : Bool → Bool → Bool
same-bool true b = b
same-bool false b = not b

same-bool-is : (a b : Bool) → same-bool a b ≡ true → a ≡ b
same-bool-is true b e = sym e
same-bool-is false false e = refl
same-bool-is false true e = absurd (true≢false (sym e))

date-table : all (λ b. same-bool (date_byte b) (is_date b)) 32 0 ≡ true
unfolding all date_byte in_field is_date
date-table = refl

date-same : (b : ℕ) → b < 32 → date_byte b ≡ is_date b
date-same b h =
    same-bool-is (date_byte b) (is_date b) (all-at (λ b. same-bool (date_byte b) (is_date b)) 32 0 b date-table (omega arith) (omega arith))

pub eqb-sym : (a b : ℕ) → eqb a b ≡ eqb b a
eqb-sym a b = same-if (eqb a b) (eqb b a) (λ e. eq-eqb b a (sym (eqb-true a b e))) (λ e. eq-eqb a b (sym (eqb-true b a e)))

pub or-comm : (a b : Bool) → (a || b) ≡ (b || a)
or-comm true b = sym (or-r b true refl)
or-comm false b = sym (or-none b false refl)

-- slot i differs in dates at most
unfoldable pub slot_dates : SectorWrite → ℕ → Bool
slot_dates x i = all (λ b. byte_as_shown x (i * 32 + b) || date_byte b) 32 0

module _ (x : SectorWrite) where
  pub kept-is : (n : ℕ) → byte_as_shown x n ≡ same_at x.shown x.written n
  unfolding byte_as_shown
  kept-is n = eqb-sym (get_or x.written n 0) (get_or x.shown n 0)

  pub kept-slot : (i : ℕ) → slot_as_shown x i ≡ same_slot x.shown x.written (i * 32)
  unfolding slot_as_shown same_slot
  kept-slot i = all-same _ _ 32 0 (λ b l h. kept-is (i * 32 + b))

  pub date-byte : (i b : ℕ) → b < 32 → (byte_as_shown x (i * 32 + b) || date_byte b) ≡ date_at x.shown x.written (i * 32) b
  unfolding date_at
  date-byte i b h = rw (kept-is (i * 32 + b), date-same b h)

  pub dates-slot : (i : ℕ) → slot_dates x i ≡ dates_only x.shown x.written (i * 32)
  unfolding slot_dates dates_only
  dates-slot i =
      all-same (λ b. byte_as_shown x (i * 32 + b) || date_byte b) (date_at x.shown x.written (i * 32)) 32 0 (λ b l h. date-byte i b (omega arith))

  pub kept-dates : (i : ℕ) → slot_as_shown x i ≡ true → slot_dates x i ≡ true
  unfolding slot_as_shown slot_dates
  kept-dates i e =
      all-of (λ b. byte_as_shown x (i * 32 + b) || date_byte b) 32 0
      (λ b l h. or-l (byte_as_shown x (i * 32 + b)) (date_byte b) (all-at (λ b. byte_as_shown x (i * 32 + b)) 32 0 b e l h))

  pub entry-byte : (i b : ℕ) → b < 32 → get_or (written_slot x i) b 0 ≡ get_or x.written (i * 32 + b) 0
  entry-byte i b h = get_or-take 32 (drop (i * 32) x.written) b 0 h ∙ get_or-drop (i * 32) x.written b 0

  -- a sector as shown keeps all its bytes
  module _ (long : length x.shown ≡ 512) where
    shown-kept : same x.shown x.written ≡ all (byte_as_shown x) 512 0
    unfolding same
    shown-kept = rw long (all-same (same_at x.shown x.written) (byte_as_shown x) 512 0 (λ n l h. sym (kept-is n)))

    pub shown-byte : (n : ℕ) → n < 512 → same x.shown x.written ≡ true → byte_as_shown x n ≡ true
    shown-byte n h e = all-at (byte_as_shown x) 512 0 n (sym shown-kept ∙ e) (omega arith) (omega arith)

    pub shown-only : (may : ℕ → Bool) → same x.shown x.written ≡ true → only_bytes x may ≡ true
    unfolding only_bytes
    shown-only may e =
        all-of (λ n. byte_as_shown x n || may n) 512 0
        (λ n l h. or-l (byte_as_shown x n) (may n) (shown-byte n h e))

    pub shown-slot : (i : ℕ) → i < 16 → same x.shown x.written ≡ true → slot_as_shown x i ≡ true
    unfolding slot_as_shown
    shown-slot i h e =
        all-of (λ b. byte_as_shown x (i * 32 + b)) 32 0
        (λ b l m. shown-byte (i * 32 + b) (omega arith) e)
