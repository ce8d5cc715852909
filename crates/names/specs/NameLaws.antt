-- Laws of names: a turn of each loop, and bounds.
use Prim.Native.Nat.{ℕ, zero, suc, ◌+◌, ◌-◌, ◌*◌, ◌%◌, ◌<◌, ◌≤◌}
use Rattle.std.specs.Prelude.{true, false, ◌&&◌, ◌||◌, List, ◌≡◌, ltb, eqb}
use Rattle.std.proofs.Common.{sym, ◌∙◌, ltb-true, lt-ltb, le-ltb, eq-eqb, ne_eqb}
use native.Mathlib.Omega.{arith}
use Rattle.loops.specs.Loops.{pick}
use Rattle.loops.specs.Choices.{pick-by, and-0, or-r}
use Rattle.bits.specs.Bit.{bit}
use Rattle.slots.specs.Slots.{is_long}
use Rattle.slots.specs.SlotLaws.{and-false}
use Rattle.names.specs.Names.{first_host_slot, ordinal, char_place, text_len, entries_read, entries_strict}

-- a turn of the lenient reading, at an entry e
module _ (look : ℕ → List ℕ) (seq k w : ℕ) (e : List ℕ) (here : e ≡ look (k - 1)) (inv : w ≡ entries_read look (4 - seq) seq k) (h : seq < 4) where
  read-turn : w ≡ pick (ltb first_host_slot k && is_long e 0 && eqb (ordinal e % 32) seq)
      (pick (ltb (text_len e) 13 || bit (ordinal e) 6) seq (entries_read look (4 - (seq + 1)) (seq + 1) (k - 1)))
      (seq - 1)
  unfolding entries_read
  read-turn = let l : 4 - seq ≡ suc (4 - (seq + 1)) = omega arith in rw (inv, l, here)

  pub read-low : k ≤ first_host_slot → seq - 1 ≡ w
  read-low l = sym (read-turn ∙ rw (le-ltb first_host_slot k l))

  pub read-short : is_long e 0 ≡ false → seq - 1 ≡ w
  read-short l = sym (read-turn ∙ simp (l, and-false))

  pub read-other : (ordinal e % 32 ≡ seq → ⊥) → seq - 1 ≡ w
  read-other l = sym (read-turn ∙ simp (ne_eqb (ordinal e % 32) seq l, and-false))

  module _ (room : first_host_slot < k) (long : is_long e 0 ≡ true) (number : ordinal e % 32 ≡ seq) where
    read-here : w ≡ pick (ltb (text_len e) 13 || bit (ordinal e) 6) seq (entries_read look (4 - (seq + 1)) (seq + 1) (k - 1))
    read-here = read-turn ∙ rw (lt-ltb first_host_slot k room, long, eq-eqb (ordinal e % 32) seq number)

    pub read-ended : text_len e < 13 → seq ≡ w
    read-ended l = sym (read-here ∙ rw (lt-ltb (text_len e) 13 l))

    pub read-marked : bit (ordinal e) 6 ≡ true → seq ≡ w
    read-marked l = sym (read-here ∙ rw (or-r (ltb (text_len e) 13) (bit (ordinal e) 6) l))

    pub read-next : 13 ≤ text_len e → bit (ordinal e) 6 ≡ false → w ≡ entries_read look (4 - (seq + 1)) (seq + 1) (k - 1)
    read-next l m = read-here ∙ rw (le-ltb (text_len e) 13 l, m)

pub read-end : (look : ℕ → List ℕ) (seq k w : ℕ) → w ≡ entries_read look (4 - seq) seq k → seq ≡ 4 → 3 ≡ w
unfolding entries_read
read-end look seq k w inv e = sym (inv ∙ rw e)

-- a turn of the strict reading
module _ (look : ℕ → List ℕ) (seq k w : ℕ) (e : List ℕ) (here : e ≡ look (k - 1)) (inv : w ≡ entries_strict look (21 - seq) seq k) (h : seq < 21) where
  strict-turn : w ≡ pick (ltb first_host_slot k && is_long e 0)
      (pick (eqb (ordinal e) (seq + 0x40)) seq
      (pick (eqb (ordinal e) seq && eqb (text_len e) 13) (entries_strict look (21 - (seq + 1)) (seq + 1) (k - 1)) 0))
      0
  unfolding entries_strict
  strict-turn = let l : 21 - seq ≡ suc (21 - (seq + 1)) = omega arith in rw (inv, l, here)

  pub strict-low : k ≤ first_host_slot → 0 ≡ w
  strict-low l = sym (strict-turn ∙ rw (le-ltb first_host_slot k l))

  pub strict-short : is_long e 0 ≡ false → 0 ≡ w
  strict-short l = sym (strict-turn ∙ simp (l, and-false))

  module _ (room : first_host_slot < k) (long : is_long e 0 ≡ true) where
    pub strict-last : ordinal e ≡ seq + 0x40 → seq ≡ w
    strict-last l = sym (strict-turn ∙ rw (lt-ltb first_host_slot k room, long, eq-eqb (ordinal e) (seq + 0x40) l))

    strict-here : (ordinal e ≡ seq + 0x40 → ⊥)
        → w ≡ pick (eqb (ordinal e) seq && eqb (text_len e) 13) (entries_strict look (21 - (seq + 1)) (seq + 1) (k - 1)) 0
    strict-here l = strict-turn ∙ rw (lt-ltb first_host_slot k room, long, ne_eqb (ordinal e) (seq + 0x40) l)

    pub strict-other : (ordinal e ≡ seq + 0x40 → ⊥) → (ordinal e ≡ seq → ⊥) → 0 ≡ w
    strict-other l o = sym (strict-here l ∙ rw (ne_eqb (ordinal e) seq o))

    pub strict-ended : (ordinal e ≡ seq + 0x40 → ⊥) → (text_len e ≡ 13 → ⊥) → 0 ≡ w
    strict-ended l t = sym (strict-here l ∙ simp (ne_eqb (text_len e) 13 t, and-false))

    pub strict-next : (ordinal e ≡ seq + 0x40 → ⊥) → ordinal e ≡ seq → text_len e ≡ 13 → w ≡ entries_strict look (21 - (seq + 1)) (seq + 1) (k - 1)
    strict-next l o t = strict-here l ∙ rw (eq-eqb (ordinal e) seq o, eq-eqb (text_len e) 13 t)

pub strict-end : (look : ℕ → List ℕ) (seq k w : ℕ) → w ≡ entries_strict look (21 - seq) seq k → seq ≡ 21 → 0 ≡ w
unfolding entries_strict
strict-end look seq k w inv e = sym (inv ∙ rw e)

-- all the entries that are read stand before the slot
read-below : (look : ℕ → List ℕ) (n seq k : ℕ) → 1 ≤ seq → entries_read look n seq k + 1 ≤ seq + k
unfolding entries_read
read-below look zero seq k h = omega arith
read-below look (suc n) seq k h =
    pick-by (λ (m : ℕ). m + 1 ≤ seq + k) (ltb first_host_slot k && is_long (look (k - 1)) 0 && eqb (ordinal (look (k - 1)) % 32) seq)
    (pick (ltb (text_len (look (k - 1))) 13 || bit (ordinal (look (k - 1))) 6) seq (entries_read look n (seq + 1) (k - 1)))
    (seq - 1)
    (λ e. let l = ltb-true first_host_slot k (and-0 (ltb first_host_slot k) (is_long (look (k - 1)) 0)
    (and-0 (ltb first_host_slot k && is_long (look (k - 1)) 0) (eqb (ordinal (look (k - 1)) % 32) seq) e)) in
    pick-by (λ (m : ℕ). m + 1 ≤ seq + k) (ltb (text_len (look (k - 1))) 13 || bit (ordinal (look (k - 1))) 6) seq
    (entries_read look n (seq + 1) (k - 1)) (λ _. omega arith) (λ _. omega (arith, read-below look n (seq + 1) (k - 1) (omega arith))))
    (λ e. omega arith)

strict-below : (look : ℕ → List ℕ) (n seq k : ℕ) → 1 ≤ seq → entries_strict look n seq k + 1 ≤ seq + k
unfolding entries_strict
strict-below look zero seq k h = omega arith
strict-below look (suc n) seq k h =
    pick-by (λ (m : ℕ). m + 1 ≤ seq + k) (ltb first_host_slot k && is_long (look (k - 1)) 0)
    (pick (eqb (ordinal (look (k - 1))) (seq + 0x40)) seq
    (pick (eqb (ordinal (look (k - 1))) seq && eqb (text_len (look (k - 1))) 13) (entries_strict look n (seq + 1) (k - 1)) 0))
    0
    (λ e. let l = ltb-true first_host_slot k (and-0 (ltb first_host_slot k) (is_long (look (k - 1)) 0) e) in
    pick-by (λ (m : ℕ). m + 1 ≤ seq + k) (eqb (ordinal (look (k - 1))) (seq + 0x40)) seq
    (pick (eqb (ordinal (look (k - 1))) seq && eqb (text_len (look (k - 1))) 13) (entries_strict look n (seq + 1) (k - 1)) 0)
    (λ _. omega arith)
    (λ _. pick-by (λ (m : ℕ). m + 1 ≤ seq + k) (eqb (ordinal (look (k - 1))) seq && eqb (text_len (look (k - 1))) 13)
    (entries_strict look n (seq + 1) (k - 1)) 0 (λ _. omega (arith, strict-below look n (seq + 1) (k - 1) (omega arith))) (λ _. omega arith)))
    (λ e. omega arith)

pub entries_read-le : (look : ℕ → List ℕ) (idx : ℕ) → entries_read look 3 1 idx ≤ idx
entries_read-le look idx = omega (arith, read-below look 3 1 idx (omega arith))

pub entries_strict-le : (look : ℕ → List ℕ) (idx : ℕ) → entries_strict look 20 1 idx ≤ idx
entries_strict-le look idx = omega (arith, strict-below look 20 1 idx (omega arith))

-- a character's two bytes stand in the entry
pub char_place-lt : (i : ℕ) → i < 13 → char_place i + 1 < 32
unfolding char_place
char_place-lt i h =
    pick-by (λ (p : ℕ). p + 1 < 32) (ltb i 5) (1 + i * 2) (pick (ltb i 11) (14 + (i - 5) * 2) (28 + (i - 11) * 2))
    (λ e. omega (arith, ltb-true i 5 e))
    (λ _. pick-by (λ (p : ℕ). p + 1 < 32) (ltb i 11) (14 + (i - 5) * 2) (28 + (i - 11) * 2) (λ e. omega (arith, ltb-true i 11 e)) (λ _. omega arith))
