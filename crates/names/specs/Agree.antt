-- Where the strict name has one, two or three entries, both readings read the same entries, and so the same name.
use Rattle.std.specs.Prelude.{ℕ, zero, suc, ◌+◌, ◌-◌, ◌/◌, ◌%◌, ◌^◌, ◌<◌, ◌≤◌, false, ◌&&◌, List, ◌≡◌, ltb}
use Rattle.std.proofs.Math.Bool.{true}
use Rattle.std.proofs.Common.{◌∙◌, arith}
use Rattle.std.proofs.Math.Dec.{eqb}
use borrow.Author.Tests.{eqb-true, eq-eqb, ne_eqb, le-ltb}
use Rattle.loops.specs.Loops.{pick}
use Rattle.loops.specs.Choices.{pick-by, picked, and-0, and-1, or-r}
use Rattle.bits.specs.Bit.{bit}
use Rattle.slots.specs.Slots.{is_long}
use Rattle.records.specs.declared.Rec.{Rec}
use Rattle.names.specs.Names.{first_host_slot, entry_of, ordinal, text_len, entries_read, entries_strict, long_name, strict_name}

-- byte 0 of an entry with a small number: bit 6 is what is added on the last
last-bit : (seq o : ℕ) → seq < 32 → o ≡ seq + 0x40 → bit o 6 ≡ true
unfolding bit
last-bit seq o h e = eq-eqb (o / 2 ^ 6 % 2) 1 (omega arith)

no-bit : (seq o : ℕ) → seq < 32 → o ≡ seq → bit o 6 ≡ false
unfolding bit
no-bit seq o h e = ne_eqb (o / 2 ^ 6 % 2) 1 (λ z. omega arith)

-- entries that are counted go on from seq
strict-from : (look : ℕ → List ℕ) (n seq k : ℕ) → 0 < entries_strict look n seq k → seq ≤ entries_strict look n seq k
unfolding entries_strict
strict-from look zero seq k = λ h. absurd (omega arith)
strict-from look (suc n) seq k =
    pick-by (λ (m : ℕ). 0 < m → seq ≤ m) (ltb first_host_slot k && is_long (look (k - 1)) 0)
    (pick (eqb (ordinal (look (k - 1))) (seq + 0x40)) seq
    (pick (eqb (ordinal (look (k - 1))) seq && eqb (text_len (look (k - 1))) 13) (entries_strict look n (seq + 1) (k - 1)) 0))
    0
    (λ _. pick-by (λ (m : ℕ). 0 < m → seq ≤ m) (eqb (ordinal (look (k - 1))) (seq + 0x40)) seq
    (pick (eqb (ordinal (look (k - 1))) seq && eqb (text_len (look (k - 1))) 13) (entries_strict look n (seq + 1) (k - 1)) 0)
    (λ _ h. omega arith)
    (λ _. pick-by (λ (m : ℕ). 0 < m → seq ≤ m) (eqb (ordinal (look (k - 1))) seq && eqb (text_len (look (k - 1))) 13)
    (entries_strict look n (seq + 1) (k - 1)) 0 (λ _ h. omega (arith, strict-from look n (seq + 1) (k - 1) h)) (λ _ h. omega arith)))
    (λ _ h. omega arith)

-- a turn of the lenient reading, at the last entry and at one before it
module _ (look : ℕ → List ℕ) (n seq k : ℕ) (small : seq < 32) (there : (ltb first_host_slot k && is_long (look (k - 1)) 0) ≡ true) where
  read-last : ordinal (look (k - 1)) ≡ seq + 0x40 → entries_read look (suc n) seq k ≡ seq
  unfolding entries_read
  read-last e =
      let o = ordinal (look (k - 1)) in
      let q : eqb (o % 32) seq ≡ true = eq-eqb (o % 32) seq (omega arith) in
      rw (there, q, or-r (ltb (text_len (look (k - 1))) 13) (bit o 6) (last-bit seq o small e))

  read-on : ordinal (look (k - 1)) ≡ seq → text_len (look (k - 1)) ≡ 13 → entries_read look (suc n) seq k ≡ entries_read look n (seq + 1) (k - 1)
  unfolding entries_read
  read-on e t =
      let o = ordinal (look (k - 1)) in
      let q : eqb (o % 32) seq ≡ true = eq-eqb (o % 32) seq (omega arith) in
      rw (there, q, le-ltb (text_len (look (k - 1))) 13 (omega arith), no-bit seq o small e)

agree-from : (look : ℕ → List ℕ) (N n seq k m : ℕ) → entries_strict look N seq k ≡ m → 0 < m → m < seq + n → seq + n ≤ 32
    → entries_read look n seq k ≡ m
unfolding entries_strict
agree-from look zero n seq k m e h l f = absurd (omega arith)
agree-from look (suc N) zero seq k m e h l f = absurd (omega (arith, strict-from look (suc N) seq k (omega arith)))
agree-from look (suc N) (suc n) seq k m e h l f =
    picked (ltb first_host_slot k && is_long (look (k - 1)) 0)
    (pick (eqb (ordinal (look (k - 1))) (seq + 0x40)) seq
    (pick (eqb (ordinal (look (k - 1))) seq && eqb (text_len (look (k - 1))) 13) (entries_strict look N (seq + 1) (k - 1)) 0))
    0 m e
    (λ there e1. picked (eqb (ordinal (look (k - 1))) (seq + 0x40)) seq
    (pick (eqb (ordinal (look (k - 1))) seq && eqb (text_len (look (k - 1))) 13) (entries_strict look N (seq + 1) (k - 1)) 0) m e1
    (λ o e2. read-last look n seq k (omega arith) there (eqb-true (ordinal (look (k - 1))) (seq + 0x40) o) ∙ e2)
    (λ o e2. picked (eqb (ordinal (look (k - 1))) seq && eqb (text_len (look (k - 1))) 13) (entries_strict look N (seq + 1) (k - 1)) 0 m e2
    (λ p e3. read-on look n seq k (omega arith) there
    (eqb-true (ordinal (look (k - 1))) seq (and-0 (eqb (ordinal (look (k - 1))) seq) (eqb (text_len (look (k - 1))) 13) p))
    (eqb-true (text_len (look (k - 1))) 13 (and-1 (eqb (ordinal (look (k - 1))) seq) (eqb (text_len (look (k - 1))) 13) p))
    ∙ agree-from look N n (seq + 1) (k - 1) m e3 h (omega arith) (omega arith))
    (λ p e3. absurd (omega arith))))
    (λ _ e1. absurd (omega arith))

pub entries-agree : (look : ℕ → List ℕ) (idx m : ℕ) → entries_strict look 20 1 idx ≡ m → 0 < m → m ≤ 3 → entries_read look 3 1 idx ≡ m
entries-agree look idx m e h l = agree-from look 20 3 1 idx m e h (omega arith) (omega arith)

pub names-agree : (recs : List Rec) (d : List ℕ) (base idx m : ℕ) → entries_strict (entry_of recs d base) 20 1 idx ≡ m → 0 < m → m ≤ 3
    → strict_name recs d base idx ≡ long_name recs d base idx
unfolding strict_name long_name
names-agree recs d base idx m e h l = rw (e, entries-agree (entry_of recs d base) idx m e h l)
