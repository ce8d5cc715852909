-- Laws of numbers and bytes of a line.
use Rattle.std.specs.Prelude.{ℕ, zero, suc, ◌+◌, ◌-◌, ◌<◌, ◌≤◌, Bool, true, ◌≡◌, eqb}
use Rattle.std.specs.Prelude.{List, length, get_or, drop, Option, Some, None, IfSome, option_map, option_and_then}
use Rattle.std.proofs.Math.Bool.{false, not}
use Rattle.std.proofs.Math.Path.{refl, sym}
use Rattle.std.proofs.Common.{◌∙◌, length-drop}
use native.Mathlib.Omega.{arith}
use Rattle.std.proofs.Math.Dec.{leb, ltb}
use borrow.Author.Tests.{leb-true, leb-false, ltb-true, le-leb, lt-leb}
use Rattle.loops.specs.Loops.{pick, first, fold, first-go, first-stop, first-end, fold-go, fold-end}
use Rattle.loops.specs.Choices.{pick-by, pick-has, and-0, and-1}
use Rattle.loops.specs.Facts.{first-le, fold-keeps}
use Rattle.lines.specs.Digits.{is_digit, read, digits, appended, decimal, number_at, field_end, number_field}

pub first-from : (p : ℕ → Bool) (n i : ℕ) → i ≤ first p n i
unfolding first
first-from p zero i = omega arith
first-from p (suc n) i =
    pick-has (λ k. i ≤ k) (p i) i (first p n (i + 1)) (omega arith) (let h = first-from p n (i + 1) in omega arith)

pub digit-bounds : (c : ℕ) → is_digit c ≡ true → (48 ≤ c) × (c ≤ 57)
unfolding is_digit
digit-bounds c e = (leb-true 48 c (and-0 (leb 48 c) (leb c 57) e), leb-true c 57 (and-1 (leb 48 c) (leb c 57) e))

-- more digits make no smaller number
grows : (line : List ℕ) (n i v : ℕ) → v ≤ fold (appended line) n i v
grows line n i v = fold-keeps (λ s. v ≤ s) (appended line) (λ k s h. omega arith) n i v (omega arith)

-- the digits before i, of value v, and those from i on
pub record Reading (line : List ℕ) (most v i : ℕ) : Type 0 where
  pub ends : digits line ≡ first (λ k. not (is_digit (get_or line k 0))) (length line - i) i
  pub value : decimal line ≡ fold (appended line) (digits line - i) i v
  pub fits : v ≤ most

pub reading-starts : (line : List ℕ) (most : ℕ) → Reading line most 0 0
unfolding digits decimal
reading-starts line most =
    let e : length line - 0 ≡ length line = omega arith in
    let d : digits line - 0 ≡ digits line = omega arith in record { ends = rw e; value = rw d; fits = omega arith }

module _ (line : List ℕ) (most v i : ℕ) (r : Reading line most v i) where
  reading-done : digits line ≡ i → read line i v ≡ number_at line most
  unfolding number_at
  reading-done e =
      let d : decimal line ≡ v = r.value ∙ sym (fold-end (appended line) (digits line) i v (fold (appended line) (digits line - i) i v) refl (omega (arith, e))) in
      rw (e, d, le-leb v most r.fits)

  -- another character, or the line's end
  pub reading-stops : i < length line → is_digit (get_or line i 0) ≡ false → read line i v ≡ number_at line most
  reading-stops h e =
      reading-done (sym (first-stop (λ k. not (is_digit (get_or line k 0))) (length line) i (digits line) r.ends h (rw e)))

  pub reading-ends : length line ≤ i → read line i v ≡ number_at line most
  reading-ends h = reading-done (sym (first-end (λ k. not (is_digit (get_or line k 0))) (length line) i (digits line) r.ends h))

  module _ (h : i < length line) (e : is_digit (get_or line i 0) ≡ true) where
    next-ends : digits line ≡ first (λ k. not (is_digit (get_or line k 0))) (length line - (i + 1)) (i + 1)
    next-ends = first-go (λ k. not (is_digit (get_or line k 0))) (length line) i (digits line) r.ends h (rw e)

    past : i < digits line
    past = let k = first-from (λ k. not (is_digit (get_or line k 0))) (length line - (i + 1)) (i + 1) in omega (arith, next-ends)

    next-value : decimal line ≡ fold (appended line) (digits line - (i + 1)) (i + 1) (appended line i v)
    next-value = fold-go (appended line) (digits line) i v (decimal line) r.value past

    pub reading-goes : appended line i v ≤ most → Reading line most (appended line i v) (i + 1)
    reading-goes f = record { ends = next-ends; value = next-value; fits = f }

    -- a number that is too large already
    pub reading-fails : leb (appended line i v) most ≡ false → None ≡ number_at line most
    unfolding number_at
    reading-fails f =
        let g = grows line (digits line - (i + 1)) (i + 1) (appended line i v) in
        let k = leb-false (appended line i v) most f in
        let b : leb (decimal line) most ≡ false = lt-leb (decimal line) most (omega (arith, next-value)) in
        rw b

-- What a read leaves: a number in its bounds, and less of the line.
abbrev pub Onward : List ℕ → ℕ → ℕ × List ℕ → Type 0
Onward line most r = (r.0 ≤ most) × (length r.1 < length line)

pub number-onward : (line : List ℕ) (most : ℕ) → IfSome (number_at line most) (Onward line most)
unfolding number_at digits
number-onward line most =
    pick-by (λ (o : Option (ℕ × List ℕ)). IfSome o (Onward line most)) (leb (decimal line) most) (read line (digits line) (decimal line)) None
    (λ b. pick-by (λ (o : Option (ℕ × List ℕ)). IfSome o (Onward line most)) (ltb 0 (digits line)) (Some (decimal line, drop (digits line) line)) None
    (λ h. let k = first-le (λ i. not (is_digit (get_or line i 0))) (length line) 0 in let z = ltb-true 0 (digits line) h in
    (leb-true (decimal line) most b, omega (arith, length-drop (digits line) line)))
    (λ h. tt))
    (λ b. tt)

pub end-onward : (rest : List ℕ) (sep : ℕ) → IfSome (field_end rest sep) (λ after. length after ≤ length rest)
unfolding field_end
end-onward rest sep =
    pick-has (λ (o : Option (List ℕ)). IfSome o (λ after. length after ≤ length rest)) (eqb (length rest) 0) (Some rest)
    (pick (eqb (get_or rest 0 0) sep) (Some (drop 1 rest)) None)
    (omega arith)
    (pick-has (λ (o : Option (List ℕ)). IfSome o (λ after. length after ≤ length rest)) (eqb (get_or rest 0 0) sep) (Some (drop 1 rest)) None
    (omega (arith, length-drop 1 rest)) tt)

module _ (line : List ℕ) (sep most : ℕ) where
  ended : (v : ℕ) (rest : List ℕ) → Onward line most (v, rest) → (o : Option (List ℕ)) → IfSome o (λ after. length after ≤ length rest)
      → IfSome (option_map (λ (after : List ℕ). (v, after)) o) (Onward line most)
  ended v rest h None e = tt
  ended v rest h (Some after) e = (h.0, let l = h.1 in omega arith)

  read-on : (o : Option (ℕ × List ℕ)) → IfSome o (Onward line most)
      → IfSome (option_and_then (λ (r : ℕ × List ℕ). option_map (λ (after : List ℕ). (r.0, after)) (field_end r.1 sep)) o) (Onward line most)
  read-on None h = tt
  read-on (Some r) h = ended r.0 r.1 h (field_end r.1 sep) (end-onward r.1 sep)

  pub field-onward : IfSome (number_field line sep most) (Onward line most)
  unfolding number_field
  field-onward = read-on (number_at line most) (number-onward line most)
