-- The listing goes on line by line.
use Prim.Native.Nat.{ℕ, zero, suc, ◌-◌, ◌<◌, ◌≤◌}
use Rattle.std.specs.Prelude.{List, Option, Some, None, ◌≡◌, eqb, length}
use Rattle.std.proofs.Common.{sym, ◌∙◌, ap, arith, eq-eqb, ne_eqb, true, false}
use Rattle.std.proofs.lemmas.Bool.{eqb-true, eqb-false}
use Rattle.std.proofs.Math.Path.{refl}
use Rattle.loops.specs.Choices.{either}
use Rattle.state.specs.declared.w.W.{W}
use Rattle.entry_lines.specs.EntryLines.{names_line, entry_line}
use Rattle.entry_lines.specs.EntryLaws.{line-onward}
use Rattle.entry_lines.specs.declared.Line.{Line}
use Rattle.write.specs.Write.{write}
use Rattle.entry_write.specs.EntryWrite.{drive, entry_write}
use Rattle.entry_write.specs.Listing.{end_at, bad_at, after_line, listed_from, listed}
use Rattle.entry_write.specs.declared.list.Listing.{Listing}

-- a line is there or not
by-line : {R : Type 0} (o : Option (Line × List ℕ)) → ((l : Line × List ℕ) → o ≡ Some l → R) → (o ≡ None → R) → R
by-line None f g = g refl
by-line (Some l) f g = f l refl

from-end : (n : ℕ) (input : List ℕ) (w : W) → length input ≡ 0 → listed_from n input w ≡ end_at w
unfolding listed_from
from-end zero input w h = refl
from-end (suc n) input w h = rw (eq-eqb (length input) 0 h)

module _ (n : ℕ) (input : List ℕ) (w : W) (h : 0 < length input) where
  more : eqb (length input) 0 ≡ false
  more = ne_eqb (length input) 0 (λ e. omega (arith, e))

  good-line : (l : Line × List ℕ) → entry_line input ≡ Some l → listed_from (suc n) input w ≡ listed_from n l.1 (after_line l.0 w)
  unfolding listed_from
  good-line l o = rw (more, o)

  bad-line : entry_line input ≡ None → listed_from (suc n) input w ≡ bad_at w
  unfolding listed_from
  bad-line o = rw (more, o)

less : (input : List ℕ) (l : Line × List ℕ) → entry_line input ≡ Some l → length l.1 < length input
less input l o = rw o at (line-onward input)

-- as many lines as there are bytes left are enough
enough : (n m : ℕ) (input : List ℕ) (w : W) → length input ≤ n → length input ≤ m → listed_from n input w ≡ listed_from m input w
enough zero m input w h k = from-end zero input w (omega arith) ∙ sym (from-end m input w (omega arith))
enough (suc n) zero input w h k = from-end (suc n) input w (omega arith) ∙ sym (from-end zero input w (omega arith))
enough (suc n) (suc m) input w h k =
    either (eqb (length input) 0)
    (λ e. let l : length input ≡ 0 = eqb-true (length input) 0 e in from-end (suc n) input w l ∙ sym (from-end (suc m) input w l))
    (λ e. let l : 0 < length input = omega (arith, eqb-false (length input) 0 e) in
    by-line (entry_line input)
    (λ x o. let p = less input x o in
    good-line n input w l x o ∙ enough n m x.1 (after_line x.0 w) (omega arith) (omega arith) ∙ sym (good-line m input w l x o))
    (λ o. bad-line n input w l o ∙ sym (bad-line m input w l o)))

-- the listing of what is left, as the loop has it
module _ (input : List ℕ) (w : W) (r : Listing) (inv : r ≡ listed_from (length input) input w) where
  some : eqb (length input) 0 ≡ false → 0 < length input
  some h = omega (arith, eqb-false (length input) 0 h)

  whole : 0 < length input → r ≡ listed_from (suc (length input - 1)) input w
  whole h = let q : length input ≡ suc (length input - 1) = omega arith in inv ∙ ap (λ (n : ℕ). listed_from n input w) q

  pub from-good : (l : Line) (rest : List ℕ) (v : W) → Some (l, rest) ≡ entry_line input → eqb (length input) 0 ≡ false
      → v ≡ (write (entry_write l.entry l.shown l.written) w).w → r ≡ listed_from (length rest) rest v
  unfolding after_line
  from-good l rest v e h q =
      let p = less input (l, rest) (sym e) in
      rw q (whole (some h)
      ∙ good-line (length input - 1) input w (some h) (l, rest) (sym e)
      ∙ enough (length input - 1) (length rest) rest (after_line l w) (omega arith) (omega arith))

  pub from-bad : None ≡ entry_line input → eqb (length input) 0 ≡ false → bad_at w ≡ r
  from-bad e h = sym (whole (some h) ∙ bad-line (length input - 1) input w (some h) (sym e))

  pub from-ended : eqb (length input) 0 ≡ true → end_at w ≡ r
  from-ended h = sym (inv ∙ from-end (length input) input w (eqb-true (length input) 0 h))

-- the whole listing
module _ (input : List ℕ) (w : W) (begun : w ≡ drive) where
  pub listed-good : (rest : List ℕ) → Some rest ≡ names_line input → listed_from (length rest) rest w ≡ listed input
  unfolding listed
  listed-good rest e = rw (begun, ← e)

  pub listed-bad : None ≡ names_line input → bad_at w ≡ listed input
  unfolding listed
  listed-bad e = rw (begun, ← e)
