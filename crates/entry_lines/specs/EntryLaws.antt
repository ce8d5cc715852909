-- Laws of the line of names, and of the lines after it.
use Rattle.std.specs.Prelude.{ℕ, ◌<◌, ◌≤◌, Bool, List, Option, Some, None, IfSome, option_and_then, option_map, ◌≡◌, length, take, drop}
use Rattle.std.proofs.Math.Bool.{true, false}
use Rattle.std.proofs.lemmas.Bool.{lt-leb}
use Rattle.std.proofs.Common.{sym, arith, le-leb}
use Rattle.lines.specs.Digits.{field_end, number_field}
use Rattle.lines.specs.DigitLaws.{Onward, field-onward}
use Rattle.lines.specs.Words.{is_word}
use Rattle.entry_lines.specs.EntryLines.{max_input, max_entry, max_value, blank, newline, names, line_end, names_line, line_of, entry_line}
use Rattle.entry_lines.specs.declared.Line.{Line}

pub names-long : (input : List ℕ) → max_input < length input → None ≡ names_line input
unfolding names_line
names-long input h = rw (lt-leb (length input) max_input h)

-- the first line, as it is found and compared
module _ (input : List ℕ) (end : ℕ) (b : Bool) (few : length input ≤ max_input) (ends : end ≡ line_end input) (compared : b ≡ is_word (take end input) names) where
  same-names : is_word (take (line_end input) input) names ≡ b
  same-names = rw (← ends) (sym compared)

  pub names-wrong : b ≡ false → None ≡ names_line input
  unfolding names_line
  names-wrong q = rw (le-leb (length input) max_input few, same-names, q)

  pub names-right : b ≡ true → field_end (drop end input) newline ≡ names_line input
  unfolding names_line
  names-right q = rw (le-leb (length input) max_input few, same-names, q, ends)

-- a line takes a byte or more
module _ (input : List ℕ) where
  shorter : (rest : List ℕ) (sep most : ℕ) → length rest ≤ length input → IfSome (number_field rest sep most) (λ r. length r.1 < length input)
  shorter rest sep most l = later (number_field rest sep most) (field-onward rest sep most)
    where
      later : (o : Option (ℕ × List ℕ)) → IfSome o (Onward rest most) → IfSome o (λ r. length r.1 < length input)
      later None h = tt
      later (Some r) h = let k = h.1 in omega arith

  chained : (o : Option (ℕ × List ℕ)) (f : ℕ × List ℕ → Option (Line × List ℕ)) → IfSome o (λ r. length r.1 < length input)
      → ((r : ℕ × List ℕ) → length r.1 < length input → IfSome (f r) (λ l. length l.1 < length input))
      → IfSome (option_and_then f o) (λ l. length l.1 < length input)
  chained None f h k = tt
  chained (Some r) f h k = k r h

  ended : (entry shown : ℕ) (o : Option (ℕ × List ℕ)) → IfSome o (λ r. length r.1 < length input)
      → IfSome {T = Line × List ℕ} (option_map (λ (written : ℕ × List ℕ). (line_of entry shown written.0, written.1)) o) (λ l. length l.1 < length input)
  ended entry shown None h = tt
  ended entry shown (Some r) h = h

  pub line-onward : IfSome (entry_line input) (λ l. length l.1 < length input)
  unfolding entry_line
  line-onward =
      chained (number_field input blank max_entry) _ (shorter input blank max_entry (omega arith))
      (λ e p. chained (number_field e.1 blank max_value) _ (shorter e.1 blank max_value (omega arith))
      (λ s q. ended e.0 s.0 (number_field s.1 newline max_value) (shorter s.1 newline max_value (omega arith))))
