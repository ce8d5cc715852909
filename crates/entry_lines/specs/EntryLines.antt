-- The lines that the entry listing reads (document 01, "The entry listing").
use Rattle.std.specs.Prelude.{ℕ, ◌&&◌, List, Option, None, option_and_then, option_map, leb, eqb, length, get_or, take, drop}
use Rattle.loops.specs.Loops.{pick, first}
use Rattle.slots.specs.Text.{text}
use Rattle.lines.specs.Digits.{field_end, number_field}
use Rattle.lines.specs.Words.{is_word}
use Rattle.entry_lines.specs.declared.Line.{Line}

-- standard input (to 4,096 bytes), entries to 65,023, values to 65,535
abbrev pub max_input : ℕ
max_input = 4096

abbrev pub max_entry : ℕ
max_entry = 65023

abbrev pub max_value : ℕ
max_value = 65535

abbrev pub blank : ℕ
blank = 32

abbrev pub newline : ℕ
newline = 10

-- the line of names
unfoldable pub names : List ℕ
names = text "entry shown written"

-- where the first line ends: before its newline, or with the input
unfoldable pub line_end : List ℕ → ℕ
line_end input = first (λ i. eqb (get_or input i 0) newline) (length input) 0

-- Longer input is bad, and so are wrong names; the other lines begin past the first one's end.
unfoldable pub names_line : List ℕ → Option (List ℕ)
names_line input =
    pick (leb (length input) max_input && is_word (take (line_end input) input) names) (field_end (drop (line_end input) input) newline) None

-- A line has three decimal values: an entry, what is shown and what is written. A value is one digit or more, with no sign, and leading zeros
-- don't change it. One blank stands after each of the first two, and no other; the third ends with the line's newline, or with the input.
abbrev pub line_of : ℕ → ℕ → ℕ → Line
line_of entry shown written = record { entry = entry; shown = shown; written = written }

-- Anything else is a bad line: not three values, an entry over 65,023, a value over 65,535. The lines after it are left.
unfoldable pub entry_line : List ℕ → Option (Line × List ℕ)
entry_line input =
    option_and_then
    (λ entry. option_and_then
    (λ shown. option_map
    (λ written. (line_of entry.0 shown.0 written.0, written.1))
    (number_field shown.1 newline max_value))
    (number_field entry.1 blank max_value))
    (number_field input blank max_entry)
