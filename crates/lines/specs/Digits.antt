-- Numbers and bytes of a line.
use Rattle.std.specs.Prelude.{ℕ, ◌+◌, ◌-◌, ◌*◌, Bool, not, ◌&&◌, List, Option, Some, None, option_and_then, option_map, leb, ltb, eqb, length, get_or, drop}
use Rattle.loops.specs.Loops.{pick, first, fold}

-- 0 to 9
unfoldable pub is_digit : ℕ → Bool
is_digit c = leb 48 c && leb c 57

-- how many digits a line begins with, and their value
unfoldable pub digits : List ℕ → ℕ
digits line = first (λ i. not (is_digit (get_or line i 0))) (length line) 0

abbrev pub appended : List ℕ → ℕ → ℕ → ℕ
appended line i v = v * 10 + (get_or line i 0 - 48)

unfoldable pub decimal : List ℕ → ℕ
decimal line = fold (appended line) (digits line) 0 0

-- the number v of n digits, one or more, and the rest of the line
abbrev pub read : List ℕ → ℕ → ℕ → Option (ℕ × List ℕ)
read line n v = pick (ltb 0 n) (Some (v, drop n line)) None

-- the number that a line begins with, at most `most`
unfoldable pub number_at : List ℕ → ℕ → Option (ℕ × List ℕ)
number_at line most = pick (leb (decimal line) most) (read line (digits line) (decimal line)) None

-- a field ends with the line or with its separator, which is passed
unfoldable pub field_end : List ℕ → ℕ → Option (List ℕ)
field_end rest sep = pick (eqb (length rest) 0) (Some rest) (pick (eqb (get_or rest 0 0) sep) (Some (drop 1 rest)) None)

unfoldable pub number_field : List ℕ → ℕ → ℕ → Option (ℕ × List ℕ)
number_field line sep most = option_and_then (λ r. option_map (λ rest. (r.0, rest)) (field_end r.1 sep)) (number_at line most)

-- a hex digit's value
unfoldable pub hex_digit : ℕ → Option ℕ
hex_digit c =
    pick (is_digit c) (Some (c - 48)) (pick (leb 65 c && leb c 70) (Some (c - 55)) (pick (leb 97 c && leb c 102) (Some (c - 87)) None))

-- the byte that two hex digits give
unfoldable pub hex_byte : ℕ → ℕ → Option ℕ
hex_byte high low = option_and_then (λ h. option_map (λ l. h * 16 + l) (hex_digit low)) (hex_digit high)
