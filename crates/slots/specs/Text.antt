-- Characters as numbers.
use Rattle.std.specs.Prelude.{ℕ, ◌+◌, ◌&&◌, List, [] as []ᴸ, ◌∷◌ as ◌∷ᴸ◌, leb}
use Prim.Native.Char.{code}
use Prim.Native.String.{String, [], ◌∷◌}
use Rattle.loops.specs.Loops.{pick}

-- the characters of a quoted text
abbrev pub text : String → List ℕ
text [] = []ᴸ
text (c ∷ s) = code c ∷ᴸ text s

-- an ASCII letter in lower case
unfoldable pub lower_of : ℕ → ℕ
lower_of c = pick (leb (code "A") c && leb c (code "Z")) (c + 32) c
