-- Words of a line.
use Rattle.std.specs.Prelude.{ℕ, Bool, ◌&&◌, List, eqb, length}
use Rattle.sector.specs.Bytes.{same}

unfoldable pub is_word : List ℕ → List ℕ → Bool
is_word word name = eqb (length word) (length name) && same word name
