-- The hosts' own files and directories, told by prefixes of their names.
use Rattle.std.specs.Prelude.{ℕ, Bool, false, ◌&&◌, ◌||◌, List, [], ◌∷◌, leb, eqb, length, get_or}
use Rattle.loops.specs.Loops.{all}
use Rattle.slots.specs.Text.{text}

-- p is a prefix of a name
unfoldable pub is_prefix : List ℕ → List ℕ → Bool
is_prefix p name = leb (length p) (length name) && all (λ i. eqb (get_or p i 0) (get_or name i 0)) (length p) 0

-- the ten prefixes
unfoldable pub prefixes : List (List ℕ)
prefixes =
    text ".trash" ∷ text "._" ∷ text ".ds_store" ∷ text ".fseventsd" ∷ text ".spotlight-v100" ∷ text ".temporaryitems"
    ∷ text ".metadata_never_index" ∷ text ".com.apple." ∷ text "system volume information" ∷ text "$recycle.bin" ∷ []

-- one of them is a prefix of the name
unfoldable pub some_prefix : List (List ℕ) → List ℕ → Bool
some_prefix [] name = false
some_prefix (p ∷ ps) name = is_prefix p name || some_prefix ps name

unfoldable pub is_housekeeping : List ℕ → Bool
is_housekeeping name = some_prefix prefixes name
