-- What is read of a sector's bytes.
use Rattle.std.specs.Prelude.{ℕ, ◌+◌, ◌*◌, Bool, List, eqb, length, get_or}
use Rattle.loops.specs.Loops.{all}

-- the 16-bit number at a place, low byte first
unfoldable pub word : List ℕ → ℕ → ℕ
word b at = get_or b at 0 + get_or b (at + 1) 0 * 256

-- the 32-bit number at a place, low byte first
unfoldable pub word32 : List ℕ → ℕ → ℕ
word32 b at = word b at + word b (at + 2) * 65536

-- the same byte at i
abbrev pub same_at : List ℕ → List ℕ → ℕ → Bool
same_at a b i = eqb (get_or a i 0) (get_or b i 0)

-- equal in all bytes
unfoldable pub same : List ℕ → List ℕ → Bool
same a b = all (same_at a b) (length a) 0

-- the byte at i is 0
abbrev pub zero_at : List ℕ → ℕ → Bool
zero_at a i = eqb (get_or a i 0) 0

-- all bytes are 0
unfoldable pub zeros : List ℕ → Bool
zeros a = all (zero_at a) (length a) 0
