-- Bits of a number.
use Rattle.std.specs.Prelude.{ℕ, ◌/◌, ◌%◌, ◌^◌, Bool, eqb}
use Rattle.std.specs.Int.Bits.{bit_or}

-- is bit s set
unfoldable pub bit : ℕ → ℕ → Bool
bit m s = eqb (m / 2 ^ s % 2) 1

-- the number with bit s set
unfoldable pub set_bit : ℕ → ℕ → ℕ
set_bit m s = bit_or m (2 ^ s)
