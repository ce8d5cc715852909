-- How a block of an update file is decoded (`decode_block`).
use Rattle.std.specs.Prelude.{ℕ, ◌+◌, ◌-◌, ◌/◌, ◌%◌, Bool, ◌||◌, List, length, ◌==◌, bit_xor, nat_le, nat_lt, slice_index}
use Rattle.loops.specs.Loops.{pick}
use Rattle.loops.specs.Rows.{rows}

-- byte 31 is what was added
abbrev pub added_at : ℕ
added_at = 31

abbrev pub added : List ℕ → ℕ
added p = slice_index p added_at

-- it also tells the place of the key: itself below 128, else its half
unfoldable pub key_at : ℕ → ℕ
key_at a = pick (nat_lt a 128) a (a / 2)

abbrev pub key_of : List ℕ → ℕ
key_of p = slice_index p (key_at (added p))

-- a block that doesn't reach byte 31 stays as it is
abbrev pub is_short : List ℕ → Bool
is_short p = nat_le (length p) added_at

-- a block is refused where the key's place lies past its end
unfoldable pub decodes : List ℕ → Bool
decodes p = is_short p || nat_lt (key_at (added p)) (length p)

-- every byte but those two: the bits of the key are turned, and what was added is taken away, going round below 0
unfoldable pub decoded_with : ℕ → ℕ → ℕ → ℕ → ℕ → ℕ
decoded_with at key add i b = pick (i == added_at || i == at) b ((bit_xor b key + 256 - add) % 256)

-- a block that is refused stays as it is
unfoldable pub decoded : List ℕ → List ℕ
decoded p = pick (is_short p) p (pick (decodes p) (rows (decoded_with (key_at (added p)) (key_of p) (added p)) p) p)
