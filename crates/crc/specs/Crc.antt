-- The update file's CRC, by bits: polynomial 0x8005, most significant bit first (`crc16_upd`).
use Rattle.std.specs.Prelude.{ℕ, ◌+◌, ◌-◌, ◌*◌, ◌/◌, ◌%◌, ◌^◌, List, [], ◌∷◌, eqb}
use Rattle.std.specs.Int.Bits.{bit_xor}
use Rattle.loops.specs.Loops.{pick, fold}

abbrev pub polynomial : ℕ
polynomial = 0x8005

-- one bit of the data: it joins the highest bit, which is shifted out; where that is 1 the polynomial is taken away
unfoldable pub crc_bit : ℕ → ℕ → ℕ
crc_bit c b = pick (eqb ((c / 32768 + b) % 2) 1) (bit_xor (c * 2 % 65536) polynomial) (c * 2 % 65536)

-- bit i of a byte, the most significant first
abbrev pub bit_at : ℕ → ℕ → ℕ
bit_at byte i = byte / 2 ^ (7 - i) % 2

unfoldable pub crc_byte : ℕ → ℕ → ℕ
crc_byte c byte = fold (λ i r. crc_bit r (bit_at byte i)) 8 0 c

unfoldable pub crc_of : ℕ → List ℕ → ℕ
crc_of c [] = c
crc_of c (b ∷ bs) = crc_of (crc_byte c b) bs
