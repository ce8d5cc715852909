-- Bytes of a written sector, as document 01 speaks of them ("Judging a sector"): which of them may differ from those shown.
use Rattle.std.specs.Prelude.{ℕ, ◌+◌, ◌*◌, ◌/◌, ◌%◌, Bool, ◌&&◌, ◌||◌, List, leb, ltb, eqb, get_or, take, drop}
use Rattle.loops.specs.Loops.{all}
use Rattle.judge.specs.Classify.{SectorWrite}

-- byte n is written as it is shown
unfoldable pub byte_as_shown : SectorWrite → ℕ → Bool
byte_as_shown x n = eqb (get_or x.written n 0) (get_or x.shown n 0)

-- of the sector's 512 bytes only those that `may` names differ
unfoldable pub only_bytes : SectorWrite → (ℕ → Bool) → Bool
only_bytes x may = all (λ n. byte_as_shown x n || may n) 512 0

-- a root or directory sector has 16 slots of 32 bytes: the slot that byte n lies in, and its place there
abbrev pub slot_of_byte : ℕ → ℕ
slot_of_byte n = n / 32

abbrev pub place_in_slot : ℕ → ℕ
place_in_slot n = n % 32

-- the 32 bytes of slot i as written
abbrev pub written_slot : SectorWrite → ℕ → List ℕ
written_slot x i = take 32 (drop (i * 32) x.written)

-- slot i is written as it is shown
unfoldable pub slot_as_shown : SectorWrite → ℕ → Bool
slot_as_shown x i = all (λ b. byte_as_shown x (i * 32 + b)) 32 0

-- a field of a slot: so many bytes from a place on
unfoldable pub in_field : ℕ → ℕ → ℕ → Bool
in_field from long b = leb from b && ltb b (from + long)

-- dates, the FAT specification's fields: DIR_CrtTimeTenth, DIR_CrtTime, DIR_CrtDate, DIR_LstAccDate; DIR_WrtTime, DIR_WrtDate. These are
-- document 01's "bytes 0x0D to 0x13, 0x16 to 0x19".
unfoldable pub date_byte : ℕ → Bool
date_byte b = in_field 13 1 b || in_field 14 2 b || in_field 16 2 b || in_field 18 2 b || in_field 22 2 b || in_field 24 2 b
