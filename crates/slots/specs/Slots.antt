-- A directory slot: the 32 bytes at a place of a sector (the FAT specification's directory entry; document 01, "Judging a sector").
use Rattle.std.specs.Prelude.{ℕ, ◌+◌, ◌*◌, ◌%◌, Bool, not, ◌&&◌, ◌||◌, List, leb, eqb, get_or}
use Prim.Native.Char.{code}
use Rattle.loops.specs.Loops.{all, some}
use Rattle.bits.specs.Bit.{bit}
use Rattle.sector.specs.Bytes.{word, word32, same_at}
use Rattle.slots.specs.Text.{lower_of}

-- byte 0 of the name: 0 a free slot with none used after it, 0xE5 a free slot
abbrev pub first_byte : List ℕ → ℕ → ℕ
first_byte b at = get_or b at 0

-- DIR_Attr
abbrev pub attr_of : List ℕ → ℕ → ℕ
attr_of b at = get_or b (at + 0x0B) 0

-- a long entry: (DIR_Attr & 0x3F) is 0x0F
unfoldable pub is_long : List ℕ → ℕ → Bool
is_long b at = eqb (attr_of b at % 0x40) 0x0F

-- DIR_FstClusHI, the word at 0x14
abbrev pub high_of : List ℕ → ℕ → ℕ
high_of b at = word b (at + 0x14)

-- DIR_FstClusLO: the start
abbrev pub start_of : List ℕ → ℕ → ℕ
start_of b at = word b (at + 0x1A)

-- DIR_FileSize
abbrev pub size_of : List ℕ → ℕ → ℕ
size_of b at = word32 b (at + 0x1C)

-- dates: bytes 0x0D to 0x13, 0x16 to 0x19
unfoldable pub is_date : ℕ → Bool
is_date i = (leb 0x0D i && leb i 0x13) || (leb 0x16 i && leb i 0x19)

-- byte i of a slot is the same in both sectors
abbrev pub same_byte : List ℕ → List ℕ → ℕ → ℕ → Bool
same_byte a b at i = same_at a b (at + i)

-- the slots at a place are equal
unfoldable pub same_slot : List ℕ → List ℕ → ℕ → Bool
same_slot a b at = all (same_byte a b at) 32 0

-- byte i of a slot is the same, or a date's
unfoldable pub date_at : List ℕ → List ℕ → ℕ → ℕ → Bool
date_at a b at i = same_byte a b at i || is_date i

-- the slots at a place differ in dates at most
unfoldable pub dates_only : List ℕ → List ℕ → ℕ → Bool
dates_only a b at = all (date_at a b at) 32 0

-- a turn of the slot shown: 0xE5, dates besides; a slot shown with first byte 0xE5 is not turned
unfoldable pub turn_at : List ℕ → List ℕ → ℕ → Bool
turn_at shown written at = not (eqb (first_byte shown at) 0xE5) && eqb (first_byte written at) 0xE5 && all (date_at shown written at) 31 1

-- byte i of the slot's name is this letter, in any case
abbrev pub letter_at : List ℕ → ℕ → ℕ → ℕ → Bool
letter_at b at i c = eqb (lower_of (get_or b (at + i) 0)) c

-- DM40*.BIN
unfoldable pub update_name : List ℕ → ℕ → Bool
update_name b at =
    letter_at b at 0 (code "d") && letter_at b at 1 (code "m") && letter_at b at 2 (code "4") && letter_at b at 3 (code "0")
    && letter_at b at 8 (code "b") && letter_at b at 9 (code "i") && letter_at b at 10 (code "n")

-- an ordinary slot: first byte neither 0 nor 0xE5, no long entry, attribute bits 3 and 4 clear
unfoldable pub is_ordinary : List ℕ → ℕ → Bool
is_ordinary b at =
    not (eqb (first_byte b at) 0) && not (eqb (first_byte b at) 0xE5) && not (is_long b at) && not (bit (attr_of b at) 3) && not (bit (attr_of b at) 4)

-- it names a file by the file's start and length
unfoldable pub names_file : List ℕ → ℕ → ℕ → ℕ → Bool
names_file b start size at = is_ordinary b at && eqb (start_of b at) start && eqb (size_of b at) size

-- `refers`: one of the sector's 16 slots does
unfoldable pub refers_to : List ℕ → ℕ → ℕ → Bool
refers_to b start size = some (λ i. names_file b start size (i * 32)) 16 0
