-- The name of a root slot (the FAT specification's long entries; document 01, "Corners of vwrite.rs" and "Judging a sector").
use Rattle.std.specs.Prelude.{ℕ, zero, suc, ◌+◌, ◌-◌, ◌*◌, ◌%◌, Bool, ◌&&◌, ◌||◌, List, [], ◌∷◌, ◌++◌, map, leb, ltb, eqb, length, get_or, take, drop}
use Prim.Native.Char.{code}
use Rattle.loops.specs.Loops.{pick, first, listed}
use Rattle.bits.specs.Bit.{bit}
use Rattle.sector.specs.Bytes.{word}
use Rattle.slots.specs.Text.{lower_of}
use Rattle.slots.specs.Slots.{is_long}
use Rattle.records.specs.Records.{root_rec}
use Rattle.records.specs.declared.Rec.{Rec}

-- the first root slot that a host may use
abbrev pub first_host_slot : ℕ
first_host_slot = 7

-- The 32 bytes of root slot k: of the sector d, which has the 16 slots from base on, or of a record. A slot that is neither reads as zeros,
-- which are no long entry.
unfoldable pub entry_of : List Rec → List ℕ → ℕ → ℕ → List ℕ
entry_of recs d base k = pick (leb base k && ltb k (base + 16)) (take 32 (drop ((k - base) * 32) d)) (root_rec recs k).e

-- LDIR_Ord
abbrev pub ordinal : List ℕ → ℕ
ordinal e = get_or e 0 0

-- where character i stands: 1 to 5 in LDIR_Name1, 6 to 11 in LDIR_Name2, 12 and 13 in LDIR_Name3
unfoldable pub char_place : ℕ → ℕ
char_place i = pick (ltb i 5) (1 + i * 2) (pick (ltb i 11) (14 + (i - 5) * 2) (28 + (i - 11) * 2))

unfoldable pub char_of : List ℕ → ℕ → ℕ
char_of e i = word e (char_place i)

-- a character 0 or 0xFFFF ends the name
unfoldable pub ends : ℕ → Bool
ends c = eqb c 0 || eqb c 0xFFFF

-- how many of an entry's 13 characters stand before the end, 13 where it has none
unfoldable pub text_len : List ℕ → ℕ
text_len e = first (λ i. ends (char_of e i)) 13 0

unfoldable pub text_of : List ℕ → List ℕ
text_of e = listed (char_of e) (text_len e) 0

-- The entries of a long name stand before its slot, the first right before it. `look` gives a root slot's bytes, n entries are still allowed,
-- seq is the next one's number and it stands before slot k.

-- How many entries `long_name` reads, of at most three: each is a long entry from root slot 7 on, the low five bits of its byte 0 are its
-- number, and the first one with an end of the name or with bit 0x40 is the last.
unfoldable pub entries_read : (ℕ → List ℕ) → ℕ → ℕ → ℕ → ℕ
entries_read look zero seq k = seq - 1
entries_read look (suc n) seq k =
    pick (ltb first_host_slot k && is_long (look (k - 1)) 0 && eqb (ordinal (look (k - 1)) % 32) seq)
    (pick (ltb (text_len (look (k - 1))) 13 || bit (ordinal (look (k - 1))) 6) seq (entries_read look n (seq + 1) (k - 1)))
    (seq - 1)

-- How many entries the strict name has: up to 20 entries, with byte 0 exactly 1, 2 and so on and 0x40 added on the last, which must be there;
-- a character 0 or 0xFFFF ends the name, and its entry must be the last; else 0.
unfoldable pub entries_strict : (ℕ → List ℕ) → ℕ → ℕ → ℕ → ℕ
entries_strict look zero seq k = 0
entries_strict look (suc n) seq k =
    pick (ltb first_host_slot k && is_long (look (k - 1)) 0)
    (pick (eqb (ordinal (look (k - 1))) (seq + 0x40)) seq
    (pick (eqb (ordinal (look (k - 1))) seq && eqb (text_len (look (k - 1))) 13) (entries_strict look n (seq + 1) (k - 1)) 0))
    0

-- the text of the first m entries before slot idx
unfoldable pub joined : (ℕ → List ℕ) → ℕ → ℕ → List ℕ
joined look idx zero = []
joined look idx (suc m) = joined look idx m ++ text_of (look (idx - suc m))

-- lower case; characters from 0x80 up as `?`
unfoldable pub shown_char : ℕ → ℕ
shown_char c = pick (ltb c 0x80) (lower_of c) (code "?")

-- the short name: without blanks, in lower case, with its dot where the extension doesn't start with a blank
unfoldable pub unblanked : List ℕ → List ℕ
unblanked [] = []
unblanked (c ∷ cs) = pick (eqb c (code " ")) (unblanked cs) (lower_of c ∷ unblanked cs)

unfoldable pub short_name : List ℕ → ℕ → List ℕ
short_name d at =
    unblanked (take 8 (drop at d)) ++ pick (eqb (get_or d (at + 8) 0) (code " ")) [] (code "." ∷ unblanked (take 3 (drop (at + 8) d)))

-- at most 32 characters: of the long name with m entries, or with no character the short name
unfoldable pub name_by : (ℕ → List ℕ) → List ℕ → ℕ → ℕ → ℕ → List ℕ
name_by look d base idx m =
    take 32 (pick (eqb (length (joined look idx m)) 0) (short_name d ((idx - base) * 32)) (map shown_char (joined look idx m)))

-- `long_name`
unfoldable pub long_name : List Rec → List ℕ → ℕ → ℕ → List ℕ
long_name recs d base idx = name_by (entry_of recs d base) d base idx (entries_read (entry_of recs d base) 3 1 idx)

-- the strict long name
unfoldable pub strict_name : List Rec → List ℕ → ℕ → ℕ → List ℕ
strict_name recs d base idx = name_by (entry_of recs d base) d base idx (entries_strict (entry_of recs d base) 20 1 idx)
