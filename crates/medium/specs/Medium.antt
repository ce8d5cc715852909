-- The medium and its blocks (document 01, "The drive").
use Rattle.std.specs.Prelude.{ℕ, ◌+◌, ◌-◌, ◌*◌, max, Bool, true, false, ◌&&◌, List, leb, ltb, eqb, length, get_or, take, drop}
use Rattle.loops.specs.Loops.{pick, first}

-- The medium is two lent slices: 3 to 65,526 FAT entries of 16 bits, and 4,096 bytes for each entry after the second.
unfoldable pub is_medium : List ℕ → List ℕ → Bool
is_medium fat area = leb 3 (length fat) && leb (length fat) 65526 && eqb (length area) ((length fat - 2) * 4096)

-- a number of one of its blocks
unfoldable pub has_block : List ℕ → List ℕ → ℕ → Bool
has_block fat area b = is_medium fat area && leb 2 b && ltb b (length fat)

-- the block's own 4,096 bytes of the data area
unfoldable pub block_of : List ℕ → ℕ → List ℕ
block_of area b = take 4096 (drop ((b - 2) * 4096) area)

abbrev pub free_at : List ℕ → ℕ → Bool
free_at fat i = eqb (get_or fat i 0) 0

-- where the search ends: the first FAT entry of 0 from the hint, at least 2, or past the last entry
unfoldable pub search_end : List ℕ → ℕ → ℕ
search_end fat hint = first (free_at fat) (length fat - max hint 2) (max hint 2)

-- what a search for a free block finds: was one found, which one, and the hint then
pub record Free : Type 0 where
  pub found : Bool
  pub block : ℕ
  pub hint : ℕ

-- the block that was found, 0 where none was, and the hint then: past the block found, or where the search ended
unfoldable pub next_free : List ℕ → ℕ → Free
next_free fat hint =
    pick (ltb (search_end fat hint) (length fat))
    (record { found = true; block = search_end fat hint; hint = search_end fat hint + 1 })
    (record { found = false; block = 0; hint = search_end fat hint })
