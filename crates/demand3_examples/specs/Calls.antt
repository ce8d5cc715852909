-- The calls that the lists of the examples are made of, with their sectors and media.
use Rattle.std.specs.Prelude.{ℕ, false, [], ◌∷◌, ◌++◌, ◌≡◌, replicate}
use Rattle.file_table.specs.Table.{Table, table_of, accepts}
use Rattle.slots.specs.Text.{text}
use Rattle.demand3.specs.Step.{Medium, Sector, Call, write, refused_start}

abbrev pub none : Medium
none = record { fat = []; area = [] }

-- the file's slot turned, its entry zeroed
abbrev pub turn-at : Medium → Call
turn-at m = write (record { lba = 669; shown = 65 ∷ replicate 511 0; written = 0xE5 ∷ replicate 511 0 }) false m

abbrev pub turn : Call
turn = turn-at none

abbrev pub zero-it : Call
zero-it = write (record { lba = 1; shown = replicate 200 0 ++ (255 ∷ 255 ∷ replicate 310 0); written = replicate 512 0 }) false none

-- a turn that is refused for the slot beside it, a zeroing refused for another entry
abbrev pub bad-turn : Call
bad-turn = write (record { lba = 669; shown = 65 ∷ replicate 511 0; written = 0xE5 ∷ replicate 31 0 ++ (66 ∷ replicate 479 0) }) false none

abbrev pub bad-zero : Call
bad-zero = write (record { lba = 1; shown = replicate 200 0 ++ (255 ∷ 255 ∷ replicate 310 0); written = 1 ∷ replicate 511 0 }) false none

-- the same table with a first session cluster that no start takes
abbrev pub bad-table : Table
bad-table = table_of (5 ∷ []) (0 ∷ []) (100 ∷ []) (32768 ∷ []) 6

abbrev pub bad-start : accepts bad-table ≡ false → Call
bad-start e = refused_start bad-table e

-- DM40X.BIN of 128 bytes in root slot 7, with cluster 200, and a sector of that cluster staged, of zeros
abbrev pub update : Call
update =
    write
    (record {
      lba = 509;
      shown = replicate 512 0;
      written = replicate 224 0 ++ text "DM40X   BIN" ++ (0x20 ∷ replicate 14 0) ++ (200 ∷ 0 ∷ 128 ∷ 0 ∷ 0 ∷ 0 ∷ replicate 256 0);
    })
    false none

abbrev pub staging : Call
staging = write (record { lba = 13213; shown = replicate 512 0; written = replicate 512 0 }) false none

-- a medium of one block, which is free; the same with a sector in its block
abbrev pub empty : Medium
empty = record { fat = 0xFFF8 ∷ 0xFFFF ∷ 0 ∷ []; area = replicate 4096 0 }

abbrev pub holding : Sector → Medium
holding x = record { fat = empty.fat; area = x.written ++ replicate 3584 255 }

-- a sector of cluster 200 with a slot of this start and length, as a trash's directory would have it: that of the file, and two of no file
abbrev pub slot-of : ℕ → ℕ → ℕ → Sector
slot-of start low high =
    record { lba = 13213; shown = replicate 512 0; written = 65 ∷ replicate 25 0 ++ (start ∷ 0 ∷ low ∷ high ∷ 0 ∷ 0 ∷ replicate 480 0) }

abbrev pub naming : Sector
naming = slot-of 100 0 128

abbrev pub other-length : Sector
other-length = slot-of 100 255 127

abbrev pub other-start : Sector
other-start = slot-of 101 0 128

abbrev pub move-by : Sector → Call
move-by x = write x false empty

abbrev pub move : Call
move = move-by naming

-- taken out of the trash: the sector is written over by one that names no file
abbrev pub bare : Sector
bare = record { lba = 13213; shown = naming.written; written = 0xE5 ∷ replicate 25 0 ++ (100 ∷ 0 ∷ 0 ∷ 128 ∷ 0 ∷ 0 ∷ replicate 480 0) }

abbrev pub take-out : Call
take-out = write bare false (holding naming)
