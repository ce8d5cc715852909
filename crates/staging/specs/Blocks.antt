-- The block that a staged sector goes to (document 01, "Judging a sector", Staging).
use Rattle.std.specs.Prelude.{ℕ, ◌+◌, ◌-◌, ◌*◌, ◌/◌, ◌%◌, ◌^◌, Bool, List, [], ◌++◌, eqb, get_or, set, take, drop, replicate}
use Rattle.loops.specs.Loops.{pick, fold}
use Rattle.bits.specs.Bit.{bit, set_bit}
use Rattle.state.specs.declared.w.St.{St}
use Rattle.medium.specs.Medium.{block_of}

-- the block of sector s in its cluster, and the sector's place in that block
abbrev pub block_at : ℕ → ℕ
block_at s = s / 8

abbrev pub place_in : ℕ → ℕ
place_in s = s % 8 * 512

-- a block is parked where its bit is set: linked into a file, so that a write copies it first
unfoldable pub is_parked : St → ℕ → Bool
is_parked x s = bit x.ro (block_at s)

-- the block held for sector s, 0 where none is
abbrev pub held_for : St → ℕ → ℕ
held_for x s = get_or x.blk (block_at s) 0

-- A new block has 0x00 where staged, 0xFF elsewhere: eight sectors of it
unfoldable pub new_sector : St → ℕ → ℕ → List ℕ
new_sector x s q = replicate 512 (pick (bit x.map (block_at s * 8 + q)) 0x00 0xFF)

unfoldable pub new_block : St → ℕ → List ℕ
new_block x s = fold (λ q bs. bs ++ new_sector x s q) 8 0 []

-- the bytes that the sector is put into: of a new block, or of the block held, which a parked one is copied from
unfoldable pub source_block : List ℕ → St → ℕ → List ℕ
source_block area x s = pick (eqb (held_for x s) 0) (new_block x s) (block_of area (held_for x s))

-- part of a list written over from a place on
abbrev pub put_part : List ℕ → ℕ → List ℕ → List ℕ
put_part whole at part = take at whole ++ part ++ drop (at + 512) whole

unfoldable pub filled_block : List ℕ → St → ℕ → List ℕ → List ℕ
filled_block area x s d = put_part (source_block area x s) (place_in s) d

-- the data area with that block's 4,096 bytes
unfoldable pub area_with : List ℕ → ℕ → List ℕ → List ℕ
area_with area b bytes = take ((b - 2) * 4096) area ++ bytes ++ drop ((b - 2) * 4096 + 4096) area

-- bit j of a number cleared
unfoldable pub clear_bit : ℕ → ℕ → ℕ
clear_bit m j = pick (bit m j) (m - 2 ^ j) m

-- then sector and bit are set, and the block is held, not parked
unfoldable pub holding_st : St → ℕ → ℕ → St
holding_st x s b =
    record { c = x.c; sealed = x.sealed; ro = clear_bit x.ro (block_at s); map = set_bit x.map s; blk = set x.blk (block_at s) b }

-- an all-zero sector of a block not held sets its bit and takes no block
unfoldable pub written_st : St → ℕ → St
written_st x s = record { c = x.c; sealed = x.sealed; ro = x.ro; map = set_bit x.map s; blk = x.blk }
