-- What a staged sector changes, byte by byte and bit by bit (document 01, "Judging a sector", Staging). o is how `classify` judged it.
use Rattle.std.specs.Prelude.{ℕ, ◌+◌, ◌-◌, ◌*◌, ◌/◌, ◌%◌, ◌<◌, max, Bool, true, false, not, ◌&&◌, ◌||◌, List, ◌≡◌, leb, ltb, eqb, length, get_or, Some}
use Rattle.loops.specs.Loops.{pick}
use Rattle.loops.specs.Rows.{rows}
use Rattle.num.specs.Num.{wrapping_next}
use Rattle.bits.specs.Bit.{bit, set_bit}
use Rattle.sector.specs.Bytes.{zeros}
use Rattle.vdisk.specs.Ids.{turned}
use Rattle.slots.specs.Slots.{refers_to}
use Rattle.state.specs.State.{no_st}
use Rattle.state.specs.Setters.{with_st, with_staging, with_stage_t, with_hint, with_ver}
use Rattle.state.specs.declared.w.St.{St}
use Rattle.state.specs.declared.w.W.{W}
use Rattle.medium.specs.Medium.{is_medium}
use Rattle.judge.specs.Classify.{SectorWrite, Outcome}
use Rattle.admits.specs.Admits.{slot_place, slot_before, held_in, needs_block, takes_none, hint_of, some_free, first_free}
use Rattle.demand1.specs.Sound.{Sound}

-- w with these staging slots and this hint, staging on, and its time set to the clock
unfoldable pub staging_state : W → List St → ℕ → W
staging_state w ss hint = with_hint (with_stage_t (with_staging (with_st w ss) true) w.now_ms) hint

-- Sector s of host cluster c goes to the block held, or to "the first FAT entry of 0 from the hint if there is no block or it is parked"
unfoldable pub block_to : SectorWrite → W → ℕ → ℕ → ℕ
block_to x w c s = pick (needs_block (slot_before w c) s) (first_free x.fat (hint_of w)) (held_in (slot_before w c) s)

-- a search for a free block runs for data that needs one, on a medium
unfoldable pub searches : SectorWrite → St → ℕ → Bool
searches x y s = not (takes_none x y s) && (is_medium x.fat x.area && needs_block y s)

-- it leaves the hint past the block found, or where it ended
unfoldable pub hint_moved : List ℕ → ℕ → ℕ
hint_moved fat hint = pick (some_free fat hint) (first_free fat hint + 1) (max (max hint 2) (length fat))

-- "staging starts with search hint 2 if it was off": the search's where one ran, else 2 or as before
unfoldable pub hint_after : SectorWrite → W → ℕ → ℕ → ℕ
hint_after x w c s = pick (searches x (slot_before w c) s) (hint_moved x.fat (hint_of w)) (hint_of w)

-- where byte k of block b lies in the data area, and is byte n one of that block's
abbrev pub byte_of : ℕ → ℕ → ℕ
byte_of b k = (b - 2) * 4096 + k

unfoldable pub in_block : ℕ → ℕ → Bool
in_block b n = leb (byte_of b 0) n && ltb n (byte_of b 4096)

-- "A new block has 0x00 where staged, 0xFF elsewhere; a parked one is copied": byte k of the block before sector s is put into it
unfoldable pub byte_before : SectorWrite → St → ℕ → ℕ → ℕ
byte_before x y s k =
    pick (eqb (held_in y s) 0) (pick (bit y.map (s / 8 * 8 + k / 512)) 0x00 0xFF) (get_or x.area (byte_of (held_in y s) k) 0)

-- "Then sector and bit are set": that byte then
unfoldable pub byte_after : SectorWrite → St → ℕ → ℕ → ℕ
byte_after x y s k = pick (eqb (k / 512) (s % 8)) (get_or x.written (k % 512) 0) (byte_before x y s k)

-- slot y of cluster c becomes z: the sector's bit is set, "and the block is held, not parked"; where none is taken, block numbers and parked bits stay
pub record SlotSet (x : SectorWrite) (c s b : ℕ) (y z : St) : Type 0 where
  pub cluster : z.c ≡ c
  pub sealed : z.sealed ≡ y.sealed
  pub map : (n : ℕ) → bit z.map n ≡ (eqb n s || bit y.map n)
  pub ro : (n : ℕ) → bit z.ro n ≡ (bit y.ro n && (takes_none x y s || not (eqb n (s / 8))))
  pub blk : (n : ℕ) → n < 8 → get_or z.blk n 0 ≡ pick (not (takes_none x y s) && eqb n (s / 8)) b (get_or y.blk n 0)

-- the cluster's slot, the version, staging, its time and the hint; of the data area that block; "non-zero data marks turned files that it names
-- as moved"
pub record StageOnly (x : SectorWrite) (w : W) (c s : ℕ) (o : Outcome) : Type 0 where
  pub state : o.w ≡ with_ver (staging_state w o.w.st (hint_after x w c s)) (wrapping_next w.ver)
  pub slots : (i : ℕ) → (slot_place w.st c ≡ Some i → ⊥) → get_or o.w.st i no_st ≡ get_or w.st i no_st
  pub slot : Sound w → (i : ℕ) → slot_place w.st c ≡ Some i → SlotSet x c s (block_to x w c s) (slot_before w c) (get_or o.w.st i no_st)
  pub ids : o.ids
      ≡ rows (λ j id. pick (not (zeros x.written) && turned id && refers_to x.written (get_or x.starts j 0) (get_or x.sizes j 0)) (set_bit id 15) id) x.ids
  -- an all-zero sector of a block not held leaves the data area; any other is put into its block, and every other byte stays
  pub none : takes_none x (slot_before w c) s ≡ true → o.area ≡ x.area
  pub filled : takes_none x (slot_before w c) s ≡ false → (k : ℕ) → k < 4096
      → get_or o.area (byte_of (block_to x w c s) k) 0 ≡ byte_after x (slot_before w c) s k
  pub bytes : (n : ℕ) → in_block (block_to x w c s) n ≡ false → get_or o.area n 0 ≡ get_or x.area n 0
  pub long : length o.area ≡ length x.area
