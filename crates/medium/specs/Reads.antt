-- What staged sectors read as, and whether one names a file (document 01, "The drive" and "Judging a sector").
use Rattle.std.specs.Prelude.{ℕ, ◌*◌, ◌/◌, ◌%◌, Bool, true, false, not, ◌&&◌, List, leb, eqb, length, get_or, take, drop, replicate, Option, Some, None}
use Rattle.loops.specs.Loops.{pick, some}
use Rattle.bits.specs.Bit.{bit}
use Rattle.slots.specs.Slots.{refers_to}
use Rattle.state.specs.State.{max_slots, no_st}
use Rattle.state.specs.Staged.{slot_of}
use Rattle.state.specs.declared.w.St.{St}
use Rattle.medium.specs.Medium.{has_block, block_of}

-- the block that a slot holds for its sector s, 0 for none
abbrev pub held_block : St → ℕ → ℕ
held_block x s = get_or x.blk (s / 8) 0

-- sector s of a staged cluster: zeros where it was not written or holds no block, of no medium, and of a held number outside the medium
unfoldable pub sector_of : List ℕ → List ℕ → St → ℕ → List ℕ
sector_of fat area x s =
    pick (bit x.map s && has_block fat area (held_block x s)) (take 512 (drop (s % 8 * 512) (block_of area (held_block x s)))) (replicate 512 0)

-- the refusal number, 0 where there is none, beside whether the cluster is staged
pub record StagedRead : Type 0 where
  pub no : ℕ
  pub staged : Bool

abbrev pub read_answer : ℕ → Bool → StagedRead
read_answer number b = record { no = number; staged = b }

unfoldable pub found_answer : Option ℕ → StagedRead
found_answer (Some i) = read_answer 0 true
found_answer None = read_answer 0 false

unfoldable pub found_bytes : List ℕ → List ℕ → List St → ℕ → List ℕ → Option ℕ → List ℕ
found_bytes fat area st s out (Some i) = sector_of fat area (get_or st i no_st) s
found_bytes fat area st s out None = out

-- `staged_read` of a cluster and a sector into a buffer: 1 where the buffer isn't 512 bytes, 2 for a sector of a cluster from 64 up
unfoldable pub staged_answer : List St → ℕ → ℕ → List ℕ → StagedRead
staged_answer st c s out =
    pick (not (eqb (length out) 512)) (read_answer 1 false) (pick (leb 64 s) (read_answer 2 false) (found_answer (slot_of st c)))

-- the buffer then: the sector of a staged cluster, else as it was
unfoldable pub staged_bytes : List ℕ → List ℕ → List St → ℕ → ℕ → List ℕ → List ℕ
staged_bytes fat area st c s out =
    pick (not (eqb (length out) 512)) out (pick (leb 64 s) out (found_bytes fat area st s out (slot_of st c)))

-- a staged sector of the slot holds an ordinary slot with that start and length
unfoldable pub slot_names : List ℕ → List ℕ → St → ℕ → ℕ → Bool
slot_names fat area x start size = not (eqb x.c 0) && some (λ s. refers_to (sector_of fat area x s) start size) 64 0

-- `moved_ref`: some staged sector does
unfoldable pub moved_ref : List ℕ → List ℕ → List St → ℕ → ℕ → Bool
moved_ref fat area st start size = some (λ i. slot_names fat area (get_or st i no_st) start size) max_slots 0
