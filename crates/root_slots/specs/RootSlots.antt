-- Which host slots of the root are admitted, and the answer of the strict name.
use Rattle.std.specs.Prelude.{ℕ, ◌-◌, ◌*◌, ◌/◌, Bool, true, false, not, ◌&&◌, ◌||◌, List, leb, ltb, eqb, length}
use Rattle.loops.specs.Loops.{pick}
use Rattle.bits.specs.Bit.{bit}
use Rattle.slots.specs.Slots.{first_byte, attr_of, is_long, high_of, size_of, update_name}
use Rattle.names.specs.Names.{first_host_slot, long_name, strict_name}
use Rattle.housekeeping.specs.Housekeeping.{is_housekeeping}
use Rattle.records.specs.declared.Rec.{Rec}

-- an update file has at most 638,988 bytes
abbrev pub max_update : ℕ
max_update = 638988

-- `rec_ok` of the slot idx in the sector d: first byte 0 refused; 0xE5 or a long entry passes; attribute bit 3, a non-zero word at 0x14, or a
-- start neither 0 nor host refused; then one of ten housekeeping prefixes, or DM40*.BIN that is no directory, at most 638,988 bytes.
-- `host`: the start is 0 or a host cluster.
unfoldable pub slot_admitted : List Rec → List ℕ → ℕ → ℕ → Bool → Bool
slot_admitted recs d base idx host =
    pick (eqb (first_byte d ((idx - base) * 32)) 0) false
    (pick (eqb (first_byte d ((idx - base) * 32)) 0xE5 || is_long d ((idx - base) * 32)) true
    (pick (bit (attr_of d ((idx - base) * 32)) 3 || not (eqb (high_of d ((idx - base) * 32)) 0) || not host) false
    (is_housekeeping (long_name recs d base idx)
    || (not (bit (attr_of d ((idx - base) * 32)) 4) && update_name d ((idx - base) * 32) && leb (size_of d ((idx - base) * 32)) max_update))))

-- the refusal number, 0 where there is none, and whether the name is housekeeping
pub record Strict : Type 0 where
  pub no : ℕ
  pub housekeeping : Bool

-- the refusal number, 0 where there is none, beside what was asked
abbrev pub strict_answer : ℕ → Bool → Strict
strict_answer number h = record { no = number; housekeeping = h }

-- the strict long name of a root slot from 7 to 511, given its sector: is it housekeeping? It tries 1, 2, 7.
unfoldable pub strict_of : List Rec → List ℕ → ℕ → Strict
strict_of recs d idx =
    pick (not (eqb (length d) 512)) (strict_answer 1 false)
    (pick (leb 512 idx) (strict_answer 2 false)
    (pick (ltb idx first_host_slot) (strict_answer 7 false)
    (strict_answer 0 (is_housekeeping (strict_name recs d (idx / 16 * 16) idx)))))
