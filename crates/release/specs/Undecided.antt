-- Which releases are put off (document 01; `fw_unchecked`).
use Rattle.std.specs.Prelude.{ℕ, Bool, not, ◌&&◌, List, leb, eqb, get_or}
use Rattle.loops.specs.Loops.{some}
use Rattle.bits.specs.Bit.{bit}
use Rattle.slots.specs.Slots.{first_byte, attr_of, is_long, start_of, size_of, update_name}
use Rattle.records.specs.Records.{max_records, no_rec}
use Rattle.records.specs.declared.Rec.{Rec}
use Rattle.state.specs.State.{max_slots, no_st}
use Rattle.state.specs.declared.w.Done.{Done}
use Rattle.state.specs.declared.w.W.{W}

-- a slot in use that is a file's: first byte not 0xE5, no long entry, attribute bits 3 and 4 clear
unfoldable pub is_file : List ℕ → Bool
is_file e = not (eqb (first_byte e 0) 0xE5) && not (is_long e 0) && not (bit (attr_of e 0) 3) && not (bit (attr_of e 0) 4)

-- DM40*.BIN with a start, from 128 bytes up
unfoldable pub is_named : List ℕ → Bool
is_named e = update_name e 0 && not (eqb (start_of e 0) 0) && leb 128 (size_of e 0)

unfoldable pub is_update : Rec → Bool
is_update r = not (eqb r.slot 0) && is_file r.e && is_named r.e

-- it is the one that was decided last, and nothing was staged since
unfoldable pub is_decided : Rec → Done → ℕ → Bool
is_decided r d ver =
    eqb r.slot d.slot && eqb (start_of r.e 0) d.start && eqb (size_of r.e 0) d.size && eqb ver d.ver

abbrev pub undecided_at : W → ℕ → Bool
undecided_at w i = is_update (get_or w.rec i no_rec) && not (is_decided (get_or w.rec i no_rec) w.done w.ver)

abbrev pub staged_at : W → ℕ → Bool
staged_at w i = not (eqb (get_or w.st i no_st).c 0)

-- a DM40*.BIN is undecided and anything is staged
unfoldable pub is_undecided : W → Bool
is_undecided w = some (staged_at w) max_slots 0 && some (undecided_at w) max_records 0
