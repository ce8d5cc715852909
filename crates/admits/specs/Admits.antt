-- Which sectors the rules of document 01 admit, place by place and without a number (document 01, "Judging a sector"), byte by byte and entry by entry.
-- That the handlers' own tests say the same is proved in the files of laws.
use Rattle.std.specs.Prelude.{ℕ, ◌+◌, ◌*◌, ◌/◌, ◌%◌, Bool, true, false, not, ◌&&◌, ◌||◌, List, leb, ltb, eqb, length, get_or, replicate, Option, Some, None}
use Rattle.loops.specs.Loops.{pick, all, some, count, first}
use Rattle.bits.specs.Bit.{bit}
use Rattle.sector.specs.Bytes.{same, zeros}
use Rattle.vdisk.specs.Drive.{place_of, dir_kind_of}
use Rattle.vdisk.specs.Ids.{turned, kind_of}
use Rattle.vdisk.specs.Owner.{owner_of}
use Rattle.vdisk.specs.declared.drive.Place.{Place}
use Rattle.vdisk.specs.declared.drive.Place.TheVariants.{Boot, Fat, Root, Data, Outside}
use Rattle.vdisk.specs.declared.owner.Own.{Own}
use Rattle.vdisk.specs.declared.owner.Own.TheVariants.{Reserved, Fixed, Dyn, Free}
use Rattle.file_table.specs.Table.{max_files, in_file}
use Rattle.records.specs.Records.{max_records, no_rec}
use Rattle.records.specs.declared.Rec.{Rec}
use Rattle.names.specs.Names.{long_name}
use Rattle.housekeeping.specs.Housekeeping.{is_housekeeping}
use Rattle.state.specs.State.{max_pairs, pair0, no_st}
use Rattle.state.specs.Staged.{slot_of, free_slot}
use Rattle.state.specs.declared.w.Pair.{Pair}
use Rattle.state.specs.declared.w.St.{St}
use Rattle.state.specs.declared.w.W.{W}
use Rattle.medium.specs.Medium.{is_medium, has_block}
use Rattle.medium.specs.Reads.{sector_of}
use Rattle.clusters.specs.Clusters.{is_live, host_cluster}
use Rattle.judge.specs.Classify.{SectorWrite}
use Rattle.admits.specs.Bytes.{only_bytes, slot_of_byte, place_in_slot, written_slot, slot_as_shown, date_byte}

-- a host cluster's sector is staged; elsewhere one equal to the shown one is accepted
abbrev pub is_host : SectorWrite → W → ℕ → Bool
is_host x w c = host_cluster x.ids x.starts x.sizes w.first w.pair c

abbrev pub as_shown : SectorWrite → Bool
as_shown x = same x.shown x.written

-- Boot: "only byte 0x25 may differ"
unfoldable pub boot_admits : SectorWrite → Bool
boot_admits x = only_bytes x (λ n. eqb n 0x25)

-- FAT sector s: entry i is cluster s * 256 + i's, and has its value in two bytes, the low one first
abbrev pub entry_cluster : ℕ → ℕ → ℕ
entry_cluster s i = s * 256 + i

unfoldable pub entry_value : List ℕ → ℕ → ℕ
entry_value sector i = get_or sector (i * 2) 0 + get_or sector (i * 2 + 1) 0 * 256

unfoldable pub entry_differs : SectorWrite → ℕ → Bool
entry_differs x i = not (eqb (entry_value x.shown i) (entry_value x.written i))

-- "FAT[1] changed passes only if its low 14 bits are all ones"; "0, 2 to 65,001, and 0xFFF8 up pass"
unfoldable pub fat1_admits : ℕ → Bool
fat1_admits v = eqb (v % 16384) 16383

unfoldable pub value_admits : ℕ → Bool
value_admits v = eqb v 0 || (leb 2 v && leb v 65001) || leb 0xFFF8 v

-- "all its entries in this sector" are written 0
unfoldable pub file_zeroed : SectorWrite → ℕ → ℕ → Bool
file_zeroed x s j = all (λ i. not (in_file x.starts x.sizes j (entry_cluster s i)) || eqb (entry_value x.written i) 0) 256 0

-- a Reserved or Fixed cluster's entry may not change; "a live file's changed entry must become 0 with all its entries in this sector"; others take
-- a host value
unfoldable pub own_admits : SectorWrite → W → ℕ → ℕ → Own → Bool
own_admits x w s i Reserved = false
own_admits x w s i Fixed = false
own_admits x w s i (Dyn j) =
    pick (is_live x.ids w.pair j (entry_cluster s i)) (eqb (entry_value x.written i) 0 && file_zeroed x s j) (value_admits (entry_value x.written i))
own_admits x w s i Free = value_admits (entry_value x.written i)

abbrev pub entry_owner : SectorWrite → W → ℕ → ℕ → Own
entry_owner x w s i = owner_of x.starts x.sizes w.first (entry_cluster s i)

-- "FAT[0] changed: refused"
unfoldable pub entry_admits : SectorWrite → W → ℕ → ℕ → Bool
entry_admits x w s i =
    pick (entry_differs x i)
    (pick (eqb (entry_cluster s i) 0) false
    (pick (eqb (entry_cluster s i) 1) (fat1_admits (entry_value x.written i)) (own_admits x w s i (entry_owner x w s i))))
    true

-- a host cluster's changed entry that gets a value and has no pair needs a place; "of 40 pair places, those freed by the same sector aren't
-- counted as free"
unfoldable pub has_pair : List Pair → ℕ → Bool
has_pair ps c = some (λ n. eqb (get_or ps n pair0).c c) max_pairs 0

unfoldable pub new_pair : SectorWrite → W → ℕ → ℕ → Bool
new_pair x w s i =
    entry_differs x i && is_host x w (entry_cluster s i) && not (eqb (entry_value x.written i) 0) && not (has_pair w.pair (entry_cluster s i))

unfoldable pub fat_admits : SectorWrite → W → ℕ → Bool
fat_admits x w s =
    all (entry_admits x w s) 256 0 && leb (count (new_pair x w s) 256 0) (count (λ n. eqb (get_or w.pair n pair0).c 0) max_pairs 0)

-- Root: "DM40*.BIN", in letters of either case
unfoldable pub letter : List ℕ → ℕ → ℕ → Bool
letter e b upper = eqb (get_or e b 0) upper || eqb (get_or e b 0) (upper + 32)

unfoldable pub is_update_file : List ℕ → Bool
is_update_file e =
    letter e 0 0x44 && letter e 1 0x4D && eqb (get_or e 2 0) 0x34 && eqb (get_or e 3 0) 0x30 && letter e 8 0x42 && letter e 9 0x49 && letter e 10 0x4E

-- "attribute bit 3" and bit 4, a directory; a long entry has the low six bits 0x0F
unfoldable pub attr_bit : List ℕ → ℕ → Bool
attr_bit e weight = eqb (get_or e 0x0B 0 / weight % 2) 1

unfoldable pub is_long_slot : List ℕ → Bool
is_long_slot e = eqb (get_or e 0x0B 0 % 64) 15

-- the start, in two bytes, and the size, in four
unfoldable pub slot_start : List ℕ → ℕ
slot_start e = get_or e 0x1A 0 + 256 * get_or e 0x1B 0

unfoldable pub slot_size : List ℕ → ℕ
slot_size e = get_or e 0x1C 0 + 256 * get_or e 0x1D 0 + 65536 * get_or e 0x1E 0 + 16777216 * get_or e 0x1F 0

-- "one of ten housekeeping prefixes, or DM40*.BIN that is no directory, at most 638,988 bytes": house is whether the slot's name is housekeeping
unfoldable pub name_admits : List ℕ → Bool → Bool
name_admits e house = house || (not (attr_bit e 16) && is_update_file e && leb (slot_size e) 638988)

-- "first byte 0 refused; 0xE5 or a long entry passes; attribute bit 3, a non-zero word at 0x14, or a start neither 0 nor host refused": host is
-- whether the start is a host cluster
unfoldable pub record_admits : List ℕ → Bool → Bool → Bool
record_admits e host house =
    not (eqb (get_or e 0 0) 0)
    && (eqb (get_or e 0 0) 0xE5 || is_long_slot e
    || (not (attr_bit e 8) && eqb (get_or e 0x14 0) 0 && eqb (get_or e 0x15 0) 0 && (eqb (slot_start e) 0 || host) && name_admits e house))

-- host slot i of root sector s as written, root slot s * 16 + i
unfoldable pub host_slot_admits : SectorWrite → W → ℕ → ℕ → Bool
host_slot_admits x w s i =
    record_admits (written_slot x i) (is_host x w (slot_start (written_slot x i))) (is_housekeeping (long_name w.rec x.written (s * 16) (s * 16 + i)))

-- "slots 0 to 6 may change in dates"; a byte of another slot may differ where that slot is admitted
unfoldable pub root_byte : SectorWrite → W → ℕ → ℕ → Bool
root_byte x w s n = pick (leb (s * 16 + slot_of_byte n) 6) (date_byte (place_in_slot n)) (host_slot_admits x w s (slot_of_byte n))

-- a changed host slot without a record needs a place; "then 15, of 10 places"
unfoldable pub has_record : List Rec → ℕ → Bool
has_record recs k = some (λ r. eqb (get_or recs r no_rec).slot k) max_records 0

unfoldable pub needs_place : SectorWrite → W → ℕ → ℕ → Bool
needs_place x w s i = leb 7 (s * 16 + i) && not (slot_as_shown x i) && not (has_record w.rec (s * 16 + i))

unfoldable pub root_admits : SectorWrite → W → ℕ → Bool
root_admits x w s =
    only_bytes x (root_byte x w s) && leb (count (needs_place x w s) 16 0) (count (λ r. eqb (get_or w.rec r no_rec).slot 0) max_records 0)

-- Directory k: file j is an unturned file of that directory and slot. Kinds 0 to 2 are shown in their directory, kind 3 in directory 0; INFO and
-- DEBUG, of which k is 3, show none.
unfoldable pub shown_in : ℕ → ℕ → Bool
shown_in kind k = (ltb kind 3 && eqb kind k) || (eqb kind 3 && eqb k 0)

unfoldable pub unturned_at : SectorWrite → ℕ → ℕ → ℕ → Bool
unturned_at x k slot j = shown_in (kind_of (get_or x.ids j 0)) k && eqb (get_or x.slots j 0) slot && not (turned (get_or x.ids j 0))

-- "a turn": byte 0 of a slot becomes 0xE5, and was not, where such a file is
unfoldable pub turn_byte : SectorWrite → ℕ → ℕ → ℕ → Bool
turn_byte x k s n =
    eqb (place_in_slot n) 0 && eqb (get_or x.written n 0) 0xE5 && not (eqb (get_or x.shown n 0) 0xE5)
    && some (unturned_at x k (s * 16 + slot_of_byte n)) (length x.ids) 0

-- file j is the one that a turn in this sector marks, the first unturned one of that directory and slot
unfoldable pub turns_file : SectorWrite → ℕ → ℕ → ℕ → Bool
turns_file x k s j = some (λ i. turn_byte x k s (i * 32) && eqb (first (unturned_at x k (s * 16 + i)) (length x.ids) 0) j) 16 0

-- "dates are dropped; a turn ..; anything else is 9"
unfoldable pub dir_admits : SectorWrite → ℕ → ℕ → Bool
dir_admits x k s = only_bytes x (λ n. date_byte (place_in_slot n) || turn_byte x k s n)

-- the staging slot of a cluster: its own, else the first free of 28
unfoldable pub is_place : Option ℕ → Bool
is_place (Some i) = true
is_place None = false

unfoldable pub slot_place : List St → ℕ → Option ℕ
slot_place ss c = pick (is_place (slot_of ss c)) (slot_of ss c) (free_slot ss)

-- that slot as the sector finds it; a new one has no sector staged, and no block held or parked
abbrev pub new_slot : ℕ → St
new_slot c = record { c = c; sealed = false; ro = 0; map = 0; blk = replicate 8 0 }

unfoldable pub slot_as : List St → ℕ → Option ℕ → St
slot_as ss c (Some i) = get_or ss i no_st
slot_as ss c None = new_slot c

abbrev pub slot_before : W → ℕ → St
slot_before w c = slot_as w.st c (slot_of w.st c)

-- a cluster has eight blocks of eight sectors: the number of the one held for sector s, 0 where none is, and whether it is parked
abbrev pub held_in : St → ℕ → ℕ
held_in y s = get_or y.blk (s / 8) 0

abbrev pub parked_in : St → ℕ → Bool
parked_in y s = bit y.ro (s / 8)

-- "in a parked block a sector equal to what `staged_read` shows is accepted unchanged"
abbrev pub as_parked : SectorWrite → St → ℕ → Bool
as_parked x y s = parked_in y s && same (sector_of x.fat x.area y s) x.written

-- no block is held for the sector, or a parked one: it goes to a new one
abbrev pub needs_block : St → ℕ → Bool
needs_block y s = eqb (held_in y s) 0 || parked_in y s

-- an all-zero sector of a block not held takes no block
abbrev pub takes_none : SectorWrite → St → ℕ → Bool
takes_none x y s = eqb (held_in y s) 0 && zeros x.written

-- the hint that a search for a new one starts from
abbrev pub hint_of : W → ℕ
hint_of w = pick w.staging w.hint 2

-- "the first FAT entry of 0 from the hint": entry i is one that the search comes by; is there any; the first of them
unfoldable pub free_from : List ℕ → ℕ → ℕ → Bool
free_from fat hint i = leb hint i && leb 2 i && eqb (get_or fat i 0) 0

unfoldable pub some_free : List ℕ → ℕ → Bool
some_free fat hint = some (free_from fat hint) (length fat) 0

unfoldable pub first_free : List ℕ → ℕ → ℕ
first_free fat hint = first (free_from fat hint) (length fat) 0

-- Staging into slot y: as `staged_read` shows it, in a parked block; or without a block; or the medium has the block held, and one free where
-- it is needed
unfoldable pub slot_admits : SectorWrite → W → ℕ → St → Bool
slot_admits x w s y =
    as_parked x y s
    || takes_none x y s
    || (is_medium x.fat x.area
    && (not (needs_block y s) || some_free x.fat (hint_of w))
    && (eqb (held_in y s) 0 || has_block x.fat x.area (held_in y s)))

unfoldable pub stage_admits : SectorWrite → W → ℕ → ℕ → Bool
stage_admits x w c s = not x.busy && (is_place (slot_place w.st c) && slot_admits x w s (slot_before w c))

unfoldable pub cluster_admits : SectorWrite → W → ℕ → ℕ → Option ℕ → Bool
cluster_admits x w c s (Some k) = dir_admits x k s
cluster_admits x w c s None = pick (is_host x w c) (stage_admits x w c s) (as_shown x)

unfoldable pub place_admits : SectorWrite → W → Place → Bool
place_admits x w Boot = boot_admits x
place_admits x w (Fat s) = fat_admits x w s
place_admits x w (Root s) = root_admits x w s
place_admits x w (Data c s) = cluster_admits x w c s (dir_kind_of c)
place_admits x w Outside = false

-- both sectors have 512 bytes; up to 400 files, with columns of one length, which those of a lent table are; writing is on; and the place admits it
unfoldable pub whole_both : SectorWrite → Bool
whole_both x = eqb (length x.shown) 512 && eqb (length x.written) 512

unfoldable pub few_files : SectorWrite → Bool
few_files x =
    leb (length x.ids) max_files
    && (eqb (length x.slots) (length x.ids) && eqb (length x.starts) (length x.ids) && eqb (length x.sizes) (length x.ids))

unfoldable pub admits : SectorWrite → W → Bool
admits x w = whole_both x && (few_files x && (w.rw && place_admits x w (place_of x.lba)))
