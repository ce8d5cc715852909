-- What one call adds to what the calls held of a file (document 01, the sentences on demand 3).
use Rattle.std.specs.Prelude.{ℕ, Bool, false, ◌&&◌, ◌||◌, List, [], ◌∷◌, eqb}
use Rattle.loops.specs.Loops.{pick}
use Rattle.vdisk.specs.Ids.{unmarked}
use Rattle.file_table.specs.Table.{Table, table_of}
use Rattle.judge.specs.Classify.{SectorWrite, sector_write}
use Rattle.write.specs.Write.{whole_sectors}
use Rattle.marks.specs.Seen.{turns_slot, zeroes_entries, data_names}
use Rattle.reasons.specs.declared.Reason.{Reason}

abbrev pub no_reason : Reason
no_reason = record { turned = false; zeroed = false; moved = false; named = false; gone = false }

-- a table of the one file, in row 0
abbrev pub file_alone : ℕ → ℕ → ℕ → ℕ → Table
file_alone id slot start size = table_of (id ∷ []) (slot ∷ []) (start ∷ []) (size ∷ []) 0

-- a sector as it is shown and written, of which nothing else is read
abbrev pub sector_alone : ℕ → List ℕ → List ℕ → SectorWrite
sector_alone lba shown written = sector_write lba shown written false [] [] [] [] [] []

-- it had moved, or data that names it is staged after its turn
unfoldable pub moved_then : ℕ → ℕ → List ℕ → Bool → Bool → Bool → Bool
moved_then start size written staged turned moved = (staged && data_names (file_alone 0 0 start size) 0 written && turned) || moved

-- what a taken sector adds: whether it turns the slot, zeroes the entries, moves the file
abbrev pub with_seen : Reason → Bool → Bool → Bool → Reason
with_seen r turns zeroes moves =
    record { turned = turns || r.turned; zeroed = zeroes || r.zeroed; moved = moves || r.moved; named = r.named; gone = r.gone }

-- a taken write, which always has sectors of 512 bytes: of others nothing is seen
abbrev pub taken : ℕ → SectorWrite → Bool
taken number x = eqb number 0 && whole_sectors x

-- turned by a turn of its slot; zeroed; moved where a staged sector names the file at the turn (`named`, as the medium stood), or where data that
-- names it is staged after a turn (`staged`: the write staged its sector)
unfoldable pub after_write : Reason → ℕ → ℕ → ℕ → ℕ → ℕ → ℕ → List ℕ → List ℕ → Bool → Bool → Reason
after_write r id slot start size number lba shown written named staged =
    record {
      turned = (taken number (sector_alone lba shown written) && turns_slot (file_alone id slot start size) 0 (sector_alone lba shown written)) || r.turned;
      zeroed = (taken number (sector_alone lba shown written) && zeroes_entries (file_alone id slot start size) 0 (sector_alone lba shown written)) || r.zeroed;
      moved = (taken number (sector_alone lba shown written)
          && ((turns_slot (file_alone id slot start size) 0 (sector_alone lba shown written) && named)
          || (staged && data_names (file_alone id slot start size) 0 written && r.turned)))
          || r.moved;
      named = r.named;
      gone = r.gone;
    }

-- a completed release that leaves the file unmarked begins anew; at any other that is completed a staged sector may still name a moved file
unfoldable pub after_end : Reason → ℕ → ℕ → Bool → Reason
after_end r ended id named =
    pick (eqb ended 1 && unmarked id) no_reason
    (record { turned = r.turned; zeroed = r.zeroed; moved = r.moved; named = (eqb ended 1 && named && r.moved) || r.named; gone = r.gone })

-- reported gone by a report of its row that was not refused
unfoldable pub after_gone : Reason → ℕ → ℕ → ℕ → Reason
after_gone r number row j =
    record { turned = r.turned; zeroed = r.zeroed; moved = r.moved; named = r.named; gone = (eqb number 0 && eqb row j) || r.gone }
