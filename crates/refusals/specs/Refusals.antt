-- The refusals and their numbers (document 01, "Refusals from the input" and "Refusals from the state").
use Rattle.std.specs.Prelude.{ℕ, Result, Ok, Err}
use Rattle.refusals.specs.declared.Refusal.{Refusal}
use Rattle.refusals.specs.declared.Refusal.TheVariants.{SectorLength, PastTheEnd, BootByte, ReservedEntry, OwnCluster, HostValue, OwnRootSlot, RootSlot, DirectorySlot, Table, BodySize, ReadOnly, LiveFile, NoPair, NoRecord, NoStagingSlot, Medium, NoBlock, Busy, NoChain, NotHanded}

abbrev pub number_of : Refusal → ℕ
-- from the input: a sector isn't 512 bytes
number_of SectorLength = 1
-- the place is past the drive's end, a cluster's sector past its last, a root slot past the root
number_of PastTheEnd = 2
number_of BootByte = 3
-- FAT[0] or FAT[1]
number_of ReservedEntry = 4
-- a Reserved or Fixed cluster
number_of OwnCluster = 5
number_of HostValue = 6
-- root slot 0 to 6
number_of OwnRootSlot = 7
-- a root slot that is not admitted
number_of RootSlot = 8
number_of DirectorySlot = 9
-- more than 400 files, or at the start a table that is not acceptable
number_of Table = 10
-- a body check of a size under 128
number_of BodySize = 11
-- from the state: read-only
number_of ReadOnly = 12
-- part of a live file
number_of LiveFile = 13
number_of NoPair = 14
number_of NoRecord = 15
number_of NoStagingSlot = 16
number_of Medium = 17
number_of NoBlock = 18
number_of Busy = 19
-- the chain is not complete
number_of NoChain = 20
-- gone reported of a row that isn't in the table or whose file isn't handed
number_of NotHanded = 21

-- what a call answers: 0 where it is taken
abbrev pub told : {T : Type 0} → Result T Refusal → ℕ
told (Ok x) = 0
told (Err e) = number_of e

-- what it answers besides, and d where it is refused
abbrev pub value_or : {T : Type 0} → T → Result T Refusal → T
value_or d (Ok x) = x
value_or d (Err e) = d
