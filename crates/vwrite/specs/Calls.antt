-- What each call that a firmware links answers and leaves: the contracts of the crate cite these.
use Rattle.std.specs.Prelude.{ℕ, suc, Bool, true, false, List, ◌≡◌}
use Rattle.vdisk.specs.Drive.{clusters_of, dir_kind_of}
use Rattle.records.specs.Records.{root_rec}
use Rattle.root_slots.specs.RootSlots.{strict_of}
use Rattle.file_table.specs.declared.VF.{VF}
use Rattle.state.specs.declared.w.W.{W}
use Rattle.state.specs.Pairs.{pair_of}
use Rattle.state.specs.Queries.{boot_of, fat1_of, frozen_of}
use Rattle.medium.specs.Reads.{staged_answer, staged_bytes}
use Rattle.chains.specs.Chains.{complete_of}
use Rattle.body.specs.Body.{body_of}
use Rattle.crc.specs.Crc.{crc_of}
use Rattle.write.specs.Write.{WritesBy}
use Rattle.state_calls.specs.Answers.{pair_answer, dir_answer, files_owner}
use Rattle.state_calls.specs.declared.OwnRow.{OwnRow}

-- A written sector: the number; the state, the table and the data area then.
abbrev pub Writes : ℕ → List ℕ → List ℕ → Bool → List ℕ → List ℕ → W → List VF → ℕ → W → List VF → List ℕ → Type 0
Writes lba shown written busy fat area w files number w_left files_left area_left = WritesBy lba shown written busy fat area w files number w_left files_left area_left

-- A sector of a staged cluster: the number, whether the cluster is staged, the bytes.
abbrev pub ReadsStaged : List ℕ → List ℕ → W → ℕ → ℕ → List ℕ → ℕ → Bool → List ℕ → Type 0
ReadsStaged fat area w c s out number staged out_left =
    (record { no = number; staged = staged } ≡ staged_answer w.st c s out) × (out_left ≡ staged_bytes fat area w.st c s out)

-- The host's FAT entry of a cluster, its record in a root slot.
abbrev pub TellsPair : W → ℕ → Bool → ℕ → Type 0
TellsPair w c found v = record { found = found; v = v } ≡ pair_answer (pair_of w.pair c)

abbrev pub TellsRecord : W → ℕ → Bool → List ℕ → Type 0
TellsRecord w slot found e = record { found = found; e = e } ≡ root_rec w.rec slot

-- The boot byte, FAT[1], must the layout not change.
abbrev pub TellsBoot : W → ℕ → Type 0
TellsBoot w boot = boot ≡ boot_of w

abbrev pub TellsFat1 : W → ℕ → Type 0
TellsFat1 w fat1 = fat1 ≡ fat1_of w

abbrev pub TellsFrozen : W → Bool → Bool → Type 0
TellsFrozen w mounted frozen = frozen ≡ frozen_of w mounted

-- The chain of an update file, the check of its body, its CRC.
abbrev pub TellsChain : W → ℕ → ℕ → Bool → List ℕ → ℕ → Type 0
TellsChain w start size found slots n = record { found = found; slots = slots; n = n } ≡ complete_of w.pair w.st start size

abbrev pub ChecksBody : List ℕ → List ℕ → W → ℕ → ℕ → ℕ → Bool → Type 0
ChecksBody fat area w start size number valid = record { no = number; valid = valid } ≡ body_of fat area w.pair w.st start size

abbrev pub TellsCrc : ℕ → List ℕ → ℕ → Type 0
TellsCrc c bytes crc = crc ≡ crc_of c bytes

-- Is the strict long name of a root slot housekeeping.
abbrev pub TellsStrict : W → List ℕ → ℕ → ℕ → Bool → Type 0
TellsStrict w sector slot number housekeeping = record { no = number; housekeeping = housekeeping } ≡ strict_of w.rec sector slot

-- The drive's layout: the owner of a cluster, the directory that it is, the clusters of a file.
abbrev pub TellsOwner : List VF → ℕ → ℕ → ℕ → OwnRow → Type 0
TellsOwner files first c number own = record { no = number; owner = own.owner; row = own.row } ≡ files_owner files first c

abbrev pub TellsKind : ℕ → Bool → ℕ → Type 0
TellsKind c found kind = record { found = found; kind = kind } ≡ dir_answer (dir_kind_of c)

abbrev pub TellsClusters : ℕ → ℕ → Type 0
TellsClusters size clusters = clusters ≡ clusters_of size
