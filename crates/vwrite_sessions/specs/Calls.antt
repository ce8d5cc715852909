-- What each call of a session that a firmware links answers and leaves: the contracts of the crate cite these.
use Rattle.std.specs.Prelude.{ℕ, Bool, true, false, List, ◌≡◌}
use Rattle.file_table.specs.Table.{columns}
use Rattle.file_table.specs.declared.VF.{VF}
use Rattle.state.specs.declared.w.W.{W}
use Rattle.release.specs.Release.{release_call, release_all_call}
use Rattle.sessions.specs.Poll.{poll_call}
use Rattle.sessions.specs.Sessions.{bus_reset_call, read_only, read_only_pending}
use Rattle.release.specs.Release.{EndAnswer, EndsBy}
use Rattle.sessions.specs.Calls.{HandedAnswer, FindsFile, ReportsBy, StartsBy, AsksMode, SetsMode}
use Rattle.vwrite_sessions.specs.declared.ends.End.{End}
use Rattle.vwrite_sessions.specs.declared.gone.Handed.{Handed}

-- a number and what is written beside it, as one answer
abbrev pub end_with : ℕ → End → EndAnswer
end_with n e = record { no = n; ended = e.ended; had = e.had }

abbrev pub handed_with : ℕ → Handed → HandedAnswer
handed_with m h = record { no = m; found = h.found; row = h.row }

-- A start: the number and the state.
abbrev pub Starts : List VF → ℕ → W → ℕ → W → Type 0
Starts files first w number w_left = StartsBy (columns files first) w number w_left

-- A tick of the clock, a release, one that nothing puts off, a bus reset: the number and what is written beside it, the state, the table.
abbrev pub Polls : ℕ → Bool → List ℕ → List ℕ → W → List VF → ℕ → End → W → List VF → Type 0
Polls clock mounted fat area w files number end w_left files_left = EndsBy (λ x v. poll_call x v clock mounted) fat area w files (end_with number end) w_left files_left

abbrev pub Releases : List ℕ → List ℕ → W → List VF → ℕ → End → W → List VF → Type 0
Releases fat area w files number end w_left files_left = EndsBy release_call fat area w files (end_with number end) w_left files_left

abbrev pub ReleasesAll : Bool → List ℕ → List ℕ → W → List VF → ℕ → End → W → List VF → Type 0
ReleasesAll reset fat area w files number end w_left files_left = EndsBy (λ x v. release_all_call x v reset) fat area w files (end_with number end) w_left files_left

abbrev pub ResetsBus : List ℕ → List ℕ → W → List VF → ℕ → End → W → List VF → Type 0
ResetsBus fat area w files number end w_left files_left = EndsBy bus_reset_call fat area w files (end_with number end) w_left files_left

-- The mode: asked for, put in force, told.
abbrev pub Asks : Bool → W → W → Type 0
Asks on w w_left = AsksMode on w w_left

abbrev pub PutsInForce : W → W → Type 0
PutsInForce w w_left = SetsMode w w_left

abbrev pub TellsMode : W → Bool → Type 0
TellsMode w on = on ≡ read_only w

abbrev pub TellsPending : W → Bool → Type 0
TellsPending w on = on ≡ read_only_pending w

-- The finder, and a report of a row.
abbrev pub Finds : List VF → ℕ → Handed → Type 0
Finds files number handed = FindsFile files (handed_with number handed)

abbrev pub Reports : ℕ → List VF → ℕ → List VF → Type 0
Reports row files number files_left = ReportsBy row files number files_left
