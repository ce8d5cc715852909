-- What each call answers and leaves that tells why a file is handed: the contracts of the crate cite these.
use Rattle.std.specs.Prelude.{ℕ, Bool, List, ◌≡◌}
use Rattle.state.specs.declared.w.W.{W}
use Rattle.medium.specs.Reads.{moved_ref}
use Rattle.reasons.specs.declared.Reason.{Reason}
use Rattle.reasons.specs.Reasons.{after_write, after_end, after_gone}

-- Does a staged sector name the file, as the medium stands.
abbrev pub TellsNamed : List ℕ → List ℕ → W → ℕ → ℕ → Bool → Type 0
TellsNamed fat area w start size named = named ≡ moved_ref fat area w.st start size

-- What the calls held of a file: after a write, after a call that may end the session, after a report of gone.
abbrev pub NotesWrite : Reason → ℕ → ℕ → ℕ → ℕ → ℕ → ℕ → List ℕ → List ℕ → Bool → Bool → Reason → Type 0
NotesWrite before id slot start size number lba shown written named staged after = after ≡ after_write before id slot start size number lba shown written named staged

abbrev pub NotesEnd : Reason → ℕ → ℕ → Bool → Reason → Type 0
NotesEnd before ended id named after = after ≡ after_end before ended id named

abbrev pub NotesGone : Reason → ℕ → ℕ → ℕ → Reason → Type 0
NotesGone before number row j after = after ≡ after_gone before number row j
