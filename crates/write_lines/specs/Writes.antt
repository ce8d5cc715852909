-- What a written sector leaves of a session and of what the program lends.
use Rattle.std.specs.Prelude.{ℕ, Bool, List, ◌++◌, take, drop}
use Rattle.loops.specs.Loops.{pick}
use Rattle.file_table.specs.Files.{with_ids}
use Rattle.judge.specs.Classify.{SectorWrite, files_write}
use Rattle.write.specs.Write.{Written, write}
use Rattle.session_lines.specs.declared.session.Table.{Table}
use Rattle.session_lines.specs.declared.session.Session.{Session}
use Rattle.session_lines.specs.declared.session.Said.TheVariants.{Number}
use Rattle.session_lines.specs.declared.session.Step.{Step}
use Rattle.session_lines.specs.Steps.{session_of, step_of, bad_step, files_of, with_files, lends}

-- the sector, with the table's rows and the medium
abbrev pub sent : Table → ℕ → List ℕ → List ℕ → Bool → List ℕ → List ℕ → SectorWrite
sent t place shown written busy fat area = files_write place shown written busy fat area (files_of t)

-- ... of which as much is lent as the session says
abbrev pub left : Session → ℕ → List ℕ → List ℕ → Bool → List ℕ → List ℕ → Written
left s place shown written busy fat area = write (sent s.t place shown written busy (take s.m.lent_entries fat) (take s.m.lent_bytes area)) s.w

unfoldable pub write_step : Session → ℕ → List ℕ → List ℕ → Bool → List ℕ → List ℕ → Step
write_step s place shown written busy fat area =
    pick (lends s fat area)
    (step_of
    (Number (left s place shown written busy fat area).number)
    (session_of (left s place shown written busy fat area).w (with_files s.t (with_ids (files_of s.t) (left s place shown written busy fat area).ids)) s.m))
    (bad_step s)

unfoldable pub write_area : Session → ℕ → List ℕ → List ℕ → Bool → List ℕ → List ℕ → List ℕ
write_area s place shown written busy fat area =
    pick (lends s fat area) ((left s place shown written busy fat area).area ++ drop s.m.lent_bytes area) area
