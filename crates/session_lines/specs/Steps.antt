-- What a line leaves, and what a call is lent of a session.
use Rattle.std.specs.Prelude.{ℕ, Bool, ◌&&◌, List, ◌++◌, leb, length, take, drop}
use Rattle.file_table.specs.declared.VF.{VF}
use Rattle.state.specs.declared.w.W.{W}
use Rattle.session_lines.specs.declared.session.Table.{Table}
use Rattle.session_lines.specs.declared.session.Medium.{Medium}
use Rattle.session_lines.specs.declared.session.Session.{Session}
use Rattle.session_lines.specs.declared.session.Said.{Said}
use Rattle.session_lines.specs.declared.session.Said.TheVariants.{Nothing, Bad}
use Rattle.session_lines.specs.declared.session.Step.{Step}

abbrev pub session_of : W → Table → Medium → Session
session_of w t m = record { w = w; t = t; m = m }

abbrev pub step_of : Said → Session → Step
step_of said s = record { said = said; s = s }

abbrev pub bad_step : Session → Step
bad_step s = step_of Bad s

abbrev pub silent_step : Session → Step
silent_step s = step_of Nothing s

-- the rows that count
abbrev pub files_of : Table → List VF
files_of t = take t.n t.files

-- the table with other files in these rows
abbrev pub with_files : Table → List VF → Table
with_files t files = record { n = t.n; files = files ++ drop t.n t.files }

-- a line's rows, and a medium that the program has
abbrev pub max_rows : ℕ
max_rows = 401

unfoldable pub lends : Session → List ℕ → List ℕ → Bool
lends s fat area = leb s.t.n max_rows && leb s.m.lent_entries (length fat) && leb s.m.lent_bytes (length area)
