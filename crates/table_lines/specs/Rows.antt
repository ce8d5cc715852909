-- What a start and a report of gone leave of a session.
use Rattle.std.specs.Prelude.{ℕ, map}
use Rattle.loops.specs.Loops.{pick}
use Rattle.file_table.specs.Table.{columns, accepts}
use Rattle.file_table.specs.Table as lib
use Rattle.file_table.specs.Files.{id_of, with_ids}
use Rattle.sessions.specs.Sessions.{start, report_gone}
use Rattle.session_lines.specs.declared.session.Table.{Table}
use Rattle.session_lines.specs.declared.session.Session.{Session}
use Rattle.session_lines.specs.declared.session.Said.TheVariants.{Number}
use Rattle.session_lines.specs.declared.session.Step.{Step}
use Rattle.session_lines.specs.Steps.{session_of, step_of, files_of, with_files}

-- the table that a start is given
abbrev pub lent : Table → ℕ → lib.Table
lent t first = columns (files_of t) first

-- a start that isn't refused takes the table
unfoldable pub start_step : Session → Table → ℕ → Step
start_step s t first =
    step_of
    (Number (start (lent t first) s.w).number)
    (session_of (start (lent t first) s.w).w (pick (accepts (lent t first)) t s.t) s.m)

-- a report marks the row's file
abbrev pub gone_step : Session → ℕ → Step
gone_step s row =
    step_of
    (Number (report_gone (map id_of (files_of s.t)) row).number)
    (session_of s.w (with_files s.t (with_ids (files_of s.t) (report_gone (map id_of (files_of s.t)) row).ids)) s.m)
