-- What the calls that may end the session leave of it.
use Rattle.std.specs.Prelude.{ℕ, List, take}
use Rattle.loops.specs.Loops.{pick}
use Rattle.file_table.specs.Files.{with_ids}
use Rattle.state.specs.declared.w.W.{W}
use Rattle.release.specs.Release.{Lending, files_lending, Ended, EndAnswer, end_answer, release_call, release_all_call}
use Rattle.sessions.specs.Poll.{poll_call}
use Rattle.sessions.specs.Sessions.{bus_reset_call}
use Rattle.session_lines.specs.declared.session.Table.{Table}
use Rattle.session_lines.specs.declared.session.Session.{Session}
use Rattle.session_lines.specs.declared.session.Said.{Said}
use Rattle.session_lines.specs.declared.session.Said.TheVariants as said
use Rattle.session_lines.specs.declared.session.Step.{Step}
use Rattle.session_lines.specs.Steps.{session_of, step_of, bad_step, files_of, with_files, lends}
use Rattle.release_lines.specs.declared.ends.Call.{Call}
use Rattle.release_lines.specs.declared.ends.Call.TheVariants.{Poll, Release, ReleaseAll, BusReset}

unfoldable pub ended_by : Call → Lending → W → Ended
ended_by (Poll clock mounted) x w = poll_call x w clock mounted
ended_by Release x w = release_call x w
ended_by (ReleaseAll reset) x w = release_all_call x w reset
ended_by BusReset x w = bus_reset_call x w

-- the table's rows and the medium
abbrev pub lent : Table → List ℕ → List ℕ → Lending
lent t fat area = files_lending fat area (files_of t)

-- what the line says
abbrev pub said_of : EndAnswer → Said
said_of a = said.Ended a.no a.ended a.had

abbrev pub ran_step : Session → Ended → Step
ran_step s e = step_of (said_of (end_answer e)) (session_of e.w (with_files s.t (with_ids (files_of s.t) e.ids)) s.m)

unfoldable pub ended_step : Call → Session → List ℕ → List ℕ → Step
ended_step call s fat area =
    pick (lends s fat area)
    (ran_step s (ended_by call (lent s.t (take s.m.lent_entries fat) (take s.m.lent_bytes area)) s.w))
    (bad_step s)
