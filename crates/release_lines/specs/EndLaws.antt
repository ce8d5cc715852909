-- A step by its parts.
use Rattle.std.specs.Prelude.{ℕ, true, false, List, ◌≡◌, take}
use Rattle.state.specs.declared.w.W.{W}
use Rattle.file_table.specs.Files.{with_ids}
use Rattle.release.specs.Release.{Ended, EndAnswer, end_answer}
use Rattle.session_lines.specs.declared.session.Table.{Table}
use Rattle.session_lines.specs.declared.session.Session.{Session}
use Rattle.session_lines.specs.Steps.{session_of, step_of, bad_step, files_of, with_files, lends}
use Rattle.release_lines.specs.declared.ends.Call.{Call}
use Rattle.release_lines.specs.Ends.{ended_by, lent, said_of, ended_step}

module _ (call : Call) (s : Session) (fat area : List ℕ) where
  pub step-bad : lends s fat area ≡ false → bad_step s ≡ ended_step call s fat area
  unfolding ended_step
  step-bad l = rw l

  abbrev left : Ended
  left = ended_by call (lent s.t (take s.m.lent_entries fat) (take s.m.lent_bytes area)) s.w

  pub step-ran : (a : EndAnswer) (w : W) (t : Table) → lends s fat area ≡ true
      → a ≡ end_answer left → w ≡ left.w → t ≡ with_files s.t (with_ids (files_of s.t) left.ids)
      → step_of (said_of a) (session_of w t s.m) ≡ ended_step call s fat area
  unfolding ended_step
  step-ran a w t l q v i = rw (l, q, v, i)
