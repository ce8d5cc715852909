-- A step by its parts.
use Rattle.std.specs.Prelude.{ℕ, Bool, true, false, List, ◌++◌, ◌≡◌, drop}
use Rattle.file_table.specs.Files.{with_ids}
use Rattle.state.specs.declared.w.W.{W}
use Rattle.session_lines.specs.declared.session.Table.{Table}
use Rattle.session_lines.specs.declared.session.Session.{Session}
use Rattle.session_lines.specs.declared.session.Said.TheVariants.{Number}
use Rattle.session_lines.specs.Steps.{session_of, step_of, bad_step, files_of, with_files, lends}
use Rattle.write_lines.specs.Writes.{left, write_step, write_area}

module _ (s : Session) (place : ℕ) (shown written : List ℕ) (busy : Bool) (fat area : List ℕ) where
  pub step-bad : lends s fat area ≡ false → bad_step s ≡ write_step s place shown written busy fat area
  unfolding write_step
  step-bad l = rw l

  pub area-bad : lends s fat area ≡ false → area ≡ write_area s place shown written busy fat area
  unfolding write_area
  area-bad l = rw l

  pub step-written : (number : ℕ) (w : W) (t : Table) → lends s fat area ≡ true
      → number ≡ (left s place shown written busy fat area).number → w ≡ (left s place shown written busy fat area).w
      → t ≡ with_files s.t (with_ids (files_of s.t) (left s place shown written busy fat area).ids)
      → step_of (Number number) (session_of w t s.m) ≡ write_step s place shown written busy fat area
  unfolding write_step
  step-written number w t l a v i = rw (l, a, v, i)

  pub area-written : (x : List ℕ) → lends s fat area ≡ true → x ≡ (left s place shown written busy fat area).area
      → x ++ drop s.m.lent_bytes area ≡ write_area s place shown written busy fat area
  unfolding write_area
  area-written x l a = rw (l, a)
