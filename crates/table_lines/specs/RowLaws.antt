-- A start by its number, and a report by its parts.
use Rattle.std.specs.Prelude.{ℕ, map}
use Rattle.std.proofs.Math.Path.{◌≡◌}
use Rattle.std.proofs.Common.{sym, ◌∙◌}
use native.Mathlib.Omega.{arith}
use Rattle.loops.specs.Choices.{either}
use Rattle.file_table.specs.Table.{accepts}
use Rattle.file_table.specs.Files.{id_of, with_ids}
use Rattle.state.specs.declared.w.W.{W}
use Rattle.sessions.specs.Sessions.{start, report_gone}
use Rattle.session_lines.specs.declared.session.Table.{Table}
use Rattle.session_lines.specs.declared.session.Session.{Session}
use Rattle.session_lines.specs.declared.session.Said.TheVariants.{Number}
use Rattle.session_lines.specs.Steps.{session_of, step_of, files_of, with_files}
use Rattle.table_lines.specs.Rows.{lent, start_step, gone_step}

module _ (s : Session) (t : Table) (first number : ℕ) (w : W) (a : number ≡ (start (lent t first) s.w).number) (v : w ≡ (start (lent t first) s.w).w) where
  pub step-refused : (number ≡ 0 → ⊥) → step_of (Number number) (session_of w s.t s.m) ≡ start_step s t first
  unfolding start_step start
  step-refused h =
      either (accepts (lent t first))
      (λ e. absurd (h (rw e at a)))
      (λ e. let b = rw e at a in let u = rw e at v in rw (b, u, e))

  pub step-taken : number ≡ 0 → step_of (Number number) (session_of w t s.m) ≡ start_step s t first
  unfolding start_step start
  step-taken z =
      either (accepts (lent t first))
      (λ e. let b = rw e at a in let u = rw e at v in rw (b, u, e))
      (λ e. let q : number ≡ 10 = rw e at a in absurd (ten (sym z ∙ q)))
    where
      ten : ◌≡◌ {A = ℕ} 0 10 → ⊥
      ten q = omega arith

pub step-gone : (s : Session) (row number : ℕ) (t : Table) → number ≡ (report_gone (map id_of (files_of s.t)) row).number
    → t ≡ with_files s.t (with_ids (files_of s.t) (report_gone (map id_of (files_of s.t)) row).ids)
    → step_of (Number number) (session_of s.w t s.m) ≡ gone_step s row
step-gone s row number t a i = rw (a, i)
