use mathlib.Core.Path.{sym, ◌∙◌}
use borrow.Author.Tests.{eq-eqb, ne_eqb}
use Rattle.release.specs.Undecided.{is_update}
use Rattle.release.proofs.undecided.is_update.Goals as goal

pub returns-then-r-eq0 : goal.returns-then-r-eq0
unfolding is_update
returns-then-r-eq0 c = simp (eq-eqb _ _ c.if-r-eq0.true)

pub returns-then-not-is_file : goal.returns-then-not-is_file
unfolding is_update
returns-then-not-is_file c = simp (ne_eqb _ _ c.if-r-eq0.false, sym c.is_file.ensures ∙ c.if-not-is_file.true)

pub returns : goal.returns
unfolding is_update
returns c = simp (ne_eqb _ _ c.if-r-eq0.false, sym c.is_file.ensures ∙ c.if-not-is_file.false, ← c.is_named.ensures)
