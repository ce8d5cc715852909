use Rattle.release.specs.Undecided.{is_named}
use mathlib.Core.Path.{sym, ◌∙◌}
use borrow.Author.Tests.{eq-eqb, ne_eqb}
use Rattle.release.proofs.undecided.is_named.Goals as goal

pub returns-then-not-update_name : goal.returns-then-not-update_name
unfolding is_named
returns-then-not-update_name c = simp (sym c.update_name.ensures ∙ c.if-not-update_name.true)

pub returns-then-start-eq0 : goal.returns-then-start-eq0
unfolding is_named
returns-then-start-eq0 c = simp (sym c.update_name.ensures ∙ c.if-not-update_name.false, ← c.start.ensures, eq-eqb _ _ c.if-start-eq0.true)

pub returns : goal.returns
unfolding is_named
returns c = simp (sym c.update_name.ensures ∙ c.if-not-update_name.false, ← c.start.ensures, ne_eqb _ _ c.if-start-eq0.false, ← c.size.ensures)
