use mathlib.Core.Path.{sym, ◌∙◌}
use borrow.Author.Tests.{eq-eqb, ne_eqb}
use Rattle.sessions.specs.Poll.{end_due}
use Rattle.sessions.proofs.poll.end_due.Goals as goal

pub returns-then-w-eq0 : goal.returns-then-w-eq0
unfolding end_due
returns-then-w-eq0 c = simp (eq-eqb _ _ c.if-w-eq0.true)

pub returns-then-not-is_undecided : goal.returns-then-not-is_undecided
unfolding end_due
returns-then-not-is_undecided c = simp (ne_eqb _ _ c.if-w-eq0.false, sym c.is_undecided.ensures ∙ c.if-not-is_undecided.true)

pub returns : goal.returns
unfolding end_due
returns c = simp (ne_eqb _ _ c.if-w-eq0.false, sym c.is_undecided.ensures ∙ c.if-not-is_undecided.false, ← c.saturating_sub.ensures)
