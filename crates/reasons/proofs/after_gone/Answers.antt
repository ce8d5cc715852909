use Rattle.slots.specs.SlotLaws.{and-false}
use borrow.Author.Tests.{eq-eqb, ne_eqb}
use Rattle.reasons.specs.Reasons.{after_gone}
use Rattle.reasons.proofs.after_gone.Goals as goal

pub returns-then-row-j : goal.returns-then-row-j
unfolding after_gone
returns-then-row-j c = simp (ne_eqb _ _ c.if-row-j.true, and-false)

pub returns-then-number-eq0 : goal.returns-then-number-eq0
unfolding after_gone
returns-then-number-eq0 c = simp (eq-eqb _ _ c.if-row-j.false, eq-eqb _ _ c.if-number-eq0.true)

pub returns-else-number-eq0 : goal.returns-else-number-eq0
unfolding after_gone
returns-else-number-eq0 c = simp (ne_eqb _ _ c.if-number-eq0.false)
