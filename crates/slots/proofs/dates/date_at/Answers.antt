use borrow.Author.Tests.{eq-eqb, ne_eqb}
use Rattle.slots.specs.Slots.{date_at}
use Rattle.slots.proofs.dates.date_at.Goals as goal

pub returns-then-a-k : goal.returns-then-a-k
unfolding date_at
returns-then-a-k c = simp (eq-eqb _ _ c.if-a-k.true)

pub returns : goal.returns
unfolding date_at
returns c = simp (ne_eqb _ _ c.if-a-k.false, ← c.is_date.ensures)
