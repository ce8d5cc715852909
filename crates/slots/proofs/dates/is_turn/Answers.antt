use Rattle.slots.specs.SlotLaws.{and-false}
use borrow.Author.Tests.{eq-eqb, ne_eqb}
use Rattle.slots.specs.Slots.{turn_at}
use Rattle.slots.proofs.dates.is_turn.Goals as goal

pub returns-then-shown-at : goal.returns-then-shown-at
unfolding turn_at
returns-then-shown-at c = simp (eq-eqb _ _ c.if-shown-at.true)

pub returns-then-written-at : goal.returns-then-written-at
unfolding turn_at
returns-then-written-at c = simp (ne_eqb _ _ c.if-written-at.true, and-false)

pub returns : goal.returns
unfolding turn_at
returns c = simp (ne_eqb _ _ c.if-shown-at.false, eq-eqb _ _ c.if-written-at.false, ← c.dates_from.ensures)
