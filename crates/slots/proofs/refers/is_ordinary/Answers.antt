use Rattle.slots.specs.SlotLaws.{and-false}
use mathlib.Core.Path.{sym, ◌∙◌}
use borrow.Author.Tests.{eq-eqb, ne_eqb}
use Rattle.slots.specs.Slots.{is_ordinary}
use Rattle.slots.proofs.refers.is_ordinary.Goals as goal

pub returns-then-b-at-eq0 : goal.returns-then-b-at-eq0
unfolding is_ordinary
returns-then-b-at-eq0 c = simp (eq-eqb _ _ c.if-b-at-eq0.true)

pub returns-then-b-at : goal.returns-then-b-at
unfolding is_ordinary
returns-then-b-at c = simp (eq-eqb _ _ c.if-b-at.true, and-false)

pub returns-then-is_long : goal.returns-then-is_long
unfolding is_ordinary
returns-then-is_long c = simp (sym c.is_long.ensures ∙ c.if-is_long.true, and-false)

pub returns-then-test_u16 : goal.returns-then-test_u16
unfolding is_ordinary
returns-then-test_u16 c = simp (← c.attr-a.ensures, sym c.test_u16.ensures ∙ c.if-test_u16.true, and-false)

pub returns : goal.returns
unfolding is_ordinary
returns c = simp (
  ne_eqb _ _ c.if-b-at-eq0.false,
  ne_eqb _ _ c.if-b-at.false,
  sym c.is_long.ensures ∙ c.if-is_long.false,
  ← c.attr-a.ensures,
  sym c.test_u16.ensures ∙ c.if-test_u16.false,
  ← c.test_u16-2.ensures,
)
