use Rattle.slots.specs.SlotLaws.{and-false}
use mathlib.Core.Path.{sym, ◌∙◌}
use Rattle.slots.specs.Slots.{update_name}
use Rattle.slots.proofs.fields.update_name.Goals as goal

pub returns-then-not-letter_at : goal.returns-then-not-letter_at
unfolding update_name
returns-then-not-letter_at c = simp (sym c.letter_at.ensures ∙ c.if-not-letter_at.true)

pub returns-then-not-letter_at-2 : goal.returns-then-not-letter_at-2
unfolding update_name
returns-then-not-letter_at-2 c = simp (sym c.letter_at-2.ensures ∙ c.if-not-letter_at-2.true, and-false)

pub returns-then-not-letter_at-3 : goal.returns-then-not-letter_at-3
unfolding update_name
returns-then-not-letter_at-3 c = simp (sym c.letter_at-3.ensures ∙ c.if-not-letter_at-3.true, and-false)

pub returns-then-not-letter_at-4 : goal.returns-then-not-letter_at-4
unfolding update_name
returns-then-not-letter_at-4 c = simp (sym c.letter_at-4.ensures ∙ c.if-not-letter_at-4.true, and-false)

pub returns-then-not-letter_at-5 : goal.returns-then-not-letter_at-5
unfolding update_name
returns-then-not-letter_at-5 c = simp (sym c.letter_at-5.ensures ∙ c.if-not-letter_at-5.true, and-false)

pub returns-then-not-letter_at-6 : goal.returns-then-not-letter_at-6
unfolding update_name
returns-then-not-letter_at-6 c = simp (sym c.letter_at-6.ensures ∙ c.if-not-letter_at-6.true, and-false)

pub returns : goal.returns
unfolding update_name
returns c = simp (
  sym c.letter_at.ensures ∙ c.if-not-letter_at.false,
  sym c.letter_at-2.ensures ∙ c.if-not-letter_at-2.false,
  sym c.letter_at-3.ensures ∙ c.if-not-letter_at-3.false,
  sym c.letter_at-4.ensures ∙ c.if-not-letter_at-4.false,
  sym c.letter_at-5.ensures ∙ c.if-not-letter_at-5.false,
  sym c.letter_at-6.ensures ∙ c.if-not-letter_at-6.false,
  ← c.letter_at-7.ensures,
)
