use Rattle.slots.specs.SlotLaws.{and-false}
use mathlib.Core.Path.{sym, ◌∙◌}
use borrow.Author.Tests.{eq-eqb, ne_eqb}
use Rattle.slots.specs.Slots.{names_file}
use Rattle.slots.proofs.refers.names_file.Goals as goal

pub returns-then-not-is_ordinary : goal.returns-then-not-is_ordinary
unfolding names_file
returns-then-not-is_ordinary c = simp (sym c.is_ordinary.ensures ∙ c.if-not-is_ordinary.true)

pub returns-then-start-file_start : goal.returns-then-start-file_start
unfolding names_file
returns-then-start-file_start c = simp (← c.start.ensures, ne_eqb _ _ c.if-start-file_start.true, and-false)

pub returns : goal.returns
unfolding names_file
returns c = simp (
  sym c.is_ordinary.ensures ∙ c.if-not-is_ordinary.false,
  ← c.start.ensures,
  eq-eqb _ _ c.if-start-file_start.false,
  ← c.size.ensures,
)
