use mathlib.Core.Path.{sym, ◌∙◌}
use Rattle.release.specs.Notes.{waits}
use Rattle.release.proofs.notes.is_waiting.Goals as goal

pub returns-then-test_u16 : goal.returns-then-test_u16
unfolding waits
returns-then-test_u16 c = simp (sym c.test_u16.ensures ∙ c.if-test_u16.true)

pub returns-then-not-test_u16 : goal.returns-then-not-test_u16
unfolding waits
returns-then-not-test_u16 c = simp (sym c.test_u16.ensures ∙ c.if-test_u16.false, sym c.test_u16-2.ensures ∙ c.if-not-test_u16.true)

pub returns-then-test_u16-2 : goal.returns-then-test_u16-2
unfolding waits
returns-then-test_u16-2 c = simp (sym c.test_u16.ensures ∙ c.if-test_u16.false, sym c.test_u16-2.ensures ∙ c.if-not-test_u16.false, sym c.test_u16-3.ensures ∙ c.if-test_u16-2.true)

pub returns : goal.returns
unfolding waits
returns c = simp (sym c.test_u16.ensures ∙ c.if-test_u16.false, sym c.test_u16-2.ensures ∙ c.if-not-test_u16.false, sym c.test_u16-3.ensures ∙ c.if-test_u16-2.false) c.test_u16-4.ensures
