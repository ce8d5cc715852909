use mathlib.Core.Path.{sym, ◌∙◌}
use Rattle.vdisk.specs.Ids.{handed}
use Rattle.vdisk.proofs.ids.is_handed.Goals as goal

pub returns-then-not-test_u16 : goal.returns-then-not-test_u16
unfolding handed
returns-then-not-test_u16 c = simp (sym c.test_u16.ensures ∙ c.if-not-test_u16.true)

pub returns-then-not-test_u16-2 : goal.returns-then-not-test_u16-2
unfolding handed
returns-then-not-test_u16-2 c = simp (sym c.test_u16.ensures ∙ c.if-not-test_u16.false, sym c.test_u16-2.ensures ∙ c.if-not-test_u16-2.true)

pub returns : goal.returns
unfolding handed
returns c = simp (sym c.test_u16.ensures ∙ c.if-not-test_u16.false, sym c.test_u16-2.ensures ∙ c.if-not-test_u16-2.false, ← c.test_u16-3.ensures)
