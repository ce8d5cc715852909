use mathlib.Core.Path.{sym, ◌∙◌}
use Rattle.root_slots.proofs.is_update.Goals as goal

-- src/lib.rt:55:9
pub returns-then-test_u16 : goal.returns-then-test_u16
returns-then-test_u16 c = simp (← c.attr-attr.ensures, sym c.test_u16.ensures ∙ c.if-test_u16.true)

-- src/lib.rt:58:9
pub returns-then-not-update_name : goal.returns-then-not-update_name
returns-then-not-update_name c = simp (← c.attr-attr.ensures, sym c.test_u16.ensures ∙ c.if-test_u16.false, sym c.update_name.ensures ∙ c.if-not-update_name.true)

-- src/lib.rt:49:1
pub returns : goal.returns
returns c = simp (← c.attr-attr.ensures, sym c.test_u16.ensures ∙ c.if-test_u16.false, sym c.update_name.ensures ∙ c.if-not-update_name.false, ← c.size.ensures)
