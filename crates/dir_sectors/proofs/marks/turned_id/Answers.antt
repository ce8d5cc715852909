use borrow.Author.Tests.{eq-eqb, ne_eqb}
use mathlib.Core.Path.{sym, ◌∙◌}
use Rattle.dir_sectors.proofs.marks.turned_id.Goals as goal

pub returns-then-mark-ne1 : goal.returns-then-mark-ne1
returns-then-mark-ne1 c = simp (ne_eqb _ _ c.if-mark-ne1.true)

pub returns-then-moved_ref : goal.returns-then-moved_ref
returns-then-moved_ref c = simp (eq-eqb _ _ c.if-mark-ne1.false, sym c.moved_ref.ensures ∙ c.if-moved_ref.true, ← c.set_u16-turned.ensures) c.set_u16.ensures

pub returns : goal.returns
returns c = simp (eq-eqb _ _ c.if-mark-ne1.false, sym c.moved_ref.ensures ∙ c.if-moved_ref.false) c.set_u16-turned.ensures
