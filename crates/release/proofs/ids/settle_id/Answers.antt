use mathlib.Core.Path.{sym, ◌∙◌}
use Rattle.release.specs.Notes.{settled_id}
use Rattle.release.proofs.ids.settle_id.Goals as goal

pub returns-then-is_handed : goal.returns-then-is_handed
unfolding settled_id
returns-then-is_handed c = simp (sym c.is_handed.ensures ∙ c.if-is_handed.true, ← c.clear_marks-clear.ensures, ← c.set_u16.ensures) c.set_u16-then-is_handed.ensures

pub returns : goal.returns
unfolding settled_id
returns c = simp (sym c.is_handed.ensures ∙ c.if-is_handed.false) c.clear_marks-clear.ensures
