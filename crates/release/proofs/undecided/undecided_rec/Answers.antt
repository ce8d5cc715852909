use mathlib.Core.Path.{sym, ◌∙◌}
use Rattle.release.proofs.undecided.undecided_rec.Goals as goal

pub returns-then-not-is_update : goal.returns-then-not-is_update
returns-then-not-is_update c = simp (sym c.is_update.ensures ∙ c.if-not-is_update.true)

pub returns : goal.returns
returns c = simp (sym c.is_update.ensures ∙ c.if-not-is_update.false, ← c.is_decided.ensures)
