use mathlib.Core.Path.{sym, ◌∙◌}
use Rattle.stage.proofs.slot.same_parked.Goals as goal

pub returns-then-not-is_parked : goal.returns-then-not-is_parked
returns-then-not-is_parked c = simp (sym c.is_parked.ensures ∙ c.if-not-is_parked.true)

pub returns : goal.returns
returns c = simp (sym c.is_parked.ensures ∙ c.if-not-is_parked.false, ← c.read_sector.ensures) c.equal.ensures
