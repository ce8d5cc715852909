use Rattle.slots.specs.Slots.{is_long}
use Rattle.slots.proofs.fields.is_long.Goals as goal

pub returns : goal.returns
unfolding is_long
returns c = simp (← c.attr.ensures)
