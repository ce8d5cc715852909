use Rattle.slots.specs.Slots.{dates_only}
use Rattle.slots.proofs.dates.dates_only.Goals as goal

pub returns : goal.returns
unfolding dates_only
returns c = c.dates_from.ensures
