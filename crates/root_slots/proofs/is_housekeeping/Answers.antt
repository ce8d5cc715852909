use Rattle.names.specs.Held.{held}
use Rattle.root_slots.proofs.is_housekeeping.Goals as goal

pub returns : goal.returns
unfolding held
returns c = c.housekeeping.ensures
