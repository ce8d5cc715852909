use Rattle.state.specs.State.{no_st}
use Rattle.state.specs.Staged.{free_slots}
use Rattle.state.proofs.staged.free_slots.Goals as goal

pub returns : goal.returns
unfolding free_slots
returns c = c.count_free.ensures no_st
