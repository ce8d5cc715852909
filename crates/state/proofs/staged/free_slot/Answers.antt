use Rattle.state.specs.State.{no_st}
use Rattle.state.specs.Staged.{free_slot}
use Rattle.state.proofs.staged.free_slot.Goals as goal

pub returns : goal.returns
unfolding free_slot
returns c = c.first_free.ensures no_st
