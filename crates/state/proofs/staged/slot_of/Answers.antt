use Rattle.state.specs.State.{no_st}
use Rattle.state.specs.Staged.{is_slot, slot_of}
use Rattle.state.proofs.staged.slot_of.Goals as goal

pub returns : goal.returns
unfolding is_slot slot_of
returns c = c.index_of.ensures no_st
