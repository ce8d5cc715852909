use Rattle.state.specs.State.{initial}
use Rattle.state.proofs.w.initial_state.Goals as goal

pub returns : goal.returns
unfolding initial
returns c = simp (c.unused-st0.ensures)
