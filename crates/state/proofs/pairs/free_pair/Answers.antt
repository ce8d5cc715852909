use Rattle.state.specs.State.{pair0}
use Rattle.state.specs.Pairs.{free_pair}
use Rattle.state.proofs.pairs.free_pair.Goals as goal

pub returns : goal.returns
unfolding free_pair
returns c = c.first_free.ensures pair0
