use Rattle.state.specs.State.{pair0}
use Rattle.state.specs.Pairs.{free_pairs}
use Rattle.state.proofs.pairs.free_pairs.Goals as goal

pub returns : goal.returns
unfolding free_pairs
returns c = c.count_free.ensures pair0
