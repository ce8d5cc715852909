use Rattle.state.specs.State.{pair0}
use Rattle.state.specs.Pairs.{is_pair, pair_idx}
use Rattle.state.proofs.pairs.pair_idx.Goals as goal

pub returns : goal.returns
unfolding is_pair pair_idx
returns c = c.index_of.ensures pair0
