use Rattle.staging.specs.Blocks.{is_parked}
use Rattle.staging.proofs.blocks.is_parked.Goals as goal

pub returns : goal.returns
unfolding is_parked
returns c = c.test_u16.ensures
