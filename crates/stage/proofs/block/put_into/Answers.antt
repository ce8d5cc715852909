use Rattle.state.specs.Setters.{with_st, with_ver}
use Rattle.staging.specs.Staging.{put_into}
use Rattle.stage.proofs.block.put_into.Goals as goal

pub returns : goal.returns
unfolding put_into with_st with_ver
returns c = record { state = simp c.hold_block.ensures; medium = c.fill_block.ensures }
