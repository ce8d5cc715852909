use Rattle.state.specs.Setters.{with_boot, with_fat1, with_rec, with_pair, with_st}
use Rattle.release.specs.Release.{emptied}
use Rattle.release.proofs.released.empty.Goals as goal

pub returns : goal.returns
unfolding emptied with_boot with_fat1 with_rec with_pair with_st
returns c = simp c.unused-st0.ensures
