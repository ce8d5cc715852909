use Rattle.chains.specs.Needed.{staged-mask}
use Rattle.chains.proofs.is_staged.Goals as goal

pub returns : goal.returns
returns c = rw c.need_of-need.ensures (staged-mask _ _ _)
