use Rattle.std.proofs.Common.{rules}
use Rattle.bits.specs.Bit.{bit}
use Rattle.bits.proofs.test_u64.Goals as goal

pub returns : goal.returns
unfolding bit
returns c = search rules
