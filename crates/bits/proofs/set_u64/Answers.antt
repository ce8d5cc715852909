use Rattle.std.proofs.Common.{ap, lit<}
use Rattle.std.specs.Int.Bits.{bit_or}
use Rattle.bits.specs.Laws.{one-shl}
use Rattle.bits.specs.Bit.{set_bit}
use Rattle.bits.proofs.set_u64.Goals as goal

pub returns : goal.returns
unfolding set_bit
returns c = ap (bit_or c.args.m) (one-shl 64 _ c.requires (lit< tt))
