use native.Mathlib.Omega.{arith}
use Rattle.sector.specs.Bytes.{word}
use Rattle.sector.proofs.le16.Goals as goal

pub returns : goal.returns
unfolding word
returns c = omega arith
