use mathlib.Core.Path.{◌≡◌}
use Prim.Native.Nat.{◌+◌, ◌-◌, ◌*◌}
use native.Mathlib.Omega.{arith}
use Rattle.medium.specs.Medium.{block_of}
use Rattle.medium.proofs.blocks.block.Goals as goal

pub returns : goal.returns
unfolding block_of
returns c = let e : (c.args.b - 2) * 4096 + 4096 - (c.args.b - 2) * 4096 ≡ 4096 = omega arith in rw e
