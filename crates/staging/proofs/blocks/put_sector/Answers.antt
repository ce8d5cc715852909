use Prim.Native.Nat.{◌+◌, ◌-◌, ◌*◌}
use mathlib.Core.Path.{◌≡◌}
use native.Mathlib.Omega.{arith}
use Rattle.staging.specs.BlockLaws.{put-block}
use Rattle.staging.proofs.blocks.put_sector.Goals as goal

pub returns : goal.returns
returns c =
    let q : (c.args.block - 2) * 4096 + c.args.at + 512 - ((c.args.block - 2) * 4096 + c.args.at) ≡ 512 = omega arith in
    rw (q, c.copy_from_slice.ensures.after) (put-block c.args.area.now c.args.written.now c.args.block c.args.at c.requires.1)
