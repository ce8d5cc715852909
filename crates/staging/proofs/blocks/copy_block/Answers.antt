use Prim.Native.Nat.{◌+◌, ◌-◌, ◌*◌}
use mathlib.Core.Path.{◌≡◌, ◌∙◌}
use native.Mathlib.Omega.{arith}
use Rattle.staging.specs.CopyLaws.{copied}
use Rattle.staging.proofs.blocks.copy_block.Goals as goal

pub returns : goal.returns
returns c =
    let from = (c.args.other - 2) * 4096 in
    let n : from + 4096 - from ≡ 4096 = omega arith in
    c.copy_within.ensures.after ∙ copied _ _ _ _ n
