use Prim.Native.Nat.{◌+◌, ◌-◌, ◌*◌}
use mathlib.Core.Path.{◌∙◌, ◌≡◌}
use native.Mathlib.Omega.{arith}
use lib.ListN.{length, take, drop, length-take, length-drop}
use Rattle.staging.specs.CopyLaws.{new-filled}
use Rattle.staging.specs.BlockLaws.{put-block}
use Rattle.staging.proofs.blocks.new_sector.Goals as goal

pub returns : goal.returns
returns c =
    let i = c.requires.0.ends in
    let at = (c.args.block - 2) * 4096 + c.args.place * 512 in
    let q : at + 512 - at ≡ 512 = omega arith in
    let n : length (take (at + 512 - at) (drop at c.args.area.now)) ≡ 512 = simp (length-take, length-drop) (omega arith) in
    let e = c.fill.ensures.after (λ y e. e) ∙ new-filled c.args.slot.now c.args.s c.args.place _ _ n c.new_byte-byte.ensures in
    rw (q, e) (put-block _ _ c.args.block (c.args.place * 512) (omega arith))
