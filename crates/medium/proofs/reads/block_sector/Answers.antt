use mathlib.Core.Path.{◌∙◌, ◌≡◌, ap}
use Rattle.medium.specs.MediumLaws.{part-length, block-length}
use Prim.Native.Nat.{◌+◌, ◌-◌, ◌*◌}
use lib.ListN.{length}
use native.Mathlib.Omega.{arith}
use Rattle.medium.proofs.reads.block_sector.Goals as goal

pub slice_bounds-result-end : goal.slice_bounds-result-end
slice_bounds-result-end c = let p = c.requires in let e = block-length c.args.area.now c.args.b (record { low = p.0; high = p.1; ends = p.2 }) in let l : length c.block-whole.result.now ≡ 4096 = ap length c.block-whole.ensures ∙ e in omega arith

pub returns : goal.returns
returns c = let p = c.requires in let i = block-length c.args.area.now c.args.b (record { low = p.0; high = p.1; ends = p.2 }) in let e : c.args.q * 512 + 512 - c.args.q * 512 ≡ 512 = omega arith in (rw (e, c.block-whole.ensures), rw (e, c.block-whole.ensures) (part-length _ c.args.q i p.3))
