use mathlib.Core.Path.{◌≡◌}
use native.Mathlib.Omega.{arith}
use lib.ListN.{length}
use Rattle.staging.specs.CopyLaws.{new-start, new-more, new-end}
use Rattle.staging.proofs.blocks.new_block.Goals as goal

pub loop-place-init : goal.loop-place-init
loop-place-init c = new-start _ _ _ _

pub new_sector-requires : goal.new_sector-requires
new_sector-requires c =
    let i = c.requires.0 in
    (record { low = i.low; high = i.high; ends = omega (arith, c.loop-place.invariant.long, i.ends) }, c.requires.1, c.loop-place-test.true)

pub loop-place-preserved : goal.loop-place-preserved
loop-place-preserved c =
    let l : length c.new_sector.new.area ≡ length c.loop-place.area = omega arith in
    new-more _ _ _ _ _ _ c.requires.0 c.loop-place-test.true c.loop-place.invariant _ l c.new_sector.ensures

pub shape_of-area : goal.shape_of-area
shape_of-area c = c.loop-place.invariant.long

pub returns : goal.returns
returns c = new-end _ _ _ _ _ _ c.requires.0 (omega arith) c.loop-place.invariant
