use Rattle.fat_sectors.specs.Values.{fat1_passes}
use mathlib.Core.Path.{refl}
use Rattle.fat_sectors.proofs.values.fat1_passes.Goals as goal

pub returns : goal.returns
unfolding fat1_passes
returns c = refl
