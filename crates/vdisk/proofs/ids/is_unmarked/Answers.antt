use Rattle.vdisk.specs.IdLaws.{unmarked-lt}
use Rattle.vdisk.proofs.ids.is_unmarked.Goals as goal

pub returns : goal.returns
returns c = unmarked-lt _ c.ranges.id.fits
