use mathlib.Core.Path.{◌∙◌}
use Rattle.staging.specs.FillLaws.{filled}
use Rattle.staging.proofs.blocks.fill_block.Goals as goal

pub returns : goal.returns
returns c = c.put_sector.ensures ∙ filled _ _ _ c.args.slot.now c.args.s _ c.requires.0 c.requires.2 c.source_block.ensures
