-- A block that is there lies in the data area.
use Rattle.std.proofs.Common.{sym, ◌∙◌}
use Rattle.medium.specs.MediumLaws.{block-in}
use Rattle.medium_corners.proofs.blocks.show_block.Goals as goal

pub block-requires : goal.block-requires
block-requires g c =
    let i = block-in c.args.fat.now c.args.area.now _ (sym c.has_block-has.ensures ∙ c.if-has.true) in
    (i.low, i.high, i.ends)
