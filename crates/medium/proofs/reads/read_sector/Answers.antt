use lib.ListN.{replicate}
use mathlib.Core.Path.{sym, ◌∙◌, ap}
use Rattle.medium.specs.MediumLaws.{block-in, sector-none, sector-held}
use native.Mathlib.Omega.{arith}
use Rattle.medium.proofs.reads.read_sector.Goals as goal

pub returns-then-not-has_block : goal.returns-then-not-has_block
returns-then-not-has_block c = c.fill.ensures.after (λ y e. e) ∙ ap (λ k. replicate k 0) c.requires.1
    ∙ sym (sector-none c.args.fat.now c.args.area.now c.args.x.now c.args.s _ c.held_block-b.ensures (sym c.has_block.ensures ∙ c.if-not-has_block.true))

pub block_sector-part-requires : goal.block_sector-part-requires
block_sector-part-requires c = let i = block-in c.args.fat.now c.args.area.now _ (sym c.has_block.ensures ∙ c.if-not-has_block.false) in (i.low, i.high, i.ends, omega arith)

pub copy_from_slice-requires : goal.copy_from_slice-requires
copy_from_slice-requires c = omega (arith, c.block_sector-part.ensures.1)

pub returns : goal.returns
returns c = c.copy_from_slice.ensures.after ∙ c.block_sector-part.ensures.0 ∙ sym (sector-held c.args.fat.now c.args.area.now c.args.x.now c.args.s _ c.held_block-b.ensures (sym c.has_block.ensures
    ∙ c.if-not-has_block.false))
