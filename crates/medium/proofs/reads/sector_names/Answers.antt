use mathlib.Core.Path.{sym, ◌∙◌, ap}
use Rattle.slots.specs.Slots.{refers_to}
use Rattle.medium.specs.MediumLaws.{block-in, sector-none, sector-held, zeros-name}
use native.Mathlib.Omega.{arith}
use Rattle.medium.proofs.reads.sector_names.Goals as goal

pub returns-then-not-has_block : goal.returns-then-not-has_block
returns-then-not-has_block c =
    let a = c.args in
    let none = sector-none a.fat.now a.area.now a.x.now a.s _ c.held_block-b.ensures (sym c.has_block.ensures ∙ c.if-not-has_block.true) in
    sym (ap (λ bs. refers_to bs a.start a.size) none ∙ zeros-name a.start a.size)

pub block_sector-requires : goal.block_sector-requires
block_sector-requires c = let i = block-in c.args.fat.now c.args.area.now _ (sym c.has_block.ensures ∙ c.if-not-has_block.false) in (i.low, i.high, i.ends, omega arith)

pub refers-requires : goal.refers-requires
refers-requires c = omega (arith, c.block_sector.ensures.1)

pub returns : goal.returns
returns c = c.refers.ensures ∙ ap (λ bs. refers_to bs c.args.start c.args.size) (c.block_sector.ensures.0
    ∙ sym (sector-held c.args.fat.now c.args.area.now c.args.x.now c.args.s _ c.held_block-b.ensures (sym c.has_block.ensures ∙ c.if-not-has_block.false)))
