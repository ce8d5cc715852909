use borrow.Author.Tests.{eq-eqb, ne_eqb}
use Rattle.clusters.proofs.Nothing.{nothing-of}
use Rattle.fat_sectors.proofs.applied.sets_nothing.Goals as goal

pub returns-then-not-gathered : goal.returns-then-not-gathered
returns-then-not-gathered c = simp c.if-not-gathered.true

pub returns-then-v-ne0 : goal.returns-then-v-ne0
returns-then-v-ne0 c = simp (c.if-not-gathered.false, ne_eqb _ _ c.if-v-ne0.true)

pub returns : goal.returns
returns c = simp (c.if-not-gathered.false, eq-eqb _ _ c.if-v-ne0.false, ← c.pair_idx.ensures) (nothing-of _ _ c.is_none.ensures)
