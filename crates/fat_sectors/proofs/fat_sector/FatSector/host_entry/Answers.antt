use mathlib.Core.Path.{sym, ◌∙◌}
use mathlib.Core.Bool.{true, false}
use borrow.Author.Tests.{ne_eqb}
use Rattle.clusters.proofs.Nothing.{nothing-of}
use Rattle.fat_sectors.specs.Fat.{host_number}
use Rattle.fat_sectors.proofs.fat_sector.FatSector.host_entry.Goals as goal

pub returns-then-not-host_value-clause-number : goal.returns-then-not-host_value-clause-number
unfolding host_number
returns-then-not-host_value-clause-number c = simp (sym c.host_value.ensures ∙ c.if-not-host_value.true)

pub returns-then-v-eq0-clause-number : goal.returns-then-v-eq0-clause-number
unfolding host_number
returns-then-v-eq0-clause-number c = simp (sym c.host_value.ensures ∙ c.if-not-host_value.false)

pub returns-then-is_some-clause-number : goal.returns-then-is_some-clause-number
unfolding host_number
returns-then-is_some-clause-number c = simp (sym c.host_value.ensures ∙ c.if-not-host_value.false)

pub returns-then-is_some-clause-needs : goal.returns-then-is_some-clause-needs
returns-then-is_some-clause-needs c = simp (ne_eqb _ _ c.if-v-eq0.false, ← c.pair_idx.ensures) (nothing-of c.pair_idx.result false (sym c.is_some.ensures ∙ c.if-is_some.true))

pub returns-clause-number : goal.returns-clause-number
unfolding host_number
returns-clause-number c = simp (sym c.host_value.ensures ∙ c.if-not-host_value.false)

pub returns-clause-needs : goal.returns-clause-needs
returns-clause-needs c = simp (ne_eqb _ _ c.if-v-eq0.false, ← c.pair_idx.ensures) (nothing-of c.pair_idx.result true (sym c.is_some.ensures ∙ c.if-is_some.false))
