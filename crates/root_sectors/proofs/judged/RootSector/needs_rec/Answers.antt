use mathlib.Core.Path.{sym, ◌∙◌}
use Rattle.clusters.proofs.Nothing.{nothing-of}
use Rattle.root_sectors.specs.Root.{needs_rec, kept_at}
use Rattle.root_sectors.proofs.judged.RootSector.needs_rec.Goals as goal

pub returns-then-is_own : goal.returns-then-is_own
unfolding needs_rec kept_at
returns-then-is_own c = simp (c.requires.2, sym c.is_own.ensures ∙ c.if-is_own.true)

pub returns : goal.returns
unfolding needs_rec kept_at
returns c = simp (c.requires.2, sym c.is_own.ensures ∙ c.if-is_own.false, ← c.rec_idx.ensures) (nothing-of _ _ c.is_none.ensures)
