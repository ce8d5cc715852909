use mathlib.Core.Path.{sym, ◌∙◌}
use borrow.Author.Tests.{eq-eqb, ne_eqb}
use Rattle.root_sectors.specs.Root.{start_fits}
use Rattle.root_sectors.proofs.judged.RootSector.start_fits.Goals as goal

pub returns-then-start-eq0 : goal.returns-then-start-eq0
unfolding start_fits
returns-then-start-eq0 c = simp (eq-eqb _ _ (sym c.start-start.ensures ∙ c.if-start-eq0.true))

pub returns : goal.returns
unfolding start_fits
returns c = simp (ne_eqb _ _ (λ e. c.if-start-eq0.false (c.start-start.ensures ∙ e)), ← c.start-start.ensures) c.host_cluster.ensures
