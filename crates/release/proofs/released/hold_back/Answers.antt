use borrow.Author.Tests.{eq-eqb, ne_eqb}
use Rattle.state.specs.Setters.{with_end_at}
use Rattle.release.specs.Release.{held_back}
use Rattle.release.proofs.released.hold_back.Goals as goal

pub returns-then-w-eq0 : goal.returns-then-w-eq0
unfolding held_back with_end_at
returns-then-w-eq0 c = simp (eq-eqb _ _ c.if-w-eq0.true, c.max-w.ensures)

pub returns-else-w-eq0 : goal.returns-else-w-eq0
unfolding held_back with_end_at
returns-else-w-eq0 c = simp (ne_eqb _ _ c.if-w-eq0.false)
