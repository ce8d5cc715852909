use borrow.Author.Tests.{eq-eqb, ne_eqb}
use Rattle.release.proofs.released.purges.Goals as goal

pub returns-then-parks-ne0 : goal.returns-then-parks-ne0
returns-then-parks-ne0 c = simp (ne_eqb _ _ c.if-parks-ne0.true)

pub returns : goal.returns
returns c = simp (eq-eqb _ _ c.if-parks-ne0.false)
