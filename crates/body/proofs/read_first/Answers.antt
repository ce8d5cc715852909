use borrow.Author.Tests.{eq-eqb, ne_eqb}
use Rattle.body.proofs.read_first.Goals as goal

pub returns-then-q-ne0 : goal.returns-then-q-ne0
returns-then-q-ne0 c = rw (ne_eqb _ _ c.if-q-ne0.true)

pub returns : goal.returns
returns c = rw (eq-eqb _ _ c.if-q-ne0.false) c.read_sector.ensures
