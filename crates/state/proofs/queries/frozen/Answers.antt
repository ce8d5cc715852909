use borrow.Author.Tests.{eq-eqb, ne_eqb}
use Rattle.state.specs.Queries.{frozen_of}
use Rattle.state.proofs.queries.frozen.Goals as goal

pub returns-then-not-w : goal.returns-then-not-w
unfolding frozen_of
returns-then-not-w c = simp (c.if-not-w.true)

pub returns-then-mounted : goal.returns-then-mounted
unfolding frozen_of
returns-then-mounted c = simp (c.if-not-w.false, c.if-mounted.true)

pub returns-then-w-ne0 : goal.returns-then-w-ne0
unfolding frozen_of
returns-then-w-ne0 c = simp (c.if-not-w.false, c.if-mounted.false, ne_eqb _ _ c.if-w-ne0.true)

pub returns-then-w : goal.returns-then-w
unfolding frozen_of
returns-then-w c = simp (c.if-not-w.false, c.if-mounted.false, eq-eqb _ _ c.if-w-ne0.false, c.if-w.true)

pub returns-then-w-2 : goal.returns-then-w-2
unfolding frozen_of
returns-then-w-2 c = simp (c.if-not-w.false, c.if-mounted.false, eq-eqb _ _ c.if-w-ne0.false, c.if-w.false, c.if-w-2.true)

pub returns-then-w-eq0 : goal.returns-then-w-eq0
unfolding frozen_of
returns-then-w-eq0 c = simp (c.if-not-w.false, c.if-mounted.false, eq-eqb _ _ c.if-w-ne0.false, c.if-w.false, c.if-w-2.false, eq-eqb _ _ c.if-w-eq0.true)

pub returns : goal.returns
unfolding frozen_of
returns c = simp (c.if-not-w.false, c.if-mounted.false, eq-eqb _ _ c.if-w-ne0.false, c.if-w.false, c.if-w-2.false, ne_eqb _ _ c.if-w-eq0.false, ← c.saturating_sub.ensures)
