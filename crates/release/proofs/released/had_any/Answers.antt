use mathlib.Core.Path.{sym, ◌∙◌}
use borrow.Author.Tests.{eq-eqb, ne_eqb}
use Rattle.records.specs.Records.{no_rec}
use Rattle.state.specs.State.{pair0, no_st}
use Rattle.release.specs.Release.{had_any}
use Rattle.release.proofs.released.had_any.Goals as goal

pub returns-then-w : goal.returns-then-w
unfolding had_any
returns-then-w c = simp c.if-w.true

pub returns-then-w-ne0 : goal.returns-then-w-ne0
unfolding had_any
returns-then-w-ne0 c = simp (c.if-w.false, ne_eqb _ _ c.if-w-ne0.true)

pub returns-then-w-ne0-2 : goal.returns-then-w-ne0-2
unfolding had_any
returns-then-w-ne0-2 c = simp (c.if-w.false, eq-eqb _ _ c.if-w-ne0.false, ne_eqb _ _ c.if-w-ne0-2.true)

pub returns-then-any_used : goal.returns-then-any_used
unfolding had_any
returns-then-any_used c = simp (c.if-w.false, eq-eqb _ _ c.if-w-ne0.false, eq-eqb _ _ c.if-w-ne0-2.false, sym (c.any_used.ensures no_rec) ∙ c.if-any_used.true)

pub returns-then-any_used-2 : goal.returns-then-any_used-2
unfolding had_any
returns-then-any_used-2 c = simp (
  c.if-w.false,
  eq-eqb _ _ c.if-w-ne0.false,
  eq-eqb _ _ c.if-w-ne0-2.false,
  sym (c.any_used.ensures no_rec) ∙ c.if-any_used.false,
  sym (c.any_used-2.ensures pair0) ∙ c.if-any_used-2.true,
)

pub returns : goal.returns
unfolding had_any
returns c = simp (
  c.if-w.false,
  eq-eqb _ _ c.if-w-ne0.false,
  eq-eqb _ _ c.if-w-ne0-2.false,
  sym (c.any_used.ensures no_rec) ∙ c.if-any_used.false,
  sym (c.any_used-2.ensures pair0)
      ∙ c.if-any_used-2.false,
) (c.any_used-3.ensures no_st)
