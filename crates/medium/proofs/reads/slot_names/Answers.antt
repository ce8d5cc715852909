use mathlib.Core.Path.{sym, ◌∙◌}
use borrow.Author.Tests.{eq-eqb, ne_eqb}
use Rattle.loops.specs.Loops.{some-go, some-stop, some-end}
use Rattle.medium.specs.Reads.{slot_names}
use native.Mathlib.Omega.{arith}
use Rattle.medium.proofs.reads.slot_names.Goals as goal

pub returns-then-x-eq0 : goal.returns-then-x-eq0
unfolding slot_names
returns-then-x-eq0 c = simp (eq-eqb _ _ c.if-x-eq0.true)

pub returns-then-sector_names : goal.returns-then-sector_names
unfolding slot_names
returns-then-sector_names c = simp (ne_eqb _ _ c.if-x-eq0.false) (some-stop _ _ _ _ c.loop-s.invariant (omega arith) (sym c.sector_names.ensures ∙ c.if-sector_names.true))

pub loop-s-preserved : goal.loop-s-preserved
loop-s-preserved c = some-go _ _ _ _ c.loop-s.invariant (omega arith) (sym c.sector_names.ensures ∙ c.if-sector_names.false)

pub returns : goal.returns
unfolding slot_names
returns c = simp (ne_eqb _ _ c.if-x-eq0.false) (some-end _ _ _ _ c.loop-s.invariant (omega arith))
