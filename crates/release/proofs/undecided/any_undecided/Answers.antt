use mathlib.Core.Path.{sym, ◌∙◌}
use Rattle.loops.specs.Loops.{some-start, some-go, some-stop, some-end}
use Rattle.release.proofs.undecided.any_undecided.Goals as goal

pub loop-r-init : goal.loop-r-init
loop-r-init c = some-start _ _

pub undecided_rec-requires : goal.undecided_rec-requires
undecided_rec-requires c = tt

pub returns-then-undecided_rec : goal.returns-then-undecided_rec
returns-then-undecided_rec c = some-stop _ _ _ _ c.loop-r.invariant c.loop-r-test.true (sym c.undecided_rec.ensures ∙ c.if-undecided_rec.true)

pub loop-r-preserved : goal.loop-r-preserved
loop-r-preserved c = some-go _ _ _ _ c.loop-r.invariant c.loop-r-test.true (sym c.undecided_rec.ensures ∙ c.if-undecided_rec.false)

pub returns : goal.returns
returns c = some-end _ _ _ _ c.loop-r.invariant c.loop-r-test.false
