use mathlib.Core.Path.{refl, sym, ◌∙◌}
use native.Mathlib.Omega.{arith}
use borrow.Author.Tests.{eq-eqb, ne_eqb}
use Rattle.loops.specs.Loops.{all-go, all-stop, all-end}
use Rattle.vdisk.specs.DriveLaws.{clusters_of-le}
use Rattle.reasons.proofs.ReasonLaws.{all_zero-range}
use Rattle.reasons.proofs.all_zero.Goals as goal

pub nclus-requires : goal.nclus-requires
nclus-requires c = tt

pub overflow_add-end : goal.overflow_add-end
overflow_add-end c = omega (arith, c.nclus.ensures, clusters_of-le _ c.ranges.size.fits)

pub max-from-requires : goal.max-from-requires
max-from-requires c = tt

pub min-last-requires : goal.min-last-requires
min-last-requires c = tt

pub loop-c-init : goal.loop-c-init
loop-c-init c = (omega (arith, c.max-from.ensures), omega (arith, c.min-last.ensures), refl)

pub returns-then-le16-ne0 : goal.returns-then-le16-ne0
returns-then-le16-ne0 c = all-stop _ _ _ _ c.loop-c.invariant.2 c.loop-c-test.true (ne_eqb _ _ (λ e. c.if-le16-ne0.true (c.le16.ensures ∙ e)))
    ∙ sym (rw (← c.nclus.ensures, ← c.max-from.ensures, ← c.min-last.ensures) at (all_zero-range c.args.start c.args.size c.args.s c.args.sector.now))

pub loop-c-preserved : goal.loop-c-preserved
loop-c-preserved c = (c.loop-c.invariant.0, c.loop-c.invariant.1, all-go _ _ _ _ c.loop-c.invariant.2 c.loop-c-test.true (eq-eqb _ _ (sym c.le16.ensures ∙ c.if-le16-ne0.false)))

pub returns : goal.returns
returns c = all-end _ _ _ _ c.loop-c.invariant.2 c.loop-c-test.false
    ∙ sym (rw (← c.nclus.ensures, ← c.max-from.ensures, ← c.min-last.ensures) at (all_zero-range c.args.start c.args.size c.args.s c.args.sector.now))
