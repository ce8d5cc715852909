use mathlib.Core.Bool.{false}
use mathlib.Core.Path.{sym, ◌∙◌}
use borrow.Author.Tests.{eq-eqb, ne_eqb}
use Rattle.loops.specs.Choices.{and-no, and-of}
use Rattle.reasons.proofs.ReasonLaws.{and-first, after-marked}
use Rattle.reasons.specs.Reasons.{after_end}
use Rattle.reasons.proofs.after_end.Goals as goal

pub returns-then-ended-ne1 : goal.returns-then-ended-ne1
unfolding after_end
returns-then-ended-ne1 c = simp (ne_eqb _ _ c.if-ended-ne1.true)

pub returns-then-is_unmarked : goal.returns-then-is_unmarked
unfolding after_end
returns-then-is_unmarked c = simp (eq-eqb _ _ c.if-ended-ne1.false, sym c.is_unmarked.ensures ∙ c.if-is_unmarked.true) c.no_reason.ensures

pub returns-then-not-named : goal.returns-then-not-named
returns-then-not-named c = sym (after-marked _ _ _ _ false c.if-ended-ne1.false (sym c.is_unmarked.ensures ∙ c.if-is_unmarked.false) (and-first c.args.named _ (c.if-not-named.true)))

pub returns-then-r : goal.returns-then-r
returns-then-r c = sym (after-marked _ _ _ _ _ c.if-ended-ne1.false (sym c.is_unmarked.ensures ∙ c.if-is_unmarked.false) (and-of c.args.named _ (c.if-not-named.false) c.if-r.true))

pub returns-else-r : goal.returns-else-r
returns-else-r c = sym (after-marked _ _ _ _ _ c.if-ended-ne1.false (sym c.is_unmarked.ensures ∙ c.if-is_unmarked.false) (and-no c.args.named _ c.if-r.false))
