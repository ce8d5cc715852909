use mathlib.Core.Path.{sym, ◌∙◌}
use Rattle.marks.specs.Seen.{zeroes_in}
use Rattle.reasons.proofs.zeroes.Goals as goal

pub returns-then-not-all_zero : goal.returns-then-not-all_zero
unfolding zeroes_in
returns-then-not-all_zero c = simp (sym c.all_zero.ensures ∙ c.if-not-all_zero.true)

pub returns : goal.returns
unfolding zeroes_in
returns c = simp (sym c.all_zero.ensures ∙ c.if-not-all_zero.false, ← c.all_zero-2.ensures)
