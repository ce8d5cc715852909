use Rattle.reasons.proofs.ReasonLaws.{moved-was, moved-unturned, moved-unstaged, moved-zero, moved-names}
use mathlib.Core.Path.{sym, ◌∙◌}
use Rattle.reasons.proofs.moved_by.Goals as goal

pub returns-then-moved : goal.returns-then-moved
returns-then-moved c = moved-was _ _ _ _ _ _ c.if-moved.true

pub returns-then-not-turned : goal.returns-then-not-turned
returns-then-not-turned c = moved-unturned _ _ _ _ _ _ c.if-moved.false (c.if-not-turned.true)

pub returns-then-not-staged : goal.returns-then-not-staged
returns-then-not-staged c = moved-unstaged _ _ _ _ _ _ c.if-moved.false (c.if-not-staged.true)

pub returns-then-is_zero : goal.returns-then-is_zero
returns-then-is_zero c = moved-zero _ _ _ _ _ _ c.if-moved.false (c.if-not-turned.false) (c.if-not-staged.false) (sym c.is_zero.ensures ∙ c.if-is_zero.true)

pub returns : goal.returns
returns c = c.refers.ensures ∙ moved-names _ _ _ _ _ _ c.if-moved.false (c.if-not-turned.false) (c.if-not-staged.false) (sym c.is_zero.ensures ∙ c.if-is_zero.false)
