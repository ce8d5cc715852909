use mathlib.Core.Path.{sym, ◌∙◌}
use borrow.Author.Tests.{le-leb, lt-leb}
use Rattle.medium.specs.Medium.{has_block}
use Rattle.medium.proofs.blocks.has_block.Goals as goal

pub returns-then-not-is_medium : goal.returns-then-not-is_medium
unfolding has_block
returns-then-not-is_medium c = simp (sym c.is_medium.ensures ∙ c.if-not-is_medium.true)

pub returns-then-b-lt2 : goal.returns-then-b-lt2
unfolding has_block
returns-then-b-lt2 c = simp (sym c.is_medium.ensures ∙ c.if-not-is_medium.false, lt-leb _ _ c.if-b-lt2.true)

pub returns : goal.returns
unfolding has_block
returns c = simp (sym c.is_medium.ensures ∙ c.if-not-is_medium.false, le-leb _ _ c.if-b-lt2.false)
