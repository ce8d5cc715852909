use borrow.Author.Tests.{le-leb, lt-leb}
use Rattle.medium.specs.Medium.{is_medium}
use Rattle.medium.proofs.blocks.is_medium.Goals as goal

pub returns-then-fat-lt3 : goal.returns-then-fat-lt3
unfolding is_medium
returns-then-fat-lt3 c = simp (lt-leb _ _ c.if-fat-lt3.true)

pub returns-then-fat-gt65526 : goal.returns-then-fat-gt65526
unfolding is_medium
returns-then-fat-gt65526 c = simp (le-leb _ _ c.if-fat-lt3.false, lt-leb _ _ c.if-fat-gt65526.true)

pub returns : goal.returns
unfolding is_medium
returns c = simp (le-leb _ _ c.if-fat-lt3.false, le-leb _ _ c.if-fat-gt65526.false)
