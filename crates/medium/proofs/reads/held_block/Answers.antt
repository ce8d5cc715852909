use mathlib.Core.Path.{sym, ◌∙◌}
use Rattle.medium.proofs.reads.held_block.Goals as goal

pub returns-then-not-test_u64 : goal.returns-then-not-test_u64
returns-then-not-test_u64 c = simp (sym c.test_u64.ensures ∙ c.if-not-test_u64.true)

pub returns : goal.returns
returns c = simp (sym c.test_u64.ensures ∙ c.if-not-test_u64.false)
