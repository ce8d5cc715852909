use mathlib.Core.Path.{sym, ◌∙◌}
use Rattle.staging.proofs.blocks.new_byte.Goals as goal

pub returns-then-test_u64 : goal.returns-then-test_u64
returns-then-test_u64 c = simp (sym c.test_u64.ensures ∙ c.if-test_u64.true)

pub returns : goal.returns
returns c = simp (sym c.test_u64.ensures ∙ c.if-test_u64.false)
