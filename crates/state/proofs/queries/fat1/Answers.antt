use mathlib.Core.Path.{sym, ◌∙◌}
use Rattle.state.specs.Queries.{fat1_of}
use Rattle.state.proofs.queries.fat1.Goals as goal

pub returns-then-test_u64 : goal.returns-then-test_u64
unfolding fat1_of
returns-then-test_u64 c = simp (sym c.test_u64.ensures ∙ c.if-test_u64.true)

pub returns : goal.returns
unfolding fat1_of
returns c = simp (sym c.test_u64.ensures ∙ c.if-test_u64.false)
