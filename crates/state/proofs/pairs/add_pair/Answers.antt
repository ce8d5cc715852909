use mathlib.Core.Path.{sym, ◌∙◌}
use native.Mathlib.Omega.{arith}
use Rattle.state.specs.PairLaws.{free_pair-lt}
use Rattle.state.specs.Pairs.{add_at}
use Rattle.state.specs.Setters.{with_pair}
use Rattle.state.proofs.pairs.add_pair.Goals as goal

pub returns-in_default : goal.returns-in_default
unfolding add_at
returns-in_default c = simp (sym c.free_pair.ensures ∙ c.in_default.is)

pub offset_bounds-w-i : goal.offset_bounds-w-i
offset_bounds-w-i c = omega (arith, free_pair-lt _ _ (sym c.free_pair.ensures ∙ c.in-Some.is))

pub bounds-w-i : goal.bounds-w-i
bounds-w-i c = free_pair-lt _ _ (sym c.free_pair.ensures ∙ c.in-Some.is)

pub returns : goal.returns
unfolding add_at with_pair
returns c = simp (sym c.free_pair.ensures ∙ c.in-Some.is)
